-- Downwards: no row from `past` on with more bytes begins the text.
use Prim.Native.Nat.{ℕ, ◌<◌}
use Rattle.lexer.proofs.Lookup.{FitsLonger}
use Rattle.lexer.proofs.prefix_map.longer_row.Given as goal

abbrev pub invariant-loop-number : goal.invariant-loop-number
invariant-loop-number l = (k : ℕ) → FitsLonger l.text l.at k → k < l.number
