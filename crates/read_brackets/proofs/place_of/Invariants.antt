-- `place_of`: what is left to pass, with the tokens other than Space before j, is i.
use Prim.Native.Nat.{◌+◌}
use mathlib.Core.Path.{◌≡◌}
use Rattle.tokens.specs.Table.{token_list, count_others}
use Rattle.read_brackets.proofs.place_of.Given as goal

abbrev pub invariant-loop-j : goal.invariant-loop-j
invariant-loop-j l = l.left + count_others (token_list l.j l.table) ≡ l.i
