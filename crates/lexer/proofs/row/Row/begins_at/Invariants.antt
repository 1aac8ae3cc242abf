-- Byte by byte: what is left of both decides as the whole.
use mathlib.Core.Path.{◌≡◌}
use Prim.Native.Nat.{◌+◌}
use lib.ListN.{drop}
use Rattle.lexing.specs.Longest.{begins}
use Rattle.lexer.specs.Constants.{spelling_of}
use Rattle.lexer.proofs.row.Row.begins_at.Given as goal

abbrev pub invariant-loop-j : goal.invariant-loop-j
invariant-loop-j l = (begins (spelling_of l.fn.self) (drop l.at l.text) ≡ begins (drop l.j (spelling_of l.fn.self)) (drop (l.at + l.j) l.text))
