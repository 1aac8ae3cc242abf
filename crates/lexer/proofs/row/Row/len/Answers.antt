-- A row ends where the next one starts.
use mathlib.Core.Path.{ap}
use Prim.Native.Nat.{ℕ}
use native.Mathlib.Omega.{arith}
use lib.ListN.{length}
use Rattle.lexer.specs.Constants.{spelling_of}
use Rattle.lexer.proofs.Flat.{end_is}
use Rattle.lexer.proofs.row.Row.len.Goals as goal

pub overflow_sub-result : goal.overflow_sub-result
overflow_sub-result c = omega (arith, end_is c.self.inside.number c.self.invariant)

pub returns : goal.returns
returns c = omega (arith, end_is c.self.inside.number c.self.invariant, ap (λ (k : ℕ). length (spelling_of k)) c.self.view_is)
