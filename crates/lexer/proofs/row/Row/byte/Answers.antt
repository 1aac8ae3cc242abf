-- Where the row's bytes stand.
use mathlib.Core.Path.{ap}
use Prim.Native.Nat.{ℕ}
use native.Mathlib.Omega.{arith}
use lib.ListN.{length}
use Rattle.lexer.specs.Constants.{spelling_of}
use Rattle.lexer.proofs.Flat.{byte-is, row-bound}
use Rattle.lexer.proofs.row.Row.byte.Goals as goal

pub overflow_add-start_of : goal.overflow_add-start_of
overflow_add-start_of c = omega (arith, row-bound c.self.inside.number c.self.invariant, ap (λ (k : ℕ). length (spelling_of k)) c.self.view_is)

pub byte_at-requires : goal.byte_at-requires
byte_at-requires c = omega (arith, row-bound c.self.inside.number c.self.invariant, ap (λ (k : ℕ). length (spelling_of k)) c.self.view_is)

pub returns : goal.returns
returns c = rw (c.byte_at.ensures, c.start_of.ensures, ← c.self.view_is) (byte-is c.self.inside.number c.args.j c.self.invariant (rw c.self.view_is c.requires))
