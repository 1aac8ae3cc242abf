-- The room that any text of so many bytes needs.
use native.Mathlib.Omega.{arith}
use borrow.Author.Tests.{leb-true}
use Rattle.mathml.proofs.has_room.Goals as goal

pub returns-then-text-le-LONGEST_TEXT : goal.returns-then-text-le-LONGEST_TEXT
returns-then-text-le-LONGEST_TEXT c = λ t. leb-true _ _ t

pub returns-else-text-le-LONGEST_TEXT : goal.returns-else-text-le-LONGEST_TEXT
returns-else-text-le-LONGEST_TEXT c = λ t. absurd (omega (arith, leb-true _ _ t, c.if-text-le-LONGEST_TEXT.false))
