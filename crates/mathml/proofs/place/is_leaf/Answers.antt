-- A leaf has no children.
use borrow.Author.Tests.{ltb-true}
use native.Mathlib.Omega.{arith}
use Rattle.mathml.proofs.Placing.{leaf-count}
use Rattle.mathml.proofs.place.is_leaf.Goals as goal

pub returns-then-head-words : goal.returns-then-head-words
returns-then-head-words c = λ t. leaf-count _ _ _ c.own_place-head.ensures c.if-head-words.true (ltb-true _ 8 t)

pub returns-else-head-words : goal.returns-else-head-words
returns-else-head-words c = λ t. absurd (omega (arith, ltb-true _ _ t, c.if-head-words.false))
