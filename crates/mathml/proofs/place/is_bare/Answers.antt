-- A simple without script.
use borrow.Author.Tests.{eqb-true}
use Rattle.mathml.proofs.Placing.{bare-head}
use Rattle.mathml.proofs.place.is_bare.Goals as goal

pub returns-then-kind-eq-NODE_SIMPLE : goal.returns-then-kind-eq-NODE_SIMPLE
returns-then-kind-eq-NODE_SIMPLE c = λ t. (c.if-kind-eq-NODE_SIMPLE.true, bare-head _ _ _ c.if-kind-eq-NODE_SIMPLE.true c.own_words.ensures c.word.ensures t)

pub returns-else-kind-eq-NODE_SIMPLE : goal.returns-else-kind-eq-NODE_SIMPLE
returns-else-kind-eq-NODE_SIMPLE c = λ t. absurd (c.if-kind-eq-NODE_SIMPLE.false (eqb-true _ 13 t))
