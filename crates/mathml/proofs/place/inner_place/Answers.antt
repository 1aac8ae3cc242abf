-- The node in a simple without script, or the node itself.
use native.Mathlib.Omega.{arith}
use Rattle.mathml.proofs.Placing.{inner-same, inner-simple}
use Rattle.mathml.proofs.place.inner_place.Goals as goal

pub overflow_add-head : goal.overflow_add-head
overflow_add-head c = omega (arith, c.own_place-head.ensures.upto)

pub returns-then-head-words : goal.returns-then-head-words
returns-then-head-words c = inner-simple _ _ _ c.own_place-head.ensures c.word.ensures (c.is_bare.ensures c.if-is_bare.true) c.if-head-words.true

pub returns-else-head-words : goal.returns-else-head-words
returns-else-head-words c = inner-same _ _ _ c.requires

pub returns-else-is_bare : goal.returns-else-is_bare
returns-else-is_bare c = inner-same _ _ _ c.requires
