-- Where the own words begin.
use native.Mathlib.Omega.{arith}
use Rattle.mathml.proofs.Placing.{own-none, own-item, own-plain}
use Rattle.mathml.proofs.place.own_place.Goals as goal

pub returns-then-at-n : goal.returns-then-at-n
returns-then-at-n c = own-none _ _ _

pub returns-then-words-at-eq1 : goal.returns-then-words-at-eq1
returns-then-words-at-eq1 c = own-none _ _ _

pub returns-then-items : goal.returns-then-items
returns-then-items c = own-item _ _ c.if-items.true (omega (arith, c.if-at-n.false, c.requires)) c.if-words-at-eq1.false

pub returns : goal.returns
returns c = own-plain _ _ c.if-items.false c.requires
