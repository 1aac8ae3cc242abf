-- Where a child begins.
use mathlib.Core.Path.{sym, ◌∙◌}
use Rattle.mathml.proofs.Placing.{place-first, place-second, place-behind, place-start, place-on}
use Rattle.mathml.proofs.part.child_place.Goals as goal

pub returns-then-i-eq1 : goal.returns-then-i-eq1
returns-then-i-eq1 c = place-first (sym c.swaps_children.ensures ∙ c.if-swaps_children.true) c.requires.from_in_bounds c.if-i-eq1.true

pub node_end-second-requires : goal.node_end-second-requires
node_end-second-requires c = c.requires.from_in_bounds

pub returns-then-i-eq0 : goal.returns-then-i-eq0
returns-then-i-eq0 c = place-second (sym c.swaps_children.ensures ∙ c.if-swaps_children.true) c.if-i-eq0.true c.node_end-second.ensures

pub node_end-requires : goal.node_end-requires
node_end-requires c = c.node_end-second.ensures.upto

pub returns-then-swaps_children : goal.returns-then-swaps_children
returns-then-swaps_children c = place-behind (sym c.swaps_children.ensures ∙ c.if-swaps_children.true) c.if-i-eq1.false c.if-i-eq0.false c.node_end-second.ensures c.node_end.ensures

pub returns-then-next-from : goal.returns-then-next-from
returns-then-next-from c = place-start (sym c.swaps_children.ensures ∙ c.if-swaps_children.false) c.requires.from_in_bounds c.if-next-from.true

pub returns-else-next-from : goal.returns-else-next-from
returns-else-next-from c = place-on (sym c.swaps_children.ensures ∙ c.if-swaps_children.false) c.requires.next_in_bounds c.if-next-from.false
