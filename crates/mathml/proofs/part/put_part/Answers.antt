-- A part of a node.
use native.Mathlib.Omega.{arith}
use mathlib.Core.Path.{sym, ◌∙◌}
use Rattle.tree.proofs.Steps.{step-within}
use Rattle.mathml.proofs.Placing.{part-child, part-last, part-leaf, part_end}
use Rattle.mathml.proofs.part.put_part.Goals as goal

pub child_place-child-requires : goal.child_place-child-requires
child_place-child-requires c = record {
  from_in_bounds = (step-within _ _ _ c.in-Some.o (sym c.in-Some.is ∙ c.node_at.ensures)).upto;
  next_in_bounds = c.requires.next_in_bounds;
}

pub returns-then-node-lt-NODE_SIGNED : goal.returns-then-node-lt-NODE_SIGNED
returns-then-node-lt-NODE_SIGNED c = let a = c.args in part-leaf a.source.now.words.now a.source.now.text.now a.out.now a.place a.at a.items a.m a.i a.left a.next c.in-Some.o (sym c.in-Some.is ∙ c.node_at.ensures) c.put_begun-begun.ensures c.child_place-child.ensures c.if-node-lt-NODE_SIGNED.true c.no_more.ensures

pub put_child-requires : goal.put_child-requires
put_child-requires c = c.child_place-child.ensures.upto

pub returns-then-i-o : goal.returns-then-i-o
returns-then-i-o c = let a = c.args in part-child a.source.now.words.now a.source.now.text.now a.out.now a.place a.at a.items a.m a.i a.left a.next c.in-Some.o (sym c.in-Some.is ∙ c.node_at.ensures) c.put_begun-begun.ensures c.child_place-child.ensures c.if-i-o.true (omega arith) c.row_left-row.ensures c.put_child.ensures

pub returns-else-i-o : goal.returns-else-i-o
returns-else-i-o c = let a = c.args in part-last a.source.now.words.now a.source.now.text.now a.out.now a.place a.at a.items a.m a.i a.left a.next c.in-Some.o (sym c.in-Some.is ∙ c.node_at.ensures) c.put_begun-begun.ensures c.child_place-child.ensures c.if-i-o.false c.put_last.ensures

pub returns-in-None : goal.returns-in-None
returns-in-None c = let a = c.args in part_end a.source.now.words.now a.source.now.text.now a.out.now a.place a.at a.items a.m a.i a.left a.next c.requires.at_in_bounds (sym c.in-None.is ∙ c.node_at.ensures) (omega arith) c.no_more-in-None.ensures
