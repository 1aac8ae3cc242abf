-- A node, part by part, and between the parts its children.
use native.Mathlib.Omega.{arith}
use Rattle.mathml.proofs.Writing.{begin, more, closed, leaf-put, child-as}
use Rattle.mathml.proofs.node.+put_node.Goals.{then-is_leaf, else-is_leaf}
use Rattle.mathml.proofs.node.+put_node.Goals as goal

pub all-init : goal.all-init
all-init t c = begin _ _ _ _ _ _ _ c.requires (omega arith) (omega arith)

pub put_part-p-requires : goal.put_part-p-requires
put_part-p-requires t c = record { at_in_bounds = c.requires; next_in_bounds = c.all.invariant.upto }

pub is_leaf-requires : goal.is_leaf-requires
is_leaf-requires t c = c.put_part-p.ensures.upto

pub put_part-c-requires : goal.put_part-c-requires
put_part-c-requires t c = record { at_in_bounds = c.put_part-p.ensures.upto; next_in_bounds = c.put_part-p.ensures.upto }

pub put_node-r-requires : goal.put_node-r-requires
put_node-r-requires t c = let d = (c.put_part-p.ensures.deeper c.if-p.true) in (omega (arith, d.0, c.put_part-p.ensures.upto, c.decreases, c.requires), c.put_part-p.ensures.upto)

pub overflow_add-i : goal.overflow_add-i
overflow_add-i t c = omega (arith, (c.put_part-p.ensures.deeper c.if-p.true).1.1)

pub all-smaller : goal.all-smaller
all-smaller t c = omega (arith, (c.put_part-p.ensures.deeper c.if-p.true).1.0)

pub all-preserved : goal.all-preserved
all-preserved t c =
    more _ _ _ _ _ _ _ c.all.invariant c.put_part-p.ensures c.if-p.true
    (elim c.if-is_leaf.branch [
      | then-is_leaf w ↦
          child-as w.out-is w.next-is w.end-is
          (leaf-put _ _ _ _ _ _ _ c.put_part-p.ensures.upto (omega (arith, c.all.invariant.fits, c.all.invariant.same, c.put_part-p.ensures.same)) c.put_part-p.ensures.fits (c.is_leaf.ensures w.if-is_leaf.true) w.put_part-c.ensures)
      | else-is_leaf w ↦ child-as w.out-is w.next-is w.end-is w.put_node-r.ensures
    ])

pub returns-else-p : goal.returns-else-p
returns-else-p t c = closed _ _ _ _ _ _ _ c.all.invariant c.put_part-p.ensures c.if-p.false
