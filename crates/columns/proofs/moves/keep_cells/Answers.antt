-- Of the first cells those of kept columns stand together.
use Rattle.std.proofs.Common.{◌≡◌, ◌+◌, ◌-◌, true, false, arith}
use borrow.Author.Tests.{eq-eqb, ne_eqb}
use Rattle.columns.proofs.Keeping.{keeping_none, keeping_fits, keeping_more, keeping_done}
use Rattle.columns.proofs.moves.keep_cells.Goals as goal
use Rattle.columns.proofs.moves.keep_cells.Goals.{then-tree-end-eq0, else-tree-end-eq0}

pub loop-init : goal.loop-init
loop-init c = keeping_none c.requires

pub cell_len-n-requires : goal.cell_len-n-requires
cell_len-n-requires c = omega (arith, keeping_fits c.requires c.loop.invariant c.loop-test.true)

pub overflow_add-at : goal.overflow_add-at
overflow_add-at c = omega (arith, keeping_fits c.requires c.loop.invariant c.loop-test.true)

pub copy_within-requires-clause-in_bounds : goal.copy_within-requires-clause-in_bounds
copy_within-requires-clause-in_bounds c = omega (arith, keeping_fits c.requires c.loop.invariant c.loop-test.true)

pub copy_within-requires-clause-dest_in_bounds : goal.copy_within-requires-clause-dest_in_bounds
copy_within-requires-clause-dest_in_bounds c = omega (arith, keeping_fits c.requires c.loop.invariant c.loop-test.true)

pub overflow_add-to : goal.overflow_add-to
overflow_add-to c = omega (arith, keeping_fits c.requires c.loop.invariant c.loop-test.true)

pub overflow_add-at-in-loop : goal.overflow_add-at-in-loop
overflow_add-at-in-loop c = omega (arith, keeping_fits c.requires c.loop.invariant c.loop-test.true)

pub loop-preserved : goal.loop-preserved
loop-preserved c =
    let step = keeping_more c.requires c.loop.invariant in
    elim c.if-tree-end-eq0.branch [
      | then-tree-end-eq0 w ↦
          let n : c.loop.at + c.cell_len-n.result - c.loop.at ≡ c.cell_len-n.result = omega arith in
          let moved = rw n at w.copy_within.ensures.after in
          rw (w.tree-is, w.to-is, w.count-is, c.next_col-j.ensures, moved, c.cell_len-n.ensures) (step true c.loop-test.true (eq-eqb _ _ w.if-tree-end-eq0.true))
      | else-tree-end-eq0 w ↦ rw (w.tree-is, w.to-is, w.count-is, c.cell_len-n.ensures, c.next_col-j.ensures) (step false c.loop-test.true (ne_eqb _ _ w.if-tree-end-eq0.false))
    ]

pub returns : goal.returns
returns c = keeping_done c.requires c.loop.invariant c.loop-test.false
