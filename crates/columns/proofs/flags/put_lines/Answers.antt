-- The boundaries of the first k columns are written.
use borrow.Author.Tests.{eq-eqb, ne_eqb}
use Rattle.std.proofs.Common.{ℕ, ◌+◌, true, false, eqb, sym, ap, ◌∙◌, arith}
use Rattle.columns.proofs.Boundaries.{putting-none, putting-step, putting-done}
use Rattle.columns.proofs.flags.put_lines.Goals as goal
use Rattle.columns.proofs.flags.put_lines.Goals.{then-tree-end-eq0, else-tree-end-eq0}

pub loop-k-init : goal.loop-k-init
loop-k-init c = putting-none _ _ _ _

pub loop-k-preserved : goal.loop-k-preserved
loop-k-preserved c = let step = putting-step c.requires.cols_in_bounds c.requires.to_le_end c.loop-k.invariant in
    let kept = ap (λ (flag : ℕ). eqb flag 0) (sym (c.loop-k.invariant.after (c.args.end + c.loop-k.k) (omega arith) (omega arith))) in
    elim c.if-tree-end-eq0.branch [
      | then-tree-end-eq0 w ↦ rw (w.tree-is, w.out-is, w.boundary-is) (step true c.loop-k-test.true (kept ∙ eq-eqb _ _ w.if-tree-end-eq0.true))
      | else-tree-end-eq0 w ↦ rw (w.tree-is, w.out-is, w.boundary-is) (step false c.loop-k-test.true (kept ∙ ne_eqb _ _ w.if-tree-end-eq0.false))
    ]

pub returns : goal.returns
returns c = putting-done c.requires.cols_in_bounds c.requires.to_le_end c.loop-k.invariant c.loop-k-test.false
