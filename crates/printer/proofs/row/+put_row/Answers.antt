-- The nodes of a row, one after the other, each with all below it. The measure is what is left of the words.
use native.Mathlib.Omega.{arith}
use mathlib.Core.Path.{◌∙◌, sym}
use Rattle.tree.proofs.Steps.{step-within}
use Rattle.printer.proofs.Walks.{begin, done, cut, down, less, next}
use Rattle.printer.proofs.row.+put_row.Goals as goal

pub all-init : goal.all-init
all-init t c = begin _ _ _ _ _ _ _ c.requires.from_in_bounds c.requires.depth_le_from (omega arith) (omega arith)

pub overflow_add-level : goal.overflow_add-level
overflow_add-level t c = omega (arith, c.all.invariant.deep, c.all.invariant.upto)

pub all-smaller-then-is_last : goal.all-smaller-then-is_last
all-smaller-then-is_last t c = let i = step-within _ _ _ c.in-Some.o (sym c.in-Some.is ∙ c.node_at.ensures) in omega (arith, c.all.invariant.upto)

pub all-preserved-then-is_last : goal.all-preserved-then-is_last
all-preserved-then-is_last t c = down c.all.invariant (sym c.in-Some.is ∙ c.node_at.ensures) c.put_line-end.ensures (sym c.is_last.ensures ∙ c.if-is_last.true)

pub overflow_add-level-else-is_last : goal.overflow_add-level-else-is_last
overflow_add-level-else-is_last t c = omega (arith, c.all.invariant.deep, c.all.invariant.upto)

pub put_row-r-requires : goal.put_row-r-requires
put_row-r-requires t c = let i = step-within _ _ _ c.in-Some.o (sym c.in-Some.is ∙ c.node_at.ensures) in
    let m = c.all.invariant in
    (omega (arith, i, m.least, m.upto, c.decreases, c.requires), (i.upto, omega (arith, i, m.deep)))

pub overflow_sub-left : goal.overflow_sub-left
overflow_sub-left t c = omega (arith, c.all-test.true)

pub all-smaller : goal.all-smaller
all-smaller t c = less c.all.invariant (sym c.in-Some.is ∙ c.node_at.ensures) c.put_line-behind.ensures c.put_row-r.ensures c.past-at.ensures

pub all-preserved : goal.all-preserved
all-preserved t c = next c.all.invariant (sym c.in-Some.is ∙ c.node_at.ensures) c.put_line-behind.ensures c.put_row-r.ensures c.past-at.ensures (omega (arith, c.all-test.true))

pub returns-after-all : goal.returns-after-all
returns-after-all t c = done c.all.invariant (omega arith)

pub returns-in_default : goal.returns-in_default
returns-in_default t c = cut c.all.invariant (sym c.in_default.is ∙ c.node_at.ensures)
