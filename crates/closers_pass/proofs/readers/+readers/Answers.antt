use mathlib.Core.Path.{sym, ◌∙◌, ◌≡◌, ap}
use Prim.Native.Nat.{◌+◌}
use native.Mathlib.Omega.{arith}
use borrow.Author.Tests.{not-true, not-false, leb-true, leb-false}
use Rattle.closers_pass.proofs.Barred.{bars-known, bars-nought, bars-made, bars-lost, bracket-matrix, bracket-group, bracket-bars, group-shut, group-open, try_shut, try_known, try_lost, try_found}
use Rattle.reading_words.proofs.Steps.{bar-below}
use Rattle.lookahead.specs.Tests.{begins_kind, is_kind, marks_kind, heads_kind}
use Rattle.lookahead.proofs.Testing.{test_below, look-plain, look-over}
use Rattle.closers_pass.proofs.Begins.{begun-bracket, begun-binary, begun-prefix, begun-leaf}
use mathlib.Core.Bool.{Bool, false, cond}
use Rattle.tokens.specs.Refusals.{bit}
use Rattle.closers_pass.proofs.Loop.{along-none, along-more, along-nothing, along-met}
use Rattle.closers_pass.proofs.Simple.{absent, present, headed-func, headed-sign, item-nothing, item-plain, item-over, scripts-none, scripts-super, scripts-sub, scripts-both, script-deep, script-term, script-headed, simple-deep, simple-nothing, simple-begun, term_nothing, term_scripted}
use Rattle.closers_pass.proofs.Rows.{rows_none, rows-done, rows-broken, rows-count, rows-differ, rows_more, matrix-broken, matrix-differs, matrix-more}
use Rattle.closers_pass.proofs.Alone.{plain-found, over_nothing}
use Rattle.reading_words.proofs.Plain.{plain-below}
use Rattle.closers_pass.proofs.Cells.{row-met, row-unmet, row-none, cells-none, cells-more, cells-ended, passing-in}
use Rattle.reading_words.proofs.Matrices.{makes_below}
use Rattle.closers_pass.proofs.readers.+readers.Goals as goal
use Rattle.closers_pass.proofs.readers.+readers.Goals.{extend-then-not-some, extend-else-not-some, row_cells-then-not-run, row_cells-else-not-run}

pub bars-returns-then-failed_at : goal.bars-returns-then-failed_at
bars-returns-then-failed_at t c = rw c.leaf.ensures (bars-known c.args.i c.args.stop (omega (arith, c.requires.i_lt_pos, c.requires.ready.here)) c.requires.i_lt_pos c.requires.ready.here c.requires.ready.few c.requires.ready.fit (rw c.open_mark-mark.ensures at (sym c.failed_at.ensures ∙ c.if-failed_at.true)))

pub bars-returns-then-not-run : goal.bars-returns-then-not-run
bars-returns-then-not-run t c = rw c.leaf-then-not-run.ensures (bars-nought c.args.i c.args.stop (omega (arith, c.requires.i_lt_pos, c.requires.ready.here)) c.requires.i_lt_pos c.requires.ready.here c.requires.ready.few c.requires.ready.fit (rw c.open_mark-mark.ensures at (sym c.failed_at.ensures ∙ c.if-failed_at.false)) c.extend-run.ensures (not-true _ c.if-not-run.true))

pub bars-returns-then-run : goal.bars-returns-then-run
bars-returns-then-run t c = rw (c.operation.ensures, c.next.ensures) (bars-made c.args.i c.args.stop (omega (arith, c.requires.i_lt_pos, c.requires.ready.here)) c.requires.i_lt_pos c.requires.ready.here c.requires.ready.few c.requires.ready.fit (rw c.open_mark-mark.ensures at (sym c.failed_at.ensures ∙ c.if-failed_at.false)) c.extend-run.ensures (not-false _ c.if-not-run.false) (sym (c.extend-run.ensures.met (not-false _ c.if-not-run.false)) ∙ c.if-run.true) c.note_closer.ensures)

pub bars-returns : goal.bars-returns
bars-returns t c = rw (c.leaf-2.ensures, c.rewind.ensures) (bars-lost c.args.i c.args.stop (omega (arith, c.requires.i_lt_pos, c.requires.ready.here)) c.requires.i_lt_pos c.requires.ready.here c.requires.ready.few c.requires.ready.fit (rw c.open_mark-mark.ensures at (sym c.failed_at.ensures ∙ c.if-failed_at.false)) c.extend-run.ensures (not-false _ c.if-not-run.false) (sym (c.extend-run.ensures.met (not-false _ c.if-not-run.false)) ∙ c.if-run.false) (rw c.open_mark-mark.ensures at c.give_up.ensures))

pub begun-returns-then-opens : goal.begun-returns-then-opens
begun-returns-then-opens t c = begun-bracket c.args.i c.args.stop c.args.sign (test_below _ _ _ (begins_kind c.args.stop) _ c.requires.i_value) c.kind_at-k.ensures (sym c.opens.ensures ∙ c.if-opens.true) c.bracket.ensures

pub begun-returns-else-opens : goal.begun-returns-else-opens
begun-returns-else-opens t c = c.other.ensures

pub bracket-returns-then-m : goal.bracket-returns-then-m
bracket-returns-then-m t c = rw c.operation.ensures (bracket-matrix c.args.i c.args.k c.args.stop c.try_matrix-m.ensures c.if-m.true)

pub bracket-returns-then-k-eq-OPEN_BRACKET : goal.bracket-returns-then-k-eq-OPEN_BRACKET
bracket-returns-then-k-eq-OPEN_BRACKET t c = rw c.operation-then-k-eq-OPEN_BRACKET.ensures (bracket-group c.args.i c.args.k c.args.stop c.try_matrix-m.ensures c.if-m.false c.if-k-eq-OPEN_BRACKET.true c.open_group.ensures)

pub bracket-returns : goal.bracket-returns
bracket-returns t c = bracket-bars c.args.i c.args.k c.args.stop c.try_matrix-m.ensures c.if-m.false c.if-k-eq-OPEN_BRACKET.false c.bars.ensures

pub extend-returns-then-bar_at : goal.extend-returns-then-bar_at
extend-returns-then-bar_at t c = along-met c.args.until c.args.stop c.args.first0 c.args.sign0 c.args.c c.items.invariant (rw c.choose-bar.ensures at (sym c.bar_at.ensures ∙ c.if-bar_at.true))

pub headed-returns-then-func : goal.headed-returns-then-func
headed-returns-then-func t c = headed-func c.args.i c.args.stop c.requires.i_lt_n (sym c.is_at-func.ensures ∙ c.if-func.true) c.next_script-m.ensures c.next_script_func-g.ensures

pub headed-returns : goal.headed-returns
headed-returns t c = headed-sign c.args.i c.args.stop c.requires.i_lt_n (sym c.is_at-func.ensures ∙ c.if-func.false) c.next_script_func-h.ensures

pub more_rows-returns-then-not-is_at : goal.more_rows-returns-then-not-is_at
more_rows-returns-then-not-is_at t c = rows-done c.args.cols c.args.round c.args.c c.rows.invariant (sym c.is_at.ensures ∙ not-true _ c.if-not-is_at.true-raw)

pub next_intermediate-returns-in-Plain : goal.next_intermediate-returns-in-Plain
next_intermediate-returns-in-Plain t c = rw c.plain_item.ensures (plain-found c.args.stop c.args.sign (look-plain _ _ _ _ _ _ (sym c.first_look.ensures ∙ c.in-Plain.is)))

pub next_intermediate-returns-in-Over : goal.next_intermediate-returns-in-Over
next_intermediate-returns-in-Over t c = rw c.no_item.ensures (over_nothing c.args.stop c.args.sign (look-over _ _ _ _ _ _ (sym c.first_look.ensures ∙ c.in-Over.is)) c.requires.here)

pub next_row-returns : goal.next_row-returns
next_row-returns t c = rw c.over.ensures (row-none _ _ _ _ _ (sym c.is_at.ensures ∙ c.if-is_at.false) c.requires.here)

pub next_script-returns-then-not-marks_at : goal.next_script-returns-then-not-marks_at
next_script-returns-then-not-marks_at t c = rw c.look.ensures (scripts-none (sym c.marks_at.ensures ∙ not-true _ c.if-not-marks_at.true-raw) c.requires.here)

pub next_script-returns-then-sup : goal.next_script-returns-then-sup
next_script-returns-then-sup t c = scripts-super (sym c.marks_at.ensures ∙ not-false _ c.if-not-marks_at.false-raw) (rw c.next.ensures at c.next_simple-a.ensures) (sym c.is_at-sup.ensures ∙ c.if-sup.true)

pub next_script-returns-then-is_at : goal.next_script-returns-then-is_at
next_script-returns-then-is_at t c = scripts-both (sym c.marks_at.ensures ∙ not-false _ c.if-not-marks_at.false-raw) (rw c.next.ensures at c.next_simple-a.ensures) (sym c.is_at-sup.ensures ∙ c.if-sup.false) (sym c.is_at.ensures ∙ c.if-is_at.true) (rw c.next-then-is_at.ensures at c.next_simple-b.ensures)

pub next_script-returns : goal.next_script-returns
next_script-returns t c = rw c.look-2.ensures (scripts-sub (sym c.marks_at.ensures ∙ not-false _ c.if-not-marks_at.false-raw) (rw c.next.ensures at c.next_simple-a.ensures) (sym c.is_at-sup.ensures ∙ c.if-sup.false) (sym c.is_at.ensures ∙ c.if-is_at.false))

pub next_script_func-returns-then-too_deep : goal.next_script_func-returns-then-too_deep
next_script_func-returns-then-too_deep t c = rw c.nothing.ensures (script-deep c.args.stop c.args.sign (leb-true 256 c.args.c.depth (sym c.too_deep.ensures ∙ c.if-too_deep.true)) c.requires.here)

pub next_script_func-returns-then-heads_at : goal.next_script_func-returns-then-heads_at
next_script_func-returns-then-heads_at t c = rw (c.operation.ensures, c.at_depth.ensures) (script-headed c.args.stop c.args.sign (leb-false 256 c.args.c.depth (sym c.too_deep.ensures ∙ c.if-too_deep.false)) (sym c.heads_at.ensures ∙ c.if-heads_at.true) (rw (c.deeper.ensures, c.next.ensures) at c.headed-d.ensures))

pub next_script_func-returns : goal.next_script_func-returns
next_script_func-returns t c = rw c.back.ensures (script-term c.args.stop c.args.sign (leb-false 256 c.args.c.depth (sym c.too_deep.ensures ∙ c.if-too_deep.false)) (sym c.heads_at.ensures ∙ c.if-heads_at.false) (rw (c.deeper-2.ensures, c.look.ensures) at c.term-s.ensures))

pub next_simple-returns-then-too_deep : goal.next_simple-returns-then-too_deep
next_simple-returns-then-too_deep t c = rw c.nothing.ensures (simple-deep c.args.stop c.args.sign (leb-true 256 c.args.c.depth (sym c.too_deep.ensures ∙ c.if-too_deep.true)) c.requires.here)

pub next_simple-returns-then-begins_at : goal.next_simple-returns-then-begins_at
next_simple-returns-then-begins_at t c = rw c.back.ensures (simple-begun c.args.stop c.args.sign (leb-false 256 c.args.c.depth (sym c.too_deep.ensures ∙ c.if-too_deep.false)) (sym c.begins_at.ensures ∙ c.if-begins_at.true) (rw (c.deeper.ensures, c.next.ensures) at c.begun-g.ensures))

pub next_simple-returns : goal.next_simple-returns
next_simple-returns t c = rw (c.nothing-2.ensures, c.look.ensures) (simple-nothing c.args.stop c.args.sign (leb-false 256 c.args.c.depth (sym c.too_deep.ensures ∙ c.if-too_deep.false)) (sym c.begins_at.ensures ∙ c.if-begins_at.false) c.requires.here)

pub open_group-returns-then-is_at : goal.open_group-returns-then-is_at
open_group-returns-then-is_at t c = rw c.next.ensures (group-shut c.args.i (omega (arith, c.requires.i_lt_pos, c.requires.ready.here)) c.requires.i_lt_pos c.requires.ready.few c.requires.ready.fit c.extend-run.ensures (sym c.is_at.ensures ∙ c.if-is_at.true) c.note_closer.ensures)

pub open_group-returns : goal.open_group-returns
open_group-returns t c = rw c.look.ensures (group-open c.args.i (omega (arith, c.requires.i_lt_pos, c.requires.ready.here)) c.requires.i_lt_pos c.requires.ready.few c.requires.ready.fit c.extend-run.ensures (sym c.is_at.ensures ∙ c.if-is_at.false))

pub other-returns-then-k-eq-BINARY : goal.other-returns-then-k-eq-BINARY
other-returns-then-k-eq-BINARY t c = rw c.operation.ensures (begun-binary c.args.i c.args.stop c.args.sign (test_below _ _ _ (begins_kind c.args.stop) _ c.requires.i_value) (sym c.requires.k_value ∙ c.if-k-eq-BINARY.true) c.next_simple-g.ensures c.next_simple-h.ensures)

pub other-returns-then-takes_one : goal.other-returns-then-takes_one
other-returns-then-takes_one t c = rw c.operation-then-takes_one.ensures (begun-prefix c.args.i c.args.stop (test_below _ _ _ (begins_kind c.args.stop) _ c.requires.i_value) c.args.sign c.requires.k_value (sym c.takes_one.ensures ∙ c.if-takes_one.true) c.prefix_stop.ensures c.next_simple-p.ensures)

pub other-returns : goal.other-returns
other-returns t c = rw c.leaf.ensures (begun-leaf c.args.i c.args.stop c.args.sign (test_below _ _ _ (begins_kind c.args.stop) _ c.requires.i_value) c.requires.k_value c.requires.k_value_2 c.if-k-eq-BINARY.false (sym c.takes_one.ensures ∙ c.if-takes_one.false) c.requires.i_value c.requires.ready.here)

pub try_matrix-returns-then-not-could_be_matrix : goal.try_matrix-returns-then-not-could_be_matrix
try_matrix-returns-then-not-could_be_matrix t c = try_shut c.args.i c.args.c (omega (arith, c.requires.i_lt_pos, c.requires.ready.here)) c.requires.i_lt_pos c.requires.ready.here c.requires.ready.few c.requires.ready.fit (sym c.could_be_matrix.ensures ∙ not-true _ c.if-not-could_be_matrix.true-raw)

pub try_matrix-returns-then-failed_at : goal.try_matrix-returns-then-failed_at
try_matrix-returns-then-failed_at t c = try_known c.args.i c.args.c (omega (arith, c.requires.i_lt_pos, c.requires.ready.here)) c.requires.i_lt_pos c.requires.ready.here c.requires.ready.few c.requires.ready.fit (sym c.could_be_matrix.ensures ∙ not-false _ c.if-not-could_be_matrix.false-raw) (sym c.failed_at.ensures ∙ c.if-failed_at.true)

pub try_matrix-returns-then-makes_matrix : goal.try_matrix-returns-then-makes_matrix
try_matrix-returns-then-makes_matrix t c = rw c.next.ensures (try_found c.args.i c.args.c (omega (arith, c.requires.i_lt_pos, c.requires.ready.here)) c.requires.i_lt_pos c.requires.ready.here c.requires.ready.few c.requires.ready.fit (sym c.could_be_matrix.ensures ∙ not-false _ c.if-not-could_be_matrix.false-raw) (sym c.failed_at.ensures ∙ c.if-failed_at.false) _ c.next_rows-rows.result c.next_rows-rows.ensures (rw c.cells_left-cells.ensures at (sym c.makes_matrix.ensures ∙ c.if-makes_matrix.true)) c.note_closer.ensures)

pub try_matrix-returns : goal.try_matrix-returns
try_matrix-returns t c = rw c.rewind.ensures (try_lost c.args.i c.args.c (omega (arith, c.requires.i_lt_pos, c.requires.ready.here)) c.requires.i_lt_pos c.requires.ready.here c.requires.ready.few c.requires.ready.fit (sym c.could_be_matrix.ensures ∙ not-false _ c.if-not-could_be_matrix.false-raw) (sym c.failed_at.ensures ∙ c.if-failed_at.false) _ c.next_rows-rows.result c.next_rows-rows.ensures (rw c.cells_left-cells.ensures at (sym c.makes_matrix.ensures ∙ c.if-makes_matrix.false)) c.give_up.ensures)

pub extend-returns-in_default : goal.extend-returns-in_default
extend-returns-in_default t c = along-nothing c.args.until c.args.stop c.args.first0 c.args.sign0 c.args.c c.items.invariant (rw c.choose-bar.ensures at (sym c.bar_at.ensures ∙ c.if-bar_at.false)) c.next_intermediate-g.ensures c.in_default.is

pub more_rows-rows-preserved : goal.more_rows-rows-preserved
more_rows-rows-preserved t c = rows_more c.args.cols c.args.round c.args.c c.rows.invariant _ c.next_row-row.result (sym c.is_at.ensures ∙ not-false _ c.if-not-is_at.false-raw) (rw c.next.ensures at c.next_row-row.ensures) c.in-Some.is c.if-row-cols.false (sym c.is_pair.ensures ∙ not-false _ c.if-not-is_pair.false-raw)

pub more_rows-returns-in_default : goal.more_rows-returns-in_default
more_rows-returns-in_default t c = rows-broken c.args.cols c.args.round c.args.c c.rows.invariant _ c.next_row-row.result (sym c.is_at.ensures ∙ not-false _ c.if-not-is_at.false-raw) (rw c.next.ensures at c.next_row-row.ensures) c.in_default.is

pub more_rows-returns-then-row-cols : goal.more_rows-returns-then-row-cols
more_rows-returns-then-row-cols t c = rows-count c.args.cols c.args.round c.args.c c.rows.invariant _ c.next_row-row.result (sym c.is_at.ensures ∙ not-false _ c.if-not-is_at.false-raw) (rw c.next.ensures at c.next_row-row.ensures) c.in-Some.is c.if-row-cols.true

pub more_rows-returns-then-not-is_pair : goal.more_rows-returns-then-not-is_pair
more_rows-returns-then-not-is_pair t c = rows-differ c.args.cols c.args.round c.args.c c.rows.invariant _ c.next_row-row.result (sym c.is_at.ensures ∙ not-false _ c.if-not-is_at.false-raw) (rw c.next.ensures at c.next_row-row.ensures) c.in-Some.is c.if-row-cols.false (sym c.is_pair.ensures ∙ not-true _ c.if-not-is_pair.true-raw)

pub next_intermediate-returns-then-is_none : goal.next_intermediate-returns-then-is_none
next_intermediate-returns-then-is_none t c = item-nothing c.args.stop c.args.sign c.next_script_func-a.ensures (absent c.next_script_func-a.result.node c.is_none.ensures c.if-is_none.true)

pub next_intermediate-returns-then-is_at : goal.next_intermediate-returns-then-is_at
next_intermediate-returns-then-is_at t c = rw c.ends.ensures (item-over c.args.stop c.args.sign c.next_script_func-a.ensures (present c.next_script_func-a.result.node c.is_none.ensures c.if-is_none.false) (sym c.is_at.ensures ∙ c.if-is_at.true) (rw c.next.ensures at c.next_script_func-g.ensures))

pub next_intermediate-returns-else-is_at : goal.next_intermediate-returns-else-is_at
next_intermediate-returns-else-is_at t c = rw c.look.ensures (item-plain c.args.stop c.args.sign c.next_script_func-a.ensures (present c.next_script_func-a.result.node c.is_none.ensures c.if-is_none.false) (sym c.is_at.ensures ∙ c.if-is_at.false))

pub next_row-returns-in-Some : goal.next_row-returns-in-Some
next_row-returns-in-Some t c = row-met _ _ _ _ _ _ c.requires.few c.requires.fit (sym c.is_at.ensures ∙ c.if-is_at.true) (rw c.next.ensures at c.row_cells-row.ensures) c.in-Some.is c.note_closer.ensures

pub next_row-returns-in_default : goal.next_row-returns-in_default
next_row-returns-in_default t c = row-unmet _ _ _ _ _ _ (sym c.is_at.ensures ∙ c.if-is_at.true) (rw c.next.ensures at c.row_cells-row.ensures) c.in_default.is

pub next_rows-returns-then-is_pair : goal.next_rows-returns-then-is_pair
next_rows-returns-then-is_pair t c = matrix-more _ _ _ _ _ c.args.c c.next_row-row.result c.next_row-row.ensures _ c.more_rows-g.result c.in-Some.is (rw c.is_round-round.ensures at (sym c.is_pair.ensures ∙ c.if-is_pair.true)) (rw c.is_round-round.ensures at c.more_rows-g.ensures)

pub next_rows-returns-else-is_pair : goal.next_rows-returns-else-is_pair
next_rows-returns-else-is_pair t c = matrix-differs _ _ _ _ _ c.args.c c.next_row-row.result c.next_row-row.ensures c.in-Some.is (rw c.is_round-round.ensures at (sym c.is_pair.ensures ∙ c.if-is_pair.false))

pub next_rows-returns-in_default : goal.next_rows-returns-in_default
next_rows-returns-in_default t c = matrix-broken _ _ _ _ _ c.args.c c.next_row-row.result c.next_row-row.ensures c.in_default.is

pub term-returns-in_default : goal.term-returns-in_default
term-returns-in_default t c = term_nothing c.args.stop c.args.sign c.next_simple-s.ensures c.in_default.is

pub term-returns-then-not-marks_at : goal.term-returns-then-not-marks_at
term-returns-then-not-marks_at t c = rw (c.look.ensures, c.in-Some.is) (term_scripted c.args.stop c.args.sign c.next_simple-s.ensures c.in-Some.is (scripts-none (sym c.marks_at.ensures ∙ not-true _ c.if-not-marks_at.true-raw) c.next_simple-s.ensures.moves.within))

pub extend-items-preserved : goal.extend-items-preserved
extend-items-preserved t c =
    let e : c.if-not-some.line ≡ cond c.items.some false c.in-Some.node.bar =
    elim c.if-not-some.branch [
      | extend-then-not-some w ↦ rw (w.line-is, w.if-not-some.true)
      | extend-else-not-some w ↦ rw (w.line-is, w.if-not-some.false)
    ] in
    rw e (along-more c.args.until c.args.stop c.args.first0 c.args.sign0 c.args.c c.items.invariant (rw c.choose-bar.ensures at (sym c.bar_at.ensures ∙ c.if-bar_at.false)) c.next_intermediate-g.ensures c.in-Some.is)

pub row_cells-cells-preserved : goal.row_cells-cells-preserved
row_cells-cells-preserved t c =
    let e : c.if-not-run.kept ≡ cond c.extend-run.result.line c.cells.kept (c.cells.kept + 1) =
    elim c.if-not-run.branch [
      | row_cells-then-not-run w ↦ rw (w.kept-is, not-true _ w.if-not-run.true)
      | row_cells-else-not-run w ↦ rw (w.kept-is, not-false _ w.if-not-run.false)
    ] in
    rw (c.over-cur.ensures, e) (cells-more c.args.c c.cells.invariant c.extend-run.ensures (sym c.is_at.ensures ∙ not-false _ c.if-not-is_at.false-raw))

pub row_cells-returns : goal.row_cells-returns
row_cells-returns t c =
    let e : c.if-not-run.kept ≡ cond c.extend-run.result.line c.cells.kept (c.cells.kept + 1) =
    elim c.if-not-run.branch [
      | row_cells-then-not-run w ↦ rw (w.kept-is, not-true _ w.if-not-run.true)
      | row_cells-else-not-run w ↦ rw (w.kept-is, not-false _ w.if-not-run.false)
    ] in
    rw (c.over-cur.ensures, e, c.then_some-close.ensures) (cells-ended c.args.c c.cells.invariant c.extend-run.ensures (sym c.is_at.ensures ∙ not-true _ c.if-not-is_at.true-raw) _ c.is_at-then-not-is_at.ensures)

pub term-returns-then-not-m : goal.term-returns-then-not-m
term-returns-then-not-m t c = rw c.if-not-m.true at (term_scripted c.args.stop c.args.sign c.next_simple-s.ensures c.in-Some.is c.next_script-m.ensures)

pub term-returns-else-not-m : goal.term-returns-else-not-m
term-returns-else-not-m t c = let e = c.if-not-m.false in rw e (rw e at (term_scripted c.args.stop c.args.sign c.next_simple-s.ensures c.in-Some.is c.next_script-m.ensures))

pub bars-next-requires : goal.bars-next-requires
bars-next-requires t c = let b = bar-below _ _ _ c.args.list.now.n _ _ (sym (c.extend-run.ensures.met (not-false _ c.if-not-run.false)) ∙ c.if-run.true) in omega (arith, c.requires.ready.few)

pub extend-items-init : goal.extend-items-init
extend-items-init t c = along-none _ _ _ _ _ c.requires.here

pub more_rows-rows-init : goal.more_rows-rows-init
more_rows-rows-init t c = rows_none _ _ _ c.requires.here

pub more_rows-next-requires : goal.more_rows-next-requires
more_rows-next-requires t c = let b = test_below _ _ c.args.list.now.n (is_kind 3) _ (sym c.is_at.ensures ∙ not-false _ c.if-not-is_at.false-raw) in omega (arith, c.requires.few)

pub more_rows-next_row-row-requires : goal.more_rows-next_row-row-requires
more_rows-next_row-row-requires t c = let v = c.rows.invariant in let b = test_below _ _ c.args.list.now.n (is_kind 3) _ (sym c.is_at.ensures ∙ not-false _ c.if-not-is_at.false-raw) in let np : c.next.result.pos ≡ c.rows.cur.pos + 1 = rw c.next.ensures in let nd : c.next.result.depth ≡ c.rows.cur.depth = rw c.next.ensures in (omega (arith, c.decreases, v.moves.depth), record { few = c.requires.few; fit = omega (arith, c.requires.fit, v.moves.kept.long); here = omega arith })

pub next_intermediate-plain_item-requires : goal.next_intermediate-plain_item-requires
next_intermediate-plain_item-requires t c = omega (arith, plain-below _ _ _ _ _ (look-plain _ _ _ _ _ _ (sym c.first_look.ensures ∙ c.in-Plain.is)), c.requires.few)

pub next_intermediate-next-requires : goal.next_intermediate-next-requires
next_intermediate-next-requires t c = let b = test_below _ _ c.args.list.now.n (is_kind 0) _ (sym c.is_at.ensures ∙ c.if-is_at.true) in omega (arith, c.requires.few)

pub next_intermediate-next_script_func-g-requires : goal.next_intermediate-next_script_func-g-requires
next_intermediate-next_script_func-g-requires t c = let b = test_below _ _ c.args.list.now.n (is_kind 0) _ (sym c.is_at.ensures ∙ c.if-is_at.true) in let m = c.next_script_func-a.ensures.moves in let np : c.next.result.pos ≡ c.next_script_func-a.result.cur.pos + 1 = rw c.next.ensures in let nd : c.next.result.depth ≡ c.next_script_func-a.result.cur.depth = rw c.next.ensures in (omega (arith, c.decreases, m.depth), record { few = c.requires.few; fit = omega (arith, c.requires.fit, m.kept.long); here = omega arith })

pub next_row-next-requires : goal.next_row-next-requires
next_row-next-requires t c = let b = test_below _ _ c.args.list.now.n (is_kind 20) _ (sym c.is_at.ensures ∙ c.if-is_at.true) in omega (arith, c.requires.few)

pub next_row-row_cells-row-requires : goal.next_row-row_cells-row-requires
next_row-row_cells-row-requires t c = let b = test_below _ _ c.args.list.now.n (is_kind 20) _ (sym c.is_at.ensures ∙ c.if-is_at.true) in let np : c.next.result.pos ≡ c.args.c.pos + 1 = rw c.next.ensures in let nd : c.next.result.depth ≡ c.args.c.depth = rw c.next.ensures in (omega (arith, c.decreases), record { few = c.requires.few; fit = c.requires.fit; here = omega arith })

pub next_script-next-requires : goal.next_script-next-requires
next_script-next-requires t c = let b = test_below c.args.list.now.tok.now c.args.work.now c.args.list.now.n marks_kind c.args.c.pos (sym c.marks_at.ensures ∙ not-false _ c.if-not-marks_at.false-raw) in omega (arith, c.requires.few)

pub next_script-next_simple-a-requires : goal.next_script-next_simple-a-requires
next_script-next_simple-a-requires t c = let b = test_below c.args.list.now.tok.now c.args.work.now c.args.list.now.n marks_kind c.args.c.pos (sym c.marks_at.ensures ∙ not-false _ c.if-not-marks_at.false-raw) in let np : c.next.result.pos ≡ c.args.c.pos + 1 = rw c.next.ensures in let nd : c.next.result.depth ≡ c.args.c.depth = rw c.next.ensures in (omega (arith, c.decreases), record { few = c.requires.few; fit = c.requires.fit; here = omega arith })

pub next_script-next-requires-then-is_at : goal.next_script-next-requires-then-is_at
next_script-next-requires-then-is_at t c = let b = test_below _ _ c.args.list.now.n (is_kind 1) _ (sym c.is_at.ensures ∙ c.if-is_at.true) in omega (arith, c.requires.few)

pub next_script-next_simple-b-requires : goal.next_script-next_simple-b-requires
next_script-next_simple-b-requires t c = let b = test_below _ _ c.args.list.now.n (is_kind 1) _ (sym c.is_at.ensures ∙ c.if-is_at.true) in let m = c.next_simple-a.ensures.moves in let md : c.next_simple-a.result.cur.depth ≡ c.args.c.depth = rw c.next.ensures at m.depth in let np : c.next-then-is_at.result.pos ≡ c.next_simple-a.result.cur.pos + 1 = rw c.next-then-is_at.ensures in let nd : c.next-then-is_at.result.depth ≡ c.next_simple-a.result.cur.depth = rw c.next-then-is_at.ensures in (omega (arith, c.decreases), record { few = c.requires.few; fit = omega (arith, c.requires.fit, m.kept.long); here = omega arith })

pub next_script_func-next-requires : goal.next_script_func-next-requires
next_script_func-next-requires t c = let b = test_below c.args.list.now.tok.now c.args.work.now c.args.list.now.n (heads_kind c.args.sign) c.args.c.pos (sym c.heads_at.ensures ∙ c.if-heads_at.true) in omega (arith, c.requires.few)

pub next_script_func-headed-d-requires : goal.next_script_func-headed-d-requires
next_script_func-headed-d-requires t c = let b = test_below c.args.list.now.tok.now c.args.work.now c.args.list.now.n (heads_kind c.args.sign) c.args.c.pos (sym c.heads_at.ensures ∙ c.if-heads_at.true) in let nd : c.deeper.result.depth ≡ c.args.c.depth + 1 = rw (c.deeper.ensures, c.next.ensures) in let np : c.deeper.result.pos ≡ c.args.c.pos + 1 = rw (c.deeper.ensures, c.next.ensures) in (omega (arith, c.decreases, leb-false 256 c.args.c.depth (sym c.too_deep.ensures ∙ c.if-too_deep.false)), (record { few = c.requires.few; fit = c.requires.fit; here = omega arith }, b))

pub next_simple-next-requires : goal.next_simple-next-requires
next_simple-next-requires t c = let b = test_below c.args.list.now.tok.now c.args.work.now c.args.list.now.n (begins_kind c.args.stop) c.args.c.pos (sym c.begins_at.ensures ∙ c.if-begins_at.true) in omega (arith, c.requires.few)

pub next_simple-begun-g-requires : goal.next_simple-begun-g-requires
next_simple-begun-g-requires t c = let b = test_below c.args.list.now.tok.now c.args.work.now c.args.list.now.n (begins_kind c.args.stop) c.args.c.pos (sym c.begins_at.ensures ∙ c.if-begins_at.true) in let nd : c.deeper.result.depth ≡ c.args.c.depth + 1 = rw (c.deeper.ensures, c.next.ensures) in let np : c.deeper.result.pos ≡ c.args.c.pos + 1 = rw (c.deeper.ensures, c.next.ensures) in (omega (arith, c.decreases, leb-false 256 c.args.c.depth (sym c.too_deep.ensures ∙ c.if-too_deep.false)), (record { few = c.requires.few; fit = c.requires.fit; here = omega arith }, (sym c.begins_at.ensures ∙ c.if-begins_at.true, omega arith)))

pub open_group-next-requires : goal.open_group-next-requires
open_group-next-requires t c = let b = test_below _ _ c.args.list.now.n (is_kind 21) _ (sym c.is_at.ensures ∙ c.if-is_at.true) in omega (arith, c.requires.ready.few)

pub row_cells-cells-init : goal.row_cells-cells-init
row_cells-cells-init t c = cells-none _ c.requires.here

pub row_cells-cells-smaller : goal.row_cells-cells-smaller
row_cells-cells-smaller t c = let b = test_below _ _ c.args.list.now.n (is_kind 3) _ (sym c.is_at.ensures ∙ not-false _ c.if-not-is_at.false-raw) in let z : c.over-cur.result.pos ≡ c.extend-run.result.cur.pos + 1 = rw (c.over-cur.ensures, passing-in c.args.list.now.n c.extend-run.result.cur b) in omega (arith, c.extend-run.ensures.moves.on)

pub try_matrix-next-requires : goal.try_matrix-next-requires
try_matrix-next-requires t c = let b = makes_below _ _ _ c.args.list.now.n _ _ _ _ (sym c.makes_matrix.ensures ∙ c.if-makes_matrix.true) in omega (arith, c.requires.ready.few)
