use borrow.Enum.Refused.{opened}
use Prim.Native.Nat.{◌+◌}
use native.Mathlib.Omega.{arith}
use Rattle.parse.proofs.Arms.{argument-found, argument-missing, binary-met, scripts-none, scripts-super, scripts-sub, scripts-both, operand_found, operand_missing, unary-met}
use mathlib.Core.Path.{sym, ◌∙◌, ap, ◌≡◌, refl}
use Rattle.parse.proofs.Barred.{bars-known, bars-nought, bars-made, bars-lost, bracket-matrix, bracket-group, bracket-bars}
use Rattle.reading_words.proofs.Kit.{safe-kept, some_at}
use Rattle.reading_words.proofs.Steps.{bar-below}
use Rattle.parse.proofs.Begins.{begun-bracket, simple-nothing, simple-begun, begun-binary, begun-leaf, opens-nothing}
use Rattle.parse.specs.declared.cursor.Part.{Part}
use Rattle.reading_words.proofs.Plain.{plain-below}
use Rattle.parse.proofs.Alone.{plain-found, over_nothing}
use Rattle.parse.proofs.Loop.{along-none, along-more, along-nothing, along-met}
use lib.ListN.{length}
use Rattle.parse.proofs.Scripting.{headed-func, headed-sign, item-nothing, item-plain, item-over, script-deep, script-back, script-headed, simple-deep, term_nothing, term_scripted}
use borrow.Author.Tests.{eq-eqb, ne_eqb, not-true, not-false, leb-true, leb-false}
use Rattle.lookahead.proofs.Testing.{test_below}
use Rattle.parse.proofs.Rows.{rows_none, rows-done, rows-broken, rows-differ, rows_more, matrix-broken, matrix-differs, matrix-more}
use mathlib.Core.List.{[], ◌∷◌}
use lib.Seq.{length-sets}
use Rattle.parse.proofs.Cells.{row-met, row-none, cells-none, cells-more, cells-shut, cells-broken, passing-in}
use Rattle.lookahead.specs.Tests.{is_kind, marks_kind, heads_kind, begins_kind}
use Rattle.reading_cursor.specs.Moves.{inner}
use Rattle.parse.proofs.Choices.{group-end, prefix-known, prefix-some, prefix-none, leaf-kinds, begun-prefix, rows-failed}
use Rattle.parse.proofs.Whole.{whole-items}
use mathlib.Core.Option.{none}
use Rattle.std.proofs.Common.{Err}
use Rattle.std.proofs.lemmas.Grind.{common_steps}
use Rattle.reading.specs.Reading.{prefixes}
use Rattle.reading_cursor.specs.declared.Cursor.{Cursor}
use Rattle.parse.proofs.Matrices.{try_shut, try_known, try_broken, try_unmade, try_made, split-ready}
use Rattle.reading_words.proofs.Matrices.{makes_below}
use Rattle.parse.proofs.readers.+readers.Goals as goal
use Rattle.parse.proofs.readers.+readers.Goals.{headed-then-func, headed-else-func, try_matrix-in-Done+else-makes_matrix, try_matrix-in_default}

pub arg-returns-in-Ok : goal.arg-returns-in-Ok
arg-returns-in-Ok t c = argument-found c.args.stop (rw c.in-Ok.is at c.next_simple.ensures)

pub arg-returns-in-Err : goal.arg-returns-in-Err
arg-returns-in-Err t c = argument-missing c.args.stop (rw c.in-Err.is at c.next_simple.ensures) c.put.ensures (omega (arith, c.requires.room))

pub bars-returns-then-failed_at : goal.bars-returns-then-failed_at
bars-returns-then-failed_at t c = bars-known c.args.i c.args.stop c.requires.i_lt_n c.requires.ready.here c.requires.ready.room (rw c.open_mark-mark.ensures at (sym c.failed_at.ensures ∙ c.if-failed_at.true)) c.requires.ready.known c.leaf.ensures.tree_after c.leaf.ensures.value

pub bars-next-requires : goal.bars-next-requires
bars-next-requires t c = let b = bar-below _ _ _ _ _ _ (sym c.bar_at.ensures ∙ c.if-bar_at.true) in omega (arith, c.requires.ready.safe.few)

pub bars-returns-then-count-eq0 : goal.bars-returns-then-count-eq0
bars-returns-then-count-eq0 t c = bars-nought c.args.i c.args.stop c.requires.i_lt_n c.requires.ready.here c.requires.ready.room (rw c.open_mark-mark.ensures at (sym c.failed_at.ensures ∙ c.if-failed_at.false)) c.extend-run.ensures c.if-count-eq0.true c.leaf-then-count-eq0.ensures.tree_after c.leaf-then-count-eq0.ensures.value

pub bars-returns-then-bar_at : goal.bars-returns-then-bar_at
bars-returns-then-bar_at t c = rw c.next.ensures (bars-made c.args.i c.args.stop c.requires.i_lt_n c.requires.ready.here c.requires.ready.room (rw c.open_mark-mark.ensures at (sym c.failed_at.ensures ∙ c.if-failed_at.false)) c.extend-run.ensures c.if-count-eq0.false (sym c.bar_at.ensures ∙ c.if-bar_at.true) c.put_group.ensures)

pub bars-returns-else-bar_at : goal.bars-returns-else-bar_at
bars-returns-else-bar_at t c = let sj = safe-kept c.extend-run.ensures.moves.kept c.requires.ready.safe in bars-lost c.args.i c.args.stop c.requires.i_lt_n c.requires.ready.here c.requires.ready.room (rw c.open_mark-mark.ensures at (sym c.failed_at.ensures ∙ c.if-failed_at.false)) c.extend-run.ensures c.if-count-eq0.false (sym c.bar_at.ensures ∙ c.if-bar_at.false) (sj.placed c.args.i c.requires.i_lt_n).fit (rw c.open_mark-mark.ensures at c.mark_failed.ensures) c.leaf-else-bar_at.ensures.tree_after (rw c.rewind-given_back.ensures at c.leaf-else-bar_at.ensures.value)

pub begun-returns-then-opens : goal.begun-returns-then-opens
begun-returns-then-opens t c = begun-bracket c.args.i c.args.stop c.args.sign c.requires.i_lt_n c.kind_at-k.ensures (sym c.opens.ensures ∙ c.if-opens.true) c.bracket.ensures

pub binary-arg-h-requires : goal.binary-arg-h-requires
binary-arg-h-requires t c = let m = c.arg-g.ensures.moves in (omega (arith, c.decreases, m.depth), record { safe = safe-kept m.kept c.requires.ready.safe; known = m.known; here = m.within; room = omega (arith, c.requires.ready.room, m.room, m.long) })

pub binary-returns : goal.binary-returns
binary-returns t c = rw c.node_before.ensures.value (binary-met c.args.i c.requires.i_lt_n c.arg-g.ensures c.arg-h.ensures c.node_before.ensures.tree_after c.requires.ready.room)

pub bracket-open_group-requires : goal.bracket-open_group-requires
bracket-open_group-requires t c = let f = (rw c.in-Err.is at c.try_matrix.ensures).0 in (omega (arith, c.decreases, f.depth), (record { safe = safe-kept f.kept c.requires.ready.safe; known = f.known; here = f.within; room = omega (arith, c.requires.ready.room, f.room, f.long) }, c.requires.i_lt_n))

pub bracket-bars-requires : goal.bracket-bars-requires
bracket-bars-requires t c = let f = (rw c.in-Err.is at c.try_matrix.ensures).0 in (omega (arith, c.decreases, f.depth), (record { safe = safe-kept f.kept c.requires.ready.safe; known = f.known; here = f.within; room = omega (arith, c.requires.ready.room, f.room, f.long) }, c.requires.i_lt_n))

pub bracket-returns-in-Ok : goal.bracket-returns-in-Ok
bracket-returns-in-Ok t c = bracket-matrix c.args.i c.args.stop c.args.k (rw c.in-Ok.is at c.try_matrix.ensures)

pub bracket-returns-then-k-eq-OPEN_BRACKET : goal.bracket-returns-then-k-eq-OPEN_BRACKET
bracket-returns-then-k-eq-OPEN_BRACKET t c = bracket-group c.args.i c.args.stop (rw c.in-Err.is at c.try_matrix.ensures) c.args.k c.if-k-eq-OPEN_BRACKET.true c.open_group.ensures

pub bracket-returns-else-k-eq-OPEN_BRACKET : goal.bracket-returns-else-k-eq-OPEN_BRACKET
bracket-returns-else-k-eq-OPEN_BRACKET t c = bracket-bars c.args.i c.args.stop (rw c.in-Err.is at c.try_matrix.ensures) c.args.k c.if-k-eq-OPEN_BRACKET.false c.bars.ensures

pub extend-items-init : goal.extend-items-init
extend-items-init t c = along-none c.args.until c.args.stop c.args.first0 c.args.sign0 c.args.c c.args.e c.args.tree.now c.requires.here c.requires.known

pub extend-plain_item-p-requires : goal.extend-plain_item-p-requires
extend-plain_item-p-requires t c = let v = c.items.invariant.moves in
    let safe = safe-kept v.kept c.requires.safe in
    let below = plain-below c.args.list.now.tok.now c.items.work c.args.list.now.n c.items.cur.depth c.items.cur.pos (sym c.is_plain.ensures ∙ c.if-is_plain.true) in
    (record { pos_bound = omega (arith, safe.few); e_in_bounds = omega (arith, c.requires.room, v.room, v.long, c.put_space-g.ensures.short, c.put_space-g.ensures.tree.long) })

pub extend-items-smaller-then-is_plain : goal.extend-items-smaller-then-is_plain
extend-items-smaller-then-is_plain t c =
    let v = c.items.invariant.moves in
    let below = plain-below c.args.list.now.tok.now c.items.work c.args.list.now.n c.items.cur.depth c.items.cur.pos (sym c.is_plain.ensures ∙ c.if-is_plain.true) in
    omega (arith, ap (λ (g : Part). g.cur.pos) c.plain_item-p.ensures.value)

pub extend-items-preserved-then-is_plain : goal.extend-items-preserved-then-is_plain
extend-items-preserved-then-is_plain t c = let v = c.items.invariant in
    along-more c.args.until c.args.stop c.args.first0 c.args.sign0 c.args.c c.args.e c.args.tree.now v c.put_space-g.ensures (omega (arith, c.requires.room, v.moves.room, v.moves.long)) (rw c.choose-bar.ensures at (sym c.bar_at.ensures ∙ c.if-bar_at.false)) (plain-found c.args.stop c.items.sign (sym c.is_plain.ensures ∙ c.if-is_plain.true) (omega (arith, c.requires.room, v.moves.room, v.moves.long, c.put_space-g.ensures.short, c.put_space-g.ensures.tree.long)) v.moves.known c.plain_item-p.ensures.tree_after _ c.plain_item-p.ensures.value)

pub extend-next_intermediate-requires : goal.extend-next_intermediate-requires
extend-next_intermediate-requires t c = let v = c.items.invariant.moves in (omega (arith, c.decreases, v.depth), record { safe = safe-kept v.kept c.requires.safe; known = v.known; here = v.within; room = omega (arith, c.requires.room, v.room, v.long, c.put_space-g.ensures.short, c.put_space-g.ensures.tree.long) })

pub extend-items-preserved : goal.extend-items-preserved
extend-items-preserved t c = let v = c.items.invariant in
    along-more c.args.until c.args.stop c.args.first0 c.args.sign0 c.args.c c.args.e c.args.tree.now v c.put_space-g.ensures (omega (arith, c.requires.room, v.moves.room, v.moves.long)) (rw c.choose-bar.ensures at (sym c.bar_at.ensures ∙ c.if-bar_at.false)) (rw c.in-Ok.is at c.next_intermediate.ensures)

pub extend-returns-then-bar_at : goal.extend-returns-then-bar_at
extend-returns-then-bar_at t c = along-met c.args.until c.args.stop c.args.first0 c.args.sign0 c.args.c c.args.e c.args.tree.now c.items.invariant (rw c.choose-bar.ensures at (sym c.bar_at.ensures ∙ c.if-bar_at.true))

pub extend-returns-then-is_over : goal.extend-returns-then-is_over
extend-returns-then-is_over t c = let v = c.items.invariant in
    let g = c.put_space-g.ensures in
    rw (c.look-cur.ensures, c.look.ensures) (along-nothing c.args.until c.args.stop c.args.first0 c.args.sign0 c.args.c c.args.e c.args.tree.now v g (omega (arith, c.requires.room, v.moves.room, v.moves.long)) (rw c.choose-bar.ensures at (sym c.bar_at.ensures ∙ c.if-bar_at.false)) (over_nothing c.args.stop c.items.sign (sym c.is_over.ensures ∙ c.if-is_over.true) (omega (arith, c.requires.room, v.moves.room, v.moves.long, g.short, g.tree.long)) v.moves.within v.moves.known))

pub extend-returns-in-Err : goal.extend-returns-in-Err
extend-returns-in-Err t c = let v = c.items.invariant in
    along-nothing c.args.until c.args.stop c.args.first0 c.args.sign0 c.args.c c.args.e c.args.tree.now v c.put_space-g.ensures (omega (arith, c.requires.room, v.moves.room, v.moves.long)) (rw c.choose-bar.ensures at (sym c.bar_at.ensures ∙ c.if-bar_at.false)) (rw c.in-Err.is at c.next_intermediate.ensures)

pub headed-operand-g-requires : goal.headed-operand-g-requires
headed-operand-g-requires t c = elim c.if-func.branch [
  | headed-then-func w ↦ let m = w.next_script-m.ensures.moves in rw (w.work-is, w.tree-is, w.m-is) (omega (arith, c.decreases, m.depth), record { safe = safe-kept m.kept c.requires.ready.safe; known = m.known; here = m.within; room = omega (arith, c.requires.ready.room, m.room, m.long) })
  | headed-else-func w ↦ rw (w.work-is, w.tree-is, w.m-is) (omega (arith, c.decreases), record { safe = c.requires.ready.safe; known = c.requires.ready.known; here = c.requires.ready.here; room = omega (arith, c.requires.ready.room) })
]

pub headed-node_before-requires : goal.headed-node_before-requires
headed-node_before-requires t c = let m2 = c.operand-g.ensures.moves in
    elim c.if-func.branch [
      | headed-then-func w ↦ omega (arith, c.requires.ready.room, w.next_script-m.ensures.moves.long, m2.long, ap length w.tree-is)
      | headed-else-func w ↦ omega (arith, c.requires.ready.room, m2.long, ap length w.tree-is)
    ]

pub headed-shape_of-work : goal.headed-shape_of-work
headed-shape_of-work t c =
    elim c.if-func.branch [
      | headed-then-func w ↦ omega (arith, w.next_script-m.auto.work, c.operand-g.auto.work, ap length w.work-is)
      | headed-else-func w ↦ omega (arith, c.operand-g.auto.work, ap length w.work-is)
    ]

pub headed-shape_of-tree : goal.headed-shape_of-tree
headed-shape_of-tree t c =
    elim c.if-func.branch [
      | headed-then-func w ↦ omega (arith, w.next_script-m.auto.tree, c.operand-g.auto.tree, c.node_before.auto.tree, ap length w.tree-is)
      | headed-else-func w ↦ omega (arith, c.operand-g.auto.tree, c.node_before.auto.tree, ap length w.tree-is)
    ]

pub headed-returns : goal.headed-returns
headed-returns t c = let func = c.is_at-func.ensures in
    let g = rw c.head_stop.ensures at c.operand-g.ensures in
    let z = rw c.head_kind.ensures at c.node_before.ensures.tree_after in
    rw c.node_before.ensures.value (elim c.if-func.branch [
      | headed-then-func w ↦ headed-func c.args.i c.args.stop c.requires.i_lt_n c.requires.ready.room (sym func ∙ w.if-func.true) (rw (w.work-is, w.tree-is, w.m-is) w.next_script-m.ensures) (rw w.if-func.true at g) (rw w.if-func.true at z)
      | headed-else-func w ↦ headed-sign c.args.i c.args.stop c.requires.i_lt_n c.requires.ready.room (sym func ∙ w.if-func.false) (rw (w.if-func.false, w.work-is, w.tree-is, w.m-is) at g) (rw (w.if-func.false, w.m-is) at z)
    ])

pub more_rows-rows-init : goal.more_rows-rows-init
more_rows-rows-init t c = rows_none c.args.cols c.args.left c.args.round c.args.c c.args.e c.args.tree.now c.requires.ready.here c.requires.ready.known

pub more_rows-next-requires : goal.more_rows-next-requires
more_rows-next-requires t c = let b = test_below _ _ _ _ _ (sym c.is_at.ensures ∙ not-false _ c.if-not-is_at.false-raw) in omega (arith, c.requires.ready.safe.few)

pub more_rows-next_row-row-requires : goal.more_rows-next_row-row-requires
more_rows-next_row-row-requires t c = let b = test_below _ _ _ _ _ (sym c.is_at.ensures ∙ not-false _ c.if-not-is_at.false-raw) in let v = c.rows.invariant.moves in let np : c.next.result.pos ≡ c.rows.cur.pos + 1 = rw c.next.ensures in let nd : c.next.result.depth ≡ c.rows.cur.depth = rw c.next.ensures in (omega (arith, c.decreases, v.depth), record { safe = safe-kept v.kept c.requires.ready.safe; known = v.known; here = omega arith; room = omega (arith, c.requires.ready.room, v.room, v.long) })

pub more_rows-overflow_add-p : goal.more_rows-overflow_add-p
more_rows-overflow_add-p t c = let b = test_below _ _ _ _ _ (sym c.is_at.ensures ∙ not-false _ c.if-not-is_at.false-raw) in omega (arith, c.requires.ready.safe.few)

pub more_rows-rows-preserved : goal.more_rows-rows-preserved
more_rows-rows-preserved t c = rows_more c.args.cols c.args.left c.args.round c.args.c c.args.e c.args.tree.now c.rows.invariant (omega (arith, c.requires.ready.room)) (sym c.is_at.ensures ∙ not-false _ c.if-not-is_at.false-raw) (rw (c.in-Some.is, c.next.ensures) at c.next_row-row.ensures) (sym c.if-differs.false) (sym c.is_pair.ensures ∙ not-false _ c.if-not-is_pair.false-raw)

pub more_rows-returns-in_default : goal.more_rows-returns-in_default
more_rows-returns-in_default t c = let g = c.next_row-row.result in rows-broken c.args.cols c.args.left c.args.round c.args.c c.args.e c.args.tree.now c.rows.invariant (omega (arith, c.requires.ready.room)) (sym c.is_at.ensures ∙ not-false _ c.if-not-is_at.false-raw) g.count g.cur g.end c.rows.cells g.end (rw (c.in_default.is, c.next.ensures) at c.next_row-row.ensures)

pub more_rows-returns-then-differs : goal.more_rows-returns-then-differs
more_rows-returns-then-differs t c = let g = c.next_row-row.result in rows-differ c.args.cols c.args.left c.args.round c.args.c c.args.e c.args.tree.now c.rows.invariant (omega (arith, c.requires.ready.room)) (sym c.is_at.ensures ∙ not-false _ c.if-not-is_at.false-raw) (rw (c.in-Some.is, c.next.ensures) at c.next_row-row.ensures) (rw (ne_eqb c.args.cols g.count (λ z. c.if-differs.true (sym z)))) (c.rows.cells + g.count)

pub more_rows-returns-then-not-is_pair : goal.more_rows-returns-then-not-is_pair
more_rows-returns-then-not-is_pair t c = let g = c.next_row-row.result in rows-differ c.args.cols c.args.left c.args.round c.args.c c.args.e c.args.tree.now c.rows.invariant (omega (arith, c.requires.ready.room)) (sym c.is_at.ensures ∙ not-false _ c.if-not-is_at.false-raw) (rw (c.in-Some.is, c.next.ensures) at c.next_row-row.ensures) (rw (eq-eqb c.args.cols g.count (sym c.if-differs.false)) (sym c.is_pair.ensures ∙ not-true _ c.if-not-is_pair.true-raw)) (c.rows.cells + g.count)

pub more_rows-returns-then-not-is_at : goal.more_rows-returns-then-not-is_at
more_rows-returns-then-not-is_at t c = rows-done c.args.cols c.args.left c.args.round c.args.c c.args.e c.args.tree.now c.rows.invariant (omega (arith, c.requires.ready.room)) (sym c.is_at.ensures ∙ not-true _ c.if-not-is_at.true-raw)

pub next_intermediate-next-requires : goal.next_intermediate-next-requires
next_intermediate-next-requires t c = let b = test_below _ _ _ _ _ (sym c.is_at.ensures ∙ c.if-is_at.true) in omega (arith, c.requires.safe.few)

pub next_intermediate-operand-requires : goal.next_intermediate-operand-requires
next_intermediate-operand-requires t c = let b = test_below _ _ _ _ _ (sym c.is_at.ensures ∙ c.if-is_at.true) in let f = (rw c.in_ok-s.was at c.next_script_func.ensures).0 in let np = ap (λ (q : Cursor). q.pos) c.next.ensures in let nd = ap (λ (q : Cursor). q.depth) c.next.ensures in (omega (arith, c.decreases, f.depth), record { safe = safe-kept f.kept c.requires.safe; known = f.known; here = omega arith; room = omega (arith, c.requires.room, f.room, f.long, ap length c.put.ensures, length-sets c.next_script_func.new.tree c.args.e (1 ∷ [])) })

pub next_intermediate-returns-in_err-s : goal.next_intermediate-returns-in_err-s
next_intermediate-returns-in_err-s t c =
    let e : c.from_residual.result ≡ Err c.in_err-s.field-0.0 = grind (arith, common_steps, c.from_residual.ensures) in
    rw e (item-nothing c.args.stop c.args.sign c.requires.room (rw c.in_err-s.was at c.next_script_func.ensures))

pub next_intermediate-returns-then-is_at : goal.next_intermediate-returns-then-is_at
next_intermediate-returns-then-is_at t c = item-over c.args.stop c.args.sign c.requires.room (rw c.in_ok-s.was at c.next_script_func.ensures) (sym c.is_at.ensures ∙ c.if-is_at.true) c.put.ensures (rw c.next.ensures at c.operand.ensures)

pub next_intermediate-returns-else-is_at : goal.next_intermediate-returns-else-is_at
next_intermediate-returns-else-is_at t c = rw c.look.ensures (item-plain c.args.stop c.args.sign c.requires.room (rw c.in_ok-s.was at c.next_script_func.ensures) (sym c.is_at.ensures ∙ c.if-is_at.false) c.put-else-is_at.ensures)

pub next_row-next-requires : goal.next_row-next-requires
next_row-next-requires t c = let b = test_below _ _ _ _ _ (sym c.is_at.ensures ∙ c.if-is_at.true) in omega (arith, c.requires.safe.few)

pub next_row-row_cells-requires : goal.next_row-row_cells-requires
next_row-row_cells-requires t c = let b = test_below _ _ _ _ _ (sym c.is_at.ensures ∙ c.if-is_at.true) in let np : c.next.result.pos ≡ c.args.c.pos + 1 = rw c.next.ensures in let nd : c.next.result.depth ≡ c.args.c.depth = rw c.next.ensures in (omega (arith, c.decreases), record { safe = c.requires.safe; known = c.requires.known; here = omega arith; room = omega (arith, c.requires.room) })

pub next_row-returns-then-is_at : goal.next_row-returns-then-is_at
next_row-returns-then-is_at t c = let g = c.row_cells.result in row-met c.args.list.now.text.now c.args.list.now.tok.now c.args.list.now.n c.args.work.now c.args.c c.args.e c.args.tree.now _ _ g.count g.cur g.end g.close (sym c.is_at.ensures ∙ c.if-is_at.true) (rw c.next.ensures at c.row_cells.ensures)

pub next_row-returns-else-is_at : goal.next_row-returns-else-is_at
next_row-returns-else-is_at t c = rw c.over.ensures (row-none c.args.list.now.text.now c.args.list.now.tok.now c.args.list.now.n c.args.work.now c.args.c c.args.e c.args.tree.now (sym c.is_at.ensures ∙ c.if-is_at.false) c.requires.here c.requires.known)

pub next_rows-more_rows-requires : goal.next_rows-more_rows-requires
next_rows-more_rows-requires t c = let f = (rw c.in-Some.is at c.next_row-row.ensures) in (omega (arith, c.decreases, f.0.depth), (record { safe = safe-kept f.0.kept c.requires.safe; known = f.0.known; here = f.0.within; room = omega (arith, c.requires.room, f.0.room, f.0.long) }, omega (arith, f.0.on)))

pub next_rows-returns-else-is_pair : goal.next_rows-returns-else-is_pair
next_rows-returns-else-is_pair t c = let g = c.next_row-row.result in matrix-differs c.args.list.now.text.now c.args.list.now.tok.now c.args.list.now.n c.args.work.now _ c.args.c c.args.e c.args.tree.now _ g.count c.in-Some.right g.end g.cur (rw c.in-Some.is at c.next_row-row.ensures) (omega (arith, c.requires.room)) (rw c.is_round-round.ensures at (sym c.is_pair.ensures ∙ c.if-is_pair.false)) g.count g.end g.count c.args.c.pos

pub next_rows-returns-then-is_pair : goal.next_rows-returns-then-is_pair
next_rows-returns-then-is_pair t c = let g = c.next_row-row.result in matrix-more c.args.list.now.text.now c.args.list.now.tok.now c.args.list.now.n c.args.work.now _ c.args.c c.args.e c.args.tree.now _ g.count c.in-Some.right g.end g.cur (rw c.in-Some.is at c.next_row-row.ensures) (omega (arith, c.requires.room)) (rw c.is_round-round.ensures at (sym c.is_pair.ensures ∙ c.if-is_pair.true)) _ _ c.more_rows.result (rw c.is_round-round.ensures at c.more_rows.ensures)

pub next_rows-returns-in-None : goal.next_rows-returns-in-None
next_rows-returns-in-None t c = let g = c.next_row-row.result in matrix-broken c.args.list.now.text.now c.args.list.now.tok.now c.args.list.now.n c.args.work.now _ c.args.c c.args.e c.args.tree.now _ g.count g.cur g.end g.count g.end g.count c.args.c.pos (rw c.in-None.is at c.next_row-row.ensures)

pub next_script-returns-then-not-marks_at : goal.next_script-returns-then-not-marks_at
next_script-returns-then-not-marks_at t c = rw c.look.ensures (scripts-none (sym c.marks_at.ensures ∙ not-true _ c.if-not-marks_at.true-raw) c.requires.here c.requires.known)

pub next_script-next-requires : goal.next_script-next-requires
next_script-next-requires t c = let b = test_below c.args.list.now.tok.now c.args.work.now c.args.list.now.n marks_kind c.args.c.pos (sym c.marks_at.ensures ∙ not-false _ c.if-not-marks_at.false-raw) in omega (arith, c.requires.safe.few)

pub next_script-arg-a-requires : goal.next_script-arg-a-requires
next_script-arg-a-requires t c = let b = test_below c.args.list.now.tok.now c.args.work.now c.args.list.now.n marks_kind c.args.c.pos (sym c.marks_at.ensures ∙ not-false _ c.if-not-marks_at.false-raw) in let np : c.next.result.pos ≡ c.args.c.pos + 1 = rw c.next.ensures in let nd : c.next.result.depth ≡ c.args.c.depth = rw c.next.ensures in (omega (arith, c.decreases), record { safe = c.requires.safe; known = c.requires.known; here = omega arith; room = omega (arith, c.requires.room) })

pub next_script-returns-then-sup : goal.next_script-returns-then-sup
next_script-returns-then-sup t c = rw c.scripted.ensures (scripts-super (sym c.marks_at.ensures ∙ not-false _ c.if-not-marks_at.false-raw) (sym c.is_at-sup.ensures ∙ c.if-sup.true) (rw c.next.ensures at c.arg-a.ensures))

pub next_script-next-requires-then-is_at : goal.next_script-next-requires-then-is_at
next_script-next-requires-then-is_at t c = let b2 = test_below c.args.list.now.tok.now c.arg-a.new.work c.args.list.now.n (is_kind 1) c.arg-a.result.cur.pos (sym c.is_at.ensures ∙ c.if-is_at.true) in omega (arith, c.requires.safe.few)

pub next_script-arg-b-requires : goal.next_script-arg-b-requires
next_script-arg-b-requires t c = let b = test_below c.args.list.now.tok.now c.args.work.now c.args.list.now.n marks_kind c.args.c.pos (sym c.marks_at.ensures ∙ not-false _ c.if-not-marks_at.false-raw) in let np : c.next.result.pos ≡ c.args.c.pos + 1 = rw c.next.ensures in let nd : c.next.result.depth ≡ c.args.c.depth = rw c.next.ensures in let m = c.arg-a.ensures.moves in let b2 = test_below c.args.list.now.tok.now c.arg-a.new.work c.args.list.now.n (is_kind 1) c.arg-a.result.cur.pos (sym c.is_at.ensures ∙ c.if-is_at.true) in let np2 : c.next-then-is_at.result.pos ≡ c.arg-a.result.cur.pos + 1 = rw c.next-then-is_at.ensures in let nd2 : c.next-then-is_at.result.depth ≡ c.arg-a.result.cur.depth = rw c.next-then-is_at.ensures in (omega (arith, c.decreases, m.depth), record { safe = safe-kept m.kept c.requires.safe; known = m.known; here = omega arith; room = omega (arith, c.requires.room, m.room, m.long, m.on) })

pub next_script-returns-then-is_at : goal.next_script-returns-then-is_at
next_script-returns-then-is_at t c = rw c.scripted-then-is_at.ensures (scripts-both (sym c.marks_at.ensures ∙ not-false _ c.if-not-marks_at.false-raw) (sym c.is_at-sup.ensures ∙ c.if-sup.false) (rw c.next.ensures at c.arg-a.ensures) (sym c.is_at.ensures ∙ c.if-is_at.true) (rw c.next-then-is_at.ensures at c.arg-b.ensures))

pub next_script-returns : goal.next_script-returns
next_script-returns t c = rw c.look-2.ensures (scripts-sub (sym c.marks_at.ensures ∙ not-false _ c.if-not-marks_at.false-raw) (sym c.is_at-sup.ensures ∙ c.if-sup.false) (rw c.next.ensures at c.arg-a.ensures) (sym c.is_at.ensures ∙ c.if-is_at.false))

pub next_script_func-returns-then-too_deep : goal.next_script_func-returns-then-too_deep
next_script_func-returns-then-too_deep t c = rw c.at.ensures (script-deep c.args.stop c.args.sign (leb-true 256 c.args.c.depth (sym c.too_deep.ensures ∙ c.if-too_deep.true)) c.requires.here c.requires.known)

pub next_script_func-next-requires : goal.next_script_func-next-requires
next_script_func-next-requires t c = let b = test_below c.args.list.now.tok.now c.args.work.now c.args.list.now.n (heads_kind c.args.sign) c.args.c.pos (sym c.heads_at.ensures ∙ c.if-heads_at.true) in omega (arith, c.requires.safe.few)

pub next_script_func-headed-g-requires : goal.next_script_func-headed-g-requires
next_script_func-headed-g-requires t c = let b = test_below c.args.list.now.tok.now c.args.work.now c.args.list.now.n (heads_kind c.args.sign) c.args.c.pos (sym c.heads_at.ensures ∙ c.if-heads_at.true) in let nd : c.deeper.result.depth ≡ c.args.c.depth + 1 = rw (c.deeper.ensures, c.next.ensures) in let np : c.deeper.result.pos ≡ c.args.c.pos + 1 = rw (c.deeper.ensures, c.next.ensures) in (omega (arith, c.decreases, leb-false 256 c.args.c.depth (sym c.too_deep.ensures ∙ c.if-too_deep.false)), (record { safe = c.requires.safe; known = c.requires.known; here = omega arith; room = omega (arith, c.requires.room) }, b))

pub next_script_func-returns-then-heads_at : goal.next_script_func-returns-then-heads_at
next_script_func-returns-then-heads_at t c = rw c.at_depth.ensures (script-headed c.args.stop c.args.sign (leb-false 256 c.args.c.depth (sym c.too_deep.ensures ∙ c.if-too_deep.false)) (sym c.heads_at.ensures ∙ c.if-heads_at.true) (rw (c.deeper.ensures, c.next.ensures) at c.headed-g.ensures))

pub next_script_func-returns : goal.next_script_func-returns
next_script_func-returns t c = rw c.back.ensures (script-back c.args.list.now.text.now c.args.list.now.tok.now c.args.list.now.n c.args.work.now c.term-s.new.work c.args.stop c.args.sign c.deeper-2.result c.args.c c.args.e c.args.tree.now c.term-s.new.tree c.term-s.result (leb-false 256 c.args.c.depth (sym c.too_deep.ensures ∙ c.if-too_deep.false)) (c.deeper-2.ensures ∙ ap inner c.look.ensures) (sym c.heads_at.ensures ∙ c.if-heads_at.false) c.term-s.ensures)

pub next_simple-returns-then-too_deep : goal.next_simple-returns-then-too_deep
next_simple-returns-then-too_deep t c = rw c.at.ensures (simple-deep c.args.stop c.args.sign (leb-true 256 c.args.c.depth (sym c.too_deep.ensures ∙ c.if-too_deep.true)) c.requires.here c.requires.known)

pub next_simple-next-requires : goal.next_simple-next-requires
next_simple-next-requires t c = let b = test_below c.args.list.now.tok.now c.args.work.now c.args.list.now.n (begins_kind c.args.stop) c.args.c.pos (sym c.begins_at.ensures ∙ c.if-begins_at.true) in omega (arith, c.requires.safe.few)

pub next_simple-begun-g-requires : goal.next_simple-begun-g-requires
next_simple-begun-g-requires t c = let b = test_below c.args.list.now.tok.now c.args.work.now c.args.list.now.n (begins_kind c.args.stop) c.args.c.pos (sym c.begins_at.ensures ∙ c.if-begins_at.true) in let nd : c.deeper.result.depth ≡ c.args.c.depth + 1 = rw (c.deeper.ensures, c.next.ensures) in let np : c.deeper.result.pos ≡ c.args.c.pos + 1 = rw (c.deeper.ensures, c.next.ensures) in (omega (arith, c.decreases, leb-false 256 c.args.c.depth (sym c.too_deep.ensures ∙ c.if-too_deep.false)), (record { safe = c.requires.safe; known = c.requires.known; here = omega arith; room = omega (arith, c.requires.room) }, (sym c.begins_at.ensures ∙ c.if-begins_at.true, b)))

pub next_simple-returns-then-begins_at : goal.next_simple-returns-then-begins_at
next_simple-returns-then-begins_at t c = rw c.at_depth.ensures (simple-begun c.args.stop c.args.sign (leb-false 256 c.args.c.depth (sym c.too_deep.ensures ∙ c.if-too_deep.false)) (sym c.begins_at.ensures ∙ c.if-begins_at.true) (rw (c.deeper.ensures, c.next.ensures) at c.begun-g.ensures))

pub next_simple-returns : goal.next_simple-returns
next_simple-returns t c = rw (c.at-2.ensures, c.look.ensures) (simple-nothing c.args.stop c.args.sign (leb-false 256 c.args.c.depth (sym c.too_deep.ensures ∙ c.if-too_deep.false)) (sym c.begins_at.ensures ∙ c.if-begins_at.false) c.requires.here c.requires.known)

pub open_group-past-requires : goal.open_group-past-requires
open_group-past-requires t c = λ h. let b = test_below c.args.list.now.tok.now c.extend-run.new.work c.args.list.now.n (is_kind 21) c.extend-run.result.cur.pos (sym c.is_at-shut.ensures ∙ h) in omega (arith, c.requires.ready.safe.few)

pub open_group-returns : goal.open_group-returns
open_group-returns t c = rw c.past.ensures (group-end c.args.i c.requires.i_lt_n c.extend-run.ensures c.requires.ready.room c.is_at-shut.result c.is_at-shut.ensures (rw c.choose.ensures at c.put_group.ensures))

pub operand-returns-in-Ok : goal.operand-returns-in-Ok
operand-returns-in-Ok t c = operand_found c.args.stop (rw c.in-Ok.is at c.next_script_func.ensures)

pub operand-returns-in-Err : goal.operand-returns-in-Err
operand-returns-in-Err t c = operand_missing c.args.stop (rw c.in-Err.is at c.next_script_func.ensures) c.put.ensures (omega (arith, c.requires.room))

pub other-returns-then-k-eq-BINARY : goal.other-returns-then-k-eq-BINARY
other-returns-then-k-eq-BINARY t c = begun-binary c.args.i c.args.stop c.args.sign c.requires.i_lt_n (sym c.requires.k_value ∙ c.if-k-eq-BINARY.true) c.binary.ensures

pub other-returns-in-None : goal.other-returns-in-None
other-returns-in-None t c = let o = opens-nothing c.args.k c.requires.k_value_2 in
    let l = leaf-kinds c.args.k c.args.sign (prefix-none c.args.k c.args.sign (sym c.in-None.is ∙ c.prefix_kind.ensures)) in
    begun-leaf c.args.i c.args.stop c.args.sign c.requires.i_lt_n c.requires.k_value o.0 l.0 l.1 c.if-k-eq-BINARY.false o.1 l.2 c.requires.i_value c.requires.ready.here c.requires.ready.known (omega (arith, c.requires.ready.room)) c.leaf.ensures.tree_after c.leaf.ensures.value

pub other-unary-requires : goal.other-unary-requires
other-unary-requires t c = let q = prefix-some c.args.k c.args.sign (sym c.in-Some.is ∙ c.prefix_kind.ensures) in
    (omega (arith, c.decreases), (record { safe = c.requires.ready.safe; known = c.requires.ready.known; here = c.requires.ready.here; room = omega (arith, c.requires.ready.room) }, (c.requires.i_lt_n, rw q.0 (prefix-known c.args.k c.args.sign q.1))))

pub other-returns-in-Some : goal.other-returns-in-Some
other-returns-in-Some t c = let q = prefix-some c.args.k c.args.sign (sym c.in-Some.is ∙ c.prefix_kind.ensures) in
    begun-prefix c.args.i c.args.stop c.args.sign c.requires.i_lt_n c.requires.k_value q.0 c.prefix_stop.ensures (λ z. q.1 (sym q.0 ∙ z)) c.unary.ensures

pub row_cells-cells-init : goal.row_cells-cells-init
row_cells-cells-init t c = cells-none c.args.c c.args.e c.args.tree.now c.requires.here c.requires.known

pub row_cells-extend-run-requires : goal.row_cells-extend-run-requires
row_cells-extend-run-requires t c = let v = c.cells.invariant.moves in (omega (arith, c.decreases, v.depth), record { safe = safe-kept v.kept c.requires.safe; known = v.known; here = v.within; room = omega (arith, c.requires.room, v.room, v.long) })

pub row_cells-overflow_sub-size : goal.row_cells-overflow_sub-size
unfolding prefixes
row_cells-overflow_sub-size t c = let v = c.cells.invariant.moves in let m = c.extend-run.ensures.moves in let a = some_at v.known c.cells.cur.pos c.cells.cur.takes in let w = whole-items c.extend-run.ensures (omega arith) _ _ a none refl refl in omega (arith, w.tree.upto)

pub row_cells-overflow_sub-size-in-cells : goal.row_cells-overflow_sub-size-in-cells
unfolding prefixes
row_cells-overflow_sub-size-in-cells t c = let v = c.cells.invariant.moves in let m = c.extend-run.ensures.moves in let a = some_at v.known c.cells.cur.pos c.cells.cur.takes in let w = whole-items c.extend-run.ensures (omega arith) _ _ a none refl refl in omega (arith, w.tree.upto)

pub row_cells-cells-smaller : goal.row_cells-cells-smaller
row_cells-cells-smaller t c = let v = c.cells.invariant.moves in let m = c.extend-run.ensures.moves in let b = test_below _ _ _ _ _ (sym c.is_at.ensures ∙ not-false _ c.if-not-is_at.false-raw) in let np : c.over-cur.result.pos ≡ c.extend-run.result.cur.pos + 1 = ap (λ (q : Cursor). q.pos) (c.over-cur.ensures ∙ passing-in c.args.list.now.n c.extend-run.result.cur b) in omega (arith, m.on)

pub row_cells-cells-preserved : goal.row_cells-cells-preserved
row_cells-cells-preserved t c = rw c.over-cur.ensures (cells-more c.args.c c.args.e c.args.tree.now c.cells.invariant c.extend-run.ensures refl c.put.ensures c.requires.room (sym c.is_at.ensures ∙ not-false _ c.if-not-is_at.false-raw))

pub row_cells-returns-then-is_at : goal.row_cells-returns-then-is_at
row_cells-returns-then-is_at t c = rw c.over-cur.ensures (cells-shut c.args.c c.args.e c.args.tree.now c.cells.invariant c.extend-run.ensures refl c.put.ensures c.requires.room (sym c.is_at.ensures ∙ not-true _ c.if-not-is_at.true-raw) (sym c.is_at-then-not-is_at.ensures ∙ c.if-is_at.true))

pub row_cells-returns-else-is_at : goal.row_cells-returns-else-is_at
row_cells-returns-else-is_at t c = rw c.over-cur.ensures (cells-broken c.args.c c.args.e c.args.tree.now c.cells.invariant c.extend-run.ensures refl c.put.ensures c.requires.room (sym c.is_at.ensures ∙ not-true _ c.if-not-is_at.true-raw) (sym c.is_at-then-not-is_at.ensures ∙ c.if-is_at.false))

pub term-returns-then-not-marks_at : goal.term-returns-then-not-marks_at
term-returns-then-not-marks_at t c = let p = (rw c.in_ok-s.was at c.next_simple.ensures) in rw c.look.ensures (term_scripted c.args.stop c.args.sign c.requires.room p (scripts-none (sym c.marks_at.ensures ∙ not-true _ c.if-not-marks_at.true-raw) p.0.within p.0.known) c.put.ensures)

pub term-next_script-m-requires : goal.term-next_script-m-requires
term-next_script-m-requires t c = let f = (rw c.in_ok-s.was at c.next_simple.ensures).0 in (omega (arith, c.decreases, f.depth), record { safe = safe-kept f.kept c.requires.safe; known = f.known; here = f.within; room = omega (arith, c.requires.room, f.room, f.long) })

pub term-returns-in_err-s : goal.term-returns-in_err-s
term-returns-in_err-s t c =
    let e : c.from_residual.result ≡ Err c.in_err-s.field-0.0 = grind (arith, common_steps, c.from_residual.ensures) in
    rw e (term_nothing c.args.stop c.args.sign c.requires.room (rw c.in_err-s.was at c.next_simple.ensures))

pub term-returns : goal.term-returns
term-returns t c = term_scripted c.args.stop c.args.sign c.requires.room (rw c.in_ok-s.was at c.next_simple.ensures) c.next_script-m.ensures c.put-2.ensures

pub try_matrix-returns-then-not-could_be_matrix : goal.try_matrix-returns-then-not-could_be_matrix
try_matrix-returns-then-not-could_be_matrix t c = rw c.at.ensures (try_shut c.args.i c.args.c c.args.e c.args.tree.now c.requires.i_lt_n c.requires.ready.here (sym c.could_be_matrix.ensures ∙ not-true _ c.if-not-could_be_matrix.true-raw) c.requires.ready.known)

pub try_matrix-returns-then-failed_at : goal.try_matrix-returns-then-failed_at
try_matrix-returns-then-failed_at t c = rw c.at-then-failed_at.ensures (try_known c.args.i c.args.c c.args.e c.args.tree.now c.requires.i_lt_n c.requires.ready.here (sym c.could_be_matrix.ensures ∙ not-false _ c.if-not-could_be_matrix.false-raw) (sym c.failed_at.ensures ∙ c.if-failed_at.true) c.requires.ready.known)

pub try_matrix-split_column_lines-split-requires : goal.try_matrix-split_column_lines-split-requires
try_matrix-split_column_lines-split-requires t c = let p = rw c.in-Done.is at c.next_rows-rows.ensures.0 in split-ready (p.4 _ _ (some_at c.requires.ready.known c.args.c.pos c.args.c.takes)) p.1 p.2 (omega (arith, p.0.on, p.0.within, c.requires.ready.safe.few)) (omega (arith, c.requires.ready.room, p.0.room, p.0.long))

pub try_matrix-next-requires : goal.try_matrix-next-requires
try_matrix-next-requires t c = let b = makes_below _ _ _ _ _ _ _ _ (sym c.makes_matrix.ensures ∙ c.if-makes_matrix.true) in omega (arith, c.requires.ready.safe.few)

pub try_matrix-returns-then-makes_matrix : goal.try_matrix-returns-then-makes_matrix
try_matrix-returns-then-makes_matrix t c = let p = rw c.in-Done.is at c.next_rows-rows.ensures.0 in rw c.next.ensures (try_made c.args.i c.args.c c.args.e c.args.tree.now c.requires.i_lt_n c.requires.ready.here (sym c.could_be_matrix.ensures ∙ not-false _ c.if-not-could_be_matrix.false-raw) (sym c.failed_at.ensures ∙ c.if-failed_at.false) _ _ c.requires.ready.room _ c.split_column_lines-split.result p.0 p.2 p.3 p.4 c.split_column_lines-split.ensures c.split_column_lines-split.auto.tree (sym c.makes_matrix.ensures ∙ c.if-makes_matrix.true) c.put_matrix.ensures)

pub try_matrix-shape_of-tree : goal.try_matrix-shape_of-tree
try_matrix-shape_of-tree t c = elim c.match-rows.branch [
  | try_matrix-in-Done+else-makes_matrix w ↦ omega (arith, c.next_rows-rows.auto.tree, w.split_column_lines-split.auto.tree, ap length w.tree-is)
  | try_matrix-in_default w ↦ omega (arith, c.next_rows-rows.auto.tree, ap length w.tree-is)
]

pub try_matrix-returns : goal.try_matrix-returns
try_matrix-returns t c = rw (c.at-2.ensures, c.rewind.ensures) (elim c.match-rows.branch [
  | try_matrix-in-Done+else-makes_matrix w ↦ let p = rw w.in-Done.is at c.next_rows-rows.ensures.0 in let sj = safe-kept p.0.kept c.requires.ready.safe in rw w.tree-is (try_unmade c.args.i c.args.c c.args.e c.args.tree.now c.requires.i_lt_n c.requires.ready.here (sym c.could_be_matrix.ensures ∙ not-false _ c.if-not-could_be_matrix.false-raw) (sym c.failed_at.ensures ∙ c.if-failed_at.false) _ _ c.requires.ready.room _ w.split_column_lines-split.result p.0 p.2 p.3 p.4 w.split_column_lines-split.ensures w.split_column_lines-split.auto.tree (sym w.makes_matrix.ensures ∙ w.if-makes_matrix.false) (sj.placed c.args.i c.requires.i_lt_n).fit c.mark_failed.ensures)
  | try_matrix-in_default w ↦ let p = rows-failed c.args.list.now.text.now c.args.list.now.tok.now c.args.list.now.n c.args.work.now c.next_rows-rows.new.work c.args.c (c.args.e + 8) c.args.tree.now c.next_rows-rows.new.tree c.next_rows-rows.result.cols c.next_rows-rows.result.left c.next_rows-rows.result.cells c.next_rows-rows.result.cur c.next_rows-rows.result.end c.next_rows-rows.result.why (opened w.in_default.in_default-own.keys2) c.next_rows-rows.ensures.0 in let sj = safe-kept p.0.kept c.requires.ready.safe in rw w.tree-is (try_broken c.args.i c.args.c c.args.e c.args.tree.now c.requires.i_lt_n c.requires.ready.here (sym c.could_be_matrix.ensures ∙ not-false _ c.if-not-could_be_matrix.false-raw) (sym c.failed_at.ensures ∙ c.if-failed_at.false) _ _ c.requires.ready.room p.0 p.1 (sj.placed c.args.i c.requires.i_lt_n).fit c.mark_failed.ensures)
])

pub unary-returns : goal.unary-returns
unary-returns t c = rw c.node_before.ensures.value (unary-met c.args.i c.requires.i_lt_n c.args.kind c.args.stop c.arg-g.ensures c.requires.kind_value c.node_before.ensures.tree_after c.requires.ready.room)
