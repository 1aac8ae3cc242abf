-- The flags of the first cells.
use Rattle.std.proofs.Common.{◌≡◌, ◌+◌, length, refl, sym, ap, ◌∙◌, arith, rules}
use Rattle.std.proofs.lemmas.List.{length-take-le, length-drop}
use Rattle.columns.specs.Columns.{cell_len, is_line}
use Rattle.columns.proofs.Buffer.{filled}
use Rattle.columns.proofs.Marks.{marking-none, marking-more, beside-ones, marked-broken, marked-done}
use Rattle.columns.proofs.flags.mark_columns.Goals as goal
use Rattle.columns.proofs.flags.mark_columns.Goals.{then-not-is_column_line, else-not-is_column_line}

pub loop-init : goal.loop-init
loop-init c = let a = c.args in
    let o = filled a.tree.now c.fill.new.self a.end (a.end + a.cols) a.cols 1 (omega arith) c.requires.cols_in_bounds (c.fill.ensures.after (search rules)) in
    marking-none a.text.now a.tree.now _ a.from a.end a.cells a.cols c.requires.cols_in_bounds o c.requires.cols_nonzero

pub returns-in_default : goal.returns-in_default
returns-in_default c = let a = c.args in
    let o = filled a.tree.now c.fill.new.self a.end (a.end + a.cols) a.cols 1 (omega arith) c.requires.cols_in_bounds (c.fill.ensures.after (search rules)) in
    marked-broken a.text.now a.tree.now _ a.from a.end a.cells a.cols c.requires.cols_in_bounds o c.loop.invariant c.loop-test.true (search rules)

pub loop-preserved : goal.loop-preserved
loop-preserved c = let a = c.args in
    let o = filled a.tree.now c.fill.new.self a.end (a.end + a.cols) a.cols 1 (omega arith) c.requires.cols_in_bounds (c.fill.ensures.after (search rules)) in
    let b = beside-ones a.text.now a.tree.now _ a.from a.end a.cells a.cols c.requires.cols_in_bounds o in
    let within = c.in-Some.ensures.within in
    let words = c.in-Some.ensures.words in
    let long : length c.in-Some.cell.now ≡ cell_len c.loop.tree c.loop.at = ap length words ∙ length-take-le _ _ (omega (arith, length-drop c.loop.at c.loop.tree, c.loop.invariant.beside.long, b.long)) in
    let line = c.is_column_line.ensures ∙ ap (is_line a.text.now) words in
    elim c.if-not-is_column_line.branch [
      | then-not-is_column_line w ↦ marking-more (omega (arith, b.long)) c.loop.invariant c.loop-test.true within long (sym w.if-not-is_column_line.true ∙ line) w.tree-is c.next_col-j.ensures
      | else-not-is_column_line w ↦ marking-more (omega (arith, b.long)) c.loop.invariant c.loop-test.true within long (sym w.if-not-is_column_line.false ∙ line) w.tree-is c.next_col-j.ensures
    ]

pub returns : goal.returns
returns c = let a = c.args in
    let o = filled a.tree.now c.fill.new.self a.end (a.end + a.cols) a.cols 1 (omega arith) c.requires.cols_in_bounds (c.fill.ensures.after (search rules)) in
    marked-done a.text.now a.tree.now _ a.from a.end a.cells a.cols c.requires.cols_in_bounds o c.loop.invariant c.loop-test.false refl
