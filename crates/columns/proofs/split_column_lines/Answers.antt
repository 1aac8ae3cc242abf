-- The split, then the words past the new end.
use Rattle.std.proofs.Common.{length, ◌+◌, ◌-◌, refl, sym, ◌∙◌, arith, rules}
use Rattle.columns.proofs.Buffer.{filled}
use Rattle.columns.proofs.Shape.{room-parts}
use Rattle.columns.proofs.Cleared.{no_room, cleared}
use Rattle.columns.proofs.split_column_lines.Goals as goal

pub returns-then-not-has_room : goal.returns-then-not-has_room
returns-then-not-has_room c = let a = c.args in
    let all = no_room a.text.now a.tree.now a.from a.end a.cells a.cols c.has_room.ensures c.if-not-has_room.true in
    rw c.unsplit.ensures record { value = all.0; tree_after = all.1 }

pub returns-clause-tree_after : goal.returns-clause-tree_after
returns-clause-tree_after c = let a = c.args in
    let room = sym c.has_room.ensures ∙ c.if-not-has_room.false in
    let r = c.split_cells-split in
    filled r.new.tree c.fill.new.self r.result.end (a.end + a.cols) (a.end + a.cols - r.result.end) 0 refl (omega (arith, room-parts (length a.tree.now) a.end a.cols room)) (c.fill.ensures.after (search rules))
    ∙ cleared a.text.now a.tree.now a.from a.end a.cells a.cols room r.new.tree r.ensures.value r.ensures.tree_after r.ensures.tree_unchanged
