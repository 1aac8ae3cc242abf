-- The measure of each reader: 256 less its depth first.
use Rattle.std.proofs.Common.{◌+◌, ◌-◌, ◌*◌}
use Rattle.closers_pass.proofs.Cells as Cells
use Rattle.closers_pass.proofs.Loop as Loop
use Rattle.closers_pass.proofs.Rows as Rows
use Rattle.closers_pass.proofs.readers.+readers.Given as goal

abbrev pub decreases-bars : goal.decreases-bars
decreases-bars l = 11 * (256 - l.c.depth) + 3

abbrev pub decreases-begun : goal.decreases-begun
decreases-begun l = 11 * (256 - l.c.depth) + 10

abbrev pub decreases-bracket : goal.decreases-bracket
decreases-bracket l = 11 * (256 - l.c.depth) + 8

abbrev pub decreases-extend : goal.decreases-extend
decreases-extend l = 11 * (256 - l.c.depth) + 2

abbrev pub decreases-headed : goal.decreases-headed
decreases-headed l = 11 * (256 - l.c.depth) + 2

abbrev pub decreases-more_rows : goal.decreases-more_rows
decreases-more_rows l = 11 * (256 - l.c.depth) + 5

abbrev pub decreases-next_intermediate : goal.decreases-next_intermediate
decreases-next_intermediate l = 11 * (256 - l.c.depth) + 1

abbrev pub decreases-next_row : goal.decreases-next_row
decreases-next_row l = 11 * (256 - l.c.depth) + 4

abbrev pub decreases-next_rows : goal.decreases-next_rows
decreases-next_rows l = 11 * (256 - l.c.depth) + 6

abbrev pub decreases-next_script : goal.decreases-next_script
decreases-next_script l = 11 * (256 - l.c.depth) + 1

abbrev pub decreases-next_script_func : goal.decreases-next_script_func
decreases-next_script_func l = 11 * (256 - l.c.depth) + 0

abbrev pub decreases-next_simple : goal.decreases-next_simple
decreases-next_simple l = 11 * (256 - l.c.depth) + 0

abbrev pub decreases-open_group : goal.decreases-open_group
decreases-open_group l = 11 * (256 - l.c.depth) + 3

abbrev pub decreases-other : goal.decreases-other
decreases-other l = 11 * (256 - l.c.depth) + 1

abbrev pub decreases-row_cells : goal.decreases-row_cells
decreases-row_cells l = 11 * (256 - l.c.depth) + 3

abbrev pub decreases-term : goal.decreases-term
decreases-term l = 11 * (256 - l.c.depth) + 2

abbrev pub decreases-try_matrix : goal.decreases-try_matrix
decreases-try_matrix l = 11 * (256 - l.c.depth) + 7

abbrev pub invariant-extend-items : goal.invariant-extend-items
invariant-extend-items l =
    Loop.Inv l.list.text.now l.list.tok.now l.list.n l.initial.work l.work l.until l.stop l.initial.first l.initial.sign l.initial.cur l.cur l.first l.some l.line l.sign

abbrev pub decreases-extend-items : goal.decreases-extend-items
decreases-extend-items l = l.list.n - l.cur.pos

abbrev pub invariant-more_rows-rows : goal.invariant-more_rows-rows
invariant-more_rows-rows l = Rows.Inv l.list.text.now l.list.tok.now l.list.n l.initial.work l.work l.cols l.round l.initial.cur l.cur l.more

abbrev pub decreases-more_rows-rows : goal.decreases-more_rows-rows
decreases-more_rows-rows l = l.list.n - l.cur.pos

abbrev pub invariant-row_cells-cells : goal.invariant-row_cells-cells
invariant-row_cells-cells l = Cells.Inv l.list.text.now l.list.tok.now l.list.n l.initial.work l.work l.initial.cur l.cur l.count l.kept

abbrev pub decreases-row_cells-cells : goal.decreases-row_cells-cells
decreases-row_cells-cells l = l.list.n - l.cur.pos
