-- The steps put together.
use Rattle.std.proofs.Common.{arith}
use Rattle.columns.proofs.Whole.{whole, fits_in, stand, split}
use Rattle.columns.proofs.Cleared.{end-within}
use Rattle.columns.proofs.split_cells.Goals as goal

pub returns-then-is_whole : goal.returns-then-is_whole
returns-then-is_whole c = let a = c.args in
    let all = whole a.text.now a.tree.now a.from a.end a.cells a.cols c.count_kept-kept.ensures c.is_whole.ensures c.if-is_whole.true in
    rw c.unsplit.ensures record { value = all.0; tree_after = all.1.0; end_bound = (end-within a.text.now a.tree.now a.from a.end a.cells a.cols c.requires all.0).1; tree_unchanged = all.1.1 }

pub keep_cells-run-requires : goal.keep_cells-run-requires
keep_cells-run-requires c = let a = c.args in
    stand a.text.now a.tree.now a.from a.end a.cells a.cols c.count_kept-kept.ensures c.is_whole.ensures c.if-is_whole.false

pub put_lines-out-requires-clause-cols_in_bounds : goal.put_lines-out-requires-clause-cols_in_bounds
put_lines-out-requires-clause-cols_in_bounds c = let a = c.args in
    omega (arith, fits_in a.text.now a.tree.now a.from a.end a.cells a.cols c.count_kept-kept.ensures c.is_whole.ensures c.if-is_whole.false)

pub put_lines-out-requires-clause-cols_bound : goal.put_lines-out-requires-clause-cols_bound
put_lines-out-requires-clause-cols_bound c = let a = c.args in
    (fits_in a.text.now a.tree.now a.from a.end a.cells a.cols c.count_kept-kept.ensures c.is_whole.ensures c.if-is_whole.false).1

pub returns : goal.returns
returns c = let a = c.args in
    let all = split a.text.now a.tree.now a.from a.end a.cells a.cols c.count_kept-kept.ensures c.is_whole.ensures c.if-is_whole.false c.keep_cells-run.ensures c.put_lines-out.ensures in
    record { value = all.0; tree_after = all.1.0; end_bound = (end-within a.text.now a.tree.now a.from a.end a.cells a.cols c.requires all.0).1; tree_unchanged = all.1.1 }
