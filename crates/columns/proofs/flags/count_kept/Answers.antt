-- The cells, then the count.
use native.Mathlib.Omega.{arith}
use Rattle.std.proofs.Common.{count_by, ◌==◌, ap, ◌∙◌}
use Rattle.columns.proofs.Boundaries.{kept_bits}
use lib.ListN.{length}
use Rattle.columns.proofs.Shape.{room-parts}
use Rattle.columns.proofs.Whole.{count-not, count-some}
use Rattle.columns.proofs.flags.count_kept.Goals as goal

pub mark_columns-requires : goal.mark_columns-requires
mark_columns-requires c = let r = room-parts (length c.args.tree.now) c.args.end c.args.cols c.requires in (record { cols_nonzero = r.0; cols_in_bounds = r.2 })

pub kept_columns-requires : goal.kept_columns-requires
kept_columns-requires c = let r = room-parts (length c.args.tree.now) c.args.end c.args.cols c.requires in omega (arith, r.2, c.mark_columns.ensures.beside.long)

pub shape_of-tree-then-mark_columns : goal.shape_of-tree-then-mark_columns
shape_of-tree-then-mark_columns c = c.mark_columns.ensures.beside.long

pub returns-then-mark_columns : goal.returns-then-mark_columns
returns-then-mark_columns c = count-some c.args.text.now c.args.tree.now c.args.from c.args.end c.args.cells c.args.cols c.requires c.mark_columns.ensures c.if-mark_columns.true (λ m p. c.kept_columns.ensures ∙ ap (count_by (λ flag. flag == 0)) p ∙ kept_bits m)

pub shape_of-tree-else-mark_columns : goal.shape_of-tree-else-mark_columns
shape_of-tree-else-mark_columns c = c.mark_columns.ensures.beside.long

pub returns-else-mark_columns : goal.returns-else-mark_columns
returns-else-mark_columns c = count-not c.args.text.now c.args.tree.now c.args.from c.args.end c.args.cells c.args.cols c.requires c.mark_columns.ensures c.if-mark_columns.false
