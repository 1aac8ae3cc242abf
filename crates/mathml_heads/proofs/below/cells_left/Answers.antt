-- The cells left in a row.
use Rattle.std.proofs.Common.{◌∙◌}
use Rattle.mathml_heads.proofs.Belows.{row_on, row_new}
use Rattle.mathml_heads.proofs.below.cells_left.Goals as goal

pub returns-then-left-gt0 : goal.returns-then-left-gt0
returns-then-left-gt0 c = row_on c.args.cols c.args.left c.if-left-gt0.true

pub returns-else-left-gt0 : goal.returns-else-left-gt0
returns-else-left-gt0 c = c.saturating_sub.ensures ∙ row_new c.args.cols c.args.left c.if-left-gt0.false
