-- The cells left in a row.
use mathlib.Core.Path.{◌∙◌}
use Rattle.mathml.proofs.Placing.{row-begins, row-goes_on}
use Rattle.mathml.proofs.part.row_left.Goals as goal

pub returns-then-i-eq0 : goal.returns-then-i-eq0
returns-then-i-eq0 c = c.columns.ensures ∙ row-begins _ _ _ c.if-i-eq0.true

pub returns : goal.returns
returns c = row-goes_on _ _ _ c.if-i-eq0.false
