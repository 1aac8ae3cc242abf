-- The lines are looked through.
use Rattle.std.proofs.Common.{◌∙◌}
use Rattle.mathml_commands.proofs.Boundaries.{any-has}
use Rattle.mathml_commands.proofs.refused.has_line.Goals as goal

pub returns : goal.returns
returns c = c.contains.ensures.value ∙ any-has _ _
