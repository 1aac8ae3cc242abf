-- The mode of a unary command's argument.
use mathlib.Core.Path.{sym, ◌∙◌}
use Rattle.mathml_heads.proofs.Parts.{text-argument, other-argument}
use Rattle.mathml_heads.proofs.below.text_mode.Goals as goal

pub returns-then-is_text : goal.returns-then-is_text
returns-then-is_text c = text-argument _ (sym c.is_text.ensures ∙ c.if-is_text.true)

pub returns-else-is_text : goal.returns-else-is_text
returns-else-is_text c = other-argument _ (sym c.is_text.ensures ∙ c.if-is_text.false)
