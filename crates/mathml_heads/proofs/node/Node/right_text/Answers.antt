-- The right span.
use mathlib.Core.Path.{◌∙◌}
use Rattle.mathml_rules.specs.Mathml.{own}
use Rattle.mathml_heads.proofs.node.Node.right_text.Goals as goal

pub returns : goal.returns
unfolding own
returns c = c.span_text.ensures ∙ rw (c.word.ensures, c.word-2.ensures)
