-- The mode of a simple's child.
use mathlib.Core.Path.{sym, ◌∙◌}
use Rattle.mathml_heads.proofs.Parts.{simple-alone, simple-base, simple-argument}
use Rattle.mathml_heads.proofs.below.simple_mode.Goals as goal

pub returns-then-arguments_of-eq0 : goal.returns-then-arguments_of-eq0
returns-then-arguments_of-eq0 c = simple-alone _ _ _ (sym c.arguments_of.ensures ∙ c.if-arguments_of-eq0.true)

pub returns-then-i-eq0 : goal.returns-then-i-eq0
returns-then-i-eq0 c = simple-base _ _ _ (λ z. c.if-arguments_of-eq0.false (c.arguments_of.ensures ∙ z)) c.if-i-eq0.true

pub returns-else-i-eq0 : goal.returns-else-i-eq0
returns-else-i-eq0 c = simple-argument _ _ _ (λ z. c.if-arguments_of-eq0.false (c.arguments_of.ensures ∙ z)) c.if-i-eq0.false
