-- With a point and without one.
use mathlib.Core.Path.{◌∙◌}
use Rattle.lexer.proofs.RuleCases.{number-point, number-plain, number_past}
use Rattle.lexer.proofs.rules.number_end.Goals as goal
use Rattle.lexer.proofs.rules.number_end.Goals.{else-p-text-via-then-p-text+else-text-p-eq46, else-p-text-via-else-p-text}

pub returns-then-text-p-eq46 : goal.returns-then-text-p-eq46
returns-then-text-p-eq46 c = c.digits_end.ensures ∙ number-point _ _ _ c.digits_end-p.ensures c.if-text-p-eq46.true

pub returns : goal.returns
returns c =
    elim c.else-p-text.branch [
      | else-p-text-via-then-p-text+else-text-p-eq46 w ↦ number-plain _ _ _ c.digits_end-p.ensures w.if-text-p-eq46.false
      | else-p-text-via-else-p-text w ↦ number_past _ _ _ c.digits_end-p.ensures w.if-p-text.false
    ]
