-- Test by test.
use Rattle.lexer.proofs.RuleCases.{point_past, point_none}
use Rattle.lexer.proofs.rules.past_point.Goals as goal

pub returns-then-text-at-eq46 : goal.returns-then-text-at-eq46
returns-then-text-at-eq46 c = point_past _ _ c.if-text-at-eq46.true

pub returns : goal.returns
returns c = point_none _ _ c.if-text-at-eq46.false
