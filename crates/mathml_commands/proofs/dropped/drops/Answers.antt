-- Brackets of one byte are compared; no other is dropped.
use Rattle.mathml_rules.specs.Mathml.{dropped}
use Rattle.mathml_commands.proofs.Pairs.{left-long, right-long, both_one}
use Rattle.std.proofs.Common.{rules}
use Rattle.mathml_commands.proofs.dropped.drops.Goals as goal

pub returns-then-left-ne1 : goal.returns-then-left-ne1
returns-then-left-ne1 c = left-long _ _ _ c.if-left-ne1.true

pub returns-then-right-ne1 : goal.returns-then-right-ne1
returns-then-right-ne1 c = right-long _ _ _ c.if-right-ne1.true

pub returns-in-Keep : goal.returns-in-Keep
unfolding dropped
returns-in-Keep c = search rules

pub returns-in-Argument : goal.returns-in-Argument
returns-in-Argument c = both_one _ _ _ c.if-left-ne1.false c.if-right-ne1.false _ _ c.in-Argument.is c.drops_in_argument.ensures

pub returns-in-Text : goal.returns-in-Text
returns-in-Text c = both_one _ _ _ c.if-left-ne1.false c.if-right-ne1.false _ _ c.in-Text.is c.drops_in_text.ensures
