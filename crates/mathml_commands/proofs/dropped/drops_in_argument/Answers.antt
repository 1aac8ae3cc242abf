-- The pairs one by one.
use Rattle.mathml_commands.proofs.Pairs.{argument-round, argument-curly, argument-other}
use Rattle.mathml_commands.proofs.dropped.drops_in_argument.Goals as goal

pub returns-in-40 : goal.returns-in-40
returns-in-40 c = argument-round _ _ c.in-40.is

pub returns-in-123 : goal.returns-in-123
returns-in-123 c = argument-curly _ _ c.in-123.is

pub returns-in_default : goal.returns-in_default
returns-in_default c = let r = c.in_default.in_default-own.rest in argument-other _ c.args.r r.0.1 r.1
