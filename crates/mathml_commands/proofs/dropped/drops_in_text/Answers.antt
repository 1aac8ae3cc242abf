-- One pair more than in an argument.
use Rattle.mathml_commands.proofs.Pairs.{text-square, text-other}
use Rattle.mathml_commands.proofs.dropped.drops_in_text.Goals as goal

pub returns-in-91 : goal.returns-in-91
returns-in-91 c = text-square _ _ c.in-91.is

pub returns-in_default : goal.returns-in_default
returns-in_default c = text-other _ _ c.in_default.in_default-own.rest.1 _ c.drops_in_argument.ensures
