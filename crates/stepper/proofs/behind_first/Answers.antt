-- By how many wait.
use mathlib.Core.Path.{◌∙◌}
use native.Mathlib.Omega.{arith}
use Rattle.stepper.proofs.Queues.{behind-one, behind-two, behind-three}
use Rattle.stepper.proofs.behind_first.Goals as goal

pub returns-in-1 : goal.returns-in-1
returns-in-1 c = c.no_tokens.ensures ∙ behind-one _ c.in-1.is

pub returns-in-2 : goal.returns-in-2
returns-in-2 c = rw c.no_tokens-in-2.ensures (behind-two _ c.in-2.is)

pub returns-in_default : goal.returns-in_default
returns-in_default c = rw c.no_tokens-in_default.ensures (behind-three _ (omega arith))
