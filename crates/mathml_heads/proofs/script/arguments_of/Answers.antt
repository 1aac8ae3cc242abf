-- How many arguments a script has.
use Rattle.std.proofs.Common.{arith}
use Rattle.mathml_rules.specs.Mathml.{arguments}
use Rattle.mathml_heads.proofs.Parts.{one-argument, no_arguments}
use Rattle.mathml_heads.proofs.script.arguments_of.Goals as goal

pub returns-in-1 : goal.returns-in-1
returns-in-1 c = one-argument _ (λ m n. grind arith)

pub returns-in-3 : goal.returns-in-3
unfolding arguments
returns-in-3 c = rw c.in-3.is

pub returns-in_default : goal.returns-in_default
returns-in_default c = no_arguments _ (λ e. grind arith) (λ e. grind arith) (λ e. grind arith)

pub returns-in_default-2 : goal.returns-in_default-2
returns-in_default-2 c = no_arguments _ (λ e. grind arith) (λ e. grind arith) (λ e. grind arith)
