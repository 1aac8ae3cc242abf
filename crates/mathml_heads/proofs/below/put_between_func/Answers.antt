-- Before a function's argument.
use native.Mathlib.Omega.{arith}
use mathlib.Core.Path.{sym, ◌∙◌}
use Rattle.writer.proofs.Puts.{none, put_as}
use Rattle.mathml_heads.proofs.Parts.{between-here, between_none}
use Rattle.mathml_heads.proofs.Runs.{then-written, pieces_as}
use Rattle.mathml_heads.proofs.below.put_between_func.Goals as goal

pub returns-then-i-arguments_of : goal.returns-then-i-arguments_of
returns-then-i-arguments_of c = pieces_as (between-here _ _ _ (c.if-i-arguments_of.true ∙ c.arguments_of.ensures)) (then-written _ _ c.put_finish_script-end.ensures c.put_apply.ensures)

pub returns : goal.returns
returns c = put_as (between_none _ _ _ (λ z. c.if-i-arguments_of.false (z ∙ sym c.arguments_of.ensures))) (none _ _ (omega arith) (omega arith))
