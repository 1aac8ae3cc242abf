-- The three bytes that XML has, and the others.
use native.Mathlib.Omega.{arith}
use Rattle.tokens.proofs.Cases.{by_eq}
use Rattle.mathml_commands.proofs.Compared.{control-tab, control-feed, control-return, control-other}
use Rattle.mathml_commands.proofs.refused.is_control.Goals.{in_default-via-then-c-lt9, in_default-via-else-c-lt9+else-c-lt11}
use Rattle.mathml_commands.proofs.refused.is_control.Goals as goal

pub returns-in_default : goal.returns-in_default
returns-in_default c =
    elim c.in_default.branch [
      | in_default-via-then-c-lt9 w ↦ control-other c.args.c (λ e. absurd (omega arith)) (λ e. absurd (omega arith)) (λ e. absurd (omega arith))
      | in_default-via-else-c-lt9+else-c-lt11 w ↦ control-other c.args.c (λ e. absurd (omega arith)) (λ e. absurd (omega arith)) (λ e. absurd (omega arith))
    ]

pub returns-in-9 : goal.returns-in-9
returns-in-9 c = control-return _ c.in-9.is

pub returns-in-9-2 : goal.returns-in-9-2
returns-in-9-2 c =
    let x = c.args.c in
    by_eq x 9 (λ e. control-tab x e) (λ n. control-feed x (omega arith))
