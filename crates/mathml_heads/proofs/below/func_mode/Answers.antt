-- The mode of a function's child.
use native.Mathlib.Omega.{arith}
use Rattle.mathml_heads.proofs.Parts.{script-argument, func-argument}
use Rattle.mathml_heads.proofs.below.func_mode.Goals as goal

pub returns-then-i-arguments_of : goal.returns-then-i-arguments_of
returns-then-i-arguments_of c = script-argument _ _ (omega (arith, c.arguments_of.ensures, c.if-i-arguments_of.true))

pub returns-else-i-arguments_of : goal.returns-else-i-arguments_of
returns-else-i-arguments_of c = func-argument _ _ (omega (arith, c.arguments_of.ensures, c.if-i-arguments_of.false))
