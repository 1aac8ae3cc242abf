-- What stands before a child.
use native.Mathlib.Omega.{arith}
use Rattle.mathml_rules.specs.declared.Mode.TheVariants as mode
use Rattle.writer.proofs.Puts.{none, put_as}
use Rattle.mathml_heads.proofs.Belows.{before-func, before-cell, before-other}
use Rattle.mathml_heads.proofs.node.Node.put_before.Goals as goal

pub returns-in-14 : goal.returns-in-14
returns-in-14 c = put_as (before-func _ _ _ _ mode.Keep _ c.left_text.ensures _ c.word.ensures c.in-14.is) c.put_between_func.ensures

pub returns-in-16 : goal.returns-in-16
returns-in-16 c = put_as (before-cell _ _ _ _ mode.Keep _ _ c.in-16.is) c.put_between_rows.ensures

pub returns-in_default : goal.returns-in_default
returns-in_default c = let r = c.in_default.in_default-own.rest in put_as (before-other _ _ _ _ mode.Keep _ _ r.0.1 r.1) (none _ _ (omega arith) (omega arith))
