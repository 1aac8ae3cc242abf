-- The element of a script.
use native.Mathlib.Omega.{arith}
use Rattle.writer.proofs.Puts.{none, put_as}
use Rattle.mathml_heads.proofs.Parts.{finish-sub, finish-super, finish-both, finish-none}
use Rattle.mathml_heads.proofs.script.put_finish_script.Goals as goal

pub returns-in-1 : goal.returns-in-1
returns-in-1 c = put_as (finish-sub _ c.in-1.is) c.put_end.ensures

pub returns-in-2 : goal.returns-in-2
returns-in-2 c = put_as (finish-super _ c.in-2.is) c.put_end-in-2.ensures

pub returns-in-3 : goal.returns-in-3
returns-in-3 c = put_as (finish-both _ c.in-3.is) c.put_end-in-3.ensures

pub returns-in_default : goal.returns-in_default
returns-in_default c = let r = c.in_default.in_default-own.rest in put_as (finish-none _ r.0.0.1 r.0.1 r.1) (none _ _ (omega arith) (omega arith))
