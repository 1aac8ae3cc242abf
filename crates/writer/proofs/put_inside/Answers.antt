-- Bytes that have room are put one behind the other.
use Rattle.std.proofs.Common.{arith, add-zero}
use Rattle.std.proofs.lemmas.List.{take_all}
use Rattle.writer.proofs.Puts.{none, inside_on, put-to}
use Rattle.writer.proofs.put_inside.Goals as goal

pub loop-i-init : goal.loop-i-init
loop-i-init c = rw add-zero (none _ _ (omega arith) (omega arith))

pub bounds-out-at : goal.bounds-out-at
bounds-out-at c = omega (arith, c.loop-i.invariant.same, c.requires)

pub loop-i-preserved : goal.loop-i-preserved
loop-i-preserved c = let a = c.args in inside_on _ _ a.s.now a.at _ c.loop-i-test.true c.requires c.loop-i.invariant

pub shape_of-out : goal.shape_of-out
shape_of-out c = c.loop-i.invariant.same

pub returns : goal.returns
returns c =
    let p = rw (take_all c.loop-i.i c.args.s.now (omega arith)) at c.loop-i.invariant in
    put-to (omega arith) p
