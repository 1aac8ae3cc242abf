-- Bytes are put one behind the other.
use Rattle.std.proofs.Common.{add-one, arith}
use Rattle.std.proofs.Math.Seq.{take-suc}
use Rattle.std.proofs.lemmas.List.{take_all}
use Rattle.writer.proofs.Puts.{none, then}
use Rattle.writer.proofs.put_each.Goals as goal

pub loop-b-init : goal.loop-b-init
loop-b-init c = none _ _ (omega arith) (omega arith)

pub loop-b-preserved : goal.loop-b-preserved
loop-b-preserved c =
    rw (add-one, take-suc c.args.s.now c.loop-b.b-index 0 (omega arith)) (then c.loop-b.invariant c.put_byte-end.ensures)

pub shape_of-out : goal.shape_of-out
shape_of-out c = c.loop-b.invariant.same

pub returns : goal.returns
returns c = rw (take_all c.loop-b.b-index c.args.s.now (omega arith)) at c.loop-b.invariant
