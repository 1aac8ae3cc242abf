-- Escapes are put one behind the other.
use Rattle.std.proofs.Common.{ap, add-one, arith}
use Rattle.std.proofs.lemmas.List.{take_all}
use Rattle.writer.proofs.Puts.{none, then, put_as}
use Rattle.mathml_rules.specs.Pieces.{esc}
use Rattle.mathml_tags.proofs.Escaping.{esc-none, esc-take}
use Rattle.mathml_tags.proofs.escape.put_escaped.Goals as goal

pub loop-b-init : goal.loop-b-init
loop-b-init c = put_as esc-none (none _ _ (omega arith) (omega arith))

pub loop-b-preserved : goal.loop-b-preserved
loop-b-preserved c = rw add-one (put_as (esc-take c.args.s.now c.loop-b.b-index (omega arith)) (then c.loop-b.invariant c.put_escape-end.ensures))

pub shape_of-out : goal.shape_of-out
shape_of-out c = c.loop-b.invariant.same

pub returns : goal.returns
returns c = put_as (ap esc (take_all c.loop-b.b-index c.args.s.now (omega arith))) c.loop-b.invariant
