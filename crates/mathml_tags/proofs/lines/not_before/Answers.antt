-- Lines are passed over.
use Rattle.std.proofs.Common.{sym, ◌∙◌, add-one, arith}
use Rattle.mathml_tags.proofs.Columns.{before-none, before_here, before-next}
use Rattle.mathml_tags.proofs.lines.not_before.Goals as goal

pub returns-then-line-j : goal.returns-then-line-j
returns-then-line-j c = before_here c.args.lines.now c.args.j c.loop-i.i (omega arith) c.if-line-j.true ∙ sym c.loop-i.invariant

pub loop-i-preserved : goal.loop-i-preserved
loop-i-preserved c = rw add-one (c.loop-i.invariant ∙ before-next c.args.lines.now c.args.j c.loop-i.i (omega arith) c.if-line-j.false)

pub returns : goal.returns
returns c = before-none c.args.lines.now c.args.j c.loop-i.i (omega arith) ∙ sym c.loop-i.invariant
