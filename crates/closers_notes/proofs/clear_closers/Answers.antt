-- `clear_closers`: one entry after the other.
use Rattle.std.proofs.Common.{◌∙◌, arith}
use Rattle.closers_notes.proofs.Notes.{cleared-next, cleared-end}
use Rattle.closers_notes.proofs.clear_closers.Goals as goal

pub loop-i-preserved : goal.loop-i-preserved
loop-i-preserved c = rw c.set_closer.ensures (cleared-next _ c.loop-i.i c.loop-i.work (omega arith) ∙ c.loop-i.invariant)

pub returns : goal.returns
returns c = cleared-end _ _ _ (omega arith) ∙ c.loop-i.invariant
