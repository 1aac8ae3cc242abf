-- `note_closer`: of a larger number as many of its low bits.
use Rattle.std.proofs.Common.{◌∙◌}
use Rattle.stores.proofs.Stores.{closer-low}
use Rattle.closers_notes.proofs.note_closer.Goals as goal

pub returns : goal.returns
returns c = let a = c.args in rw (← c.saturating_sub.ensures) (c.set_closer.ensures ∙ closer-low a.work.now a.i c.saturating_sub.result)
