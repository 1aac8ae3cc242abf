-- What a group adds.
use Rattle.writer.proofs.Puts.{then}
use Rattle.line.specs.Lines.{group_of}
use Rattle.line.proofs.put_group.Goals as goal

pub returns : goal.returns
unfolding group_of
returns c = then c.put_right-end.ensures c.put_items.ensures
