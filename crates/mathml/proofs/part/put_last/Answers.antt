-- What closes the node, and where it ends.
use Rattle.mathml.proofs.Placing.{last-put}
use Rattle.mathml.proofs.part.put_last.Goals as goal

pub returns : goal.returns
returns c = last-put c.no_more.ensures c.past.ensures c.put_closing-end.ensures
