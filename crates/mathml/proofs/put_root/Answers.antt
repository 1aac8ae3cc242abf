-- The tags of the root around its items.
use Rattle.mathml.proofs.Items.{rooted}
use Rattle.mathml.proofs.put_root.Goals as goal

pub returns : goal.returns
returns c = rooted c.put_start-begun.ensures c.put_items-end.ensures c.put_end.ensures
