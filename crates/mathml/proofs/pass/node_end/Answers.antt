-- Where a node ends.
use Rattle.mathml.proofs.Passing.{ends}
use Rattle.mathml.proofs.pass.node_end.Goals as goal

pub returns : goal.returns
returns c = ends _ _ _ c.pass_row.ensures
