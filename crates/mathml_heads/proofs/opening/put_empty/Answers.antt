-- An element with nothing in it.
use Rattle.mathml_heads.proofs.Runs.{empty}
use Rattle.mathml_heads.proofs.opening.put_empty.Goals as goal

pub returns : goal.returns
returns c = empty _ c.put_start-end.ensures c.put_end.ensures
