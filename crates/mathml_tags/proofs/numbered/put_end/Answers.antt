use Rattle.mathml_tags.proofs.Alike.{same-end}
use Rattle.mathml_tags.proofs.numbered.put_end.Goals as goal

pub returns : goal.returns
returns c = rw (same-end _ _ c.from.ensures.0) at c.put_end.ensures
