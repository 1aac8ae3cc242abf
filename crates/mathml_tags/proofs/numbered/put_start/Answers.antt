use mathlib.Core.List.{[]}
use Rattle.mathml_tags.proofs.Alike.{same-start}
use Rattle.mathml_tags.proofs.numbered.put_start.Goals as goal

pub returns : goal.returns
returns c = rw (same-start _ _ c.from.ensures.0 []) at c.put_start.ensures
