use Rattle.mathml_tags.proofs.Alike.{same-leaf}
use Rattle.mathml_tags.proofs.numbered.put_leaf.Goals as goal

pub returns : goal.returns
returns c = rw (same-leaf _ _ c.from.ensures.0 c.args.s.now) at c.put_leaf.ensures
