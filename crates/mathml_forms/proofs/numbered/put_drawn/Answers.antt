use Rattle.mathml_rules.specs.Forms.{shown}
use Rattle.mathml_tags.proofs.Alike.{same-leaf}
use Rattle.mathml_forms.proofs.numbered.put_drawn.Goals as goal

pub returns : goal.returns
returns c = rw (same-leaf _ _ c.from.ensures.0 (shown c.args.s.now)) at c.put_drawn.ensures
