-- Start tag, what the text is shown as, end tag.
use Rattle.writer.proofs.Puts.{then, put_as}
use Rattle.mathml_tags.proofs.Characters.{leaf-is}
use Rattle.mathml_forms.proofs.shown.put_drawn.Goals as goal

pub returns : goal.returns
returns c = put_as (leaf-is _ _) (then c.put_start-a.ensures (then c.put_shown-b.ensures c.put_end.ensures))
