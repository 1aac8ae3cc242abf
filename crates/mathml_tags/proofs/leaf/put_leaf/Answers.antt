-- Start tag, characters, end tag.
use Rattle.writer.proofs.Puts.{then, put_as}
use Rattle.mathml_tags.proofs.Characters.{leaf-is}
use Rattle.mathml_tags.proofs.leaf.put_leaf.Goals as goal

pub returns : goal.returns
returns c =
    let a = c.args in
    put_as (leaf-is _ a.s.now) (then c.put_start-a.ensures (then c.put_escaped-b.ensures c.put_end.ensures))
