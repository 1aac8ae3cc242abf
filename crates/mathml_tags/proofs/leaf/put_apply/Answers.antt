-- The sign of application.
use Rattle.writer.proofs.Puts.{put_as}
use Rattle.mathml_tags.proofs.Characters.{apply-one, apply-more}
use Rattle.mathml_tags.proofs.leaf.put_apply.Goals as goal

pub returns-then-name-eq1 : goal.returns-then-name-eq1
returns-then-name-eq1 c = put_as (apply-one c.args.name.now c.if-name-eq1.true) c.put_leaf.ensures

pub returns : goal.returns
returns c = put_as (apply-more c.args.name.now c.if-name-eq1.false) c.put_leaf-2.ensures
