-- `write::put_space`: there is room.
use Rattle.parse.proofs.Gaps.{gap-none, gap-some}
use Rattle.parse.proofs.write.put_space.Goals as goal

pub returns-then-put_space : goal.returns-then-put_space
returns-then-put_space c = gap-some c.args.list.now.tok.now c.args.work.now c.args.list.now.n c.args.first c.args.i c.put_space.ensures.value c.put_space.ensures.tree_after c.if-put_space.true c.requires

pub returns-else-put_space : goal.returns-else-put_space
returns-else-put_space c = gap-none c.args.list.now.tok.now c.args.work.now c.args.list.now.n c.args.first c.args.i c.put_space.ensures.value c.put_space.ensures.tree_after c.if-put_space.false
