-- `plain::plain_item`: the words of the item, and where its readers would stand.
use Rattle.parse.proofs.Alone.{plain-tree, plain-answer}
use Rattle.parse.proofs.plain.plain_item.Goals as goal

pub returns : goal.returns
returns c = (record { value = plain-answer c.args.list.now.n c.args.c _ _ _ _ c.args.e _ _ _ c.look.ensures c.next.ensures c.look-2.ensures c.look-3.ensures c.leaf_ends.ensures c.kind_at-k.ensures; tree_after = plain-tree c.args.list.now.tok.now c.args.work.now c.args.tree.now c.args.e c.args.c.pos c.kind_at-k.ensures c.requires.e_in_bounds c.put_plain.ensures })
