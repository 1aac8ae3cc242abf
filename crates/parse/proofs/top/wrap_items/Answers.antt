use Rattle.parse.proofs.Wrapping.{moved_on, wrapped-none, wrapped-all}
use Rattle.parse.proofs.top.wrap_items.Goals as goal

pub returns-then-wraps-eq0 : goal.returns-then-wraps-eq0
returns-then-wraps-eq0 c = λ p. wrapped-none c.args.tree.now c.args.end c.if-wraps-eq0.true p

pub returns : goal.returns
returns c = λ p. wrapped-all c.args.tree.now c.args.end (moved_on c.args.tree.now c.args.end _ c.shift.ensures c.requires.wraps_in_bounds) c.shift.auto.tree c.requires.wraps_in_bounds p (c.put_wraps.ensures p)
