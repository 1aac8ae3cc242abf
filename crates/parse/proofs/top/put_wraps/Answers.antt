use Rattle.parse.proofs.Wrapping.{putting-none, putting-more, putting-all, next-wrap}
use Rattle.parse.proofs.top.put_wraps.Goals as goal

pub loop-k-init : goal.loop-k-init
loop-k-init c = putting-none c.args.list.now.tok.now c.args.work.now c.args.list.now.n c.args.wraps c.args.last c.args.tree.now

pub put_wrap-requires-clause-placed : goal.put_wrap-requires-clause-placed
put_wrap-requires-clause-placed c = let q = next-wrap c.loop-k.invariant c.loop-k-test.true c.requires.noted in c.requires.noted.placed c.loop-k.i q.small

pub loop-k-preserved : goal.loop-k-preserved
loop-k-preserved c = putting-more c.loop-k.invariant c.loop-k-test.true c.put_wrap.ensures c.after_close-i.ensures

pub returns : goal.returns
returns c = λ p. putting-all c.loop-k.invariant c.loop-k-test.false p
