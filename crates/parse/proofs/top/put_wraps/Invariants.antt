use Rattle.parse.proofs.Wrapping.{Putting}
use Rattle.parse.proofs.top.put_wraps.Given as goal

abbrev pub invariant-loop-k : goal.invariant-loop-k
invariant-loop-k l = Putting l.list.tok.now l.work l.list.n l.wraps l.last l.initial.tree l.tree l.i l.k
