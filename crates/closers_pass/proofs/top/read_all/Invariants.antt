-- `read_all`: round by round.
use Rattle.closers_pass.proofs.Tops.{Round}
use Prim.Native.Nat.{◌-◌}
use Rattle.closers_pass.proofs.top.read_all.Given as goal

abbrev pub invariant-all : goal.invariant-all
invariant-all l = Round l.list.text.now l.list.tok.now l.list.n l.initial.work l.work l.cur l.first l.sign l.wraps

abbrev pub decreases-all : goal.decreases-all
decreases-all l = l.list.n - l.cur.pos
