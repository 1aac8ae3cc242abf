use Rattle.parse.proofs.Tops.{Round}
use Prim.Native.Nat.{◌-◌}
use Rattle.parse.proofs.top.read_items.Given as goal

abbrev pub invariant-all : goal.invariant-all
invariant-all l = Round l.list.text.now l.list.tok.now l.list.n l.initial.work l.work l.initial.tree l.tree l.cur l.end l.count l.first l.sign l.wraps l.last

abbrev pub decreases-all : goal.decreases-all
decreases-all l = l.list.n - l.cur.pos
