-- `fill`: the records of the first i tokens.
use Rattle.std.proofs.Common.{◌/◌, length}
use Rattle.entries.proofs.Filling.{Filling}
use Rattle.entries.proofs.fill.Given as goal

abbrev pub invariant-loop-i : goal.invariant-loop-i
invariant-loop-i l = Filling (length l.tokens / 3) l.tokens l.initial.work l.work l.n l.top l.i
