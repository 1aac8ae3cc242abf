-- The boundaries of the first k columns are written.
use Rattle.columns.proofs.Boundaries.{Putting}
use Rattle.columns.proofs.flags.put_lines.Given as goal

abbrev pub invariant-loop-k : goal.invariant-loop-k
invariant-loop-k l = Putting l.initial.tree l.to l.end l.cols l.tree l.out l.boundary l.k
