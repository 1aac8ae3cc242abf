-- Of the first cells those of kept columns stand together.
use Rattle.columns.proofs.Keeping.{Keeping}
use Rattle.columns.proofs.moves.keep_cells.Given as goal

abbrev pub invariant-loop : goal.invariant-loop
invariant-loop l = Keeping l.initial.tree l.from l.end l.cells l.cols l.tree l.at l.to l.count l.j l.counter
