-- The flags of the first cells.
use Rattle.columns.proofs.Marks.{Marking}
use Rattle.columns.proofs.flags.mark_columns.Given as goal

abbrev pub invariant-loop : goal.invariant-loop
invariant-loop l = Marking l.text l.initial.tree l.from l.end l.cells l.cols l.tree l.at l.j l.counter
