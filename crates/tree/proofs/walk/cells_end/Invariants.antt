-- A cell takes its head and as many words as that says. The invariant: the cells left end where all of them do.
use Rattle.std.proofs.Common.{◌≡◌, ◌-◌}
use Rattle.tree.specs.Walk.{cells_end}
use Rattle.tree.proofs.walk.cells_end.Given as goal

abbrev pub invariant-loop : goal.invariant-loop
invariant-loop l = cells_end l.words (l.count - l.counter) l.at ≡ cells_end l.words l.count l.from
