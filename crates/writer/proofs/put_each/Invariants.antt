-- The bytes before this one are put.
use Rattle.std.proofs.Common.{take}
use Rattle.writer.specs.Put.{Put}
use Rattle.writer.proofs.put_each.Given as goal

abbrev pub invariant-loop-b : goal.invariant-loop-b
invariant-loop-b l = Put l.initial.out l.at l.out l.end (take l.b-index l.s)
