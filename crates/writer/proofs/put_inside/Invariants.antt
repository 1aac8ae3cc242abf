-- The bytes before i are put.
use Rattle.std.proofs.Common.{◌+◌, take}
use Rattle.writer.specs.Put.{Put}
use Rattle.writer.proofs.put_inside.Given as goal

abbrev pub invariant-loop-i : goal.invariant-loop-i
invariant-loop-i l = Put l.initial.out l.at l.out (l.at + l.i) (take l.i l.s)
