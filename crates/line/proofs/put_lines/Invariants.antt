-- The numbers before this one are put, each behind a comma.
use Rattle.std.proofs.Common.{take, drop}
use Rattle.writer.specs.Put.{Put}
use Rattle.line.specs.Print.{more}
use Rattle.line.proofs.put_lines.Given as goal

abbrev pub invariant-loop-line : goal.invariant-loop-line
invariant-loop-line l = Put l.initial.out l.initial.end l.out l.end (more (take l.line-index (drop 1 l.lines)))
