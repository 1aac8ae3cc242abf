-- The escapes of the bytes before this one are put.
use Rattle.std.proofs.Common.{take}
use Rattle.writer.specs.Put.{Put}
use Rattle.mathml_rules.specs.Pieces.{esc}
use Rattle.mathml_tags.proofs.escape.put_escaped.Given as goal

abbrev pub invariant-loop-b : goal.invariant-loop-b
invariant-loop-b l = Put l.initial.out l.at l.out l.end (esc (take l.b-index l.s))
