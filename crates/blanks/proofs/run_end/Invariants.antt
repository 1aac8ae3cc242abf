-- What is left of the run ends where the whole does.
use Rattle.std.proofs.Common.{◌≡◌}
use Rattle.lexing.specs.Rules.{run_end}
use Rattle.blanks.proofs.run_end.Given as goal

abbrev pub invariant-loop-i : goal.invariant-loop-i
invariant-loop-i g l = run_end (g.T.ByteTest.passed l.test) l.text l.at ≡ run_end (g.T.ByteTest.passed l.test) l.text l.i
