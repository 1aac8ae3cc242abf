-- The invariant: the lines before i are let pass.
use Rattle.mathml_commands.proofs.Boundaries.{Passed}
use Rattle.mathml_commands.proofs.refused.refuses_lines.Given as goal

abbrev pub invariant-loop-i : goal.invariant-loop-i
invariant-loop-i l = Passed l.cols l.lines l.highest l.i
