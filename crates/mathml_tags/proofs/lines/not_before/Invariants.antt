-- The lines before this one are before the boundary.
use Rattle.std.proofs.Common.{◌≡◌, drop}
use Rattle.mathml_rules.specs.Parts.{not_before}
use Rattle.mathml_tags.proofs.lines.not_before.Given as goal

abbrev pub invariant-loop-i : goal.invariant-loop-i
invariant-loop-i l = not_before l.j l.lines ≡ not_before l.j (drop l.i l.lines)
