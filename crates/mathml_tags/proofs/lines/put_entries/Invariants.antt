-- What is put, with the entries that are left, is all of them.
use Rattle.std.proofs.Common.{◌≡◌, ◌-◌, ℕ, List, ◌++◌}
use Rattle.writer.specs.Put.{Put}
use Rattle.mathml_rules.specs.Parts.{entries_from}
use Rattle.mathml_tags.proofs.lines.put_entries.Given as goal

abbrev pub invariant-loop-j : goal.invariant-loop-j
invariant-loop-j l =
    (done : List ℕ) × (Put l.initial.out l.at l.out l.end done × (done ++ entries_from l.j (l.cols - l.j) l.rest ≡ entries_from 2 (l.cols - 2) l.lines))
