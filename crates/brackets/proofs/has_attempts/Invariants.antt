-- `has_attempts`: entry after entry, up to the first.
use Rattle.std.proofs.Common.{◌-◌, ◌≡◌}
use Rattle.brackets.specs.Brackets.{attempts_from, has_attempts}
use Rattle.brackets.proofs.has_attempts.Given as goal

abbrev pub invariant-loop-i : goal.invariant-loop-i
invariant-loop-i l = attempts_from l.list.text.now l.list.tok.now l.work l.list.n l.i (l.list.n - l.i) ≡ has_attempts l.list.text.now l.list.tok.now l.work l.list.n
