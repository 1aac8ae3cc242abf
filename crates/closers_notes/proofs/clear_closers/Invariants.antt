-- `clear_closers`: one entry after the other.
use Rattle.std.proofs.Common.{◌-◌, ◌≡◌}
use Rattle.closers_notes.specs.Notes.{cleared}
use Rattle.closers_notes.proofs.clear_closers.Given as goal

abbrev pub invariant-loop-i : goal.invariant-loop-i
invariant-loop-i l = cleared (l.to - l.i) l.i l.work ≡ cleared (l.to - l.from) l.from l.initial.work
