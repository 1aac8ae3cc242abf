-- `put_closers`: one word after the other.
use Rattle.std.proofs.Common.{ℕ, ◌-◌, ◌<◌, ◌≡◌, get_or}
use Rattle.records.specs.Record.{closer_of}
use Rattle.closers_notes.proofs.put_closers.Given as goal

abbrev pub invariant-loop-i : goal.invariant-loop-i
invariant-loop-i l = (j : ℕ) → j < l.i → get_or l.word-items j 0 ≡ l.n - closer_of l.work j
