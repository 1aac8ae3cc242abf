-- `clear_open`: the brackets still open are cleared, one after the other.
use Prim.Native.Nat.{ℕ}
use mathlib.Core.Path.{◌≡◌}
use mathlib.Core.List.{List}
use lib.ListN.{length}
use Rattle.records.specs.Record.{after_close}
use Rattle.entries.specs.Open.{Chain}
use Rattle.entries.proofs.Clearing.{Clearing}
use Rattle.entries.proofs.clear_open.Given as goal

abbrev pub invariant-loop-bracket : goal.invariant-loop-bracket
invariant-loop-bracket l = (length l.work ≡ length l.initial.work) × ((st : List ℕ) → Chain (after_close l.initial.work) l.last st l.last → Clearing l.initial.work st l.work l.top l.last)

abbrev pub decreases-loop-bracket : goal.decreases-loop-bracket
decreases-loop-bracket l = l.top
