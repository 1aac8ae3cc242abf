-- `mark_pairs`: its letter is never below a.
use Prim.Native.Nat.{◌≤◌}
use Rattle.read_brackets.proofs.mark_pairs.Given as goal

abbrev pub invariant-loop-opener : goal.invariant-loop-opener
invariant-loop-opener l = 97 ≤ l.letter
