-- The measure is what is left of the words.
use Prim.Native.Nat.{◌-◌}
use lib.ListN.{length}
use Rattle.mathml.proofs.Passing.{Midway}
use Rattle.mathml.proofs.pass.+pass_row.Given as goal

abbrev pub decreases-pass_row : goal.decreases-pass_row
decreases-pass_row l = length l.words.now - l.from

abbrev pub invariant-all : goal.invariant-all
invariant-all l = Midway l.words l.text l.from l.count l.items l.at (l.count - l.i) l.refused
