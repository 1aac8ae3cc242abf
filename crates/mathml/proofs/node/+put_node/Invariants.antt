-- The measure is what is left of the words; the loop's, the turns that are left.
use Prim.Native.Nat.{◌-◌}
use lib.ListN.{length}
use Rattle.mathml.specs.Walks.{count_at}
use Rattle.mathml.proofs.Writing.{Midway}
use Rattle.mathml.proofs.node.+put_node.Given as goal

abbrev pub decreases-put_node : goal.decreases-put_node
decreases-put_node l = length l.source.now.words.now - l.at

abbrev pub invariant-all : goal.invariant-all
invariant-all l = Midway l.source.words.now l.source.text.now l.initial.out l.at l.items l.place l.m l.out l.next l.end l.left l.i

abbrev pub decreases-all : goal.decreases-all
decreases-all l = count_at l.source.words.now l.at l.items - l.i
