-- The items of the root, one after the other.
use Rattle.std.proofs.Common.{◌-◌}
use Rattle.mathml.proofs.Items.{Midway}
use Rattle.mathml.proofs.put_items.Given as goal

abbrev pub invariant-loop : goal.invariant-loop
invariant-loop l = Midway l.source.words.now l.source.text.now l.initial.out l.place l.items l.out l.at l.end (l.items - l.counter)
