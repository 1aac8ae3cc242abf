-- The key is made from the last byte to the first: it is the key of the bytes behind those that are left.
use Rattle.mathml_forms.proofs.Keys.{Keyed}
use Rattle.mathml_forms.proofs.key.key_of.Given as goal

abbrev pub invariant-loop-i : goal.invariant-loop-i
invariant-loop-i l = Keyed l.s l.i l.key
