-- The measure is the word.
use Rattle.mathml_forms.proofs.shown.+put_packed.Given as goal

abbrev pub decreases-put_packed : goal.decreases-put_packed
decreases-put_packed l = l.word
