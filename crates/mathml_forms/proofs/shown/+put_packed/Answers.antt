-- The front bytes of a word are put, then its last one. The measure is the word.
use native.Mathlib.Omega.{arith}
use Rattle.writer.proofs.Puts.{none, then, put_as}
use Rattle.mathml_forms.proofs.Unpacks.{esc-none, esc-last}
use Rattle.mathml_forms.proofs.shown.+put_packed.Goals as goal

pub returns-then-word-lt256 : goal.returns-then-word-lt256
returns-then-word-lt256 t c = put_as (esc-none _ (omega arith)) (none _ _ (omega arith) (omega arith))

pub returns-else-word-lt256 : goal.returns-else-word-lt256
returns-else-word-lt256 t c = put_as (esc-last _ c.if-word-lt256.false) (then c.put_packed-end.ensures c.put_escaped.ensures)
