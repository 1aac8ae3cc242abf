-- A bracket that is shown as nothing is nothing; any other is an element.
use mathlib.Core.Path.{sym, ◌∙◌}
use mathlib.Core.Logic.{⊎_elim}
use native.Mathlib.Omega.{arith}
use borrow.Author.Tests.{eqb-true, eqb-false}
use Rattle.writer.proofs.Puts.{none, then, put_as}
use Rattle.mathml_tags.proofs.Characters.{leaf-is}
use Rattle.mathml_forms.proofs.Unpacks.{bracket-none, bracket-empty, bracket-some}
use Rattle.mathml_forms.proofs.shown.put_bracket.Goals as goal

pub returns-then-is_empty : goal.returns-then-is_empty
returns-then-is_empty c =
    put_as
    (⊎_elim (λ w. bracket-none _ (eqb-true _ 0 (sym c.is_empty.ensures ∙ w))) (λ w. bracket-empty _ _ c.form_word-word.ensures w.1)
    c.then-is_empty.either)
    (none _ _ (omega arith) (omega arith))

pub returns : goal.returns
returns c = put_as
    (leaf-is _ _ ∙ bracket-some _ _ c.form_word-word.ensures (eqb-false _ 0 (sym c.is_empty.ensures ∙ c.if-is_empty.false)) (eqb-false _ 1 c.if-word-eq-EMPTY_FORM.false-raw))
    (then c.put_start-a.ensures (then c.put_by_word-b.ensures c.put_end.ensures))
