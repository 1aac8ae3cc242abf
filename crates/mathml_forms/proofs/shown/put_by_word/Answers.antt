-- No form: the text itself; else what the word holds.
use Rattle.writer.proofs.Puts.{put_as}
use Rattle.mathml_forms.proofs.Unpacks.{by_none, by_form}
use Rattle.mathml_forms.proofs.shown.put_by_word.Goals as goal

pub returns-then-word-eq-NO_FORM : goal.returns-then-word-eq-NO_FORM
returns-then-word-eq-NO_FORM c = put_as (by_none _ _ c.if-word-eq-NO_FORM.true) c.put_escaped.ensures

pub returns-else-word-eq-NO_FORM : goal.returns-else-word-eq-NO_FORM
returns-else-word-eq-NO_FORM c = put_as (by_form _ _ c.if-word-eq-NO_FORM.false) c.put_packed.ensures
