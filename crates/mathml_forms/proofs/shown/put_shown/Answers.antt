-- A text is shown as its form's word draws it.
use Rattle.writer.proofs.Puts.{put_as}
use Rattle.mathml_forms.proofs.Unpacks.{esc-shown}
use Rattle.mathml_forms.proofs.shown.put_shown.Goals as goal

pub returns : goal.returns
returns c = put_as (esc-shown _ _ c.form_word.ensures) c.put_by_word.ensures
