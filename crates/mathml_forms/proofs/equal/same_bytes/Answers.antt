-- Two texts by `==`.
use Rattle.std.proofs.Common.{◌∙◌}
use Rattle.mathml_forms.proofs.Same.{pointwise-same}
use Rattle.mathml_forms.proofs.equal.same_bytes.Goals as goal

pub returns : goal.returns
returns c = c.eq.ensures ∙ pointwise-same _ _
