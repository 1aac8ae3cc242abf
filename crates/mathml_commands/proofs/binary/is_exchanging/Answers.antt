-- Its element is not that of frac.
use Rattle.std.proofs.Common.{ap, not, sym, ◌∙◌, eqb}
use Rattle.mathml_tags.specs.declared.elements.Element.{Element}
use Rattle.mathml_tags.specs.Element.{element_number}
use Rattle.mathml_commands.proofs.Spellings.{exchanges-is, not-frac}
use Rattle.mathml_commands.proofs.binary.is_exchanging.Goals.{in-MfracCommand, in_default}
use Rattle.mathml_commands.proofs.binary.is_exchanging.Goals as goal

pub returns : goal.returns
returns c =
    let same = exchanges-is _ _ c.binary_element.ensures in
    elim c.match-matches.branch [
      | in-MfracCommand w ↦ rw w.matches-is (ap (λ (e : Element). not (eqb (element_number e) 12)) (sym w.in-MfracCommand.is) ∙ same)
      | in_default w ↦ rw w.matches-is (ap not (sym (not-frac _ w.in_default.not-MfracCommand)) ∙ same)
    ]
