-- The call that writes a text's MathML: what it answers, and what it leaves in the lent buffers. docs/MATHML.md, "The call".
use Rattle.std.specs.Prelude.{◌≡◌, true, false, List, [], ◌∷◌, ℕ, ◌≤◌, length, Result}
use Rattle.tokens.specs.Refusals.{Answer, accepted, refused, bit}
use Rattle.writer.specs.Fitted.{fitted_by}
use Rattle.tree.specs.Tree.{Nodes}
use Rattle.reading.specs.Reading.{read_text, blank}
use Rattle.parse.specs.Call.{parsed_text}
use Rattle.mathml_rules.specs.Mathml.{mathml_of}
use Rattle.mathml_rules.specs.Refusal.{refusal11}
use Rattle.mathml_length.specs.Length.{longest}
use Rattle.mathml.specs.Walks.{Begins}
use Rattle.refusals.specs.declared.refusal.Refusal.{Refusal}
use Rattle.refusals.specs.Refusal.{answered}
use Rattle.mathml.specs.declared.Marked.{Marked}

-- The code's answer in the words of document 01. Blank is 1 or 0.
abbrev pub answer_of : Result Marked Refusal → Answer
answer_of r = answered (λ (m : Marked). m.len ∷ m.takes ∷ bit m.blank ∷ []) r

abbrev pub written_as : Result ℕ Refusal → Answer
written_as r = answered (λ (len : ℕ). len ∷ []) r

-- the MathML of a text that is read
unfoldable pub mark_of : List ℕ → List ℕ
mark_of text = mathml_of text (read_text text).tree

-- What is answered with it: its length, takes, and "blank".
unfoldable pub values : List ℕ → List ℕ
values text =
    let r = read_text text in length (mark_of text) ∷ r.takes ∷ bit (blank text r.tree) ∷ []

-- "It refuses a tree holding .. (11), then an output buffer shorter than the MathML (12)"; both leave the output buffer unchanged, and
-- "output bytes past it are unchanged".
unfoldable pub marks : List ℕ → Nodes → List ℕ → Answer × List ℕ
marks text tree out = elim (refusal11 text tree) [ true ↦ (refused 11, out) | false ↦ fitted_by 12 (mathml_of text tree) out ]

-- "both after the reading's refusals": these, and the reading's buffers, are those of the call that reads a text
-- (crates/parse/specs/Call.antt): p is what it answers and leaves. "Any that comes after the reading's leaves the reading's buffers as
-- after acceptance and every other unchanged."
abbrev pub marking : List ℕ → List ℕ → Answer × List ℕ × List ℕ × List ℕ → Answer × List ℕ × List ℕ × List ℕ × List ℕ
marking text out p =
    elim p.0 [
      | refused k ↦ (refused k, p.1, p.2, p.3, out)
      | accepted read ↦
          let f = marks text (read_text text).tree out in
          (elim f.0 [ refused k ↦ refused k | accepted len ↦ accepted (values text) ], p.1, p.2, p.3, f.1)
    ]

-- what is answered for a tree whose words come first, and whose MathML is no longer than a text's
pub record TreeMarked (words text before : List ℕ) (items : ℕ) (after : List ℕ) (answer : Answer) : Type 0 where
  pub read : (l : Nodes) → Begins words l items → length (mathml_of text l) ≤ longest (length text) →
      ◌≡◌ {A = Answer × List ℕ} (answer, after) (marks text l before)

unfoldable pub marked_text : List ℕ → List ℕ → List ℕ → List ℕ → List ℕ → Answer × List ℕ × List ℕ × List ℕ × List ℕ
marked_text text table work tree out = marking text out (parsed_text text table work tree)
