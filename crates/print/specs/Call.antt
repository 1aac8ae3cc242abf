-- The call that prints a text's tree: what it answers, and what it leaves in the lent buffers.
use Rattle.std.specs.Prelude.{List, [], ◌∷◌, ℕ, length, Result}
use Rattle.lexing.specs.Rules.{tokens}
use Rattle.tokens.specs.Refusals.{Answer, accepted, refused, entry_words, bit}
use Rattle.reading.specs.Reading.{read_text, blank}
use Rattle.parse.specs.Call.{parsed_text_by}
use Rattle.line.specs.Print.{printed}
use Rattle.printer.specs.Call.{fitted}
use Rattle.refusals.specs.declared.refusal.Refusal.{Refusal}
use Rattle.refusals.specs.Refusal.{answered}
use Rattle.print.specs.declared.Printed.{Printed}

-- The code's answer in the words of document 01. Blank is 1 or 0.
abbrev pub answer_of : Result Printed Refusal → Answer
answer_of r = answered (λ (p : Printed). p.len ∷ p.takes ∷ bit p.blank ∷ []) r

-- "the whole print, first line included", of a text that is read
unfoldable pub print_of : List ℕ → List ℕ
print_of text = let r = read_text text in printed (length text) (length (tokens text)) r.takes r.tree

-- What is answered with it: its length, takes, and "blank".
unfoldable pub values : List ℕ → List ℕ
values text =
    let r = read_text text in length (print_of text) ∷ r.takes ∷ bit (blank text r.tree) ∷ []

-- "For text: 1, 2, 7, 8, 9, 10": the first five are those of the call that reads a text (crates/parse/specs/Call.antt), and its
-- buffers are left as it leaves them: p is what it answers and leaves. 10 is tested after them: `fitted`
-- (crates/printer/specs/Call.antt) says when it comes, and what the print buffer holds. It "leaves the print buffer unchanged and the
-- others as after acceptance".
abbrev pub printing : List ℕ → List ℕ → Answer × List ℕ × List ℕ × List ℕ → Answer × List ℕ × List ℕ × List ℕ × List ℕ
printing text out p =
    elim p.0 [
      | refused k ↦ (refused k, p.1, p.2, p.3, out)
      | accepted read ↦
          let f = fitted (print_of text) out in
          (elim f.0 [ refused k ↦ refused k | accepted len ↦ accepted (values text) ], p.1, p.2, p.3, f.1)
    ]

-- By the words of work that an entry has, as crates/parse/specs/Call.antt.
unfoldable pub printed_text_by : ℕ → List ℕ → List ℕ → List ℕ → List ℕ → List ℕ → Answer × List ℕ × List ℕ × List ℕ × List ℕ
printed_text_by words text table work tree out = printing text out (parsed_text_by words text table work tree)

abbrev pub printed_text : List ℕ → List ℕ → List ℕ → List ℕ → List ℕ → Answer × List ℕ × List ℕ × List ℕ × List ℕ
printed_text text table work tree out = printed_text_by entry_words text table work tree out
