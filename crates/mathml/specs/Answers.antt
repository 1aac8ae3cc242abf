-- What is promised of the call's own answer, whenever it writes MathML: docs/MATHML.md, section 7.
use Rattle.std.specs.Prelude.{ℕ, ◌≤◌, ◌≡◌, true, false, List, ◌++◌, leb, length, take, drop}
use Rattle.lexing.specs.Rules.{tokens}
use Rattle.tree.specs.Tree.{count}
use Rattle.reading.specs.Reading.{read_text}
use Rattle.parse.specs.Answers.{Answered}
use Rattle.mathml_rules.specs.Run.{run, every}
use Rattle.mathml_rules.specs.Mathml.{root}
use Rattle.mathml_rules.specs.Refusal.{refusal11}
use Rattle.mathml_rules.specs.Nested.{nested}
use Rattle.mathml_rules.specs.Children.{fitting}
use Rattle.mathml_rules.specs.Wellcoded.{Reference, refer, Coding, coded}
use Rattle.mathml_length.specs.Length.{longest}
use Rattle.mathml.specs.Call.{mark_of}

-- the answered length, takes and blank; the words left in the tree buffer; the output buffer before and after
pub record Answers (text : List ℕ) (len takes blankness : ℕ) (tree before after : List ℕ) : Type 0 where
  -- the reading is the whole reading, with all that document 01 promises of it
  pub reading : Answered text (tokens text) takes (count (read_text text).tree) blankness tree
  -- "The call answers the length, and output bytes past it are unchanged."
  pub length-is : len ≡ length (mark_of text)
  pub fits : len ≤ length before
  -- at most 72 bytes, and 48 for each of the text's
  pub short : len ≤ longest (length text)
  pub bytes : after ≡ mark_of text ++ drop len before
  -- nothing in the tree is refused by 11
  pub allowed : refusal11 text (read_text text).tree ≡ false
  -- "every start tag has its end tag in nesting order"
  pub nests : nested (take len after) ≡ true
  -- each element has the children that W3C asks for
  pub children : fitting (root text (read_text text).tree) ≡ true
  -- no byte is below 32; `&` begins only one of the three references; the output is UTF-8
  pub printable : every (leb 32) (take len after) ≡ true
  pub references : run refer Reference.home (take len after) ≡ Reference.home
  pub encoded : run coded Coding.home (take len after) ≡ Coding.home
