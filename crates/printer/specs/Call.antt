-- The call that prints the words of a tree: its bytes, what it answers, and what it leaves in the lent buffer.
use Rattle.std.specs.Prelude.{ℕ, true, Result, List, [], ◌∷◌, ◌++◌}
use Rattle.tokens.specs.Refusals.{Answer}
use Rattle.writer.specs.Fitted.{fitted_by}
use Rattle.line.specs.Print.{first}
use Rattle.refusals.specs.declared.refusal.Refusal.{Refusal}
use Rattle.refusals.specs.Refusal.{answered}
use Rattle.printer.specs.Rows.{row_of}

-- The code's answer in the words of document 01.
abbrev pub answer_of : Result ℕ Refusal → Answer
answer_of r = answered (λ len. len ∷ []) r

-- The first line, then the root's items: for any words. Of a tree's words it is its printed tree (proofs/Printing.antt, tree-printed).
unfoldable pub print_words : List ℕ → ℕ → ℕ → ℕ → ℕ → List ℕ
print_words words text tokens takes items = first text tokens takes items ++ (row_of words 0 items true 0).lines

-- "10 print buffer shorter than the whole print, first line included", which "leaves the print buffer unchanged"; else the print, its
-- length answered, and "print bytes past the print unchanged".
abbrev pub fitted : List ℕ → List ℕ → Answer × List ℕ
fitted print out = fitted_by 10 print out
