-- What the code finds at a place, as a word, and what it does with a read: it lists its tokens.
use Rattle.std.specs.Prelude.{◌≡◌, true, false, List, ◌∷◌, ℕ, ◌+◌, ◌/◌, ◌%◌, ◌≤◌, ◌<◌, eqb, length, Some, None}
use Rattle.std.specs.Prelude as code
use Rattle.std.proofs.Math.Option.{Option, none, some}
use Rattle.lexer.specs.declared.table.Listed.{Listed}
use Rattle.tokens.specs.declared.token.Token.TheVariants.{Unary}
use Rattle.tokens.specs.Lexeme.{Lexeme}
use Rattle.tokens.specs.Table.{count_others}
use Rattle.lexer.specs.Constants.{row_of, spelling_of}
use Rattle.lexer.specs.Listing.{list_into}
use Rattle.lexing.specs.Rules.{Read, alone, closer, command_at, is_text_command, number_at, quotation_at, byte_at}

-- the row in the word of what is found (src/found.rt): it has one if its bit of 32 is set
unfoldable pub row_in : ℕ → Option ℕ
row_in found = elim (eqb (found / 32 % 2) 1) [ true ↦ some (found / 64) | false ↦ none ]

-- the closer of a bracket, if there is one
unfoldable pub closing : ℕ → code.Option ℕ
closing c = elim (eqb (closer c) 0) [ true ↦ None | false ↦ Some (closer c) ]

-- what is read by rules 4 and 5, by rules 3 to 5, and by rule 2 where a row is found
unfoldable pub from_quotation : List ℕ → ℕ → Read
from_quotation text at = elim (quotation_at text at) [ some r ↦ r | none ↦ byte_at text at ]

unfoldable pub from_number : List ℕ → ℕ → Read
from_number text at = elim (number_at text at) [ some r ↦ r | none ↦ from_quotation text at ]

unfoldable pub from_row : ℕ → List ℕ → ℕ → Read
from_row k text at =
    elim (is_text_command (spelling_of k))
    [ true ↦ command_at text at 4 Unary | false ↦ alone at (length (spelling_of k)) (row_of k).token ]

abbrev pub listed : ℕ → ℕ → ℕ → ℕ → Listed
listed all spaces next found = record { all = all; spaces = spaces; next = next; found = found }

-- the counts and the place, with another word of what was found
abbrev pub with_found : Listed → ℕ → Listed
with_found p found = listed p.all p.spaces p.next found

-- a place of the text, and no more tokens listed than bytes stand before it
pub record Placed (text : List ℕ) (p : Listed) : Type 0 where
  pub short : length text ≤ 4096
  pub inside : p.next < length text
  pub fewer : p.all ≤ p.next
  pub few : p.spaces ≤ p.all

-- tokens are counted, and put into the table as far as they fit; the place is moved on, and what was found stays
pub record Added (ts : List Lexeme) (next : ℕ) (p : Listed) (before : List ℕ) (r : Listed) (after : List ℕ) : Type 0 where
  pub all_are : r.all ≡ p.all + length ts
  pub spaces-are : r.spaces + count_others ts ≡ p.spaces + length ts
  pub next-is : r.next ≡ next
  pub found-is : r.found ≡ p.found
  pub words_are : after ≡ list_into p.all before ts

abbrev pub AddedRead : Read → Listed → List ℕ → Listed → List ℕ → Type 0
AddedRead q p before r after = Added (q.first ∷ q.waiting) q.next p before r after
