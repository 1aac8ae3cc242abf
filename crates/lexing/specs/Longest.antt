-- The longest spelling at a place. Document 01, src/prefix_map/hash.rs: "get_longest_prefix answers the longest key that begins
-- the input, with its value."
use Rattle.std.specs.Prelude.{◌≡◌, Bool, true, false, List, [], ◌∷◌, ℕ, suc, ◌<◌, eqb, ltb, length, get_or, take, drop}
use Rattle.std.proofs.Math.Option.{Option, none, some}
use Rattle.tokens.specs.declared.token.Token.{Token}
use Rattle.lexing.specs.Spellings.{Row, rows}

-- the key begins the text
unfoldable pub begins : List ℕ → List ℕ → Bool
begins [] s = true
begins (k ∷ ks) [] = false
begins (k ∷ ks) (x ∷ xs) = elim (eqb k x) [ true ↦ begins ks xs | false ↦ false ]

-- a row with its number in the table, counted from 0
pub record Numbered : Type 0 where
  pub number : ℕ
  pub row : Row

abbrev pub length_of : Option Numbered → ℕ
length_of none = 0
length_of (some f) = length f.row.spelling

-- the longer of two; the first where they are equally long
abbrev pub longer : Option Numbered → Option Numbered → Option Numbered
longer a b = elim (ltb (length_of a) (length_of b)) [ true ↦ b | false ↦ a ]

-- the longest of the rows, numbered from i, whose spelling begins s
unfoldable pub longest_of : List Row → ℕ → List ℕ → Option Numbered
unfolding begins
longest_of [] i s = none
longest_of (r ∷ rs) i s =
    elim (begins r.spelling s) [
      | true ↦ longer (some (record { number = i; row = r })) (longest_of rs (suc i) s)
      | false ↦ longest_of rs (suc i) s
    ]

-- the longest spelling of the table that begins the text at a place; past the text's end there is none
unfoldable pub longest_at : List ℕ → ℕ → Option Numbered
longest_at text at = longest_of rows 0 (drop at text)

-- Request 2.1: the number of what is found; "where no spelling fits there is no row"
abbrev pub number_in : Option Numbered → Option ℕ
number_in none = none
number_in (some f) = some f.number

-- Request 2.1, "The answered row's spelling is the matched text": of the 429 rows, k is the one whose spelling is the `len` bytes of the
-- text at the place, and whose token is t. `d` is any row: it would stand past the table's end.
pub record IsRow (text : List ℕ) (at len : ℕ) (t : Token) (k : ℕ) : Type 0 where
  pub below : k < 429
  pub matched : (d : Row) → take len (drop at text) ≡ (get_or rows k d).spelling
  pub len_is : (d : Row) → len ≡ length (get_or rows k d).spelling
  pub token-is : (d : Row) → t ≡ (get_or rows k d).token
