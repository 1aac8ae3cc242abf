-- The table as the code's constants hold it: the bytes of all rows one after the other; where each row starts, with the number of
-- its token; and for each byte how many rows begin with a smaller one, with the number of the token that the byte is by itself.
-- All are computed from the rows.
use Rattle.std.specs.Prelude.{◌≡◌, Bool, true, false, List, [], ◌∷◌, ◌++◌, ℕ, zero, suc, ◌+◌, ◌*◌, eqb, ltb, length, get_or}
use Rattle.std.proofs.Math.Option.{Option, none, some}
use Rattle.tokens.specs.declared.token.Token.{Token}
use Rattle.tokens.specs.declared.token.Token.TheVariants.{Frac}
use Rattle.tokens.specs.Kinds.{number_of}
use Rattle.lexing.specs.Spellings.{Row, rows}
use Rattle.lexing.specs.Rules.{blank, digit, letter}

unfoldable pub flat : List Row → List ℕ
flat [] = []
flat (r ∷ rs) = r.spelling ++ flat rs

-- how many bytes stand before row k
unfoldable pub offset : List Row → ℕ → ℕ
offset [] k = 0
offset (r ∷ rs) zero = 0
offset (r ∷ rs) (suc k) = length r.spelling + offset rs k

-- a word for each row: 32 times its start, where n bytes stand before them, and the number of its token
unfoldable pub words_of : ℕ → List Row → List ℕ
words_of n [] = 32 * n ∷ []
words_of n (r ∷ rs) = (32 * n + number_of r.token) ∷ words_of (n + length r.spelling) rs

-- how many rows begin with a byte below c
unfoldable pub count_below : ℕ → List Row → ℕ
count_below c [] = 0
count_below c (r ∷ rs) = elim (ltb (get_or r.spelling 0 0) c) [ true ↦ suc (count_below c rs) | false ↦ count_below c rs ]

-- the row is the byte c alone
unfoldable pub is_byte : ℕ → Row → Bool
is_byte c r = elim (eqb (get_or r.spelling 0 0) c) [ true ↦ eqb (length r.spelling) 1 | false ↦ false ]

-- the token of the row that is the byte c alone
unfoldable pub token_of_byte : ℕ → List Row → Option Token
unfolding is_byte
token_of_byte c [] = none
token_of_byte c (r ∷ rs) = elim (is_byte c r) [ true ↦ some r.token | false ↦ token_of_byte c rs ]

-- the number of the token that a byte is by itself, if no spelling is that byte
unfoldable pub plain_kind : ℕ → ℕ
plain_kind c = elim (blank c) [ true ↦ 23 | false ↦ elim (digit c) [ true ↦ 4 | false ↦ elim (letter c) [ true ↦ 6 | false ↦ 7 ] ] ]

-- 32 and the number of the spelling's token, or the number without a spelling
abbrev pub kind_word : ℕ → Option Token → ℕ
kind_word c none = plain_kind c
kind_word c (some t) = 32 + number_of t

-- the words for n byte values from c on
unfoldable pub firsts_of : ℕ → ℕ → List Row → List ℕ
unfolding count_below token_of_byte plain_kind
firsts_of zero c rs = []
firsts_of (suc n) c rs = (64 * count_below c rs + kind_word c (token_of_byte c rs)) ∷ firsts_of n (suc c) rs

unfoldable pub flat_bytes : List ℕ
flat_bytes = flat rows

unfoldable pub row_words : List ℕ
row_words = words_of 0 rows

unfoldable pub first_words : List ℕ
first_words = firsts_of 129 0 rows

-- the three arrays are the table
pub record Lent (bytes rows first : List ℕ) : Type 0 where
  pub bytes-are : bytes ≡ flat_bytes
  pub rows_are : rows ≡ row_words
  pub first-are : first ≡ first_words

abbrev pub no_row : Row
no_row = record { spelling = []; token = Frac }

-- the row of a number, its spelling, where its bytes start, and the number of its token
unfoldable pub row_of : ℕ → Row
row_of k = get_or rows k no_row

unfoldable pub spelling_of : ℕ → List ℕ
unfolding row_of
spelling_of k = (row_of k).spelling

unfoldable pub start_of : ℕ → ℕ
start_of k = offset rows k

unfoldable pub kind_of : ℕ → ℕ
kind_of k = number_of (row_of k).token

-- how many rows begin with a byte below c
unfoldable pub rows_below : ℕ → ℕ
rows_below c = count_below c rows

-- the token of the spelling that is the byte c alone
unfoldable pub spelled_byte : ℕ → Option Token
spelled_byte c = token_of_byte c rows

-- the first row behind those that begin with a smaller byte and that of c alone
unfoldable pub longer_from : ℕ → ℕ
longer_from c = elim (spelled_byte c) [ none ↦ rows_below c | some t ↦ rows_below c + 1 ]

-- the number of the token that the byte c is by itself
unfoldable pub byte_kind : ℕ → ℕ
byte_kind c = elim (spelled_byte c) [ none ↦ plain_kind c | some t ↦ number_of t ]

-- the word of the byte c, as it stands in `first_words`
unfoldable pub word_of_byte : ℕ → ℕ
word_of_byte c = 64 * rows_below c + kind_word c (spelled_byte c)
