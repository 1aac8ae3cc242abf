-- The arrays of the code are what the definition computes.
use mathlib.Core.Path.{◌≡◌, refl, ap, ◌∙◌}
use mathlib.Core.List.{List, [], ◌∷◌}
use Prim.Native.Nat.{ℕ, zero, suc}
use lib.ListN.{get_or}
use Rattle.lexing.specs.Spellings.{Row, rows}
use Rattle.lexing.specs.Rules.{blank, digit, letter}
use Rattle.lexer.specs.Constants.{flat, words_of, count_below, is_byte, token_of_byte, plain_kind, firsts_of, flat_bytes, row_words, first_words, Lent, no_row, row_of, spelling_of}
use Rattle.lexer.specs.declared.spellings.TheConstants.{BYTES, ROWS, SECONDS, FIRST}

pub the_table : Lent BYTES ROWS FIRST
unfolding flat words_of count_below is_byte token_of_byte plain_kind blank digit letter firsts_of flat_bytes row_words first_words rows
the_table = record { bytes-are = refl; rows_are = refl; first-are = refl }

-- the second byte of each row, or 0
unfoldable seconds_of : List Row → List ℕ
seconds_of [] = []
seconds_of (r ∷ rs) = get_or r.spelling 1 0 ∷ seconds_of rs

seconds-are : SECONDS ≡ seconds_of rows
unfolding seconds_of rows
seconds-are = refl

seconds_at : (rs : List Row) (k : ℕ) → get_or (seconds_of rs) k 0 ≡ get_or (get_or rs k no_row).spelling 1 0
unfolding seconds_of
seconds_at [] k = refl
seconds_at (r ∷ rs) zero = refl
seconds_at (r ∷ rs) (suc k) = seconds_at rs k

pub second-is : (k : ℕ) → get_or SECONDS k 0 ≡ get_or (spelling_of k) 1 0
unfolding row_of spelling_of
second-is k = ap (λ (seconds : List ℕ). get_or seconds k 0) seconds-are ∙ seconds_at rows k
