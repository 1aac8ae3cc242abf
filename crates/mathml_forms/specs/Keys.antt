-- A short text as one number, so that a table of spellings is one `match`.
use Rattle.std.specs.Prelude.{Bool, true, false, ◌&&◌, List, [], ◌∷◌, ℕ, ◌+◌, ◌*◌, leb, ltb, length}

-- in base 128, the first byte is the last digit, with a 1 before the digits
unfoldable pub key : List ℕ → ℕ
key [] = 1
key (b ∷ s) = 128 * key s + b

-- each byte is below 128
unfoldable pub ascii : List ℕ → Bool
ascii [] = true
ascii (b ∷ s) = ltb b 128 && ascii s

-- the key of a text of at most nine bytes, each below 128 (it is below 2^64); no other text has one
unfoldable pub key_of : List ℕ → ℕ
key_of s = elim (leb (length s) 9 && ascii s) [ true ↦ key s | false ↦ 0 ]
