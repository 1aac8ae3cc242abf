-- The texts of entries, by their spans. X is the text, t are the words of the token table, K the work words.
use Rattle.std.specs.Prelude.{ℕ, List, [], ◌∷◌, Bool, take, drop}
use Rattle.tokens.specs.Bytes.{same}
use Rattle.records.specs.Record.{start_of, len_of}

-- the bytes of a span; two spans have the same; a span is this one byte
abbrev pub bytes_of : List ℕ → ℕ → ℕ → List ℕ
bytes_of X a l = take l (drop a X)

abbrev pub same_span : List ℕ → ℕ → ℕ → ℕ → ℕ → Bool
same_span X a l b m = same (bytes_of X a l) (bytes_of X b m)

unfoldable pub same_at : List ℕ → List ℕ → List ℕ → ℕ → ℕ → Bool
same_at X t K i j = same_span X (start_of t K i) (len_of t K i) (start_of t K j) (len_of t K j)

unfoldable pub byte_at : List ℕ → List ℕ → List ℕ → ℕ → ℕ → Bool
byte_at X t K i b = same (bytes_of X (start_of t K i) (len_of t K i)) (b ∷ [])
