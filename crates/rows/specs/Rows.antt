-- What the readers ask of the brackets of rows, by their texts, and of the number of cells. X is the text, t are the words of the token
-- table, K the work words.
use Rattle.std.specs.Prelude.{ℕ, List, Bool, false, cond, eqb}
use Rattle.spans.specs.Spans.{byte_at}

-- "Matrix rows are `(` `)` or `[` `]` by their text, so `left(` opens no row": round brackets, or else square ones. "The row loop is
-- left at the first row that differs from the first": the rows behind it are round if it is.
abbrev pub round_at : List ℕ → List ℕ → List ℕ → ℕ → Bool
round_at X t K i = byte_at X t K i 40

unfoldable pub pair_at : List ℕ → List ℕ → List ℕ → Bool → ℕ → ℕ → Bool
pair_at X t K round l r =
    cond round
    (cond (byte_at X t K l 40) (byte_at X t K r 41) false)
    (cond (byte_at X t K l 91) (byte_at X t K r 93) false)

-- "One cell left after that is no matrix": a number above 1 exactly if all rows are read and the matrix has more than one cell. Two rows
-- have always; one row has the cells that are no lines, or all its cells if all are lines.
abbrev pub cells_left : Bool → Bool → ℕ → ℕ → ℕ
cells_left done more cols kept = cond done (cond more 2 (cond (eqb kept 0) cols kept)) 0
