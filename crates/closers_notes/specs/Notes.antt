-- The closers as the bracket pass notes them in the records: of n entries, n less the closer's place; so 0 for none.
use Rattle.std.specs.Prelude.{ℕ, zero, suc, ◌-◌, List, [], ◌∷◌, ◌++◌, cond, ltb, length, drop}
use Rattle.records.specs.Record.{marks_of, closer_of, with_marks, with_closer}
use Rattle.marks.specs.Marks.{with_mark}

-- the k entries from i on have no closer
unfoldable pub cleared : ℕ → ℕ → List ℕ → List ℕ
cleared zero i K = K
cleared (suc k) i K = cleared k (suc i) (with_closer K i 0)

-- the entry i has one mark more, and the entries from a up to b no closer
abbrev pub gave_up : ℕ → ℕ → ℕ → ℕ → List ℕ → List ℕ
gave_up i mark a b K = cleared (b - a) a (with_marks K i (with_mark (marks_of K i) mark))

-- the places of the closers of k entries from i on, among n
unfoldable pub closer_words : List ℕ → ℕ → ℕ → ℕ → List ℕ
closer_words K n i zero = []
closer_words K n i (suc k) = (n - closer_of K i) ∷ closer_words K n (suc i) k

-- the words x with the closers of n entries in front, if they have room
unfoldable pub with_closers : List ℕ → ℕ → List ℕ → List ℕ
with_closers K n x = cond (ltb (length x) n) x (closer_words K n 0 n ++ drop n x)
