-- What the readers ask of brackets and bars, by their words and their texts. X is the text, t are the words of the token table, K
-- the work words, n the number of entries.
use Rattle.std.specs.Prelude.{ℕ, zero, suc, ◌+◌, List, Bool, true, false, cond, eqb, ltb}
use Rattle.records.specs.Record.{after_close, sep_of, kind_of}
use Rattle.lookahead.specs.Tests.{test_at, is_kind}
use Rattle.spans.specs.Spans.{same_at, byte_at}

-- the entry at j is a bar with the text of the entry i, if both are there
unfoldable pub bar_at : List ℕ → List ℕ → List ℕ → ℕ → ℕ → ℕ → Bool
bar_at X t K n i j = cond (ltb i n) (cond (test_at t K n (is_kind 22) j) (same_at X t K i j) false) false

-- closes: the entry at j closes the bracket at i
unfoldable pub closes_at : List ℕ → List ℕ → List ℕ → ℕ → ℕ → ℕ → Bool
closes_at X t K n i j = cond (eqb (kind_of t K i) 20) (eqb (after_close K i) (j + 1)) (bar_at X t K n i j)

-- the bracket at r may be that of a first row in the bracket at i: it is closed, and a Sep stands behind it, or it has one and i is
-- closed there
abbrev pub row_fits_at : List ℕ → List ℕ → List ℕ → ℕ → ℕ → ℕ → Bool
row_fits_at X t K n i r =
    cond (eqb (after_close K r) 0) false
    (cond (test_at t K n (is_kind 3) (after_close K r)) true
    (cond (closes_at X t K n i (after_close K r)) (eqb (sep_of K r) 1) false))

-- could_be_matrix for the bracket at i
unfoldable pub could_be_matrix_at : List ℕ → List ℕ → List ℕ → ℕ → ℕ → Bool
could_be_matrix_at X t K n i = cond (test_at t K n (is_kind 20) (i + 1)) (row_fits_at X t K n i (i + 1)) false

-- "Rows of `(` before text `}` make no matrix": rows that open at l, with the entry p behind them
unfoldable pub set_at : List ℕ → List ℕ → List ℕ → ℕ → ℕ → Bool
set_at X t K l p = cond (byte_at X t K l 40) (byte_at X t K p 125) false

-- try_matrix: rows that open at l, of k cells, with the entry p behind them, make a matrix of the bracket at i. "One cell left after
-- that is no matrix."
unfoldable pub makes_at : List ℕ → List ℕ → List ℕ → ℕ → ℕ → ℕ → ℕ → ℕ → Bool
makes_at X t K n i l k p =
    cond (ltb p n) (cond (set_at X t K l p) false (cond (ltb 1 k) (closes_at X t K n i p) false)) false

-- an attempt may be made at the entry i: it is a bar, or a bracket that may begin a matrix
unfoldable pub tries_at : List ℕ → List ℕ → List ℕ → ℕ → ℕ → Bool
tries_at X t K n i = cond (eqb (kind_of t K i) 22) true (cond (eqb (kind_of t K i) 20) (could_be_matrix_at X t K n i) false)

-- at one of the k entries from i on, and at one of all n
unfoldable pub attempts_from : List ℕ → List ℕ → List ℕ → ℕ → ℕ → ℕ → Bool
attempts_from X t K n i zero = false
attempts_from X t K n i (suc k) = cond (tries_at X t K n i) true (attempts_from X t K n (suc i) k)

abbrev pub has_attempts : List ℕ → List ℕ → List ℕ → ℕ → Bool
has_attempts X t K n = attempts_from X t K n 0 n
