-- The words of the nodes that the readers write, by the entries' words. t are the words of the token table, K the work words, n
-- the number of entries.
use Rattle.std.specs.Prelude.{ℕ, List, [], ◌∷◌, Bool, cond, eqb, ltb}
use Rattle.records.specs.Record.{start_of, len_of, space_start, space_len}

-- a group from the bracket i to the bracket j; to none, if j is no entry: "An empty bracket that stands for no token is start 0,
-- length 0."
unfoldable pub group_words : List ℕ → List ℕ → ℕ → ℕ → ℕ → ℕ → List ℕ
group_words t K n i j k =
    15 ∷ start_of t K i ∷ len_of t K i ∷ k ∷ cond (ltb j n) (start_of t K j) 0 ∷ cond (ltb j n) (len_of t K j) 0 ∷ []

abbrev pub matrix_words : List ℕ → List ℕ → ℕ → ℕ → ℕ → ℕ → ℕ → List ℕ
matrix_words t K i j cells cols lines =
    16 ∷ start_of t K i ∷ len_of t K i ∷ cells ∷ start_of t K j ∷ len_of t K j ∷ cols ∷ lines ∷ []

-- the Space before the entry i, if it is kept: its words, and 1 for it
unfoldable pub gap_len : List ℕ → List ℕ → ℕ → Bool → ℕ → ℕ
gap_len t K n first i = cond first 0 (cond (ltb i n) (space_len t K i) 0)

unfoldable pub gap_words : List ℕ → List ℕ → ℕ → Bool → ℕ → List ℕ
gap_words t K n first i =
    cond (eqb (gap_len t K n first i) 0) [] (0 ∷ 6 ∷ space_start t K i ∷ space_len t K i ∷ 0 ∷ 0 ∷ 0 ∷ [])

unfoldable pub gap_items : List ℕ → List ℕ → ℕ → Bool → ℕ → ℕ
gap_items t K n first i = cond (eqb (gap_len t K n first i) 0) 0 1
