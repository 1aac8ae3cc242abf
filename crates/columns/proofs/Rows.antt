-- Where the words are those of rows, the split leaves the words of the definition's matrix.
use mathlib.Core.Path.{◌≡◌, refl, ap, sym, ◌∙◌}
use mathlib.Core.List.{List, [], ◌∷◌, ◌++◌, append-nil}
use mathlib.Core.Bool.{Bool, true, false, not, ◌||◌, cond}
use Prim.Native.Nat.{ℕ, zero, suc, ◌+◌, ◌≤◌, ◌<◌}
use native.Mathlib.Omega.{arith}
use lib.ListN.{length, take, drop, get_or, set, replicate, length-append, get_or-append}
use lib.Seq.{take-take, take_at, get_or-take, get_or-append-add}
use lib.Dec.{eqb}
use Rattle.tree.specs.Tree.{Head, node, Nodes, end, ◌▸◌, ◌⧺◌, count}
use Rattle.tree.specs.Words.{encode, encodes, encode_items}
use Rattle.reading.specs.Entries.{Entry}
use Rattle.reading.specs.Reading.{Rows, is_column_line, join_rows, kept_cols, column_lines, keep_cells, line_cols, split_column_lines}
use Rattle.columns.specs.Columns.{cell_len, cells_end, cells_from, are_cells, next, only_lines, other_cells, join_words, mask, left, is_split, split_words, split_of}
use Rattle.columns.specs.Rows.{Cells, none, cell, Grid, row, joined, MatrixOf}
use Rattle.columns.proofs.Buffer.{part-is}
use Rattle.columns.proofs.Cells.{cells-le}
use Rattle.columns.proofs.Shape.{cells-parts, room-parts}
use Rattle.columns.proofs.Lines.{line-cell}
use Rattle.columns.proofs.Grids.{cells_count, marks, marks-all, cols_long, keep, keep-rows}

-- the words of nodes, one by one
words_of : Nodes → List (List ℕ)
words_of end = []
words_of (x ▸ l) = encode x ∷ words_of l

words-join : (l : Nodes) → join_words (words_of l) ≡ encodes l
unfolding words_of join_words encodes
words-join end = refl
words-join (x ▸ l) = ap (λ (w : List ℕ). encode x ++ w) (words-join l)

words_long : (l : Nodes) → length (words_of l) ≡ count l
unfolding words_of
words_long end = refl
words_long (x ▸ l) = ap suc (words_long l)

-- cell by cell, the words tell what the nodes tell
only-is : (X : List ℕ) (es : List Entry) (cols : ℕ) {n : ℕ} {l : Nodes} → Cells n l → (m : List Bool) (j : ℕ) → only_lines X cols m j (words_of l) ≡ marks X es cols m j l
unfolding only_lines words_of marks
only-is X es cols none m j = refl
only-is X es cols (cell {l} {m = r} c) m j =
    ap (λ (b : Bool). only_lines X cols (cond b m (set m j false)) (next cols j) (words_of r)) (line-cell X es l)
    ∙ only-is X es cols c (cond (is_column_line X es (node Head.cell l)) m (set m j false)) (next cols j)

other-is : (cols : ℕ) (m : List Bool) (j : ℕ) (l : Nodes) → other_cells cols m j (words_of l) ≡ words_of (keep cols m j l)
unfolding other_cells words_of keep
other-is cols m j end = refl
other-is cols m j (x ▸ l) =
    ap (λ (r : List (List ℕ)). cond (get_or m j false) r (encode x ∷ r)) (other-is cols m (next cols j) l) ∙ one (get_or m j false) (keep cols m (next cols j) l)
  where
    one : (b : Bool) (k : Nodes) → cond b (words_of k) (encode x ∷ words_of k) ≡ words_of (cond b k (x ▸ k))
    one true k = refl
    one false k = refl

-- the words w stand in x from `at` up to `e`
record Holds (x : List ℕ) (at e : ℕ) (w : List ℕ) : Type 0 where
  upto : at + length w ≡ e
  words : (k : ℕ) → k < length w → get_or x (at + k) 0 ≡ get_or w k 0

module _ {x : List ℕ} {at e : ℕ} (u v : List ℕ) (h : Holds x at e (u ++ v)) where
  holds_left : Holds x at (at + length u) u
  holds_left = record { upto = refl; words = λ k q. h.words k (simp length-append (omega arith)) ∙ get_or-append u v 0 k q }

  holds_right : Holds x (at + length u) e v
  holds_right = record {
    upto = omega (arith, h.upto, length-append u v);
    words = λ k q.
        let a : at + length u + k ≡ at + (length u + k) = omega arith in
        rw a (h.words (length u + k) (simp length-append (omega arith)) ∙ get_or-append-add u v k 0);
  }

holds_all : {x w : List ℕ} {at e : ℕ} (p : List ℕ) → length p ≡ at → e ≡ at + length w → take e x ≡ p ++ w → Holds x at e w
holds_all {x} {w} {at} {e} p l u b = record {
  upto = sym u;
  words = λ k q.
      sym (get_or-take e x (at + k) 0 (omega arith))
      ∙ ap (λ (r : List ℕ). get_or r (at + k) 0) b
      ∙ ap (λ (m : ℕ). get_or (p ++ w) (m + k) 0) (sym l)
      ∙ get_or-append-add p w k 0;
}

-- a cell's length is in its header
cell-size : {x : List ℕ} {at e : ℕ} (l : Nodes) → Holds x at e (encode (node Head.cell l)) → cell_len x at ≡ length (encode (node Head.cell l))
unfolding encode
cell-size l h = omega (arith, h.words 4 (omega arith), length-append (encode_items l) [])

-- the cells that the headers tell are those that stand there
cells_are : {x : List ℕ} {at e n : ℕ} {l : Nodes} → Cells n l → Holds x at e (encodes l) → e ≤ length x → (k : ℕ) → cells_end x at k ≡ e → (cells_from x at k ≡ words_of l) × (n ≡ k)
unfolding cells_end cells_from words_of encodes encode
cells_are none h f zero c = (refl, refl)
cells_are {x} {at} none h f (suc k) c = absurd (omega (arith, h.upto, cells-le x k (at + cell_len x at)))
cells_are (cell r) h f zero c = absurd (omega (arith, h.upto))
cells_are {x} {at} {e} (cell {l} {m} r) h f (suc k) c =
    let w : List ℕ = encode (node Head.cell l) in
    let head : Holds x at (at + length w) w = holds_left w (encodes m) h in
    let rest : Holds x (at + length w) e (encodes m) = holds_right w (encodes m) h in
    let s : cell_len x at ≡ length w = cell-size l head in
    let this : take (length w) (drop at x) ≡ w = part-is x at (length w) w (omega (arith, rest.upto)) refl head.words in
    let next = cells_are {at = at + length w} r rest f k (rw s at c) in
    (rw (s, this, next.0) refl, ap suc next.1)

-- the cells of a grid
record Some (l : Nodes) : Type 0 where
  size : ℕ
  all : Cells size l

some-join : {n : ℕ} {a b : Nodes} → Cells n a → Some b → Some (a ⧺ b)
some-join none s = s
some-join (cell r) s = let t = some-join r s in record { size = suc t.size; all = cell t.all }

some-grid : {cols : ℕ} {rs : List Nodes} → Grid cols rs → Some (joined rs)
unfolding join_rows
some-grid none = record { size = zero; all = none }
some-grid (row c g) = some-join c (some-grid g)

width : {cols : ℕ} {r : Nodes} {rs : List Nodes} → Grid cols (r ∷ rs) → count r ≡ cols
width (row c g) = cells_count c

abbrev rows_of : Rows → List Nodes
rows_of rows = rows.head.cells ∷ rows.others

module _ (X x : List ℕ) (from e cells cols : ℕ) (are : are_cells x from e cells cols ≡ true) (es : List Entry) (rows : Rows) (grid : Grid cols (rows_of rows))
    (p : List ℕ) (before : length p ≡ from) (upto : e ≡ from + length (encodes (joined (rows_of rows)))) (body : take e x ≡ p ++ encodes (joined (rows_of rows))) where
  room : (0 < cols) × (cols ≤ 4096) × (e + cols ≤ length x)
  room = room-parts (length x) e cols (cells-parts x from e cells cols are).0

  cells-all : Some (joined (rows_of rows))
  cells-all = some-grid grid

  stand : (cells_from x from cells ≡ words_of (joined (rows_of rows))) × (cells-all.size ≡ cells)
  stand = cells_are cells-all.all (holds_all p before upto body) (omega (arith, room.2)) cells (cells-parts x from e cells cols are).1

  many : count (joined (rows_of rows)) ≡ cells
  many = cells_count cells-all.all ∙ stand.1

  lines : List Bool
  lines = line_cols X es rows.head.cells rows.others

  mask_is : mask X x from e cells cols ≡ lines
  unfolding mask lines
  mask_is =
      ap (only_lines X cols (replicate cols true) 0) stand.0
      ∙ only-is X es cols cells-all.all (replicate cols true) 0
      ∙ marks-all X es rows.head.cells rows.others room.0 grid

  abbrev kept : Nodes
  kept = join_rows (keep_cells lines) (rows_of rows)

  left_is : left X x from e cells cols ≡ words_of kept
  unfolding left lines
  left_is = rw (mask_is, stand.0) (other-is cols lines 0 (joined (rows_of rows)) ∙ ap words_of (keep-rows lines room.0 lines_long grid))
    where
      lines_long : length lines ≡ cols
      lines_long = cols_long X es rows.head.cells rows.others grid

  front : take from x ≡ p
  front = sym (take-take from e x (omega arith)) ∙ ap (take from) body ∙ take_at p (encodes (joined (rows_of rows))) from before

  test : {t : Bool} → (eqb (kept_cols lines) 0 || eqb (kept_cols lines) cols) ≡ t → is_split X x from e cells cols ≡ not t
  unfolding is_split
  test t = rw (are, mask_is, t) refl

  count-test : {t : Bool} → (eqb (kept_cols lines) 0 || eqb (kept_cols lines) cols) ≡ t → (eqb (kept_cols lines) 0 || eqb (kept_cols lines) (count rows.head.cells)) ≡ t
  count-test t = rw (width grid) t

  pub split_rows : MatrixOf (split_column_lines X es rows) p (split_words X x from e cells cols) (split_of X x from e cells cols)
  unfolding split_column_lines split_words split_of lines
  split_rows = go (eqb (kept_cols lines) 0 || eqb (kept_cols lines) cols) refl
    where
      go : (t : Bool) → (eqb (kept_cols lines) 0 || eqb (kept_cols lines) cols) ≡ t
          → MatrixOf (split_column_lines X es rows) p (split_words X x from e cells cols) (split_of X x from e cells cols)
      go true t =
          rw (test t, count-test t, split_column_lines) (record {
            cells = joined (rows_of rows);
            lines = [];
            made = λ a b. ap (λ (c : ℕ). node (Head.matrix a b c []) (joined (rows_of rows))) (width grid);
            size = many;
            kept = many;
            bars = refl;
            upto = rw append-nil (omega (arith, upto, before));
            body = rw append-nil body;
          })
      go false t =
          rw (test t, count-test t, split_column_lines) (record {
            cells = kept;
            lines = column_lines 0 lines;
            made = λ a b. ap (λ (c : ℕ). node (Head.matrix a b c (column_lines 0 lines)) kept) (ap kept_cols (sym mask_is));
            size = sym (words_long kept) ∙ ap length (sym left_is);
            kept = sym (words_long kept) ∙ ap length (sym left_is);
            bars = ap (λ (m : List Bool). length (column_lines 0 m)) (sym mask_is);
            upto = rw (left_is, mask_is, words-join kept, length-append) (omega (arith, before));
            body = rw (front, left_is, mask_is, words-join kept) refl;
          })
