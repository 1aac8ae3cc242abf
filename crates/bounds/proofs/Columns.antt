-- The column lines of a matrix: the two ways in which rows become a matrix, and how many columns are looked at.
use Prim.Native.Nat.{ℕ, zero, suc, min, ◌≤◌}
use mathlib.Core.Path.{◌≡◌, refl, ap}
use mathlib.Core.List.{List, [], ◌∷◌}
use mathlib.Core.Bool.{Bool, true, false, ◌||◌}
use native.Mathlib.Omega.{arith}
use lib.ListN.{length}
use lib.Dec.{eqb}
use Rattle.tokens.specs.Lexeme.{Span}
use Rattle.tree.specs.Tree.{Head, Node, node, Nodes, end, ◌▸◌, count}
use Rattle.reading.specs.Entries.{Entry}
use Rattle.reading.specs.Reading.{Rows, split_column_lines, join_rows, keep_cells, kept_cols, column_lines, line_cells, both_lines, line_cols}

-- a matrix still without its brackets, and how many cells it has
abbrev pub matrix_of : ℕ → List ℕ → Nodes → (Span → Span → Node) × ℕ
matrix_of cols lines cells = ((λ a b. node (Head.matrix a b cols lines) cells), count cells)

abbrev pub rows_of : Rows → List Nodes
rows_of r = r.head.cells ∷ r.others

pub both-length : (a b : List Bool) → length (both_lines a b) ≡ min (length a) (length b)
unfolding both_lines
both-length [] b = omega arith
both-length (x ∷ a) [] = omega arith
both-length (x ∷ a) (y ∷ b) = omega (arith, both-length a b)

module _ (text : List ℕ) (es : List Entry) where
  pub cells-length : (l : Nodes) → length (line_cells text es l) ≡ count l
  unfolding line_cells
  cells-length end = refl
  cells-length (x ▸ l) = ap suc (cells-length l)

  pub cols_length : (r : Nodes) (rs : List Nodes) → length (line_cols text es r rs) ≤ count r
  unfolding line_cols
  cols_length r [] = omega (arith, cells-length r)
  cols_length r (q ∷ qs) = omega (arith, cells-length r, both-length (line_cells text es r) (line_cols text es q qs))

  abbrev pub mask_of : Rows → List Bool
  mask_of r = line_cols text es r.head.cells r.others

  pub split-either : (P : (Span → Span → Node) × ℕ → Type 0) (r : Rows) →
      P (matrix_of (count r.head.cells) [] (join_rows (λ l. l) (rows_of r))) →
      P (matrix_of (kept_cols (mask_of r)) (column_lines zero (mask_of r)) (join_rows (keep_cells (mask_of r)) (rows_of r))) →
      P (split_column_lines text es r)
  unfolding split_column_lines
  split-either P r whole lined = go (eqb (kept_cols (mask_of r)) zero || eqb (kept_cols (mask_of r)) (count r.head.cells))
    where
      go : (x : Bool) → P (elim x as (λ y. (Span → Span → Node) × ℕ) [
        | true ↦ matrix_of (count r.head.cells) [] (join_rows (λ l. l) (rows_of r))
        | false ↦ matrix_of (kept_cols (mask_of r)) (column_lines zero (mask_of r)) (join_rows (keep_cells (mask_of r)) (rows_of r))
      ])
      go true = whole
      go false = lined
