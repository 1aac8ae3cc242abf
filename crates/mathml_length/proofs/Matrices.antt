-- A matrix costs no more than its rows and its brackets, with six bytes for each cell of the first row, and 38.
use Prim.Native.Nat.{ℕ, ◌+◌, ◌*◌, ◌≤◌}
use mathlib.Core.List.{List, [], ◌∷◌}
use mathlib.Core.Bool.{Bool, true, false}
use native.Mathlib.Omega.{arith}
use native.Mathlib.Nat.{le_refl}
use lib.ListN.{length}
use Rattle.tokens.specs.Lexeme.{Span}
use Rattle.tree.specs.Tree.{Nodes, end, ◌▸◌, count}
use Rattle.reading.specs.Entries.{Entry}
use Rattle.reading.specs.Reading.{Rows, split_column_lines, join_rows, keep_cells, kept_cols}
use Rattle.bounds.proofs.Columns.{rows_of, mask_of, cols_length, split-either}
use Rattle.bounds.proofs.WellFormed.{count-join}
use Rattle.mathml_length.proofs.Costs.{cost, costs, costs-join}

kept-cols : (m : List Bool) → kept_cols m ≤ length m
unfolding kept_cols
kept-cols [] = omega arith
kept-cols (true ∷ m) = omega (arith, kept-cols m)
kept-cols (false ∷ m) = omega (arith, kept-cols m)

module _ (text : List ℕ) where
  -- a row's cells, with the two tags of a row for each
  abbrev pub row_cost : Nodes → ℕ
  row_cost l = costs text l + 11 * count l

  abbrev pub rows_cost : List Nodes → ℕ
  rows_cost [] = 0
  rows_cost (r ∷ rs) = row_cost r + rows_cost rs

  -- without the columns that are lines they cost no more
  keep-cost : (m : List Bool) (l : Nodes) → row_cost (keep_cells m l) ≤ row_cost l
  unfolding costs keep_cells
  keep-cost [] l = omega arith
  keep-cost (b ∷ bs) end = omega arith
  keep-cost (true ∷ bs) (x ▸ l) = omega (arith, keep-cost bs l)
  keep-cost (false ∷ bs) (x ▸ l) = omega (arith, keep-cost bs l)

  join-cost : (f : Nodes → Nodes) → ((l : Nodes) → row_cost (f l) ≤ row_cost l) → (rs : List Nodes) →
      row_cost (join_rows f rs) ≤ rows_cost rs
  unfolding join_rows costs
  join-cost f h [] = omega arith
  join-cost f h (r ∷ rs) =
      omega (arith, h r, join-cost f h rs, costs-join text (f r) (join_rows f rs), count-join (f r) (join_rows f rs))

module _ (text : List ℕ) (es : List Entry) where
  pub matrix-cost : (r : Rows) (a b : Span) →
      cost text ((split_column_lines text es r).0 a b)
      ≤ 38 + 14 * a.len + 14 * b.len + 6 * count r.head.cells + rows_cost text (rows_of r)
  unfolding cost
  matrix-cost r a b =
      let mask = mask_of text es r in
      split-either text es
      (λ m. cost text (m.0 a b) ≤ 38 + 14 * a.len + 14 * b.len + 6 * count r.head.cells + rows_cost text (rows_of r)) r
      (omega (arith, join-cost text (λ l. l) (λ l. le_refl _) (rows_of r)))
      (omega (
        arith,
        join-cost text (keep_cells mask) (keep-cost text mask) (rows_of r),
        kept-cols mask,
        cols_length text es r.head.cells r.others,
      ))
