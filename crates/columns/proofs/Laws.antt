-- Bounds of what the split leaves.
use mathlib.Core.Path.{◌≡◌, refl, ap, ◌∙◌}
use mathlib.Core.List.{List, [], ◌∷◌, ◌++◌}
use mathlib.Core.Bool.{Bool, true, false, cond}
use Prim.Native.Nat.{ℕ, zero, suc, ◌+◌, ◌≤◌}
use native.Mathlib.Omega.{arith}
use lib.ListN.{length, take, drop, get_or, set, replicate, length-append, length-set, length-replicate}
use lib.Seq.{take-take, take-append-le, length-take-le}
use Rattle.reading.specs.Reading.{kept_cols, column_lines}
use Rattle.columns.specs.Columns.{cell_len, cells_end, cells_from, are_cells, is_line, next, only_lines, other_cells, join_words, mask, left, is_split, split_words, split_of}
use Rattle.columns.specs.Rows.{Bounds}
use Rattle.columns.proofs.Cells.{cells-le}
use Rattle.columns.proofs.Shape.{cells-parts, room-parts}

kept-most : (m : List Bool) → kept_cols m ≤ length m
unfolding kept_cols
kept-most [] = omega arith
kept-most (true ∷ m) = omega (arith, kept-most m)
kept-most (false ∷ m) = omega (arith, kept-most m)

lines-most : (b : ℕ) (m : List Bool) → length (column_lines b m) ≤ length m
unfolding column_lines
lines-most b [] = omega arith
lines-most b (true ∷ m) = omega (arith, lines-most b m)
lines-most b (false ∷ m) = omega (arith, lines-most (suc b) m)

only-long : (X : List ℕ) (cols : ℕ) (m : List Bool) (j : ℕ) (ws : List (List ℕ)) → length (only_lines X cols m j ws) ≡ length m
unfolding only_lines
only-long X cols m j [] = refl
only-long X cols m j (w ∷ ws) = only-long X cols (cond (is_line X w) m (set m j false)) (next cols j) ws ∙ one (is_line X w)
  where
    one : (b : Bool) → length (cond b m (set m j false)) ≡ length m
    one true = refl
    one false = length-set m j false

other-most : (cols : ℕ) (m : List Bool) (j : ℕ) (ws : List (List ℕ)) → length (other_cells cols m j ws) ≤ length ws
unfolding other_cells
other-most cols m j [] = omega arith
other-most cols m j (w ∷ ws) = one (get_or m j false) (other_cells cols m (next cols j) ws) (other-most cols m (next cols j) ws)
  where
    one : (b : Bool) (r : List (List ℕ)) → length r ≤ length ws → length (cond b r (w ∷ r)) ≤ suc (length ws)
    one true r h = omega arith
    one false r h = omega arith

from_long : (x : List ℕ) (n at : ℕ) → length (cells_from x at n) ≡ n
unfolding cells_from
from_long x zero at = refl
from_long x (suc n) at = ap suc (from_long x n (at + cell_len x at))

take-most : (n : ℕ) (l : List ℕ) → length (take n l) ≤ n
take-most zero l = omega arith
take-most (suc n) [] = omega arith
take-most (suc n) (a ∷ l) = omega (arith, take-most n l)

words-most : (cols : ℕ) (m : List Bool) (x : List ℕ) (n at j : ℕ) → at + length (join_words (other_cells cols m j (cells_from x at n))) ≤ cells_end x at n
unfolding join_words other_cells cells_from cells_end
words-most cols m x zero at j = omega arith
words-most cols m x (suc n) at j =
    one (get_or m j false) (take (cell_len x at) (drop at x)) (other_cells cols m (next cols j) (cells_from x (at + cell_len x at) n)) (take-most (cell_len x at) (drop at x)) (words-most cols m x n (at + cell_len x at) (next cols j))
  where
    one : (b : Bool) (w : List ℕ) (r : List (List ℕ)) → length w ≤ cell_len x at → at + cell_len x at + length (join_words r) ≤ cells_end x (at + cell_len x at) n
        → at + length (join_words (cond b r (w ∷ r))) ≤ cells_end x (at + cell_len x at) n
    one true w r k h = omega arith
    one false w r k h = omega (arith, length-append w (join_words r))

module _ (X x : List ℕ) (from e cells cols : ℕ) where
  mask-long : length (mask X x from e cells cols) ≡ cols
  unfolding mask
  mask-long = only-long X cols (replicate cols true) 0 (cells_from x from cells) ∙ length-replicate cols true

  pub split-bounds : are_cells x from e cells cols ≡ true → Bounds x from e cells cols (split_words X x from e cells cols) (split_of X x from e cells cols)
  unfolding split_words split_of left
  split-bounds h = go (is_split X x from e cells cols) refl
    where
      m : List Bool
      m = mask X x from e cells cols

      q : List (List ℕ)
      q = left X x from e cells cols

      chain : cells_end x from cells ≡ e
      chain = (cells-parts x from e cells cols h).1

      on : from ≤ e
      on = omega (arith, cells-le x cells from, chain)

      inside : e + cols ≤ length x
      inside = (room-parts (length x) e cols (cells-parts x from e cells cols h).0).2

      go : (b : Bool) → is_split X x from e cells cols ≡ b → Bounds x from e cells cols (split_words X x from e cells cols) (split_of X x from e cells cols)
      go false p = rw p (record {
        front = take-take from e x on;
        on = on;
        within = omega arith;
        most_cols = omega arith;
        most_cells = omega arith;
        most_lines = omega arith;
      })
      go true p = rw p (record {
        front = take-append-le from (take from x) (join_words q ++ column_lines 0 m) (omega (arith, length-take-le from x (omega (arith, on, inside)))) ∙ take-take from from x (omega arith);
        on = omega arith;
        within = omega (arith, words-most cols m x cells from 0, chain, lines-most 0 m, mask-long);
        most_cols = omega (arith, kept-most m, mask-long);
        most_cells = omega (arith, other-most cols m 0 (cells_from x from cells), from_long x cells from);
        most_lines = omega (arith, lines-most 0 m, mask-long);
      })
