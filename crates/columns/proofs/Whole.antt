-- The steps of the split put together.
use mathlib.Core.Path.{◌≡◌, refl, ap, sym, ◌∙◌}
use mathlib.Core.List.{List, ◌++◌}
use mathlib.Core.Bool.{Bool, true, false, not, ◌&&◌, ◌||◌, cond}
use Prim.Native.Nat.{ℕ, ◌+◌, ◌-◌, ◌≤◌, ◌<◌}
use native.Mathlib.Omega.{arith}
use lib.ListN.{length, take, drop}
use lib.Dec.{eqb}
use Rattle.reading.specs.Reading.{kept_cols, column_lines}
use Rattle.columns.specs.declared.moves.Kept.{Kept}
use Rattle.columns.specs.Columns.{cells_end, cells_from, has_room, are_cells, join_words, mask, left, is_split, split_words, split_of}
use Rattle.columns.specs.Steps.{Wrote, Marked, Counted, KeptCount, CellsStand, KeptCells, Lines}
use Rattle.columns.proofs.Buffer.{same-take, take_less, drop_more, seq}
use Rattle.columns.proofs.Cells.{cells-le, cells_same, from_same}
use Rattle.columns.proofs.Shape.{room-parts, cells-parts, cells_told}

differ : {A : Type 0} → true ≡ false → A
differ e = let z : ◌≡◌ {A = ℕ} 0 1 = cc in absurd (omega arith)

module _ (X x : List ℕ) (from e cells cols : ℕ) where
  -- what count_kept answers, by its tests
  module _ {y : List ℕ} {t : Bool} (h : has_room (length x) e cols ≡ true) (p : Marked X x from e cells cols y t) where
    are : t ≡ are_cells x from e cells cols
    are = cells_told x from e cells cols t h p.tells

    pub count-not : t ≡ false → KeptCount X x from e cells cols y 0
    count-not q = record {
      beside = p.beside;
      tells = sym (ap (λ (s : Bool). cond s (kept_cols (mask X x from e cells cols)) 0) (sym are ∙ q));
      flag = λ g. differ (sym g ∙ sym are ∙ q);
    }

    pub count-some : {r : ℕ} → t ≡ true → Counted y e cols r → KeptCount X x from e cells cols y r
    count-some q n = record {
      beside = p.beside;
      tells = n (mask X x from e cells cols) (p.flag q) ∙ sym (ap (λ (s : Bool). cond s (kept_cols (mask X x from e cells cols)) 0) (sym are ∙ q));
      flag = λ g. p.flag q;
    }

  module _ {y : List ℕ} {k : ℕ} {w : Bool} (p : KeptCount X x from e cells cols y k) (u : w ≡ (eqb k 0 || eqb k cols)) where
    split-told : is_split X x from e cells cols ≡ not w
    unfolding is_split
    split-told = go (are_cells x from e cells cols) refl p.tells
      where
        go : (a : Bool) → are_cells x from e cells cols ≡ a → k ≡ cond a (kept_cols (mask X x from e cells cols)) 0
            → (are_cells x from e cells cols && not (eqb (kept_cols (mask X x from e cells cols)) 0 || eqb (kept_cols (mask X x from e cells cols)) cols)) ≡ not w
        go true h q = rw (h, u, q) refl
        go false h q = rw (h, u, q) refl

    -- no column is kept, or each
    pub whole : w ≡ true
        → (record { end = e; cols = cols; cells = cells; lines = 0 } ≡ split_of X x from e cells cols)
        × ((take e y ≡ split_words X x from e cells cols) × (drop (e + cols) y ≡ drop (e + cols) x))
    unfolding split_of split_words
    whole v = let n = split-told ∙ ap not v in (rw n refl, (rw n p.beside.front, p.beside.after))

    -- some are kept
    module _ (v : w ≡ false) where
      are-cells : are_cells x from e cells cols ≡ true
      are-cells = go (are_cells x from e cells cols) refl p.tells
        where
          go : (a : Bool) → are_cells x from e cells cols ≡ a → k ≡ cond a (kept_cols (mask X x from e cells cols)) 0 → are_cells x from e cells cols ≡ true
          go true h q = h
          go false h q = differ (sym (rw q at u) ∙ v)

      pub fits_in : (0 < cols) × (cols ≤ 4096) × (e + cols ≤ length y)
      fits_in = let r = room-parts (length x) e cols (cells-parts x from e cells cols are-cells).0 in (r.0, r.1, omega (arith, r.2, p.beside.long))

      ends : cells_end x from cells ≡ e
      ends = (cells-parts x from e cells cols are-cells).1

      pub stand : CellsStand y from e cells cols
      stand = record {
        chain = cells_same x y e cells from (same-take x y from e p.beside.front) ends;
        some = fits_in.0;
        room = fits_in.2;
      }

      cells_are : cells_from y from cells ≡ cells_from x from cells
      cells_are = from_same x y e cells from (same-take x y from e p.beside.front) (omega (arith, fits_in.2, p.beside.long)) p.beside.long ends

      pub split : {z z' : List ℕ} {out : ℕ} {r : Kept} → KeptCells y from e cells cols z r → Lines z r.end e cols z' out
          → (record { end = out; cols = k; cells = r.cells; lines = out - r.end } ≡ split_of X x from e cells cols)
          × ((take out z' ≡ split_words X x from e cells cols) × (drop (e + cols) z' ≡ drop (e + cols) x))
      unfolding split_of split_words left
      split {z} {z'} {out} {r} f g =
          let n = split-told ∙ ap not v in
          let m = mask X x from e cells cols in
          let kept = f.gives m (p.flag are-cells) in
          let lines : Wrote z r.end z' out (column_lines 0 m) = g.gives m (ap (take cols) f.after ∙ p.flag are-cells) in
          let body : Wrote y from z r.end (join_words (left X x from e cells cols)) = rw cells_are at kept.0 in
          let all = seq body lines in
          let from_e : from ≤ e = omega (arith, cells-le x cells from, ends) in
          let k_is : k ≡ kept_cols m = rw are-cells at p.tells in
          let out-is : out ≡ from + (length (join_words (left X x from e cells cols)) + length (column_lines 0 m)) = omega (arith, body.upto, lines.upto) in
          let cells_is : r.cells ≡ length (left X x from e cells cols) = rw cells_are at kept.1 in
          let lines-is : out - r.end ≡ length (column_lines 0 m) = omega (arith, lines.upto) in (
            rw (n, k_is, cells_is, lines-is, out-is) refl,
            (
              rw n (all.body ∙ ap (λ (q : List ℕ). q ++ (join_words (left X x from e cells cols) ++ column_lines 0 m)) (take_less x y from e from_e p.beside.front)),
              g.after ∙ drop_more y z e (e + cols) (omega arith) f.after ∙ p.beside.after,
            ),
          )
