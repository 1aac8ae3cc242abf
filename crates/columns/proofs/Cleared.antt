-- The whole buffer after the call: zeros between the new end and end + cols.
use mathlib.Core.Path.{◌≡◌, refl, ap, sym, ◌∙◌}
use mathlib.Core.List.{List, ◌++◌, append_assoc}
use mathlib.Core.Bool.{Bool, true, false, not, ◌||◌}
use Prim.Native.Nat.{ℕ, ◌+◌, ◌-◌, ◌≤◌}
use native.Mathlib.Omega.{arith}
use lib.ListN.{length, take, drop, replicate, length-append, length-replicate}
use lib.Seq.{paste, take_at, take_all, length-take-le}
use lib.Dec.{eqb}
use Rattle.reading.specs.Reading.{kept_cols}
use Rattle.columns.specs.declared.Split.{Split}
use Rattle.columns.specs.Columns.{has_room, are_cells, mask, is_split, split_words, split_of, split_tree}
use Rattle.columns.proofs.Cells.{cells-le}
use Rattle.columns.proofs.Shape.{and-true, room-parts, cells-parts, cells-untold}
use Rattle.columns.proofs.Laws.{split-bounds}

module _ (X x : List ℕ) (from e cells cols : ℕ) where
  -- nothing changes where there is no room
  pub no_room : {b : Bool} → b ≡ has_room (length x) e cols → b ≡ false
      → (record { end = e; cols = cols; cells = cells; lines = 0 } ≡ split_of X x from e cells cols) × (x ≡ split_tree X x from e cells cols)
  unfolding split_of is_split split_tree
  no_room u h =
      let r : has_room (length x) e cols ≡ false = sym u ∙ h in
      let a = cells-untold x from e cells cols r in
      (rw a refl, rw r refl)

  module _ (h : has_room (length x) e cols ≡ true) where
    inside : e + cols ≤ length x
    inside = (room-parts (length x) e cols h).2

    split-cells : is_split X x from e cells cols ≡ true → are_cells x from e cells cols ≡ true
    unfolding is_split
    split-cells s = (and-true (are_cells x from e cells cols) (not (eqb (kept_cols (mask X x from e cells cols)) 0 || eqb (kept_cols (mask X x from e cells cols)) cols)) s).0

    pub end-within : {r : Split} → r ≡ split_of X x from e cells cols → (e + cols ≤ length x) × (r.end ≤ e + cols)
    unfolding split_of
    end-within {r} s = (inside, rw s (go (is_split X x from e cells cols) refl))
      where
        go : (b : Bool) → is_split X x from e cells cols ≡ b → (split_of X x from e cells cols).end ≤ e + cols
        go true p = (split-bounds X x from e cells cols (split-cells p)).within
        go false p = rw p (omega arith)

    words_long : length (split_words X x from e cells cols) ≡ (split_of X x from e cells cols).end
    unfolding split_of split_words
    words_long = go (is_split X x from e cells cols) refl
      where
        go : (b : Bool) → is_split X x from e cells cols ≡ b → length (split_words X x from e cells cols) ≡ (split_of X x from e cells cols).end
        go true s =
            let on : from ≤ length x = omega (arith, inside, cells-le x cells from, (cells-parts x from e cells cols (split-cells s)).1) in
            rw s (simp length-append (omega (arith, length-take-le from x on)))
        go false s = rw s (length-take-le e x (omega (arith, inside)))

    -- the words up to the new end
    pub tree-front : take (split_of X x from e cells cols).end (split_tree X x from e cells cols) ≡ split_words X x from e cells cols
    unfolding split_tree
    tree-front =
        rw h (take_at (split_words X x from e cells cols) (replicate (e + cols - (split_of X x from e cells cols).end) 0 ++ drop (e + cols) x) (split_of X x from e cells cols).end words_long)

    -- the words past it, once they are cleared
    pub cleared : (y : List ℕ) {r : Split} → r ≡ split_of X x from e cells cols → take r.end y ≡ split_words X x from e cells cols
        → drop (e + cols) y ≡ drop (e + cols) x
        → paste y r.end (replicate (e + cols - r.end) 0) (e + cols - r.end) ≡ split_tree X x from e cells cols
    unfolding split_tree
    cleared y {r} s w d =
        let a : r.end ≡ (split_of X x from e cells cols).end = ap (λ (q : Split). q.end) s in
        let z : List ℕ = replicate (e + cols - r.end) 0 in
        let n : r.end + (e + cols - r.end) ≡ e + cols = omega (arith, (end-within s).1) in
        let t : take (e + cols - r.end) z ≡ z = take_all (e + cols - r.end) z (omega (arith, length-replicate {A = ℕ} (e + cols - r.end) 0)) in
        rw h (append_assoc (take r.end y) (take (e + cols - r.end) z) (drop (r.end + (e + cols - r.end)) y) ∙ rw (w, t, n, d, a) refl)
