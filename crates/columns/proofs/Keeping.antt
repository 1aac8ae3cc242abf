-- The cells that are kept, one by one.
use mathlib.Core.Path.{◌≡◌, refl, ap, sym, subst, ◌∙◌}
use mathlib.Core.List.{List, [], ◌∷◌, ◌++◌, append_assoc, append-nil}
use mathlib.Core.Bool.{Bool, true, false, cond}
use Prim.Native.Nat.{ℕ, zero, suc, ◌+◌, ◌≤◌, ◌<◌}
use native.Mathlib.Omega.{arith}
use lib.ListN.{length, take, drop, get_or, length-append, length-drop}
use lib.Seq.{paste, drop-paste, length-paste}
use lib.Dec.{eqb}
use Rattle.columns.specs.Columns.{cell_len, cells_end, cells_from, other_cells, join_words, next}
use Rattle.tokens.specs.Refusals.{bit}
use Rattle.columns.specs.Steps.{Wrote, flags, bits, CellsStand, KeptCells}
use Rattle.columns.proofs.Buffer.{same_drop, drop_more, seq, wrote_none, wrote-moved}
use Rattle.columns.proofs.Cells.{cells-le, next-below}
use Rattle.columns.proofs.Boundaries.{flag_at}

join_one : (ws : List (List ℕ)) (w : List ℕ) → join_words (ws ++ (w ∷ [])) ≡ join_words ws ++ w
unfolding join_words
join_one [] w = append-nil w
join_one (v ∷ ws) w = ap (λ (r : List ℕ). v ++ r) (join_one ws w) ∙ sym (append_assoc v (join_words ws) w)

-- the cells of the columns before are read and those kept stand up to `to`; `left` cells stand from `at` on, the first in the column j
pub record Upto (x : List ℕ) (from cells cols : ℕ) (y : List ℕ) (at to c j left : ℕ) (m : List Bool) : Type 0 where
  pub done : List (List ℕ)
  pub wrote : Wrote x from y to (join_words done)
  pub same : done ++ other_cells cols m j (cells_from x at left) ≡ other_cells cols m 0 (cells_from x from cells)
  pub counted : c ≡ length done

-- the words were x and are y; i cells are read, c kept
pub record Keeping (x : List ℕ) (from e cells cols : ℕ) (y : List ℕ) (at to c j i : ℕ) : Type 0 where
  pub long : length y ≡ length x
  pub behind : to ≤ at
  pub most : c ≤ i
  pub col : j < cols
  pub left : ℕ
  pub sum : i + left ≡ cells
  pub chain : cells_end x at left ≡ e
  pub rest : drop at y ≡ drop at x
  pub gives : (m : List Bool) → flags e cols x ≡ bits m → Upto x from cells cols y at to c j left m

flag-pick : {A : Type 0} (b : Bool) (u v : A) → cond b u v ≡ cond (eqb (bit b) 0) v u
flag-pick true u v = refl
flag-pick false u v = refl

-- a kept cell's move leaves the words behind it
module _ (y : List ℕ) (to at n : ℕ) (t : to ≤ at) (h : at + n ≤ length y) where
  abbrev moved : List ℕ
  moved = paste y to (drop at y) n

  after-pick : (z : Bool) → drop (at + n) (cond z moved y) ≡ drop (at + n) y
  after-pick true = drop_more y moved (to + n) (at + n) (omega arith) (drop-paste y to (drop at y) n (omega arith) (omega (arith, length-drop at y)))
  after-pick false = refl

  long-pick : (z : Bool) → length (cond z moved y) ≡ length y
  long-pick true = length-paste y to (drop at y) n (omega arith) (omega (arith, length-drop at y))
  long-pick false = refl

-- the next cell, whose column is kept or not
module _ {x : List ℕ} {from cells cols : ℕ} {y : List ℕ} {at to c j left : ℕ} {m : List Bool} (u : Upto x from cells cols y at to c j (suc left) m)
    (t : to ≤ at) (fit : at + cell_len x at ≤ length y) (rest : drop at y ≡ drop at x) where
  abbrev n : ℕ
  n = cell_len x at

  abbrev this : List ℕ
  this = take n (drop at x)

  abbrev others : List (List ℕ)
  others = other_cells cols m (next cols j) (cells_from x (at + n) left)

  cell_same : (z : Bool) → eqb (bit (get_or m j false)) 0 ≡ z → u.done ++ cond z (this ∷ others) others ≡ other_cells cols m 0 (cells_from x from cells)
  unfolding other_cells cells_from
  cell_same z g =
      ap (λ (l : List (List ℕ)). u.done ++ l) (sym (flag-pick (get_or m j false) others (this ∷ others) ∙ ap (λ (b : Bool). cond b (this ∷ others) others) g)) ∙ u.same

  upto-cell : (z : Bool) → eqb (bit (get_or m j false)) 0 ≡ z
      → Upto x from cells cols (cond z (paste y to (drop at y) n) y) (at + n) (cond z (to + n) to) (cond z (c + 1) c) (next cols j) left m
  upto-cell true g = record {
    done = u.done ++ (this ∷ []);
    wrote = rw (join_one u.done this) (subst (λ (r : List ℕ). Wrote x from (paste y to (drop at y) n) (to + n) (join_words u.done ++ take n r)) rest (seq u.wrote (wrote-moved y to at n t fit)));
    same = append_assoc u.done (this ∷ []) others ∙ cell_same true g;
    counted = omega (arith, u.counted, length-append u.done (this ∷ []));
  }
  upto-cell false g = record { done = u.done; wrote = u.wrote; same = cell_same false g; counted = omega (arith, u.counted) }

module _ {x : List ℕ} {from e cells cols : ℕ} (ready : CellsStand x from e cells cols) where
  pub keeping_none : Keeping x from e cells cols x from from 0 0 0
  unfolding join_words
  keeping_none = record {
    long = refl;
    behind = omega arith;
    most = omega arith;
    col = ready.some;
    left = cells;
    sum = omega arith;
    chain = ready.chain;
    rest = refl;
    gives = λ m f. record { done = []; wrote = wrote_none x from; same = refl; counted = refl };
  }

  module _ {y : List ℕ} {at to c j i : ℕ} (p : Keeping x from e cells cols y at to c j i) where
    pub keeping_len : cell_len y at ≡ cell_len x at
    keeping_len = ap (λ (w : ℕ). 6 + w) (same_drop x y at (at + 4) (at + 5) p.rest (omega arith) (at + 4) (omega arith) (omega arith))

    pub keeping_fits : i < cells → at + cell_len y at ≤ e
    unfolding cells_end
    keeping_fits h = go p.left p.sum p.chain
      where
        go : (l : ℕ) → i + l ≡ cells → cells_end x at l ≡ e → at + cell_len y at ≤ e
        go zero s d = absurd (omega arith)
        go (suc l) s d = omega (arith, cells-le x l (at + cell_len x at), keeping_len)

    keeping_step : (z : Bool) (l : ℕ) → i + suc l ≡ cells → cells_end x at (suc l) ≡ e → ((m : List Bool) → flags e cols x ≡ bits m → Upto x from cells cols y at to c j (suc l) m)
        → i < cells → eqb (get_or y (e + j) 0) 0 ≡ z
        → let n = cell_len x at in Keeping x from e cells cols (cond z (paste y to (drop at y) n) y) (at + n) (cond z (to + n) to) (cond z (c + 1) c) (next cols j) (i + 1)
    unfolding cells_end
    keeping_step z l s d gives h f =
        let n : ℕ = cell_len x at in
        let y' : List ℕ = cond z (paste y to (drop at y) n) y in
        let fits : at + n ≤ e = omega (arith, keeping_fits h, keeping_len) in
        let inside : at + n ≤ length y = omega (arith, p.long, ready.room) in
        record {
          long = long-pick y to at n p.behind inside z ∙ p.long;
          behind = to_pick z;
          most = most_pick z;
          col = next-below cols j p.col;
          left = l;
          sum = omega arith;
          chain = d;
          rest = after-pick y to at n p.behind inside z ∙ drop_more x y at (at + n) (omega arith) p.rest;
          gives = λ m g.
              let b : get_or y (e + j) 0 ≡ bit (get_or m j false) = same_drop x y at (e + j) (e + j + 1) p.rest (omega arith) (e + j) (omega arith) (omega arith) ∙ flag_at x e cols ready.room m g j p.col in
              upto-cell (gives m g) p.behind inside p.rest z (rw b at f);
        }
      where
        to_pick : (z : Bool) → cond z (to + cell_len x at) to ≤ at + cell_len x at
        to_pick true = omega (arith, p.behind)
        to_pick false = omega (arith, p.behind)

        most_pick : (z : Bool) → cond z (c + 1) c ≤ i + 1
        most_pick true = omega (arith, p.most)
        most_pick false = omega (arith, p.most)

    pub keeping_more : (z : Bool) → i < cells → eqb (get_or y (e + j) 0) 0 ≡ z
        → let n = cell_len y at in Keeping x from e cells cols (cond z (paste y to (drop at y) n) y) (at + n) (cond z (to + n) to) (cond z (c + 1) c) (next cols j) (i + 1)
    keeping_more z h f = go p.left p.sum p.chain p.gives
      where
        go : (l : ℕ) → i + l ≡ cells → cells_end x at l ≡ e → ((m : List Bool) → flags e cols x ≡ bits m → Upto x from cells cols y at to c j l m)
            → let n = cell_len y at in Keeping x from e cells cols (cond z (paste y to (drop at y) n) y) (at + n) (cond z (to + n) to) (cond z (c + 1) c) (next cols j) (i + 1)
        go zero s d o = absurd (omega arith)
        go (suc l) s d o = rw keeping_len (keeping_step z l s d o h f)

    pub keeping_done : cells ≤ i → KeptCells x from e cells cols y (record { end = to; cells = c })
    unfolding cells_end cells_from other_cells
    keeping_done h = go p.left p.sum p.chain p.gives
      where
        go : (l : ℕ) → i + l ≡ cells → cells_end x at l ≡ e → ((m : List Bool) → flags e cols x ≡ bits m → Upto x from cells cols y at to c j l m) → KeptCells x from e cells cols y (record { end = to; cells = c })
        go (suc l) s d o = absurd (omega arith)
        go zero s d o = record {
          within = omega (arith, p.behind);
          after = drop_more x y at e (omega arith) p.rest;
          gives = λ m f.
              let q = o m f in
              let r = sym (append-nil q.done) ∙ q.same in
              (rw r at q.wrote, rw r at q.counted);
        }
