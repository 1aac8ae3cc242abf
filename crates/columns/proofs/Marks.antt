-- The flags after each cell.
use mathlib.Core.Path.{◌≡◌, refl, ap, sym, ◌∙◌}
use mathlib.Core.List.{List, [], ◌∷◌}
use mathlib.Core.Bool.{Bool, true, false, cond}
use Prim.Native.Nat.{ℕ, zero, suc, ◌+◌, ◌≤◌, ◌<◌}
use native.Mathlib.Omega.{arith}
use lib.ListN.{length, take, drop, set, replicate, length-replicate, length-set}
use lib.Seq.{paste, take_all, length-paste, drop-paste, take-set-le, take-set-lt, drop-set-add, drop-set-lt}
use lib.Dec.{eqb, leb}
use borrow.Author.Tests.{leb-true, leb-false, ne_eqb, eqb-true}
use Rattle.columns.specs.Columns.{cell_len, cells_end, cells_from, is_line, only_lines, next, mask}
use Rattle.tokens.specs.Refusals.{bit}
use Rattle.columns.specs.Steps.{flags, bits, Beside, Marked}
use Rattle.columns.proofs.Buffer.{Same, same-take, front-paste, part-paste, part_same}
use Rattle.columns.proofs.Cells.{cells-le, from_same, ends_same, next-below}

bits-set : (m : List Bool) (j : ℕ) → bits (set m j false) ≡ set (bits m) j 0
bits-set [] j = refl
bits-set (b ∷ m) zero = refl
bits-set (b ∷ m) (suc j) = ap (λ (r : List ℕ). bit b ∷ r) (bits-set m j)

bits-ones : (n : ℕ) → bits (replicate n true) ≡ replicate n 1
bits-ones zero = refl
bits-ones (suc n) = ap (λ (r : List ℕ). 1 ∷ r) (bits-ones n)

-- the flags, and the words beside them, after one cell
flag-mark : (x : List ℕ) (e cols j : ℕ) (t : Bool) (m : List Bool) → j < cols → flags e cols x ≡ bits m
    → flags e cols (cond t x (set x (e + j) 0)) ≡ bits (cond t m (set m j false))
flag-mark x e cols j true m h f = f
flag-mark x e cols j false m h f =
    ap (take cols) (drop-set-add e x j 0) ∙ take-set-lt cols (drop e x) j 0 h ∙ ap (λ (r : List ℕ). set r j 0) f ∙ sym (bits-set m j)

beside-mark : (t : Bool) (x : List ℕ) (e cols j : ℕ) → j < cols → Beside x e cols (cond t x (set x (e + j) 0))
beside-mark true x e cols j h = record { long = refl; front = refl; after = refl }
beside-mark false x e cols j h = record {
  long = length-set x (e + j) 0;
  front = take-set-le e x (e + j) 0 (omega arith);
  after = drop-set-lt (e + cols) x (e + j) 0 (omega arith);
}

beside_trans : {x y z : List ℕ} {e cols : ℕ} → Beside x e cols y → Beside y e cols z → Beside x e cols z
beside_trans p q = record { long = q.long ∙ p.long; front = q.front ∙ p.front; after = q.after ∙ p.after }

-- i cells are marked, and the next stands at `at` in the column j; the words were x, with ones for flags, and are y
pub record Marking (X x : List ℕ) (from e cells cols : ℕ) (y : List ℕ) (at j i : ℕ) : Type 0 where
  pub beside : Beside x e cols y
  pub col : j < cols
  pub left : ℕ
  pub sum : i + left ≡ cells
  pub chain : cells_end x at left ≡ cells_end x from cells
  pub sofar : List Bool
  pub flag : flags e cols y ≡ bits sofar
  pub same : only_lines X cols sofar j (cells_from x at left) ≡ mask X x from e cells cols

module _ {X x y : List ℕ} {from e cells cols at j i : ℕ} (room : e ≤ length x) (m : Marking X x from e cells cols y at j i) (h : i < cells) where
  -- the next cell passes e
  pub marking-broken : e < at + cell_len y at → false ≡ eqb (cells_end x from cells) e
  unfolding cells_end
  marking-broken p = sym (ne_eqb (cells_end x from cells) e (go m.left m.sum m.chain))
    where
      past : (b : Bool) → leb (at + 6) e ≡ b → e < at + cell_len x at
      past true q = omega (arith, same-take x y at e m.beside.front (at + 4) (omega arith) (omega (arith, leb-true (at + 6) e q)))
      past false q = omega (arith, leb-false (at + 6) e q)

      go : (l : ℕ) → i + l ≡ cells → cells_end x at l ≡ cells_end x from cells → cells_end x from cells ≡ e → ⊥
      go zero s c r = omega arith
      go (suc l) s c r = omega (arith, cells-le x l (at + cell_len x at), past (leb (at + 6) e) refl)

  pub marking-more : {y' : List ℕ} {t : Bool} {j' n : ℕ} → at + cell_len y at ≤ e → n ≡ cell_len y at → t ≡ is_line X (take (cell_len y at) (drop at y)) → y' ≡ cond t y (set y (e + j) 0)
      → j' ≡ next cols j → Marking X x from e cells cols y' (at + n) j' (i + 1)
  unfolding cells_end cells_from only_lines
  marking-more {y'} {t} {j'} {n} f o u g c =
      let s : Same x y at e = same-take x y at e m.beside.front in
      let k : cell_len y at ≡ cell_len x at = ap (λ (w : ℕ). 6 + w) (s (at + 4) (omega arith) (omega (arith, f))) in
      let w : take (cell_len x at) (drop at y) ≡ take (cell_len x at) (drop at x) = part_same x y at (cell_len x at) (omega (arith, f)) m.beside.long (λ i p q. s i p (omega (arith, f))) in
      let v : t ≡ is_line X (take (cell_len x at) (drop at x)) = u ∙ ap (λ (o : ℕ). is_line X (take o (drop at y))) k ∙ ap (is_line X) w in
      go m.left m.sum m.chain m.same (o ∙ k) v
    where
      go : (l : ℕ) → i + l ≡ cells → cells_end x at l ≡ cells_end x from cells → only_lines X cols m.sofar j (cells_from x at l) ≡ mask X x from e cells cols
          → n ≡ cell_len x at → t ≡ is_line X (take (cell_len x at) (drop at x)) → Marking X x from e cells cols y' (at + n) j' (i + 1)
      go zero s d o k v = absurd (omega arith)
      go (suc l) s d o k v = rw (k, c) (record {
        beside = beside_trans m.beside (rw g (beside-mark t y e cols j m.col));
        col = next-below cols j m.col;
        left = l;
        sum = omega arith;
        chain = d;
        sofar = cond t m.sofar (set m.sofar j false);
        flag = ap (flags e cols) g ∙ flag-mark y e cols j t m.sofar m.col m.flag;
        same = rw v o;
      })

-- before the first cell the flags are ones
ones_flags : (x : List ℕ) (e cols : ℕ) → e + cols ≤ length x → flags e cols (paste x e (replicate cols 1) cols) ≡ bits (replicate cols true)
ones_flags x e cols h =
    let n : length {A = ℕ} (replicate cols 1) ≡ cols = length-replicate {A = ℕ} cols 1 in
    part-paste x e (replicate cols 1) cols (omega arith) (omega arith) ∙ take_all cols (replicate cols 1) (omega arith) ∙ sym (bits-ones cols)

module _ (X x y : List ℕ) (from e cells cols : ℕ) (room : e + cols ≤ length x) (ones : y ≡ paste x e (replicate cols 1) cols) where
  pub marking-none : 0 < cols → Marking X y from e cells cols y from 0 0
  unfolding mask
  marking-none some = record {
    beside = record { long = refl; front = refl; after = refl };
    col = some;
    left = cells;
    sum = omega arith;
    chain = refl;
    sofar = replicate cols true;
    flag = ap (flags e cols) ones ∙ ones_flags x e cols room;
    same = refl;
  }

  pub beside-ones : Beside x e cols y
  beside-ones =
      let n : length {A = ℕ} (replicate cols 1) ≡ cols = length-replicate {A = ℕ} cols 1 in
      rw ones (record {
        long = length-paste x e (replicate cols 1) cols room (omega arith);
        front = front-paste x e (replicate cols 1) cols (omega arith);
        after = drop-paste x e (replicate cols 1) cols (omega arith) (omega arith);
      })

  -- what is told of the words with ones for flags holds of those before
  marked : {z : List ℕ} {r : Bool} → Beside y e cols z → r ≡ eqb (cells_end y from cells) e → (r ≡ true → flags e cols z ≡ bits (mask X y from e cells cols))
      → Marked X x from e cells cols z r
  unfolding mask
  marked {z} b t f =
      let s : Same x y from e = same-take x y from e beside-ones.front in
      let told = t ∙ ends_same x y e cells from s (same-take y x from e (sym beside-ones.front)) in
      record {
        beside = beside_trans beside-ones b;
        tells = told;
        flag = λ g.
            let c : cells_from y from cells ≡ cells_from x from cells = from_same x y e cells from s (omega arith) beside-ones.long (eqb-true (cells_end x from cells) e (sym told ∙ g)) in
            f g ∙ ap (λ (ws : List (List ℕ)). bits (only_lines X cols (replicate cols true) 0 ws)) c;
      }

  pub marked-broken : {z : List ℕ} {at j i : ℕ} → Marking X y from e cells cols z at j i → i < cells → e < at + cell_len z at → Marked X x from e cells cols z false
  marked-broken m h f = marked m.beside (marking-broken (omega (arith, beside-ones.long)) m h f) (λ g. absurd (let q : ◌≡◌ {A = ℕ} 0 1 = cc in omega arith))

  pub marked-done : {z : List ℕ} {at j i : ℕ} {r : Bool} → Marking X y from e cells cols z at j i → cells ≤ i → r ≡ eqb at e → Marked X x from e cells cols z r
  unfolding cells_end cells_from only_lines
  marked-done {z} {at} {j} {i} {r} m h q = go m.left m.sum m.chain m.same
    where
      go : (l : ℕ) → i + l ≡ cells → cells_end y at l ≡ cells_end y from cells → only_lines X cols m.sofar j (cells_from y at l) ≡ mask X y from e cells cols
          → Marked X x from e cells cols z r
      go zero s d o = marked m.beside (q ∙ ap (λ (k : ℕ). eqb k e) d) (λ g. m.flag ∙ ap bits o)
      go (suc l) s d o = absurd (omega arith)
