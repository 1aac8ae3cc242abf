-- Cells in the tree's words, one by one: where they end, and their words.
use mathlib.Core.Path.{◌≡◌, refl, ap, sym, ◌∙◌}
use mathlib.Core.List.{List}
use mathlib.Core.Bool.{Bool, true, false, cond}
use Prim.Native.Nat.{ℕ, zero, suc, ◌+◌, ◌≤◌, ◌<◌}
use native.Mathlib.Omega.{arith}
use lib.ListN.{length, take, drop}
use lib.Dec.{eqb}
use borrow.Author.Tests.{eqb-true, eqb-false, eq-eqb, ne_eqb}
use Rattle.columns.specs.Columns.{cell_len, cells_end, cells_from, next}
use Rattle.columns.proofs.Buffer.{Same, part_same}

pub next-below : (cols j : ℕ) → j < cols → next cols j < cols
next-below cols j h = go (eqb (j + 1) cols) refl
  where
    go : (b : Bool) → eqb (j + 1) cols ≡ b → next cols j < cols
    go true p = rw p (omega arith)
    go false p = rw p (omega (arith, eqb-false (j + 1) cols p))

pub next_last : (cols j : ℕ) → j + 1 ≡ cols → next cols j ≡ 0
next_last cols j e = ap (λ (b : Bool). cond b 0 (j + 1)) (eq-eqb (j + 1) cols e)

pub next_more : (cols j : ℕ) → (j + 1 ≡ cols → ⊥) → next cols j ≡ j + 1
next_more cols j e = ap (λ (b : Bool). cond b 0 (j + 1)) (ne_eqb (j + 1) cols e)

-- by the lengths in the headers
pub cells-le : (x : List ℕ) (n at : ℕ) → at ≤ cells_end x at n
unfolding cells_end
cells-le x zero at = omega arith
cells-le x (suc n) at = omega (arith, cells-le x n (at + cell_len x at))

-- Words that are the same up to e hold the same cells, if these end there.
module _ (x y : List ℕ) (e : ℕ) where
  pub cells_same : (n at : ℕ) → Same x y at e → cells_end x at n ≡ e → cells_end y at n ≡ e
  unfolding cells_end
  cells_same zero at s c = c
  cells_same (suc n) at s c =
      let after : ℕ = at + cell_len x at in
      let l : after ≤ e = omega (arith, cells-le x n after) in
      rw (s (at + 4) (omega arith) (omega arith)) (cells_same n after (λ i h q. s i (omega arith) q) c)

  pub from_same : (n at : ℕ) → Same x y at e → e ≤ length x → length y ≡ length x → cells_end x at n ≡ e → cells_from y at n ≡ cells_from x at n
  unfolding cells_end cells_from
  from_same zero at s h k c = refl
  from_same (suc n) at s h k c =
      let after : ℕ = at + cell_len x at in
      let l : after ≤ e = omega (arith, cells-le x n after) in
      let p : take (cell_len x at) (drop at y) ≡ take (cell_len x at) (drop at x) = part_same x y at (cell_len x at) (omega arith) k (λ i q r. s i q (omega arith)) in
      let r : cells_from y after n ≡ cells_from x after n = from_same n after (λ i q r. s i (omega arith) r) h k c in
      rw (s (at + 4) (omega arith) (omega arith), p, r) refl

pub ends_same : (x y : List ℕ) (e n at : ℕ) → Same x y at e → Same y x at e → eqb (cells_end y at n) e ≡ eqb (cells_end x at n) e
ends_same x y e n at s t = go (eqb (cells_end y at n) e) refl
  where
    go : (b : Bool) → eqb (cells_end y at n) e ≡ b → eqb (cells_end y at n) e ≡ eqb (cells_end x at n) e
    go true p = p ∙ sym (eq-eqb (cells_end x at n) e (cells_same y x e n at t (eqb-true (cells_end y at n) e p)))
    go false p = p ∙ sym (ne_eqb (cells_end x at n) e (λ q. eqb-false (cells_end y at n) e p (cells_same x y e n at s q)))
