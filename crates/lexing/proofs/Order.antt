-- The order of spellings is transitive and strict, and one test of a whole table says it of each two rows.
use mathlib.Core.Path.{◌≡◌, refl, ◌∙◌}
use mathlib.Core.Logic.{◌⊎◌, inl, inr, ⊎_elim}
use mathlib.Core.Bool.{true, false}
use mathlib.Core.List.{List, [], ◌∷◌}
use Prim.Native.Nat.{ℕ, zero, suc, ◌<◌}
use native.Mathlib.Omega.{arith}
use native.Mathlib.Nat.{not-suc-le-zero, le_of_suc-le-suc}
use lib.Dec.{eqb, ltb}
use lib.ListN.{length, get_or}
use borrow.Author.Tests.{ltb-true, eqb-true, lt-ltb, le-ltb, eq-eqb}
use Rattle.lexing.specs.Spellings.{Row, rows}
use Rattle.lexing.specs.Order.{before, sorted_from}
use Rattle.lexing.specs.Longest.{begins}
use Rattle.tokens.proofs.Cases.{by_test, by_lt, clash}
use Rattle.lexing.proofs.Begins.{begins-cons}

pub before-cons : (x y : ℕ) (a b : List ℕ) → before (x ∷ a) (y ∷ b) ≡ true → (x < y) ⊎ ((x ≡ y) × (before a b ≡ true))
unfolding before
before-cons x y a b p =
    by_test (ltb x y) (λ e. inl (ltb-true x y e))
    (λ e.
    by_test (eqb x y) (λ f. inr (eqb-true x y f, rw f at (rw (e, before) at p)))
    (λ f. clash false (rw f at (rw (e, before) at p)) refl))

pub before_head : (x y : ℕ) (a b : List ℕ) → x < y → before (x ∷ a) (y ∷ b) ≡ true
unfolding before
before_head x y a b h = rw (lt-ltb x y h, before)

pub before-tail : (x y : ℕ) (a b : List ℕ) → x ≡ y → before a b ≡ true → before (x ∷ a) (y ∷ b) ≡ true
unfolding before
before-tail x y a b e h = rw (le-ltb x y (omega arith), before) (rw (eq-eqb x y e) h)

pub before-trans : (a b c : List ℕ) → before a b ≡ true → before b c ≡ true → before a c ≡ true
unfolding before
before-trans a b [] p q = q
before-trans a [] (z ∷ c) p q = clash false p refl
before-trans [] (y ∷ b) (z ∷ c) p q = refl
before-trans (x ∷ a) (y ∷ b) (z ∷ c) p q =
    ⊎_elim (λ l. before_head x z a c (⊎_elim (λ m. omega arith) (λ m. omega arith) (before-cons y z b c q)))
    (λ l.
    ⊎_elim (λ m. before_head x z a c (omega arith))
    (λ m. before-tail x z a c (l.0 ∙ m.0) (before-trans a b c l.1 m.1)) (before-cons y z b c q))
    (before-cons x y a b p)

pub before-strict : (a : List ℕ) → before a a ≡ true → ⊥
unfolding before
before-strict [] p = clash false p refl
before-strict (x ∷ a) p = ⊎_elim (λ l. omega arith) (λ l. before-strict a l.1) (before-cons x x a a p)

-- of two keys that begin one text, the later in the order is the longer
pub before-longer : (a b s : List ℕ) → before a b ≡ true → begins a s ≡ true → begins b s ≡ true → length a < length b
unfolding before begins
before-longer a [] s h p q = clash false h refl
before-longer [] (y ∷ b) s h p q = omega arith
before-longer (x ∷ a) (y ∷ b) [] h p q = clash false p refl
before-longer (x ∷ a) (y ∷ b) (z ∷ s) h p q =
    let u = begins-cons x z a s p in
    let v = begins-cons y z b s q in
    ⊎_elim (λ l. absurd (omega arith)) (λ l. omega (arith, before-longer a b s l.1 u.1 v.1)) (before-cons x y a b h)

pub sorted-cons : (p : List ℕ) (r : Row) (rs : List Row) → sorted_from p (r ∷ rs) ≡ true
    → (before p r.spelling ≡ true) × (sorted_from r.spelling rs ≡ true)
unfolding sorted_from
sorted-cons p r rs h =
    by_test (before p r.spelling) (λ e. (e, rw (e, sorted_from) at h)) (λ e. clash false (rw (e, sorted_from) at h) refl)

module _ (d : Row) where
  pub sorted-above : (p : List ℕ) (rs : List Row) → sorted_from p rs ≡ true → (k : ℕ) → k < length rs
      → before p (get_or rs k d).spelling ≡ true
  sorted-above p [] h k l = absurd (not-suc-le-zero l)
  sorted-above p (r ∷ rs) h zero l = (sorted-cons p r rs h).0
  sorted-above p (r ∷ rs) h (suc k) l =
      before-trans p r.spelling (get_or rs k d).spelling (sorted-cons p r rs h).0
      (sorted-above r.spelling rs (sorted-cons p r rs h).1 k (le_of_suc-le-suc l))

  pub sorted-pair : (p : List ℕ) (rs : List Row) → sorted_from p rs ≡ true → (i j : ℕ) → i < j → j < length rs
      → before (get_or rs i d).spelling (get_or rs j d).spelling ≡ true
  sorted-pair p [] h i j l m = absurd (not-suc-le-zero m)
  sorted-pair p (r ∷ rs) h i zero l m = absurd (not-suc-le-zero l)
  sorted-pair p (r ∷ rs) h zero (suc j) l m = sorted-above r.spelling rs (sorted-cons p r rs h).1 j (le_of_suc-le-suc m)
  sorted-pair p (r ∷ rs) h (suc i) (suc j) l m =
      sorted-pair r.spelling rs (sorted-cons p r rs h).1 i j (le_of_suc-le-suc l) (le_of_suc-le-suc m)

  -- two rows that begin one text and are equally long are one
  pub same_place : (rs : List Row) → sorted_from [] rs ≡ true → (s : List ℕ) (i j : ℕ) → i < length rs → j < length rs
      → begins (get_or rs i d).spelling s ≡ true → begins (get_or rs j d).spelling s ≡ true
      → length (get_or rs i d).spelling ≡ length (get_or rs j d).spelling → i ≡ j
  same_place rs t s i j h l p q e =
      by_lt i j (λ u. absurd (omega (arith, before-longer _ _ s (sorted-pair [] rs t i j u l) p q)))
      (λ u. by_lt j i (λ v. absurd (omega (arith, before-longer _ _ s (sorted-pair [] rs t j i v h) q p))) (λ v. omega arith))

pub sorted : sorted_from [] rows ≡ true
unfolding sorted_from before rows
sorted = refl
