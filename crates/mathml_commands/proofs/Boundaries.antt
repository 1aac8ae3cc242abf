-- The lines of a table one after the other.
use Prim.Native.Nat.{ℕ, zero, suc, ◌≤◌, ◌<◌}
use mathlib.Core.Path.{◌≡◌, refl, sym, ◌∙◌}
use mathlib.Core.Bool.{true, false}
use mathlib.Core.List.{List, [], ◌∷◌, ◌++◌}
use native.Mathlib.Omega.{arith}
use lib.Dec.{eqb}
use Rattle.std.specs.List.{list_any}
use lib.ListN.{length, get_or, take}
use lib.Seq.{take-suc, take_all}
use borrow.Author.Tests.{eq-eqb, ne_eqb, eqb-true}
use Rattle.tokens.proofs.Cases.{by_test, by_eq, clash}
use Rattle.mathml_rules.specs.Mathml.{has}
use Rattle.mathml_rules.specs.Refusal.{twice, refused_lines}
use Rattle.mathml_rules.proofs.Lists.{neither}

eqb-turned : (a b : ℕ) → eqb a b ≡ eqb b a
eqb-turned a b = by_eq a b (λ e. rw e) (λ n. ne_eqb a b n ∙ sym (ne_eqb b a (λ e. n (sym e))))

-- what `contains` says of a boundary
pub any-has : (j : ℕ) (lines : List ℕ) → list_any (λ b. eqb b j) lines ≡ has j lines
unfolding has
any-has j [] = refl
any-has j (b ∷ l) = rw (eqb-turned b j, any-has j l)

-- what a line at place i tells of all
has-at : (l : List ℕ) (i : ℕ) → i < length l → has (get_or l i 0) l ≡ true
unfolding has
has-at [] i h = absurd (omega arith)
has-at (a ∷ l) zero h = rw (eq-eqb a a refl)
has-at (a ∷ l) (suc i) h =
    by_test (eqb (get_or l i 0) a) (λ e. rw e) (λ e. rw e (has-at l i (omega arith)))

twice-at : (l : List ℕ) (i : ℕ) → i < length l → has (get_or l i 0) (take i l) ≡ true → twice l ≡ true
unfolding has twice
twice-at [] i h e = absurd (omega arith)
twice-at (a ∷ l) zero h e = clash false e refl
twice-at (a ∷ l) (suc i) h e =
    by_test (eqb (get_or l i 0) a)
    (λ d. let q : has a l ≡ true = rw (sym (eqb-true (get_or l i 0) a d)) (has-at l i (omega arith)) in rw q)
    (λ d.
    by_test (has a l) (λ q. rw q) (λ q. rw q (twice-at l i (omega arith) (rw d at e))))

has-snoc : (l : List ℕ) (j x : ℕ) → has j l ≡ false → (x ≡ j → ⊥) → has j (l ++ (x ∷ [])) ≡ false
unfolding has
has-snoc [] j x e h = rw (ne_eqb j x (λ f. h (sym f)))
has-snoc (a ∷ l) j x e h =
    let p = neither (eqb j a) (has j l) e in rw p.0 (has-snoc l j x p.1 h)

twice-snoc : (l : List ℕ) (x : ℕ) → twice l ≡ false → has x l ≡ false → twice (l ++ (x ∷ [])) ≡ false
unfolding has twice
twice-snoc [] x e f = refl
twice-snoc (a ∷ l) x e f =
    let p = neither (has a l) (twice l) e in
    let q = neither (eqb x a) (has x l) f in
    let d : x ≡ a → ⊥ = λ g. clash (eqb x a) (eq-eqb x a g) q.0 in
    rw (has-snoc l a x p.0 d) (twice-snoc l x p.1 q.1)

module _ (cols : ℕ) (lines : List ℕ) where
  module _ (i : ℕ) (h : i < length lines) where
    pub at_zero : get_or lines i 0 ≡ 0 → true ≡ refused_lines cols lines
    unfolding refused_lines
    at_zero e = let q : has 0 lines ≡ true = rw (sym e) (has-at lines i h) in sym (rw (q, refused_lines))

    pub at_cols : get_or lines i 0 ≡ cols → true ≡ refused_lines cols lines
    unfolding refused_lines
    at_cols e =
        let q : has cols lines ≡ true = rw (sym e) (has-at lines i h) in
        by_test (has 0 lines) (λ d. rw (d, refused_lines)) (λ d. rw (d, q, refused_lines))

    pub at_both : true ≡ has (get_or lines i 0) (take i lines) → true ≡ refused_lines cols lines
    unfolding refused_lines
    at_both e =
        let q : twice lines ≡ true = twice-at lines i h (sym e) in
        by_test (has 0 lines) (λ d. rw (d, refused_lines))
        (λ d. by_test (has cols lines) (λ g. rw (d, g, refused_lines)) (λ g. rw (d, g, q, refused_lines)))

  -- the first i lines are let pass, and none of them is past the highest
  pub record Passed (highest i : ℕ) : Type 0 where
    pub inside : i ≤ length lines
    pub zero-none : has 0 (take i lines) ≡ false
    pub cols_none : has cols (take i lines) ≡ false
    pub once : twice (take i lines) ≡ false
    pub below : (b : ℕ) → highest < b → has b (take i lines) ≡ false

  pub first : Passed 0 0
  unfolding has twice
  first = record { inside = omega arith; zero-none = refl; cols_none = refl; once = refl; below = λ b h. refl }

  -- one more
  next : (highest i higher : ℕ) → Passed highest i → i < length lines → (get_or lines i 0 ≡ 0 → ⊥) → (get_or lines i 0 ≡ cols → ⊥) → has (get_or lines i 0) (take i lines) ≡ false → highest ≤ higher → get_or lines i 0 ≤ higher → Passed higher (suc i)
  next highest i higher p h z c n u v =
      record {
        inside = h;
        zero-none = rw (take-suc lines i 0 h) (has-snoc (take i lines) 0 (get_or lines i 0) p.zero-none z);
        cols_none = rw (take-suc lines i 0 h) (has-snoc (take i lines) cols (get_or lines i 0) p.cols_none c);
        once = rw (take-suc lines i 0 h) (twice-snoc (take i lines) (get_or lines i 0) p.once n);
        below = λ b w. rw (take-suc lines i 0 h) (has-snoc (take i lines) b (get_or lines i 0) (p.below b (omega arith)) (λ e. absurd (omega arith)));
      }

  pub higher : (highest i : ℕ) → Passed highest i → i < length lines → (get_or lines i 0 ≡ 0 → ⊥) → (get_or lines i 0 ≡ cols → ⊥) → highest < get_or lines i 0 → Passed (get_or lines i 0) (suc i)
  higher highest i p h z c u = next highest i (get_or lines i 0) p h z c (p.below (get_or lines i 0) u) (omega arith) (omega arith)

  pub lower : (highest i : ℕ) → Passed highest i → i < length lines → (get_or lines i 0 ≡ 0 → ⊥) → (get_or lines i 0 ≡ cols → ⊥) → get_or lines i 0 ≤ highest → false ≡ has (get_or lines i 0) (take i lines) → Passed highest (suc i)
  lower highest i p h z c u n = next highest i highest p h z c (sym n) (omega arith) u

  pub all-passed : (highest i : ℕ) → Passed highest i → length lines ≤ i → false ≡ refused_lines cols lines
  unfolding refused_lines
  all-passed highest i p h =
      let t : take i lines ≡ lines = take_all i lines h in
      sym (rw (rw t at p.zero-none, rw t at p.cols_none, rw t at p.once, refused_lines))
