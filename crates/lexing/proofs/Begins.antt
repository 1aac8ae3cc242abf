-- When a key begins a text, and what the longest of some rows is.
use mathlib.Core.Path.{◌≡◌, refl, ◌∙◌}
use mathlib.Core.Bool.{true, false}
use mathlib.Core.List.{List, [], ◌∷◌}
use mathlib.Core.Option.{Option, none, some}
use Prim.Native.Nat.{ℕ, zero, suc, ◌+◌, ◌≤◌, ◌<◌}
use native.Mathlib.Omega.{arith}
use native.Mathlib.Numerals.{add-one}
use native.Mathlib.Nat.{add-suc, not-suc-le-zero, le_of_suc-le-suc}
use lib.Dec.{eqb}
use lib.ListN.{length, get_or, take, drop, drop_of_length-le}
use lib.Seq.{drop-cons}
use borrow.Author.Tests.{lt-ltb, le-ltb, eqb-true, eq-eqb, ne_eqb}
use Rattle.lexing.specs.Spellings.{Row}
use Rattle.lexing.specs.Longest.{begins, Numbered, longer, longest_of}
use Rattle.tokens.proofs.Cases.{by_test, by_lt, clash}

pub begins-cons : (k x : ℕ) (ks s : List ℕ) → begins (k ∷ ks) (x ∷ s) ≡ true → (k ≡ x) × (begins ks s ≡ true)
unfolding begins
begins-cons k x ks s p =
    by_test (eqb k x) (λ e. (eqb-true k x e, rw (e, begins) at p)) (λ e. clash false (rw (e, begins) at p) refl)

pub begins-length : (ks s : List ℕ) → begins ks s ≡ true → length ks ≤ length s
unfolding begins
begins-length [] s p = omega arith
begins-length (k ∷ ks) [] p = clash false p refl
begins-length (k ∷ ks) (x ∷ s) p = omega (arith, begins-length ks s (begins-cons k x ks s p).1)

pub begins-self : (ks : List ℕ) → begins ks ks ≡ true
unfolding begins
begins-self [] = refl
begins-self (k ∷ ks) = rw (eq-eqb k k refl, begins) (begins-self ks)

-- the key is what the text begins with, byte by byte and as a whole
pub begins-at : (ks s : List ℕ) (j : ℕ) → begins ks s ≡ true → j < length ks → get_or ks j 0 ≡ get_or s j 0
unfolding begins
begins-at [] s j e h = absurd (not-suc-le-zero h)
begins-at (k ∷ ks) [] j e h = clash false e refl
begins-at (k ∷ ks) (x ∷ s) zero e h = (begins-cons k x ks s e).0
begins-at (k ∷ ks) (x ∷ s) (suc j) e h = begins-at ks s j (begins-cons k x ks s e).1 (le_of_suc-le-suc h)

pub begins-take : (ks s : List ℕ) → begins ks s ≡ true → take (length ks) s ≡ ks
unfolding begins
begins-take [] s e = refl
begins-take (k ∷ ks) [] e = clash false e refl
begins-take (k ∷ ks) (x ∷ s) e =
    let b = begins-cons k x ks s e in
    rw (b.0, begins-take ks s b.1)

-- a longer key does not
pub begins-past : (ks s : List ℕ) → length s < length ks → begins ks s ≡ false
begins-past ks s h = by_test (begins ks s) (λ e. absurd (omega (arith, begins-length ks s e))) (λ e. e)

-- one step at place j of the key and place i of the text
module _ (ks s : List ℕ) (j i : ℕ) where
  pub begins-end : length ks ≤ j → begins (drop j ks) (drop i s) ≡ true
  unfolding begins
  begins-end h = rw (drop_of_length-le ks h)

  module _ (h : j < length ks) (l : i < length s) where
    begins-equal : get_or ks j 0 ≡ get_or s i 0 → begins (drop j ks) (drop i s) ≡ begins (drop (suc j) ks) (drop (suc i) s)
    unfolding begins
    begins-equal e = rw (drop-cons ks j 0 h, drop-cons s i 0 l) (rw (eq-eqb _ _ e, begins))

    pub begins-other : (get_or ks j 0 ≡ get_or s i 0 → ⊥) → begins (drop j ks) (drop i s) ≡ false
    unfolding begins
    begins-other e = rw (drop-cons ks j 0 h, drop-cons s i 0 l) (rw (ne_eqb _ _ e, begins))

module _ (ks s : List ℕ) (at : ℕ) where
  pub begins-next : (j : ℕ) → j < length ks → at + j < length s → get_or ks j 0 ≡ get_or s (at + j) 0
      → begins (drop j ks) (drop (at + j) s) ≡ begins (drop (j + 1) ks) (drop (at + (j + 1)) s)
  begins-next j h l e = rw (add-one j, add-suc at j) (begins-equal ks s j (at + j) h l e)

  -- past two equal bytes
  pub begins-two : 2 ≤ length ks → at + 1 < length s → get_or ks 0 0 ≡ get_or s at 0 → get_or ks 1 0 ≡ get_or s (at + 1) 0
      → begins ks (drop at s) ≡ begins (drop 2 ks) (drop (at + 2) s)
  begins-two h l e f = begins-equal ks s 0 at (omega arith) (omega arith) e ∙ rw (← add-one at) (begins-next 1 h l f)

-- a row that begins s has at most n bytes
abbrev pub NoLonger : List ℕ → ℕ → Row → Type 0
NoLonger s n r = begins r.spelling s ≡ true → length r.spelling ≤ n

-- what an answer says of the rows, numbered from i
pub record Found (rs : List Row) (i : ℕ) (s : List ℕ) (f : Numbered) : Type 0 where
  pub place : ℕ
  pub number_is : f.number ≡ i + place
  pub inside : place < length rs
  pub row_is : (d : Row) → get_or rs place d ≡ f.row
  pub fits : begins f.row.spelling s ≡ true
  pub longest : (d : Row) (k : ℕ) → k < length rs → NoLonger s (length f.row.spelling) (get_or rs k d)

abbrev pub Answered : List Row → ℕ → List ℕ → Option Numbered → Type 0
Answered rs i s none = (d : Row) (k : ℕ) → k < length rs → begins (get_or rs k d).spelling s ≡ false
Answered rs i s (some f) = Found rs i s f

-- what holds of the first row and of all others
pub at_each : (P : Row → Type 0) (r : Row) (rs : List Row) (d : Row) → P r → ((k : ℕ) → k < length rs → P (get_or rs k d))
    → (k : ℕ) → k < length (r ∷ rs) → P (get_or (r ∷ rs) k d)
at_each P r rs d p f zero h = p
at_each P r rs d p f (suc k) h = f k (le_of_suc-le-suc h)

module _ (r : Row) (rs : List Row) (i : ℕ) (s : List ℕ) where
  -- an answer of the rows behind the first
  behind : (f : Numbered) → Found rs (suc i) s f → NoLonger s (length f.row.spelling) r → Found (r ∷ rs) i s f
  behind f a l =
      record {
        place = suc a.place;
        number_is = omega (arith, a.number_is);
        inside = omega (arith, a.inside);
        row_is = a.row_is;
        fits = a.fits;
        longest = λ d. at_each (NoLonger s (length f.row.spelling)) r rs d l (a.longest d);
      }

  -- the first row is the answer
  here : begins r.spelling s ≡ true
      → ((d : Row) (k : ℕ) → k < length rs → NoLonger s (length r.spelling) (get_or rs k d))
      → Found (r ∷ rs) i s (record { number = i; row = r })
  here e l =
      record {
        place = 0;
        number_is = omega arith;
        inside = omega arith;
        row_is = λ d. refl;
        fits = e;
        longest = λ d. at_each (NoLonger s (length r.spelling)) r rs d (λ b. omega arith) (l d);
      }

  skipped : begins r.spelling s ≡ false → (o : Option Numbered) → Answered rs (suc i) s o → Answered (r ∷ rs) i s o
  skipped e none a = λ d. at_each (λ q. begins q.spelling s ≡ false) r rs d e (a d)
  skipped e (some f) a = behind f a (λ b. clash (begins r.spelling s) b e)

  taken : begins r.spelling s ≡ true → (o : Option Numbered) → Answered rs (suc i) s o
      → Answered (r ∷ rs) i s (longer (some (record { number = i; row = r })) o)
  taken e none a =
      rw (le-ltb (length r.spelling) 0 (omega arith), longer)
      (here e (λ d k h b. clash (begins (get_or rs k d).spelling s) b (a d k h)))
  taken e (some f) a =
      by_lt (length r.spelling) (length f.row.spelling)
      (λ l. rw (lt-ltb (length r.spelling) (length f.row.spelling) l, longer) (behind f a (λ b. omega arith)))
      (λ l. rw (le-ltb (length r.spelling) (length f.row.spelling) l, longer)
      (here e (λ d k h b. omega (arith, a.longest d k h b))))

pub answered : (rs : List Row) (i : ℕ) (s : List ℕ) → Answered rs i s (longest_of rs i s)
unfolding longest_of
answered [] i s = λ d k h. absurd (not-suc-le-zero h)
answered (r ∷ rs) i s =
    by_test (begins r.spelling s)
    (λ e. rw (e, longest_of) (taken r rs i s e (longest_of rs (suc i) s) (answered rs (suc i) s)))
    (λ e. rw (e, longest_of) (skipped r rs i s e (longest_of rs (suc i) s) (answered rs (suc i) s)))
