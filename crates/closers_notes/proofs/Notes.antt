-- What is left where closers are cleared, and the words of closers one by one.
use Prim.Native.Nat.{ℕ, zero, suc, ◌+◌, ◌-◌, ◌≤◌, ◌<◌}
use mathlib.Core.Path.{◌≡◌, refl, sym, ap, ◌∙◌}
use mathlib.Core.List.{List, ◌++◌}
use native.Mathlib.Omega.{arith}
use native.Mathlib.Decide.{ℕ_discrete}
use lib.ListN.{length, get_or, drop}
use lib.Seq.{ext_get_or}
use borrow.Author.Tests.{lt-ltb, le-ltb}
use Rattle.records.specs.Record.{marks_of, closer_of, Whole, with_closer, Kept}
use Rattle.stores.proofs.Stores.{kept_refl, kept_trans, closer-kept, closer-length, closer-same, closer-other, marks-of_closer}
use Rattle.closers_notes.specs.Notes.{cleared, closer_words, with_closers}

-- one entry more, and none left
pub cleared-next : (to i : ℕ) (K : List ℕ) → i < to → cleared (to - (i + 1)) (i + 1) (with_closer K i 0) ≡ cleared (to - i) i K
unfolding cleared
cleared-next to i K h =
    let z : to - i ≡ suc (to - (i + 1)) = omega arith in
    let w : i + 1 ≡ suc i = omega arith in
    rw (z, w)

pub cleared-end : (to i : ℕ) (K : List ℕ) → to ≤ i → K ≡ cleared (to - i) i K
unfolding cleared
cleared-end to i K h = let z : to - i ≡ zero = omega arith in rw z

pub cleared-kept : (k i : ℕ) (K : List ℕ) → Kept K (cleared k i K)
unfolding cleared
cleared-kept zero i K = kept_refl K
cleared-kept (suc k) i K = kept_trans (closer-kept K i 0) (cleared-kept k (suc i) (with_closer K i 0))

pub cleared-marks : (k i : ℕ) (K : List ℕ) (j : ℕ) → marks_of (cleared k i K) j ≡ marks_of K j
unfolding cleared
cleared-marks zero i K j = refl
cleared-marks (suc k) i K j = cleared-marks k (suc i) (with_closer K i 0) j ∙ marks-of_closer K i 0 j

pub cleared-below : (k i : ℕ) (K : List ℕ) (j : ℕ) → j < i → closer_of (cleared k i K) j ≡ closer_of K j
unfolding cleared
cleared-below zero i K j h = refl
cleared-below (suc k) i K j h = cleared-below k (suc i) (with_closer K i 0) j (omega arith) ∙ closer-other K i 0 j (λ z. omega arith)

pub cleared-behind : (k i : ℕ) (K : List ℕ) (j : ℕ) → i + k ≤ j → closer_of (cleared k i K) j ≡ closer_of K j
unfolding cleared
cleared-behind zero i K j h = refl
cleared-behind (suc k) i K j h = cleared-behind k (suc i) (with_closer K i 0) j (omega arith) ∙ closer-other K i 0 j (λ z. omega arith)

pub cleared-inside : (k i : ℕ) (K : List ℕ) (j : ℕ) → i ≤ j → j < i + k → Whole K j → closer_of (cleared k i K) j ≡ 0
unfolding cleared
cleared-inside zero i K j a b w = absurd (omega arith)
cleared-inside (suc k) i K j a b w = go (ℕ_discrete j i) (λ l. cleared-inside k (suc i) (with_closer K i 0) j l (omega arith) (omega (arith, closer-length K i 0)))
  where
    go : Dec (j ≡ i) → (i < j → closer_of (cleared k (suc i) (with_closer K i 0)) j ≡ 0) → closer_of (cleared k (suc i) (with_closer K i 0)) j ≡ 0
    go (yes e) later = rw e (cleared-below k (suc i) (with_closer K i 0) i (omega arith) ∙ closer-same K i 0 (omega arith) (omega arith))
    go (no d) later = later (omega (arith, d))

-- the words one by one
pub length-words : (K : List ℕ) (n i k : ℕ) → length (closer_words K n i k) ≡ k
unfolding closer_words
length-words K n i zero = refl
length-words K n i (suc k) = ap suc (length-words K n (suc i) k)

pub word-is : (K : List ℕ) (n i k j : ℕ) → j < k → get_or (closer_words K n i k) j 0 ≡ n - closer_of K (i + j)
unfolding closer_words
word-is K n i zero j h = absurd (omega arith)
word-is K n i (suc k) zero h = let z : i + 0 ≡ i = omega arith in rw z
word-is K n i (suc k) (suc j) h = let z : i + suc j ≡ suc i + j = omega arith in rw z (word-is K n (suc i) k j (omega arith))

pub words_are : (K : List ℕ) (n : ℕ) (y : List ℕ) → length y ≡ n → ((j : ℕ) → j < n → get_or y j 0 ≡ n - closer_of K j) → y ≡ closer_words K n 0 n
words_are K n y l h =
    ext_get_or 0 y (closer_words K n 0 n) (l ∙ sym (length-words K n 0 n))
    (λ j b. let none : 0 + j ≡ j = omega arith in h j (omega arith) ∙ sym (rw none at (word-is K n 0 n j (omega arith))))

-- with room or without
pub room-short : (K : List ℕ) (n : ℕ) (x : List ℕ) → length x < n → x ≡ with_closers K n x
unfolding with_closers
room-short K n x h = rw (lt-ltb (length x) n h)

pub room-enough : (K : List ℕ) (n : ℕ) (x : List ℕ) → n ≤ length x → closer_words K n 0 n ++ drop n x ≡ with_closers K n x
unfolding with_closers
room-enough K n x h = rw (le-ltb (length x) n h)
