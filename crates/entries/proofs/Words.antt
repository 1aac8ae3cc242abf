-- The fields of the records after a store, and after the open brackets are cleared.
use Prim.Native.Nat.{ℕ, suc, ◌+◌, ◌≤◌}
use mathlib.Core.Path.{◌≡◌, refl, ◌∙◌}
use mathlib.Core.List.{List, [], ◌∷◌}
use native.Mathlib.Omega.{arith}
use lib.ListN.{length, get_or}
use borrow.Author.Tests.{eq-eqb, ne_eqb}
use Rattle.tokens.proofs.Cases.{by_eq}
use Rattle.records.specs.Record.{record_words, InHalf, place_of, after_close, sep_of, marks_of, closer_of, Whole, with_close, with_sep}
use Rattle.stores.proofs.Stores.{close-length, close-same, close_other, place-of_close, sep-of_close, marks-of_close, closer-of_close, close-beyond, sep-length, sep-same, sep-other, place-of_sep, close-of_sep, marks-of_sep, closer-of_sep, sep-beyond}
use Rattle.entries.specs.Open.{Chain, clear_all}
use Rattle.entries.proofs.Matching.{comes}

-- a store into the record j <= n, into its close field or its Sep field
pub record Stored (n : ℕ) (K L : List ℕ) : Type 0 where
  pub long : length L ≡ length K
  pub place : (j : ℕ) → place_of L j ≡ place_of K j
  pub marks : (j : ℕ) → marks_of L j ≡ marks_of K j
  pub closer : (j : ℕ) → closer_of L j ≡ closer_of K j
  pub beyond : (x : ℕ) → record_words (n + 1) ≤ x → get_or L x 0 ≡ get_or K x 0

pub stored-close : {n : ℕ} {K L : List ℕ} (j v : ℕ) → j ≤ n → L ≡ with_close K j v → Stored n K L
stored-close {n} {K} j v h e =
    rw e
    record {
      long = close-length K j v;
      place = place-of_close K j v;
      marks = marks-of_close K j v;
      closer = closer-of_close K j v;
      beyond = λ x l. close-beyond K j v x (omega arith);
    }

pub stored-sep : {n : ℕ} {K L : List ℕ} (j v : ℕ) → j ≤ n → L ≡ with_sep K j v → Stored n K L
stored-sep {n} {K} j v h e =
    rw e
    record {
      long = sep-length K j v;
      place = place-of_sep K j v;
      marks = marks-of_sep K j v;
      closer = closer-of_sep K j v;
      beyond = λ x l. sep-beyond K j v x (omega arith);
    }

module _ (K L : List ℕ) (j v : ℕ) where
  module _ (a : L ≡ with_close K j v) where
    pub close-stored : Whole K j → InHalf v → after_close L j ≡ v
    close-stored h l = rw a (close-same K j v h l)

    pub close-kept : (x : ℕ) → (x ≡ j → ⊥) → after_close L x ≡ after_close K x
    close-kept x d = rw a (close_other K j v x d)

    pub sep-kept : (x : ℕ) → sep_of L x ≡ sep_of K x
    sep-kept x = rw a (sep-of_close K j v x)

  module _ (a : L ≡ with_sep K j v) where
    pub sep-stored : Whole K j → InHalf v → sep_of L j ≡ v
    sep-stored h l = rw a (sep-same K j v h l)

    pub sep-beside : (x : ℕ) → (x ≡ j → ⊥) → sep_of L x ≡ sep_of K x
    sep-beside x d = rw a (sep-other K j v x d)

    pub close-beside : (x : ℕ) → after_close L x ≡ after_close K x
    close-beside x = rw a (close-of_sep K j v x)

pub unstored : {n : ℕ} {K L : List ℕ} → L ≡ K → Stored n K L
unstored e = rw e record { long = refl; place = λ i. refl; marks = λ i. refl; closer = λ i. refl; beyond = λ x l. refl }

-- the open brackets cleared: only their close fields are others
pub length-clear : (st K : List ℕ) → length (clear_all st K) ≡ length K
length-clear [] K = refl
length-clear (s ∷ st) K = length-clear st (with_close K s 0) ∙ close-length K s 0

module _ (j : ℕ) where
  pub clear-place : (st K : List ℕ) → place_of (clear_all st K) j ≡ place_of K j
  clear-place [] K = refl
  clear-place (s ∷ st) K = clear-place st (with_close K s 0) ∙ place-of_close K s 0 j

  pub clear_sep : (st K : List ℕ) → sep_of (clear_all st K) j ≡ sep_of K j
  clear_sep [] K = refl
  clear_sep (s ∷ st) K = clear_sep st (with_close K s 0) ∙ sep-of_close K s 0 j

  pub clear-marks : (st K : List ℕ) → marks_of (clear_all st K) j ≡ marks_of K j
  clear-marks [] K = refl
  clear-marks (s ∷ st) K = clear-marks st (with_close K s 0) ∙ marks-of_close K s 0 j

  pub clear-closer : (st K : List ℕ) → closer_of (clear_all st K) j ≡ closer_of K j
  clear-closer [] K = refl
  clear-closer (s ∷ st) K = clear-closer st (with_close K s 0) ∙ closer-of_close K s 0 j

abbrev nought : ℕ → ℕ → ℕ
nought d w = 0

comes-nought : (d i : ℕ) (st : List ℕ) → comes nought d st i 0 ≡ 0
comes-nought d i [] = refl
comes-nought d i (s ∷ st) = by_eq i s (λ e. rw (eq-eqb i s e)) (λ e. rw (ne_eqb i s e) (comes-nought (suc d) i st))

module _ {c : ℕ → ℕ} where
  pub clear-beyond : (K : List ℕ) (x : ℕ) {b top : ℕ} {st : List ℕ} → Chain c b st top → record_words b ≤ x → get_or (clear_all st K) x 0 ≡ get_or K x 0
  clear-beyond K x Chain.none h = refl
  clear-beyond K x (Chain.more {s = s} l p) h =
      clear-beyond (with_close K s 0) x p (omega arith) ∙ close-beyond K s 0 x (omega arith)

  pub clear-close : (K : List ℕ) (d j : ℕ) {b top : ℕ} {st : List ℕ} → Chain c b st top → record_words b ≤ length K → after_close (clear_all st K) j ≡ comes nought d st j (after_close K j)
  clear-close K d j Chain.none r = refl
  clear-close K d j (Chain.more {s = s} {st = st} l p) r =
      clear-close (with_close K s 0) (suc d) j p (rw (close-length K s 0) (omega arith))
      ∙ by_eq j s
      (λ e. rw (eq-eqb j s e, e, close-same K s 0 (omega arith) (omega arith)) (comes-nought (suc d) s st))
      (λ e. rw (ne_eqb j s e, close_other K s 0 j e))
