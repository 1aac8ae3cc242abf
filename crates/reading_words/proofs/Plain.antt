-- An entry that is an item by itself, or where no item begins: what each of the readers' tests says of it.
use Prim.Native.Nat.{ℕ, ◌+◌, ◌≤◌, ◌<◌}
use mathlib.Core.Path.{◌≡◌, refl, ◌∙◌}
use mathlib.Core.List.{List}
use mathlib.Core.Bool.{Bool, true, false, not, cond, and-false}
use native.Mathlib.Omega.{arith}
use lib.Dec.{ltb}
use borrow.Author.Tests.{ltb-true, ltb-false, ne_eqb}
use Rattle.records.specs.Record.{kind_of}
use Rattle.lookahead.specs.Tests.{test_at, is_kind, heads_kind, marks_kind, begins_kind, leaf_only, joins_kind, plain_at}
use Rattle.lookahead.proofs.Testing.{test_below}
use Rattle.reading_words.proofs.Kit.{test-kind, test_in, test-out}

-- what the tests say of a kind
pub both : (a b : Bool) → cond a b false ≡ true → (a ≡ true) × (b ≡ true)
both true b h = (refl, h)
both false b h = let z : ◌≡◌ {A = ℕ} 0 1 = cc in absurd (omega arith)

pub never : (b : Bool) → not b ≡ true → b ≡ false
never true h = let z : ◌≡◌ {A = ℕ} 0 1 = cc in absurd (omega arith)
never false h = refl

range : (k : ℕ) → leaf_only k ≡ true → (4 ≤ k) × (k < 16)
range k h = go (ltb k 4) refl h
  where
    go : (b : Bool) → ltb k 4 ≡ b → cond b false (ltb k 16) ≡ true → (4 ≤ k) × (k < 16)
    go true e h = let z : ◌≡◌ {A = ℕ} 0 1 = cc in absurd (omega arith)
    go false e h = (ltb-false k 4 e, ltb-true k 16 h)

apart : (k : ℕ) → joins_kind k ≡ false → (marks_kind k ≡ false) × (is_kind 0 k ≡ false)
apart k h =
    let l : 3 ≤ k = ltb-false k 3 h in
    (rw (ne_eqb k 1 (λ z. omega arith), ne_eqb k 2 (λ z. omega arith)), ne_eqb k 0 (λ z. omega arith))

module _ (t K : List ℕ) (n d i : ℕ) (h : plain_at t K n d i ≡ true) where
  whole : (ltb d 255 ≡ true) × (cond (test_at t K n leaf_only i) (not (test_at t K n joins_kind (i + 1))) false ≡ true)
  unfolding plain_at
  whole = both _ _ h

  parts : (test_at t K n leaf_only i ≡ true) × (not (test_at t K n joins_kind (i + 1)) ≡ true)
  parts = both _ _ whole.1

  pub shallow : d < 255
  shallow = ltb-true d 255 whole.0

  pub plain-below : i < n
  plain-below = test_below t K n leaf_only i parts.0

  pub plain-kind : (4 ≤ kind_of t K i) × (kind_of t K i < 16)
  plain-kind = range _ (test-kind t K n leaf_only i true plain-below parts.0)

  pub no_head : (sg : Bool) → test_at t K n (heads_kind sg) i ≡ false
  no_head sg =
      test_in t K n (heads_kind sg) i plain-below
      ∙ rw (ne_eqb (kind_of t K i) 17 (λ z. omega (arith, plain-kind.1)), ne_eqb (kind_of t K i) 16 (λ z. omega (arith, plain-kind.1)), and-false sg)

  pub begins : (stop : Bool) → test_at t K n (begins_kind stop) i ≡ true
  begins stop =
      test_in t K n (begins_kind stop) i plain-below
      ∙ rw (
        ne_eqb (kind_of t K i) 21 (λ z. omega (arith, plain-kind.1)),
        ne_eqb (kind_of t K i) 23 (λ z. omega (arith, plain-kind.1)),
        ne_eqb (kind_of t K i) 3 (λ z. omega (arith, plain-kind.0)),
        and-false stop,
      )

  pub follows : (test_at t K n marks_kind (i + 1) ≡ false) × (test_at t K n (is_kind 0) (i + 1) ≡ false)
  follows = go (ltb (i + 1) n) refl
    where
      go : (b : Bool) → ltb (i + 1) n ≡ b → (test_at t K n marks_kind (i + 1) ≡ false) × (test_at t K n (is_kind 0) (i + 1) ≡ false)
      go true e =
          let l : i + 1 < n = ltb-true (i + 1) n e in
          let a = apart (kind_of t K (i + 1)) (test-kind t K n joins_kind (i + 1) false l (never _ parts.1)) in
          (test_in t K n marks_kind (i + 1) l ∙ a.0, test_in t K n (is_kind 0) (i + 1) l ∙ a.1)
      go false e =
          let l : n ≤ i + 1 = ltb-false (i + 1) n e in
          (test-out t K n marks_kind (i + 1) l, test-out t K n (is_kind 0) (i + 1) l)

-- what they say where no item begins
no_start : (stop : Bool) (k m : ℕ) → begins_kind stop m ≡ true → begins_kind stop k ≡ false → k ≡ m → ⊥
no_start stop k m h q z = let y : begins_kind stop k ≡ true = rw z h in let o : ◌≡◌ {A = ℕ} 0 1 = cc in omega arith

starts : (stop : Bool) → (begins_kind stop 16 ≡ true) × (begins_kind stop 17 ≡ true)
starts true = (refl, refl)
starts false = (refl, refl)

module _ (t K : List ℕ) (n : ℕ) (stop : Bool) (i : ℕ) (h : test_at t K n (begins_kind stop) i ≡ false) where
  pub no_head_either : (sg : Bool) → test_at t K n (heads_kind sg) i ≡ false
  no_head_either sg = go (ltb i n) refl
    where
      go : (b : Bool) → ltb i n ≡ b → test_at t K n (heads_kind sg) i ≡ false
      go true e =
          let l : i < n = ltb-true i n e in
          let k = test-kind t K n (begins_kind stop) i false l h in
          test_in t K n (heads_kind sg) i l
          ∙ rw (ne_eqb (kind_of t K i) 17 (no_start stop (kind_of t K i) 17 (starts stop).1 k), ne_eqb (kind_of t K i) 16 (no_start stop (kind_of t K i) 16 (starts stop).0 k), and-false sg)
      go false e = test-out t K n (heads_kind sg) i (ltb-false i n e)
