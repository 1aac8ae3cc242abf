-- What a test of an entry by its kind says.
use Rattle.std.proofs.Common.{◌≡◌, ℕ, ◌<◌, ◌≤◌, Bool, true, false, cond, ltb, List, refl, ap, ◌∙◌, arith, ltb-false, ltb-true, ne_eqb}
use mathlib.Core.Bool.{and-false}
use Rattle.records.specs.Record.{kind_of}
use Rattle.lookahead.specs.declared.tests.Look.TheVariants.{Plain, Over, Other}
use Rattle.lookahead.specs.Tests.{next_kind, test_at, heads_kind, begins_kind, leaf_only, plain_at, over_at, look_at}

-- A test that holds says that the entry is there.
pub test_below : (t K : List ℕ) (n : ℕ) (f : ℕ → Bool) (i : ℕ) → test_at t K n f i ≡ true → i < n
unfolding test_at
test_below t K n f i h = go (ltb i n) refl h
  where
    go : (b : Bool) → ltb i n ≡ b → cond b (f (kind_of t K i)) false ≡ true → i < n
    go true e k = ltb-true i n e
    go false e k = let z : ◌≡◌ {A = ℕ} 0 1 = cc in absurd (omega arith)

-- A test that a Space fails, of the next kind.
pub test-next : (t K : List ℕ) (n : ℕ) (f : ℕ → Bool) (i : ℕ) {k : ℕ} → f 23 ≡ false → k ≡ next_kind t K n i → f k ≡ test_at t K n f i
unfolding test_at next_kind
test-next t K n f i {k} h e = ap f e ∙ go (ltb i n)
  where
    go : (b : Bool) → f (cond b (kind_of t K i) 23) ≡ cond b (f (kind_of t K i)) false
    go true = refl
    go false = h

-- A Space is no head.
pub no_head : (sg : Bool) → heads_kind sg 23 ≡ false
no_head sg = and-false sg

-- where a leaf stands, an item begins
leaf-kind : (k : ℕ) (stop : Bool) → leaf_only k ≡ true → begins_kind stop k ≡ true
leaf-kind k stop h = go (ltb k 4) refl h
  where
    go : (b : Bool) → ltb k 4 ≡ b → cond b false (ltb k 16) ≡ true → begins_kind stop k ≡ true
    go true e h = let z : ◌≡◌ {A = ℕ} 0 1 = cc in absurd (omega arith)
    go false e h =
        let low : 4 ≤ k = ltb-false k 4 e in
        let high : k < 16 = ltb-true k 16 h in
        rw (ne_eqb k 21 (λ z. omega arith), ne_eqb k 23 (λ z. omega arith), ne_eqb k 3 (λ z. omega arith), and-false stop)

pub leaf-begins : (t K : List ℕ) (n : ℕ) (stop : Bool) (i : ℕ) → test_at t K n leaf_only i ≡ true → test_at t K n (begins_kind stop) i ≡ true
unfolding test_at
leaf-begins t K n stop i h = go (ltb i n) refl h
  where
    go : (b : Bool) → ltb i n ≡ b → cond b (leaf_only (kind_of t K i)) false ≡ true → cond (ltb i n) (begins_kind stop (kind_of t K i)) false ≡ true
    go true e h = rw e (leaf-kind (kind_of t K i) stop h)
    go false e h = let z : ◌≡◌ {A = ℕ} 0 1 = cc in absurd (omega arith)

-- what a first look has found
module _ (t K : List ℕ) (n d : ℕ) (stop : Bool) (i : ℕ) where
  pub look-plain : look_at t K n d stop i ≡ Plain → plain_at t K n d i ≡ true
  unfolding look_at
  look-plain h = go (plain_at t K n d i) refl (over_at t K n d stop i) h
    where
      go : (a : Bool) → plain_at t K n d i ≡ a → (b : Bool) → cond a Plain (cond b Over Other) ≡ Plain → plain_at t K n d i ≡ true
      go true e b h = e
      go false e true h = let z : ◌≡◌ {A = ℕ} 0 1 = cc in absurd (omega arith)
      go false e false h = let z : ◌≡◌ {A = ℕ} 0 1 = cc in absurd (omega arith)

  pub look-over : look_at t K n d stop i ≡ Over → over_at t K n d stop i ≡ true
  unfolding look_at
  look-over h = go (plain_at t K n d i) (over_at t K n d stop i) refl h
    where
      go : (a b : Bool) → over_at t K n d stop i ≡ b → cond a Plain (cond b Over Other) ≡ Over → over_at t K n d stop i ≡ true
      go true b e h = let z : ◌≡◌ {A = ℕ} 0 1 = cc in absurd (omega arith)
      go false true e h = e
      go false false e h = let z : ◌≡◌ {A = ℕ} 0 1 = cc in absurd (omega arith)
