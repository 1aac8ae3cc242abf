-- Two texts with one key are one text.
use mathlib.Core.Path.{◌≡◌, refl}
use mathlib.Core.Bool.{true, ◌&&◌}
use mathlib.Core.List.{List, [], ◌∷◌}
use Prim.Native.Nat.{ℕ, zero, suc, ◌+◌, ◌*◌, ◌-◌, ◌≤◌, ◌<◌}
use native.Mathlib.Omega.{arith}
use lib.Dec.{leb, ltb}
use lib.ListN.{length, get_or, drop, length-drop}
use lib.Seq.{drop-cons, drop-length}
use borrow.Author.Tests.{ltb-true, lt-ltb, le-leb, lt-leb}
use Rattle.tokens.proofs.Cases.{by_test}
use Rattle.mathml_rules.proofs.Lists.{both}
use Rattle.mathml_forms.specs.Keys.{key, ascii, key_of}

-- a key is not 0
pub key-some : (s : List ℕ) → 0 < key s
unfolding key
key-some [] = omega arith
key-some (b ∷ s) = let h = key-some s in omega arith

same_keys : (s t : List ℕ) → ascii s ≡ true → ascii t ≡ true → key s ≡ key t → s ≡ t
unfolding key ascii
same_keys [] [] p q e = refl
same_keys [] (b ∷ t) p q e = let h = key-some t in absurd (omega arith)
same_keys (a ∷ s) [] p q e = let h = key-some s in absurd (omega arith)
same_keys (a ∷ s) (b ∷ t) p q e =
    let f = ltb-true a 128 (both (ltb a 128) (ascii s) p).0 in
    let g = ltb-true b 128 (both (ltb b 128) (ascii t) q).0 in
    let h : a ≡ b = omega arith in
    let i : key s ≡ key t = omega arith in
    rw (h, same_keys s t (both (ltb a 128) (ascii s) p).1 (both (ltb b 128) (ascii t) q).1 i)

-- a text with a key has the key of its bytes
pub key-of : (s : List ℕ) → 0 < key_of s → (ascii s ≡ true) × (key_of s ≡ key s)
unfolding key_of
key-of s h =
    by_test (leb (length s) 9 && ascii s) (λ e. ((both (leb (length s) 9) (ascii s) e).1, rw (e, key_of)))
    (λ e. absurd (omega (arith, rw (e, key_of) at h)))

pub key_one : (s t : List ℕ) → key_of s ≡ key_of t → 0 < key_of s → s ≡ t
key_one s t e h =
    let a = key-of s h in
    let b = key-of t (omega arith) in
    same_keys s t a.0 b.0 (omega (arith, a.1, b.1))

-- The loop of key_of: the bytes from i on are in the key.
pub record Keyed (s : List ℕ) (i k : ℕ) : Type 0 where
  pub inside : i ≤ length s
  pub short : length s ≤ 9
  pub plain : ascii (drop i s) ≡ true
  pub made : k ≡ key (drop i s)

-- the key of at most n bytes is below 2 * 128^n
abbrev bound : ℕ → ℕ
bound zero = 2
bound (suc n) = 128 * bound n

key_below : (s : List ℕ) (n : ℕ) → ascii s ≡ true → length s ≤ n → key s < bound n
unfolding key ascii
key_below [] zero p h = omega arith
key_below [] (suc n) p h = let l = key_below [] n refl (omega arith) in omega arith
key_below (b ∷ s) zero p h = absurd (omega arith)
key_below (b ∷ s) (suc n) p h =
    let l = key_below s n (both (ltb b 128) (ascii s) p).1 (omega arith) in
    let f = ltb-true b 128 (both (ltb b 128) (ascii s) p).0 in
    omega arith

pub key_fits : {s : List ℕ} {i k : ℕ} → Keyed s i k → 0 < i → k < 144115188075855872
key_fits {s} {i} {k} w h =
    let l = length-drop i s in
    omega (arith, key_below (drop i s) 8 w.plain (omega (arith, w.short, w.inside)), w.made)

pub keyed-first : (s : List ℕ) → length s ≤ 9 → Keyed s (length s) 1
unfolding key ascii
keyed-first s h = record { inside = omega arith; short = h; plain = rw drop-length; made = rw drop-length }

pub keyed-next : {s : List ℕ} {i k : ℕ} → Keyed s i k → 0 < i → get_or s (i - 1) 0 < 128 → Keyed s (i - 1) (128 * k + get_or s (i - 1) 0)
unfolding key ascii
keyed-next {s} {i} {k} w h f =
    let n : suc (i - 1) ≡ i = omega arith in
    let d = rw n at (drop-cons s (i - 1) 0 (omega (arith, w.inside))) in
    record {
      inside = omega (arith, w.inside);
      short = w.short;
      plain = rw (d, lt-ltb (get_or s (i - 1) 0) 128 f) w.plain;
      made = rw (d, w.made);
    }

pub keyed-all : {s : List ℕ} {i k : ℕ} → Keyed s i k → i ≤ 0 → k ≡ key_of s
unfolding key_of
keyed-all {s} {i} {k} w h =
    let n : i ≡ 0 = omega arith in
    rw (le-leb (length s) 9 w.short, rw n at w.plain, key_of) (rw n at w.made)

-- a text with no key
pub too_long : (s : List ℕ) → 9 < length s → 0 ≡ key_of s
unfolding key_of
too_long s h = rw (lt-leb (length s) 9 h, key_of)

ascii-at : (s : List ℕ) (i : ℕ) → i < length s → ascii s ≡ true → get_or s i 0 < 128
unfolding ascii
ascii-at [] i h p = absurd (omega arith)
ascii-at (b ∷ s) zero h p = ltb-true b 128 (both (ltb b 128) (ascii s) p).0
ascii-at (b ∷ s) (suc i) h p = ascii-at s i (omega arith) (both (ltb b 128) (ascii s) p).1

pub too_high : (s : List ℕ) (i : ℕ) → i < length s → 128 ≤ get_or s i 0 → 0 ≡ key_of s
unfolding key_of
too_high s i h f =
    by_test (leb (length s) 9 && ascii s) (λ e. absurd (omega (arith, ascii-at s i h (both (leb (length s) 9) (ascii s) e).1)))
    (λ e. rw (e, key_of))
