-- Words in a buffer: those that a write leaves, one run of words after another, and a run that is moved.
use mathlib.Core.Path.{◌≡◌, refl, ap, sym, ◌∙◌}
use mathlib.Core.List.{List, [], ◌∷◌, ◌++◌, append_assoc, append-nil}
use Prim.Native.Nat.{ℕ, ◌+◌, ◌-◌, ◌≤◌, ◌<◌}
use native.Mathlib.Omega.{arith}
use lib.ListN.{length, take, drop, get_or, set, replicate, length-append, length-drop, length-replicate}
use lib.Seq.{paste, take_at, drop_at, drop-drop, take-take, get_or-take, get_or-drop, take-suc-set, length-take-le, take_all, ext_get_or, take-paste}
use native.Mathlib.Numerals.{add-one}
use Rattle.columns.specs.Steps.{Wrote}

-- the words from `at` up to `end` are those of x
abbrev pub Same : List ℕ → List ℕ → ℕ → ℕ → Type 0
Same x y at end = (i : ℕ) → at ≤ i → i < end → get_or y i 0 ≡ get_or x i 0

pub same-take : (x y : List ℕ) (at end : ℕ) → take end y ≡ take end x → Same x y at end
same-take x y at end e i h k =
    sym (get_or-take end y i 0 k) ∙ ap (λ (l : List ℕ). get_or l i 0) e ∙ get_or-take end x i 0 k

pub same_drop : (x y : List ℕ) (n at end : ℕ) → drop n y ≡ drop n x → n ≤ at → Same x y at end
same_drop x y n at end e q i h k =
    let d : n + (i - n) ≡ i = omega arith in
    rw d at (sym (get_or-drop n y (i - n) 0) ∙ ap (λ (l : List ℕ). get_or l (i - n) 0) e ∙ get_or-drop n x (i - n) 0)

pub take_less : (x y : List ℕ) (at end : ℕ) → at ≤ end → take end y ≡ take end x → take at y ≡ take at x
take_less x y at end h e = sym (take-take at end y h) ∙ ap (take at) e ∙ take-take at end x h

pub drop_more : (x y : List ℕ) (at end : ℕ) → at ≤ end → drop at y ≡ drop at x → drop end y ≡ drop end x
drop_more x y at end h e =
    let d : at + (end - at) ≡ end = omega arith in
    rw d at (sym (drop-drop (end - at) at y) ∙ ap (drop (end - at)) e ∙ drop-drop (end - at) at x)

-- the words w stand at `at`
pub part-is : (x : List ℕ) (at n : ℕ) (w : List ℕ) → at + n ≤ length x → length w ≡ n → ((k : ℕ) → k < n → get_or x (at + k) 0 ≡ get_or w k 0) → take n (drop at x) ≡ w
part-is x at n w h e s =
    let l : length (take n (drop at x)) ≡ n = length-take-le n (drop at x) (omega (arith, length-drop at x)) in
    ext_get_or 0 (take n (drop at x)) w (omega arith) (λ i q. get_or-take n (drop at x) i 0 (omega arith) ∙ get_or-drop at x i 0 ∙ s i (omega arith))

pub part_same : (x y : List ℕ) (at n : ℕ) → at + n ≤ length x → length y ≡ length x → Same x y at (at + n) → take n (drop at y) ≡ take n (drop at x)
part_same x y at n h e s =
    part-is y at n (take n (drop at x)) (omega arith) (length-take-le n (drop at x) (omega (arith, length-drop at x)))
    (λ k q. s (at + k) (omega arith) (omega arith) ∙ sym (get_or-take n (drop at x) k 0 q ∙ get_or-drop at x k 0))

-- a copy leaves what is before it, and its words stand there
module _ (x : List ℕ) (at : ℕ) (s : List ℕ) (n : ℕ) (h : at ≤ length x) where
  regroup : paste x at s n ≡ take at x ++ (take n s ++ drop (at + n) x)
  regroup = append_assoc (take at x) (take n s) (drop (at + n) x)

  pub front-paste : take at (paste x at s n) ≡ take at x
  front-paste = ap (take at) regroup ∙ take_at (take at x) (take n s ++ drop (at + n) x) at (length-take-le at x h)

  pub part-paste : n ≤ length s → take n (drop at (paste x at s n)) ≡ take n s
  part-paste k =
      ap (λ (r : List ℕ). take n (drop at r)) regroup
      ∙ ap (take n) (drop_at (take at x) (take n s ++ drop (at + n) x) at (length-take-le at x h))
      ∙ take_at (take n s) (drop (at + n) x) n (length-take-le n s k)

-- w after v
pub seq : {x y z v w : List ℕ} {e E F : ℕ} → Wrote x e y E v → Wrote y E z F w → Wrote x e z F (v ++ w)
seq {x} {y} {z} {v} {w} {e} p q = record {
  upto = simp length-append (omega (arith, p.upto, q.upto));
  body = q.body ∙ ap (λ (r : List ℕ). r ++ w) p.body ∙ append_assoc (take e x) v w;
}

pub wrote_none : (x : List ℕ) (e : ℕ) → Wrote x e x e []
wrote_none x e = record { upto = omega arith; body = sym (append-nil (take e x)) }

pub wrote_one : (x : List ℕ) (e v : ℕ) → e < length x → Wrote x e (set x e v) (e + 1) (v ∷ [])
wrote_one x e v h = record { upto = refl; body = rw add-one (take-suc-set x e v h) }

-- n words at `at`, moved to `to`
pub wrote-moved : (x : List ℕ) (to at n : ℕ) → to ≤ at → at + n ≤ length x → Wrote x to (paste x to (drop at x) n) (to + n) (take n (drop at x))
wrote-moved x to at n t h =
    let d : length (drop at x) ≡ length x - at = length-drop at x in
    record {
      upto = omega (arith, length-take-le n (drop at x) (omega arith));
      body = take-paste x to (drop at x) n (omega arith) (omega arith);
    }

-- the words from `at` up to `to`, n of them, filled
pub filled : (x s : List ℕ) (at to n v : ℕ) → to - at ≡ n → at + n ≤ length x → s ≡ replicate (length (take (to - at) (drop at x))) v
    → take at x ++ (s ++ drop (to - at) (drop at x)) ≡ paste x at (replicate n v) n
filled x s at to n v k h e =
    let l : length (take n (drop at x)) ≡ n = length-take-le n (drop at x) (omega (arith, length-drop at x)) in
    let w : s ≡ take n (replicate n v) = e ∙ rw (k, l) (sym (take_all n (replicate n v) (omega (arith, length-replicate {A = ℕ} n v)))) in
    rw (k, drop-drop n at x, w) (sym (regroup x at (replicate n v) n (omega arith)))
