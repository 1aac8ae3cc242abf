-- Words in a buffer: a push at the end, a header that is filled in later, one run of words after another, and an attempt given back.
use mathlib.Core.Path.{◌≡◌, refl, ap, sym, ◌∙◌}
use mathlib.Core.List.{List, [], ◌∷◌, ◌++◌, append_assoc, append-nil}
use Prim.Native.Nat.{ℕ, suc, ◌+◌, ◌-◌, ◌≤◌, ◌<◌}
use native.Mathlib.Omega.{arith}
use lib.ListN.{length, take, drop, set, replicate, length-append, replicate-append-replicate}
use lib.Seq.{set_comm, sets, sets-eq, length-sets, take_at, drop_at, take-add, take-take, take-append-le, take-append-add, length-take-le, take_all}
use Rattle.parse.specs.Buffer.{Wrote}

-- vs stored at e
pub push : (x : List ℕ) (e : ℕ) (vs : List ℕ) (E : ℕ) → E ≡ e + length vs → E ≤ length x → Wrote x e (sets x e vs) E vs
push x e vs E u h = record {
  upto = u;
  long = length-sets x e vs;
  body =
      let l : length (take e x) ≡ e = length-take-le e x (omega arith) in
      rw (u, sets-eq vs x e (omega arith)) (take_at (take e x ++ vs) _ (e + length vs) (length-append (take e x) vs ∙ ap (λ (k : ℕ). k + length vs) l));
}

fill-body : (x y vs w : List ℕ) (i : ℕ) → i + length vs + length w ≤ length y → i + length vs ≤ length x
    → take (i + length vs + length w) y ≡ take (i + length vs) x ++ w
    → take (i + length vs + length w) (sets y i vs) ≡ take i x ++ (vs ++ w)
fill-body x y vs w i h k b =
    let j : ℕ = i + length vs in
    let lx : length (take j x) ≡ j = length-take-le j x k in
    let ly : length (take j y) ≡ j = length-take-le j y (omega arith) in
    let li : length (take i y) ≡ i = length-take-le i y (omega arith) in
    let lv : length (take i y ++ vs) ≡ j = length-append (take i y) vs ∙ ap (λ (q : ℕ). q + length vs) li in
    let rest : take (length w) (drop j y) ≡ w =
    sym (drop_at (take j y) (take (length w) (drop j y)) j ly) ∙ ap (drop j) (sym (take-add j (length w) y) ∙ b) ∙ drop_at (take j x) w j lx in
    let front : take i y ≡ take i x =
    sym (take-take i (j + length w) y (omega arith)) ∙ ap (take i) b ∙ take-append-le i (take j x) w (omega arith) ∙ take-take i j x (omega arith) in
    ap (take (j + length w)) (sets-eq vs y i (omega arith))
    ∙ ap (λ (q : ℕ). take (q + length w) ((take i y ++ vs) ++ drop j y)) (sym lv)
    ∙ take-append-add (take i y ++ vs) (drop j y) (length w)
    ∙ ap (λ (r : List ℕ). (take i y ++ vs) ++ r) rest
    ∙ append_assoc (take i y) vs w
    ∙ ap (λ (r : List ℕ). r ++ (vs ++ w)) front

-- room was left from i to j, and w written after it: the room filled with vs
pub fill : {x y w : List ℕ} {j E : ℕ} (i : ℕ) (vs : List ℕ) → Wrote x j y E w → j ≡ i + length vs → E ≤ length x → Wrote x i (sets y i vs) E (vs ++ w)
fill {x} {y} {w} {j} {E} i vs p v h =
    let u : E ≡ i + length vs + length w = rw v at p.upto in
    let ly : length y ≡ length x = p.long in
    record {
      upto = simp length-append (omega arith);
      long = length-sets y i vs ∙ p.long;
      body = rw u (fill-body x y vs w i (omega arith) (omega arith) (rw (u, v) at p.body));
    }

-- w after v
pub seq : {x y z v w : List ℕ} {e E F : ℕ} → Wrote x e y E v → Wrote y E z F w → Wrote x e z F (v ++ w)
seq {x} {y} {z} {v} {w} {e} p q = record {
  upto = simp length-append (omega arith);
  long = q.long ∙ p.long;
  body = q.body ∙ ap (λ (r : List ℕ). r ++ w) p.body ∙ append_assoc (take e x) v w;
}

-- words that were written from j on, given up: up to i nothing is written
pub back : {x y w : List ℕ} {j E : ℕ} (i : ℕ) → Wrote x j y E w → i ≤ j → E ≤ length x → Wrote x i y i []
back {x} {y} {w} {j} {E} i p h k =
    let u : E ≡ j + length w = p.upto in
    let lx : length (take j x) ≡ j = length-take-le j x (omega arith) in
    record {
      upto = omega arith;
      long = p.long;
      body = sym (take-take i E y (omega arith)) ∙ ap (take i) p.body ∙ take-append-le i (take j x) w (omega arith) ∙ take-take i j x h ∙ sym (append-nil (take i x));
    }

pub wrote_none : (x : List ℕ) (e : ℕ) → Wrote x e x e []
wrote_none x e = record { upto = omega arith; long = refl; body = sym (append-nil (take e x)) }

-- one zero more
pub zero_more : {x y : List ℕ} {e i : ℕ} → Wrote x e y i (replicate (i - e) 0) → i < length y → e ≤ i → Wrote x e (set y i 0) (i + 1) (replicate (i + 1 - e) 0)
zero_more {x} {y} {e} {i} p h k =
    let q : Wrote x e (set y i 0) (i + 1) (replicate (i - e) 0 ++ replicate 1 0) = seq p (push y i (0 ∷ []) (i + 1) refl (omega arith)) in
    let u : i - e + 1 ≡ i + 1 - e = omega arith in
    rw (replicate-append-replicate, u) at q

-- written to the end: the whole buffer is known
pub wrote-all : {x y w : List ℕ} {e E : ℕ} → Wrote x e y E w → length y ≤ E → y ≡ take e x ++ w
wrote-all {x} {y} {w} {e} {E} p h = sym (take_all E y h) ∙ p.body

-- words after others, and before them
swap_set : (x : List ℕ) (i a : ℕ) (j : ℕ) (v : List ℕ) → i < j → set (sets x j v) i a ≡ sets (set x i a) j v
swap_set x i a j [] h = refl
swap_set x i a j (b ∷ v) h = swap_set (set x j b) i a (suc j) v (omega arith) ∙ ap (λ (w : List ℕ). sets w (suc j) v) (set_comm x j i b a (λ z. omega arith))

pub sets_before : (x : List ℕ) (i : ℕ) (u v : List ℕ) → sets (sets x (i + length u) v) i u ≡ sets x i (u ++ v)
sets_before x i [] v = let z : i + 0 ≡ i = omega arith in rw z
sets_before x i (a ∷ u) v =
    let z : i + suc (length u) ≡ suc i + length u = omega arith in
    rw z (ap (λ (w : List ℕ). sets w (suc i) u) (swap_set x i a (suc i + length u) v (omega arith)) ∙ sets_before (set x i a) (suc i) u v)
