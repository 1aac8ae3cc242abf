-- Bytes put into a buffer: nothing, one byte, and one run of bytes behind another.
use Prim.Native.Nat.{ℕ, suc, ◌+◌, ◌≤◌, ◌<◌, min}
use mathlib.Core.Path.{◌≡◌, refl, ap, sym, ◌∙◌}
use mathlib.Core.List.{List, [], ◌∷◌, ◌++◌}
use native.Mathlib.Omega.{arith}
use native.Mathlib.Nat.{add-zero}
use native.Mathlib.Numerals.{add-one}
use lib.ListN.{length, get_or, set, take, length-append, length-set}
use lib.Seq.{sets, set_out, length-sets, take-suc}
use Rattle.tokens.proofs.Cases.{by_lt}
use Rattle.writer.specs.Put.{Put, most}

-- what lies past the end is not stored
sets_out : (x v : List ℕ) (e : ℕ) → length x ≤ e → sets x e v ≡ x
sets_out x [] e h = refl
sets_out x (b ∷ v) e h = rw (set_out x e b h) (sets_out x v (suc e) (omega arith))

-- one run behind another is one run
sets_append : (x v w : List ℕ) (e : ℕ) → sets (sets x e v) (e + length v) w ≡ sets x e (v ++ w)
sets_append x [] w e = rw add-zero
sets_append x (b ∷ v) w e =
    let n : e + suc (length v) ≡ suc e + length v = omega arith in
    rw n (sets_append (set x e b) v w (suc e))

-- the place behind a run may be any one past the end
sets_then : (x v w : List ℕ) (e f : ℕ) → length x ≤ most → f ≡ min (e + length v) most → sets (sets x e v) f w ≡ sets x e (v ++ w)
sets_then x v w e f h k =
    by_lt most (e + length v)
    (λ l.
    let n : length (sets x e v) ≡ length x = length-sets x e v in
    sets_out (sets x e v) w f (omega arith) ∙ sym (sets_out (sets x e v) w (e + length v) (omega arith)) ∙ sets_append x v w e)
    (λ l. let n : f ≡ e + length v = omega arith in rw n (sets_append x v w e))

pub none : (x : List ℕ) (e : ℕ) → length x ≤ most → e ≤ most → Put x e x e []
none x e a h = record { fits = a; same = refl; count = omega arith; bytes = refl }

pub stored : (x : List ℕ) (e b : ℕ) → length x ≤ most → e < most → Put x e (set x e b) (e + 1) (b ∷ [])
stored x e b a k = record { fits = a; same = length-set x e b; count = omega arith; bytes = refl }

pub then : {x y z v w : List ℕ} {e f g : ℕ} → Put x e y f v → Put y f z g w → Put x e z g (v ++ w)
then {x} {y} {z} {v} {w} {e} {f} {g} p q =
    let l : length (v ++ w) ≡ length v + length w = length-append v w in
    record {
      fits = p.fits;
      same = q.same ∙ p.same;
      count = omega arith;
      bytes = q.bytes ∙ ap (λ (b : List ℕ). sets b f w) p.bytes ∙ sets_then x v w e f p.fits p.count;
    }

pub put_as : {x y v w : List ℕ} {e f : ℕ} → v ≡ w → Put x e y f v → Put x e y f w
put_as u p = rw u at p

-- all of them past the end
pub past_end : (x v : List ℕ) (e f : ℕ) → length x ≤ most → length x ≤ e → f ≡ min (e + length v) most → Put x e x f v
past_end x v e f a h k = record { fits = a; same = refl; count = k; bytes = sym (sets_out x v e h) }

pub put-to : {x y v : List ℕ} {e f g : ℕ} → f ≡ g → Put x e y f v → Put x e y g v
put-to u p = rw u at p

-- one byte more of those that have room
pub inside_on : (x y s : List ℕ) (e i : ℕ) → i < length s → e + length s ≤ length x → Put x e y (e + i) (take i s) →
    Put x e (set y (e + i) (get_or s i 0)) (e + (i + 1)) (take (i + 1) s)
inside_on x y s e i h k p =
    let q = then p (stored y (e + i) (get_or s i 0) (omega (arith, p.fits, p.same)) (omega (arith, p.fits))) in
    let n : e + i + 1 ≡ e + (i + 1) = omega arith in
    let t : take i s ++ (get_or s i 0 ∷ []) ≡ take (i + 1) s = sym (take-suc s i 0 h) ∙ ap (λ (j : ℕ). take j s) (sym (add-one i)) in
    put_as t (put-to n q)
