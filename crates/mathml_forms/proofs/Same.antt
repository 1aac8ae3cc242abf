-- Two texts compared byte by byte.
use mathlib.Core.Path.{◌≡◌, refl, ap}
use mathlib.Core.Bool.{Bool, true, false, ◌&&◌}
use lib.Dec.{eqb}
use Rattle.std.specs.Prelude.{nat_eq}
use Rattle.std.specs.Cmp.Lexicographic.{pointwise}
use mathlib.Core.List.{List, [], ◌∷◌}
use Prim.Native.Nat.{ℕ}
use borrow.Author.Tests.{eq-eqb}
use Rattle.tokens.proofs.Cases.{by_test, clash}
use Rattle.tokens.specs.Bytes.{same}
use Rattle.lexing.proofs.Moves.{same-is}

pub same_self : (s : List ℕ) → same s s ≡ true
unfolding same
same_self [] = refl
same_self (b ∷ s) = rw (eq-eqb b b refl) (same_self s)

pub not_same : (s t : List ℕ) → (s ≡ t → ⊥) → same s t ≡ false
not_same s t n = by_test (same s t) (λ e. absurd (n (same-is s t e))) (λ e. e)

pub is_not : (s t : List ℕ) → same s t ≡ false → s ≡ t → ⊥
is_not s t e p = clash (same s t) (rw p (same_self t)) e

-- what `==` says of two texts
pub pointwise-same : (s t : List ℕ) → pointwise nat_eq s t ≡ same s t
unfolding same
pointwise-same [] [] = refl
pointwise-same [] (b ∷ t) = refl
pointwise-same (a ∷ s) [] = refl
pointwise-same (a ∷ s) (b ∷ t) = ap (λ (x : Bool). eqb a b && x) (pointwise-same s t)
