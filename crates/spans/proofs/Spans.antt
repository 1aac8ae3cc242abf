-- The bytes of two spans, compared one by one.
use Rattle.std.proofs.Common.{◌≡◌, ℕ, List, [], ◌∷◌, true, false, ◌&&◌, refl, ap, length, get_or, eqb, arith, rules, tests}
use borrow.Author.Tests.{eq-eqb, ne_eqb}
use Rattle.std.specs.Str.{bytes_eq}
use Rattle.tokens.specs.Bytes.{same}

-- `same` is what `==` says of slices
pub same_as_eq : (s t : List ℕ) → bytes_eq s t ≡ same s t
unfolding same
same_as_eq [] [] = refl
same_as_eq [] (b ∷ t) = refl
same_as_eq (a ∷ s) [] = refl
same_as_eq (a ∷ s) (b ∷ t) = ap (λ q. eqb a b && q) (same_as_eq s t)

-- a text is one byte
module _ (s : List ℕ) (b : ℕ) where
  pub one_is : length s ≡ 1 → get_or s 0 0 ≡ b → same s (b ∷ []) ≡ true
  one_is h e = rw (← same_as_eq) (one s h e)
    where
      one : (s : List ℕ) → length s ≡ 1 → get_or s 0 0 ≡ b → bytes_eq s (b ∷ []) ≡ true
      one [] h e = absurd (omega arith)
      one (a ∷ []) h e = rw (eq-eqb a b e)
      one (a ∷ c ∷ s) h e = absurd (omega arith)

  pub one_not : (get_or s 0 0 ≡ b → ⊥) → same s (b ∷ []) ≡ false
  one_not d = rw (← same_as_eq) (one s d)
    where
      one : (s : List ℕ) → (get_or s 0 0 ≡ b → ⊥) → bytes_eq s (b ∷ []) ≡ false
      one [] d = refl
      one (a ∷ s) d = rw (ne_eqb a b d)

  pub not_one : (length s ≡ 1 → ⊥) → same s (b ∷ []) ≡ false
  not_one d = rw (← same_as_eq) (one s d)
    where
      one : (s : List ℕ) → (length s ≡ 1 → ⊥) → bytes_eq s (b ∷ []) ≡ false
      one [] d = refl
      one (a ∷ []) d = absurd (d refl)
      one (a ∷ c ∷ s) d = search (rules, tests)
