-- Brackets of one byte, and other ones.
use Prim.Native.Nat.{ℕ}
use mathlib.Core.Path.{◌≡◌, refl, ap, sym, ◌∙◌}
use mathlib.Core.Bool.{Bool, true, false, ◌&&◌, ◌||◌}
use mathlib.Core.List.{List, [], ◌∷◌}
use native.Mathlib.Omega.{arith}
use lib.Dec.{eqb}
use lib.ListN.{length, get_or}
use borrow.Author.Tests.{ne_eqb}
use Rattle.tokens.specs.Bytes.{bytes, same}
use Rattle.tokens.proofs.Cases.{by_test}
use Rattle.mathml_rules.specs.declared.Mode.{Mode}
use Rattle.mathml_rules.specs.declared.Mode.TheVariants as mode
use Rattle.mathml_rules.specs.Mathml.{pair, dropped}

or-false : (b : Bool) → (b || false) ≡ b
or-false true = refl
or-false false = refl

module _ (l r : ℕ) where
  pub argument-round : l ≡ 40 → eqb r 41 ≡ dropped mode.Argument (l ∷ []) (r ∷ [])
  unfolding dropped pair same
  argument-round e = rw e (by_test (eqb r 41) (λ d. rw d) (λ d. rw d))

  pub argument-curly : l ≡ 123 → eqb r 125 ≡ dropped mode.Argument (l ∷ []) (r ∷ [])
  unfolding dropped pair same
  argument-curly e = rw e (by_test (eqb r 125) (λ d. rw d) (λ d. rw d))

  pub argument-other : (l ≡ 40 → ⊥) → (l ≡ 123 → ⊥) → false ≡ dropped mode.Argument (l ∷ []) (r ∷ [])
  unfolding dropped pair same
  argument-other p q = rw (ne_eqb l 40 p, ne_eqb l 123 q)

  pub text-square : l ≡ 91 → eqb r 93 ≡ dropped mode.Text (l ∷ []) (r ∷ [])
  unfolding dropped pair same
  text-square e = rw e (by_test (eqb r 93) (λ d. rw d) (λ d. rw d))

  pub text-other : (l ≡ 91 → ⊥) → (q : Bool) → q ≡ dropped mode.Argument (l ∷ []) (r ∷ []) → q ≡ dropped mode.Text (l ∷ []) (r ∷ [])
  unfolding dropped pair same
  text-other h q e = e ∙ ap (λ (b : Bool). pair "(" ")" (l ∷ []) (r ∷ []) || b) (rw (ne_eqb l 91 h) (sym (or-false (pair "{" "}" (l ∷ []) (r ∷ [])))))

-- a text of one byte
pub one_byte : (s : List ℕ) → length s ≡ 1 → get_or s 0 0 ∷ [] ≡ s
one_byte [] e = absurd (omega arith)
one_byte (a ∷ []) e = refl
one_byte (a ∷ b ∷ s) e = absurd (omega arith)

not_one : (s : List ℕ) (b : ℕ) → (length s ≡ 1 → ⊥) → same s (b ∷ []) ≡ false
unfolding same
not_one [] b h = refl
not_one (a ∷ []) b h = absurd (h refl)
not_one (a ∷ c ∷ s) b h = by_test (eqb a b) (λ e. rw e) (λ e. rw e)

and-false : (b : Bool) → (b && false) ≡ false
and-false true = refl
and-false false = refl

module _ (m : Mode) (left right : List ℕ) where
  pub left-long : (length left ≡ 1 → ⊥) → false ≡ dropped m left right
  unfolding dropped pair
  left-long h =
      elim m as (λ k. false ≡ dropped k left right) [
        | mode.Keep ↦ refl
        | mode.Argument ↦ rw (not_one left 40 h, not_one left 123 h)
        | mode.Text ↦ rw (not_one left 40 h, not_one left 123 h, not_one left 91 h)
      ]

  pub right-long : (length right ≡ 1 → ⊥) → false ≡ dropped m left right
  unfolding dropped pair
  right-long h =
      let a = and-false (same left (bytes "(")) in
      let b = and-false (same left (bytes "{")) in
      let c = and-false (same left (bytes "[")) in
      elim m as (λ k. false ≡ dropped k left right) [
        | mode.Keep ↦ refl
        | mode.Argument ↦ rw (not_one right 41 h, not_one right 125 h, a, b)
        | mode.Text ↦ rw (not_one right 41 h, not_one right 125 h, not_one right 93 h, a, b, c)
      ]

  -- two brackets of one byte, in a mode that is known
  pub both_one : length left ≡ 1 → length right ≡ 1 → (n : Mode) (q : Bool) → m ≡ n → q ≡ dropped n (get_or left 0 0 ∷ []) (get_or right 0 0 ∷ []) → q ≡ dropped m left right
  both_one p r n q e h = rw (e, sym (one_byte left p), sym (one_byte right r)) h
