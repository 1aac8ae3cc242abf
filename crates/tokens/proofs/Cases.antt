-- Proofs by cases of a test, of two numbers, and of an answer that may be none.
use mathlib.Core.Path.{◌≡◌, refl}
use mathlib.Core.Bool.{Bool, true, false}
use mathlib.Core.Option.{Option, none, some}
use Prim.Native.Nat.{ℕ, ◌≤◌, ◌<◌}
use native.Mathlib.Omega.{arith}
use lib.Dec.{eqb, ltb}
use borrow.Author.Tests.{ltb-true, ltb-false, eqb-true, eqb-false}

module _ {A : Type 0} where
  pub by_test : (b : Bool) → (b ≡ true → A) → (b ≡ false → A) → A
  by_test true f g = f refl
  by_test false f g = g refl

  pub clash : (b : Bool) → b ≡ true → b ≡ false → A
  clash b p q = let z : ◌≡◌ {A = ℕ} 0 1 = cc in absurd (omega arith)

  pub by_lt : (a b : ℕ) → (a < b → A) → (b ≤ a → A) → A
  by_lt a b f g = by_test (ltb a b) (λ e. f (ltb-true a b e)) (λ e. g (ltb-false a b e))

  pub by_eq : (a b : ℕ) → (a ≡ b → A) → ((a ≡ b → ⊥) → A) → A
  by_eq a b f g = by_test (eqb a b) (λ e. f (eqb-true a b e)) (λ e. g (eqb-false a b e))

  pub by_option : {B : Type 0} (o : Option B) → (o ≡ none → A) → ((b : B) → o ≡ some b → A) → A
  by_option none f g = f refl
  by_option (some b) f g = g b refl

-- what holds of an answer, if there is one
abbrev pub Given : {A : Type 0} → (A → Type 0) → Option A → Type 0
Given P none = Unit {0}
Given P (some a) = P a

-- two answers that are not one
pub apart : {A : Type 0} → ◌≡◌ {A = ℕ} 0 1 → A
apart z = absurd (omega arith)
