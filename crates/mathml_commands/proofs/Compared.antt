-- A text is the same as itself; the control bytes of a text.
use Prim.Native.Nat.{ℕ}
use mathlib.Core.Path.{◌≡◌, refl, ap, sym, ◌∙◌}
use mathlib.Core.Bool.{Bool, true, false, ◌||◌}
use Rattle.std.specs.List.{list_any}
use mathlib.Core.List.{List, [], ◌∷◌}
use lib.Dec.{ltb}
use borrow.Author.Tests.{eq-eqb, ne_eqb}
use Rattle.tokens.specs.Bytes.{same}
use Rattle.tokens.proofs.Cases.{by_test, clash}
use Rattle.lexing.proofs.Moves.{same-is}
use Rattle.mathml_rules.specs.Refusal.{control, controls}

pub same_self : (s : List ℕ) → same s s ≡ true
unfolding same
same_self [] = refl
same_self (a ∷ s) = rw (eq-eqb a a refl, same_self s)

pub same-turned : (s t : List ℕ) → same s t ≡ same t s
same-turned s t =
    by_test (same s t) (λ e. e ∙ sym (rw (same-is s t e) (same_self t)))
    (λ e. by_test (same t s) (λ f. clash (same s t) (rw (same-is t s f) (same_self s)) e) (λ f. e ∙ sym f))

module _ (c : ℕ) where
  pub control-tab : c ≡ 9 → false ≡ control c
  unfolding control
  control-tab e = rw e

  pub control-feed : c ≡ 10 → false ≡ control c
  unfolding control
  control-feed e = rw e

  pub control-return : c ≡ 13 → false ≡ control c
  unfolding control
  control-return e = rw e

  pub control-other : (c ≡ 9 → ⊥) → (c ≡ 10 → ⊥) → (c ≡ 13 → ⊥) → ltb c 32 ≡ control c
  unfolding control
  control-other p q r =
      rw (ne_eqb c 9 p, ne_eqb c 10 q, ne_eqb c 13 r, control)
      (by_test (ltb c 32) (λ e. rw e) (λ e. rw e))

pub any-control : (s : List ℕ) → list_any control s ≡ controls s
unfolding controls
any-control [] = refl
any-control (c ∷ s) = ap (λ (b : Bool). control c || b) (any-control s)
