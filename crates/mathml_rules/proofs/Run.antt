-- A reader over one list after another.
use mathlib.Core.Path.{◌≡◌, refl}
use mathlib.Core.List.{List, [], ◌∷◌, ◌++◌}
use Rattle.mathml_rules.specs.Run.{run}

module _ {Q A : Type 0} (step : Q → A → Q) where
  pub run-append : (q : Q) (s t : List A) → run step q (s ++ t) ≡ run step (run step q s) t
  unfolding run
  run-append q [] t = refl
  run-append q (a ∷ s) t = run-append (step q a) s t

  pub run-cons : (q : Q) (a : A) (s : List A) → run step q (a ∷ s) ≡ run step (step q a) s
  unfolding run
  run-cons q a s = refl

  pub run-one : (q : Q) (a : A) → run step q (a ∷ []) ≡ step q a
  unfolding run
  run-one q a = refl

  pub run_on : (p : Q) {q r : Q} (s t : List A) → run step p s ≡ q → run step q t ≡ r → run step p (s ++ t) ≡ r
  run_on p s t e f = rw (run-append p s t, e) f
