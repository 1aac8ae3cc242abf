-- The check of a text: its tests in their order, and what its answer says of the refusals.
use mathlib.Core.Path.{◌≡◌, sym}
use mathlib.Core.Bool.{true, false}
use mathlib.Core.List.{List, []}
use mathlib.Core.Option.{none, some}
use Prim.Native.Nat.{ℕ, ◌≤◌, ◌<◌}
use native.Mathlib.Omega.{arith}
use lib.ListN.{length}
use Rattle.std.specs.Prelude.{Result, Ok, Err}
use Rattle.tokens.specs.Refusals.{accepted, refused, ascii, text_refusal}
use Rattle.tokens.proofs.Cases.{by_option}
use Rattle.tokens.proofs.Order.{text-long, text-other, text-passes}
use Rattle.refusals.specs.declared.refusal.Refusal.{Refusal}
use Rattle.refusals.specs.Refusal.{refusal_number}
use Rattle.refusals.specs.TextChecks.{check_of, checked_text}

module _ (text : List ℕ) where
  refused-by : (k : ℕ) → text_refusal text ≡ some k → refused k ≡ checked_text text
  unfolding checked_text
  refused-by k e = sym (rw (e, checked_text))

  pub check_long : 4096 < length text → refused 1 ≡ checked_text text
  check_long h = refused-by 1 (text-long text h)

  module _ (h : length text ≤ 4096) where
    pub check_other_byte : ascii text ≡ false → refused 2 ≡ checked_text text
    check_other_byte a = refused-by 2 (text-other text h a)

    pub check_accepted : ascii text ≡ true → accepted [] ≡ checked_text text
    unfolding checked_text
    check_accepted a = sym (rw (text-passes text h a, checked_text))

module _ (text : List ℕ) (r : Result Unit Refusal) (e : check_of r ≡ checked_text text) where
  pub text-refused : (k : Refusal) → r ≡ Err k → text_refusal text ≡ some (refusal_number k)
  unfolding checked_text
  text-refused k f =
      let g = rw f at e in
      by_option (text_refusal text) (λ p. let h = rw (p, checked_text) at g in let z : ◌≡◌ {A = ℕ} 0 1 = cc in absurd (omega arith))
      (λ j p. let h = rw (p, checked_text) at g in cc)

  pub text-accepted : (u : Unit) → r ≡ Ok u → text_refusal text ≡ none
  unfolding checked_text
  text-accepted u f =
      let g = rw f at e in
      by_option (text_refusal text) (λ p. p)
      (λ j p. let h = rw (p, checked_text) at g in let z : ◌≡◌ {A = ℕ} 0 1 = cc in absurd (omega arith))
