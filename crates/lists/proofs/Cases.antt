-- Which answer of the check of a list it is.
use mathlib.Core.Path.{◌≡◌}
use mathlib.Core.List.{List}
use mathlib.Core.Option.{none, some}
use Prim.Native.Nat.{ℕ}
use Rattle.std.specs.Prelude.{Result, Ok, Err}
use Rattle.tokens.specs.Table.{token_list, count_others}
use Rattle.tokens.specs.Refusals.{list_refusal}
use Rattle.tokens.proofs.Cases.{by_option}
use Rattle.refusals.specs.declared.refusal.Refusal.{Refusal}
use Rattle.refusals.specs.Refusal.{refusal_number, numbered}
use Rattle.lists.specs.Checks.{answer, checked}

module _ (text table : List ℕ) (count : ℕ) (r : Result ℕ Refusal) (c : numbered r ≡ checked text table count) where
  pub checked_refused : (k : Refusal) → r ≡ Err k → list_refusal text count table ≡ some (refusal_number k)
  unfolding checked answer
  checked_refused k q =
      let g = rw q at c in
      by_option (list_refusal text count table) (λ e. let h = rw (e, checked) at g in cc)
      (λ j e. let h = rw (e, checked) at g in cc)

  pub checked-accepted : (n : ℕ) → r ≡ Ok n → (list_refusal text count table ≡ none) × (n ≡ count_others (token_list count table))
  unfolding checked answer
  checked-accepted n q =
      let g = rw q at c in
      by_option (list_refusal text count table) (λ e. let h = rw (e, checked) at g in (e, cc))
      (λ j e. let h = rw (e, checked) at g in cc)
