-- The records of an accepted list, for which the work words are enough.
use Rattle.std.proofs.Common.{Result, Ok, Err}
use Prim.Native.Nat.{ℕ, ◌+◌, ◌*◌, ◌≤◌}
use mathlib.Core.Path.{◌≡◌, ap, ◌∙◌}
use mathlib.Core.List.{List, ◌++◌}
use mathlib.Core.Option.{none}
use lib.ListN.{length, drop}
use borrow.Author.Tests.{le-ltb}
use Rattle.tokens.specs.Table.{token_list, count_others}
use Rattle.tokens.specs.Refusals.{list_refusal}
use Rattle.tokens.proofs.Accepted.{accepted}
use Rattle.tokens.proofs.Cases.{apart}
use Rattle.records.specs.Record.{record_words}
use Rattle.entries.specs.Prepared.{work_words, prepared}

module _ (text table : List ℕ) (count : ℕ) (work : List ℕ) (ok : list_refusal text count table ≡ none)
    (room : record_words (count_others (token_list count table) + 1) ≤ length work) where
  pub prepared-is : prepared table count work ≡ (Ok (count_others (token_list count table)), work_words (token_list count table) ++ drop (record_words (count_others (token_list count table))) work)
  unfolding prepared
  prepared-is =
      let a = accepted text count table ok in
      rw (le-ltb 4096 count a.few, prepared)
      (rw (le-ltb (length table) (3 * count) a.words)
      (rw (le-ltb (length work) (record_words (count_others (token_list count table) + 1)) room)))

  module _ (r : Result ℕ ℕ) (K : List ℕ) (c : (r, K) ≡ prepared table count work) where
    is : r ≡ Ok (count_others (token_list count table))
    is = ap (λ (p : Result ℕ ℕ × List ℕ). p.0) (c ∙ prepared-is)

    pub words : K ≡ work_words (token_list count table) ++ drop (record_words (count_others (token_list count table))) work
    words = ap (λ (p : Result ℕ ℕ × List ℕ). p.1) (c ∙ prepared-is)

    pub not_refused : {A : Type 0} (k : ℕ) → r ≡ Err k → A
    not_refused k q = let p = is in apart cc

    pub number : (n : ℕ) → r ≡ Ok n → n ≡ count_others (token_list count table)
    number n q = let p = is in cc
