-- What `prepare` answers: the first test that fails decides.
use Rattle.std.proofs.Common.{Result, Ok, Err}
use Prim.Native.Nat.{ℕ, ◌+◌, ◌*◌, ◌≤◌, ◌<◌}
use mathlib.Core.Path.{◌≡◌, refl, sym, ap, ◌∙◌}
use mathlib.Core.Bool.{true, false}
use mathlib.Core.List.{List, ◌++◌}
use lib.Dec.{ltb}
use lib.ListN.{length, drop}
use native.Mathlib.Omega.{arith}
use borrow.Author.Tests.{lt-ltb, le-ltb, ltb-false}
use Rattle.tokens.proofs.Cases.{by_lt, apart}
use Rattle.tokens.specs.Table.{token_list, count_others}
use Rattle.records.specs.Record.{record_words}
use Rattle.entries.specs.Prepared.{work_words, prepared}
use Rattle.entries.proofs.Filling.{length-work}

module _ (count : ℕ) (table work : List ℕ) where
  pub many : 4096 < count → (Err 3, work) ≡ prepared table count work
  unfolding prepared
  many h = rw (prepared, lt-ltb 4096 count h)

  pub enough : ltb (length work) (record_words (count_others (token_list count table) + 1)) ≡ false → record_words (count_others (token_list count table)) ≤ length work
  enough w = let z = ltb-false (length work) (record_words (count_others (token_list count table) + 1)) w in omega (arith, z)

  module _ (h : count ≤ 4096) where
    pub short-table : length table < 3 * count → (Err 3, work) ≡ prepared table count work
    unfolding prepared
    short-table t = rw (prepared, le-ltb 4096 count h, lt-ltb (length table) (3 * count) t)

    module _ (t : 3 * count ≤ length table) where
      pub short-work : ltb (length work) (record_words (count_others (token_list count table) + 1)) ≡ true → (Err 8, work) ≡ prepared table count work
      unfolding prepared
      short-work w = rw (prepared, le-ltb 4096 count h, le-ltb (length table) (3 * count) t, w)

      pub ready : {n : ℕ} {after : List ℕ} → ltb (length work) (record_words (count_others (token_list count table) + 1)) ≡ false → n ≡ count_others (token_list count table)
          → after ≡ work_words (token_list count table) ++ drop (record_words (count_others (token_list count table))) work → (Ok n, after) ≡ prepared table count work
      unfolding prepared
      ready w e p = rw (prepared, le-ltb 4096 count h, le-ltb (length table) (3 * count) t, w, p, e)

-- What an answer with entries says: nothing was short, and the records stand in front.
pub record Made (table : List ℕ) (count : ℕ) (work : List ℕ) (n : ℕ) (K : List ℕ) : Type 0 where
  pub few : count ≤ 4096
  pub words : 3 * count ≤ length table
  pub number : n ≡ count_others (token_list count table)
  pub room : record_words (count_others (token_list count table) + 1) ≤ length work
  pub size : length (work_words (token_list count table)) ≡ record_words (count_others (token_list count table))
  pub filled : K ≡ work_words (token_list count table) ++ drop (record_words (count_others (token_list count table))) work

module _ (table : List ℕ) (count : ℕ) (work : List ℕ) (n : ℕ) (K : List ℕ) (c : (Ok n, K) ≡ prepared table count work) where
  -- no refusal
  not_so : {A : Type 0} (k : ℕ) → (Err k, work) ≡ prepared table count work → A
  not_so k e = let p : Ok n ≡ Err k = ap (λ (x : Result ℕ ℕ × List ℕ). x.0) (c ∙ sym e) in apart cc

  pub made : Made table count work n K
  made =
      by_lt 4096 count
      (λ l. not_so 3 (many count table work l))
      (λ h. by_lt (length table) (3 * count)
      (λ l. not_so 3 (short-table count table work h l))
      (λ t. by_lt (length work) (record_words (count_others (token_list count table) + 1))
      (λ l. not_so 8 (short-work count table work h t (lt-ltb _ _ l)))
      (λ w.
      let p = c ∙ sym (ready count table work h t (le-ltb _ _ w) refl refl) in
      record { few = h; words = t; number = number (ap (λ (x : Result ℕ ℕ × List ℕ). x.0) p); room = w; size = length-work (token_list count table); filled = ap (λ (x : Result ℕ ℕ × List ℕ). x.1) p })))
    where
      number : {m : ℕ} → ◌≡◌ {A = Result ℕ ℕ} (Ok n) (Ok m) → n ≡ m
      number p = cc
