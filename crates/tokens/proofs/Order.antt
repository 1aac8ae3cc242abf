-- The refusals of a text and of a list in their order: the first test that fails decides.
use mathlib.Core.Path.{◌≡◌}
use mathlib.Core.Bool.{true, false}
use mathlib.Core.List.{List}
use mathlib.Core.Option.{none, some}
use Prim.Native.Nat.{ℕ, ◌*◌, ◌≤◌, ◌<◌}
use native.Mathlib.Omega.{arith}
use lib.ListN.{length}
use borrow.Author.Tests.{lt-ltb, le-ltb}
use Rattle.tokens.specs.Refusals.{ascii, text_refusal, table_refusal, list_refusal, tokens_refusal}
use Rattle.tokens.proofs.Cases.{by_lt, by_test}

module _ (text : List ℕ) where
  pub text-long : 4096 < length text → text_refusal text ≡ some 1
  unfolding text_refusal
  text-long h = rw (lt-ltb 4096 (length text) h, text_refusal)

  module _ (h : length text ≤ 4096) where
    pub text-other : ascii text ≡ false → text_refusal text ≡ some 2
    unfolding text_refusal
    text-other a = rw (le-ltb 4096 (length text) h, text_refusal) (rw a)

    pub text-passes : ascii text ≡ true → text_refusal text ≡ none
    unfolding text_refusal
    text-passes a = rw (le-ltb 4096 (length text) h, text_refusal) (rw a)

  -- what is known of a text that is not refused
  module _ (p : text_refusal text ≡ none) where
    pub text-short : length text ≤ 4096
    text-short =
        by_lt 4096 (length text)
        (λ l.
        let q = text-long l in
        let z : ◌≡◌ {A = ℕ} 0 1 = cc in
        absurd (omega arith))
        (λ l. l)

    pub text-ascii : ascii text ≡ true
    text-ascii =
        by_test (ascii text) (λ a. a)
        (λ a.
        let q = text-other text-short a in
        let z : ◌≡◌ {A = ℕ} 0 1 = cc in
        absurd (omega arith))

module _ (text table : List ℕ) (count : ℕ) where
  pub text-first : (k : ℕ) → text_refusal text ≡ some k → list_refusal text count table ≡ some k
  unfolding list_refusal
  text-first k e = rw (e, list_refusal)

  module _ (p : text_refusal text ≡ none) where
    to_table : list_refusal text count table ≡ table_refusal (length text) count table
    unfolding list_refusal
    to_table = rw (p, list_refusal)

    pub count-large : 4096 < count → list_refusal text count table ≡ some 3
    unfolding table_refusal
    count-large c = rw (to_table, table_refusal, lt-ltb 4096 count c)

    module _ (c : count ≤ 4096) where
      pub table-short : length table < 3 * count → list_refusal text count table ≡ some 3
      unfolding table_refusal
      table-short t = rw (to_table, table_refusal, le-ltb 4096 count c, lt-ltb (length table) (3 * count) t)

      pub to_tokens : 3 * count ≤ length table → list_refusal text count table ≡ tokens_refusal (length text) false count table
      unfolding table_refusal
      to_tokens t = rw (to_table, table_refusal, le-ltb 4096 count c, le-ltb (length table) (3 * count) t)
