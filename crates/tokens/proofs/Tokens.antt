-- One token of a list: what it is refused for, and what an accepted one leaves to the tokens after it.
use mathlib.Core.Path.{◌≡◌, ◌∙◌}
use mathlib.Core.Bool.{Bool, true, false, ◌&&◌, and-false}
use mathlib.Core.List.{List}
use mathlib.Core.Option.{Option, none, some}
use Prim.Native.Nat.{ℕ, suc, ◌+◌, ◌*◌, ◌-◌, ◌≤◌, ◌<◌}
use native.Mathlib.Omega.{arith}
use lib.Dec.{eqb, ltb}
use lib.ListN.{get_or, drop}
use borrow.Author.Tests.{lt-ltb, le-ltb, ne_eqb}
use Rattle.tokens.specs.Refusals.{long_space, tokens_refusal}
use Rattle.tokens.proofs.TokenList.{word_at, first_word, words-behind}

-- the refusal that the tokens from number i on meet
abbrev pub refusal_from : ℕ → ℕ → List ℕ → Bool → ℕ → Option ℕ
refusal_from size count table after i = tokens_refusal size after (count - i) (drop (3 * i) table)

module _ (size count : ℕ) (table : List ℕ) where
  pub refusal-all : tokens_refusal size false count table ≡ refusal_from size count table false 0
  refusal-all = let e : count - 0 ≡ count = omega arith in rw e

  module _ (after : Bool) (i : ℕ) where
    pub refusal-none : count ≤ i → refusal_from size count table after i ≡ none
    unfolding tokens_refusal
    refusal-none h = let e : count - i ≡ 0 = omega arith in rw e

    module _ (h : i < count) where
      abbrev end : ℕ
      end = get_or table (3 * i) 0 + get_or table (3 * i + 1) 0

      abbrev kind : ℕ
      kind = get_or table (3 * i + 2) 0

      left : count - i ≡ suc (count - (i + 1))
      left = omega arith

      pub kind-refused : 23 < kind → refusal_from size count table after i ≡ some 4
      unfolding tokens_refusal
      kind-refused k = rw (left, tokens_refusal, word_at table i 2, lt-ltb 23 kind k)

      module _ (k : kind ≤ 23) where
        pub span-refused : size < end → refusal_from size count table after i ≡ some 5
        unfolding tokens_refusal
        span-refused l =
            rw (left, tokens_refusal, word_at table i 2, le-ltb 23 kind k, first_word table i, word_at table i 1, lt-ltb size end l)

        module _ (l : end ≤ size) where
          pub space-refused : after ≡ true → kind ≡ 23 → refusal_from size count table after i ≡ some 6
          unfolding tokens_refusal
          space-refused a z =
              rw (
                left,
                tokens_refusal,
                word_at table i 2,
                le-ltb 23 kind k,
                first_word table i,
                word_at table i 1,
                le-ltb size end l,
                a,
                word_at table i 2,
                z,
              )

          passed : after && eqb kind 23 ≡ false → refusal_from size count table after i ≡ refusal_from size count table (long_space (get_or table (3 * i + 1) 0) kind) (i + 1)
          unfolding tokens_refusal
          passed e =
              rw (
                left,
                tokens_refusal,
                word_at table i 2,
                le-ltb 23 kind k,
                first_word table i,
                word_at table i 1,
                le-ltb size end l,
                word_at table i 2,
                e,
                word_at table i 1,
                word_at table i 2,
                words-behind table i,
              )

          pub space-passed : after ≡ false → kind ≡ 23 → refusal_from size count table after i ≡ refusal_from size count table (ltb 0 (get_or table (3 * i + 1) 0)) (i + 1)
          unfolding long_space
          space-passed a z = passed (rw a) ∙ rw (long_space, z)

          pub other-passed : (kind ≡ 23 → ⊥) → refusal_from size count table after i ≡ refusal_from size count table false (i + 1)
          unfolding long_space
          other-passed z = let e = ne_eqb kind 23 z in passed (rw (e, and-false)) ∙ rw (long_space, e)
