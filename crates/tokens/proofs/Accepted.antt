-- What is known of an accepted list: its size, and each token's kind and span.
use mathlib.Core.Path.{◌≡◌, sym, ◌∙◌}
use mathlib.Core.Bool.{Bool, false}
use mathlib.Core.List.{List}
use mathlib.Core.Option.{Option, none, some}
use Prim.Native.Nat.{ℕ, zero, suc, ◌+◌, ◌*◌, ◌≤◌, ◌<◌}
use native.Mathlib.Omega.{arith}
use lib.ListN.{length, get_or}
use Rattle.tokens.specs.Refusals.{text_refusal, list_refusal}
use Rattle.tokens.proofs.Cases.{by_test, by_eq, by_lt, by_option}
use Rattle.tokens.proofs.Order.{text-short, text-first, count-large, table-short, to_tokens}
use Rattle.tokens.proofs.Tokens.{refusal_from, refusal-all, kind-refused, span-refused, space-refused, space-passed, other-passed}

-- an answer is not both
pub met : {A : Type 0} {o : Option ℕ} {k : ℕ} → o ≡ none → o ≡ some k → A
met p q = let z : ◌≡◌ {A = ℕ} 0 1 = cc in absurd (omega arith)

-- token i has a kind and a span of the text
pub record Sound (size : ℕ) (table : List ℕ) (i : ℕ) : Type 0 where
  pub kind : get_or table (3 * i + 2) 0 ≤ 23
  pub span : get_or table (3 * i) 0 + get_or table (3 * i + 1) 0 ≤ size

module _ (size count : ℕ) (table : List ℕ) where
  module _ (after : Bool) (i : ℕ) (p : refusal_from size count table after i ≡ none) (h : i < count) where
    sound-now : Sound size table i
    sound-now =
        let k = by_lt 23 (get_or table (3 * i + 2) 0) (λ l. met p (kind-refused size count table after i h l)) (λ l. l) in
        record {
          kind = k;
          span =
              by_lt size (get_or table (3 * i) 0 + get_or table (3 * i + 1) 0) (λ l. met p (span-refused size count table after i h k l)) (λ l. l);
        }

    -- nor are the tokens after it refused
    next-accepted : {A : Type 0} → ((b : Bool) → refusal_from size count table b (i + 1) ≡ none → A) → A
    next-accepted f =
        let k = sound-now.kind in
        let l = sound-now.span in
        by_eq (get_or table (3 * i + 2) 0) 23
        (λ z.
        by_test after
        (λ a. met p (space-refused size count table after i h k l a z))
        (λ a. f _ (sym (space-passed size count table after i h k l a z) ∙ p)))
        (λ z. f false (sym (other-passed size count table after i h k l z) ∙ p))

  sound-after : (m i : ℕ) (after : Bool) → refusal_from size count table after i ≡ none → i + m < count → Sound size table (i + m)
  sound-after zero i after p h = let e : i + 0 ≡ i = omega arith in rw e (sound-now after i p (omega arith))
  sound-after (suc m) i after p h =
      let e : i + suc m ≡ i + 1 + m = omega arith in
      rw e (next-accepted after i p (omega arith) (λ b q. sound-after m (i + 1) b q (omega arith)))

pub record Accepted (text : List ℕ) (count : ℕ) (table : List ℕ) : Type 0 where
  pub short : length text ≤ 4096
  pub few : count ≤ 4096
  pub words : 3 * count ≤ length table
  pub sound : (i : ℕ) → i < count → Sound (length text) table i

pub accepted : (text : List ℕ) (count : ℕ) (table : List ℕ) → list_refusal text count table ≡ none → Accepted text count table
accepted text count table p =
    by_option (text_refusal text)
    (λ o.
    by_lt 4096 count
    (λ l. met p (count-large text table count o l))
    (λ few.
    by_lt (length table) (3 * count)
    (λ l. met p (table-short text table count o few l))
    (λ words.
    let q = sym (to_tokens text table count o few words ∙ refusal-all (length text) count table) ∙ p in
    record {
      short = text-short text o;
      few = few;
      words = words;
      sound = λ i l. let e : i ≡ 0 + i = omega arith in rw e (sound-after (length text) count table i 0 false q (omega arith));
    })))
    (λ k o. met p (text-first text table count k o))
