-- The token list in the words of a table, one token after the other.
use mathlib.Core.Path.{◌≡◌, refl, ap, ◌∙◌}
use mathlib.Core.List.{List, [], ◌∷◌}
use Prim.Native.Nat.{ℕ, zero, suc, ◌+◌, ◌*◌, ◌-◌, ◌≤◌, ◌<◌}
use native.Mathlib.Omega.{arith}
use lib.ListN.{length, get_or, drop, get_or-eq_default}
use lib.Seq.{get_or-drop, drop-drop}
use borrow.Author.Tests.{ne_eqb}
use Rattle.tokens.specs.declared.token.Token.TheVariants.{Space}
use Rattle.tokens.specs.Kinds.{number_of, kinds, token_of}
use Rattle.tokens.specs.Lexeme.{Lexeme, lexeme}
use Rattle.tokens.specs.Table.{table_words, token_list, count_others}
use Rattle.tokens.proofs.Cases.{by_eq, by_lt}
use Rattle.tokens.proofs.Numbers.{number-of_token}

-- a number of 23 or more stands for Space
pub kind-space : (k : ℕ) → 23 ≤ k → number_of (token_of k) ≡ 23
kind-space k h =
    by_lt 23 k
    (λ l. ap number_of (get_or-eq_default kinds Space {n = k} l))
    (λ l. let e : k ≡ 23 = omega arith in ap (λ (n : ℕ). number_of (token_of n)) e)

-- a lower one does not
pub kind-other : (k : ℕ) → k < 23 → number_of (token_of k) ≡ 23 → ⊥
kind-other k h z = omega (arith, number-of_token k (omega arith))

pub count-space : (t : Lexeme) (ts : List Lexeme) → number_of t.token ≡ 23 → count_others (t ∷ ts) ≡ count_others ts
unfolding count_others
count-space t ts z = rw (count_others, z)

pub count-other : (t : Lexeme) (ts : List Lexeme) → (number_of t.token ≡ 23 → ⊥) → count_others (t ∷ ts) ≡ suc (count_others ts)
unfolding count_others
count-other t ts z = rw (count_others, ne_eqb (number_of t.token) 23 z)

-- token i: its start, length and kind stand at 3 * i and behind it
abbrev pub token_at : List ℕ → ℕ → Lexeme
token_at table i = lexeme (get_or table (3 * i) 0) (get_or table (3 * i + 1) 0) (token_of (get_or table (3 * i + 2) 0))

module _ (table : List ℕ) (i : ℕ) where
  pub word_at : (k : ℕ) → get_or (drop (3 * i) table) k 0 ≡ get_or table (3 * i + k) 0
  word_at k = get_or-drop (3 * i) table k 0

  pub first_word : get_or (drop (3 * i) table) 0 0 ≡ get_or table (3 * i) 0
  first_word = let e : 3 * i + 0 ≡ 3 * i = omega arith in word_at 0 ∙ ap (λ (k : ℕ). get_or table k 0) e

  pub words-behind : drop 3 (drop (3 * i) table) ≡ drop (3 * (i + 1)) table
  words-behind = let e : 3 * i + 3 ≡ 3 * (i + 1) = omega arith in drop-drop 3 (3 * i) table ∙ ap (λ (k : ℕ). drop k table) e

-- the tokens from number i on
abbrev pub tokens_from : ℕ → List ℕ → ℕ → List Lexeme
tokens_from count table i = token_list (count - i) (drop (3 * i) table)

module _ (count : ℕ) (table : List ℕ) where
  pub tokens-all : token_list count table ≡ tokens_from count table 0
  tokens-all = let e : count - 0 ≡ count = omega arith in rw e

  module _ (i : ℕ) where
    pub tokens_none : count ≤ i → tokens_from count table i ≡ []
    unfolding token_list
    tokens_none h = let e : count - i ≡ 0 = omega arith in rw e

    pub tokens-next : i < count → tokens_from count table i ≡ token_at table i ∷ tokens_from count table (i + 1)
    unfolding token_list
    tokens-next h =
        let e : count - i ≡ suc (count - (i + 1)) = omega arith in
        rw (e, token_list, first_word table i, word_at table i 1, word_at table i 2, words-behind table i)

    pub others_same : i < count → 23 ≤ get_or table (3 * i + 2) 0 → count_others (tokens_from count table i) ≡ count_others (tokens_from count table (i + 1))
    others_same h k =
        ap count_others (tokens-next h)
        ∙ count-space (token_at table i) (tokens_from count table (i + 1)) (kind-space (get_or table (3 * i + 2) 0) k)

    pub others-more : i < count → get_or table (3 * i + 2) 0 < 23 → count_others (tokens_from count table i) ≡ suc (count_others (tokens_from count table (i + 1)))
    others-more h k =
        ap count_others (tokens-next h)
        ∙ count-other (token_at table i) (tokens_from count table (i + 1)) (kind-other (get_or table (3 * i + 2) 0) k)

pub others-few : (count : ℕ) (table : List ℕ) → count_others (token_list count table) ≤ count
unfolding token_list count_others
others-few zero table = omega arith
others-few (suc count) table =
    let t = lexeme (get_or table 0 0) (get_or table 1 0) (token_of (get_or table 2 0)) in
    let ts = token_list count (drop 3 table) in
    by_eq (number_of t.token) 23
    (λ z. omega (arith, others-few count (drop 3 table), count-space t ts z))
    (λ z. omega (arith, others-few count (drop 3 table), count-other t ts z))

-- of any tokens: how many words they have, and how many are other than Space
pub words-length : (ts : List Lexeme) → length (table_words ts) ≡ 3 * length ts
unfolding table_words
words-length [] = refl
words-length (t ∷ ts) = omega (arith, words-length ts)

pub others-bound : (ts : List Lexeme) → count_others ts ≤ length ts
unfolding count_others
others-bound [] = omega arith
others-bound (t ∷ ts) =
    by_eq (number_of t.token) 23 (λ z. omega (arith, others-bound ts, count-space t ts z))
    (λ z. omega (arith, others-bound ts, count-other t ts z))
