-- Tokens put into a table one after the other: more behind some, and what a table with words for all of them then holds.
use mathlib.Core.Path.{◌≡◌, sym, ap, ◌∙◌}
use mathlib.Core.List.{List, [], ◌∷◌, ◌++◌, append_assoc}
use Prim.Native.Nat.{ℕ, suc, ◌+◌, ◌*◌, ◌/◌, ◌≤◌, ◌<◌}
use native.Mathlib.Omega.{arith}
use native.Mathlib.Numerals.{add-one}
use lib.ListN.{length, take, drop, set, length-append, length-take, length-drop}
use lib.Seq.{take_at, drop_at, drop-drop, sets-eq}
use borrow.Author.Tests.{lt-ltb, le-ltb}
use Rattle.tokens.specs.Kinds.{number_of}
use Rattle.tokens.specs.Lexeme.{Lexeme}
use Rattle.tokens.specs.Table.{table_words}
use Rattle.tokens.proofs.TokenList.{words-length}
use Rattle.lexer.specs.Listing.{with_words, put_token, list_into}

with_length : (table : List ℕ) (at : ℕ) (ws : List ℕ) → at + length ws ≤ length table → length (with_words table at ws) ≡ length table
unfolding with_words
with_length table at ws h = simp (length-append, length-take, length-drop) (omega arith)

-- words behind words
with_more : (table : List ℕ) (at : ℕ) (vs ws : List ℕ) → at + length vs ≤ length table
    → with_words (with_words table at vs) (at + length vs) ws ≡ with_words table at (vs ++ ws)
unfolding with_words
with_more table at vs ws h =
    let front = take at table ++ vs in
    let back = drop (at + length vs) table in
    let p : length front ≡ at + length vs = simp (length-append, length-take) (omega arith) in
    let d : drop (at + length vs + length ws) (front ++ back) ≡ drop (at + length vs + length ws) table =
    sym (drop-drop (length ws) (at + length vs) (front ++ back)) ∙ ap (drop (length ws)) (drop_at front back (at + length vs) p)
    ∙ drop-drop (length ws) (at + length vs) table in
    let n : at + length vs + length ws ≡ at + length (vs ++ ws) = omega (arith, length-append vs ws) in
    rw (take_at front back (at + length vs) p, d, n, append_assoc (take at table) vs ws)

-- one token: its three words, or none
module _ (n a b c : ℕ) (table : List ℕ) where
  put-fits : n < length table / 3 → with_words table (3 * n) (a ∷ b ∷ c ∷ []) ≡ put_token n a b c table
  unfolding put_token
  put-fits h = sym (rw (lt-ltb n (length table / 3) h, put_token))

  pub put-words : n < length table / 3 → set (set (set table (3 * n) a) (3 * n + 1) b) (3 * n + 2) c ≡ put_token n a b c table
  unfolding with_words
  put-words h =
      let k : 3 * n + 2 ≡ suc (suc (3 * n)) = omega arith in
      rw (add-one (3 * n), k) (sets-eq (a ∷ b ∷ c ∷ []) table (3 * n) (omega arith)) ∙ put-fits h

  pub put-none : length table / 3 ≤ n → table ≡ put_token n a b c table
  unfolding put_token
  put-none h = sym (rw (le-ltb n (length table / 3) h, put_token))

-- more tokens behind some
pub into_append : (n : ℕ) (table : List ℕ) (ts us : List Lexeme)
    → list_into n table (ts ++ us) ≡ list_into (n + length ts) (list_into n table ts) us
unfolding list_into
into_append n table [] us = let e : n + 0 ≡ n = omega arith in rw e
into_append n table (t ∷ ts) us =
    into_append (suc n) (put_token n t.span.start t.span.len (number_of t.token) table) ts us
    ∙ ap (λ (k : ℕ). list_into k (list_into n table (t ∷ ts)) us) (omega arith)

with_none : (table : List ℕ) (at : ℕ) → at ≤ length table → table ≡ with_words table at []
unfolding with_words
with_none table at h = sets-eq [] table at (omega arith)

into_words : (n : ℕ) (table : List ℕ) (ts : List Lexeme) → 3 * (n + length ts) ≤ length table
    → list_into n table ts ≡ with_words table (3 * n) (table_words ts)
unfolding list_into table_words
into_words n table [] h = with_none table (3 * n) (omega arith)
into_words n table (t ∷ ts) h =
    let ws = t.span.start ∷ t.span.len ∷ number_of t.token ∷ [] in
    let next = with_words table (3 * n) ws in
    let l : length next ≡ length table = with_length table (3 * n) ws (omega arith) in
    let k : 3 * suc n ≡ 3 * n + 3 = omega arith in
    ap (λ (q : List ℕ). list_into (suc n) q ts) (sym (put-fits n t.span.start t.span.len (number_of t.token) table (omega arith)))
    ∙ into_words (suc n) next ts (omega arith) ∙ ap (λ (i : ℕ). with_words next i (table_words ts)) k
    ∙ with_more table (3 * n) ws (table_words ts) (omega arith)

-- all tokens, where the table has words for them
pub into_whole : (table : List ℕ) (ts : List Lexeme) → 3 * length ts ≤ length table
    → list_into 0 table ts ≡ table_words ts ++ drop (3 * length ts) table
unfolding with_words
into_whole table ts h =
    let k : 0 + length (table_words ts) ≡ 3 * length ts = omega (arith, words-length ts) in
    into_words 0 table ts (omega arith) ∙ ap (λ (i : ℕ). table_words ts ++ drop i table) k
