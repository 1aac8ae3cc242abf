-- What an accepted call has written: the whole reading's closers, which are matched.
use Prim.Native.Nat.{ℕ, ◌<◌}
use mathlib.Core.Path.{◌≡◌, refl, sym, ap, ◌∙◌, subst}
use mathlib.Core.List.{List, [], ◌∷◌, ◌++◌}
use native.Mathlib.Omega.{arith}
use lib.ListN.{length, get_or, take, drop, get_or-append}
use Rattle.tokens.specs.Lexeme.{Lexeme}
use Rattle.tokens.specs.Table.{token_list, count_others}
use Rattle.tokens.specs.Refusals.{Answer, accepted, refused}
use Rattle.tokens.proofs.Cases.{by_option, apart}
use Rattle.lexing.specs.Rules.{tokens}
use Rattle.tree.specs.Tree.{nowhere}
use Rattle.reading.specs.Entries.{entries}
use Rattle.reading.specs.Reading.{closers_of}
use Rattle.bounds.proofs.Theorems.{entries-count}
use Rattle.closers_laws.proofs.Nested.{nested, one-opener, closer-opens_nothing}
use Rattle.closers.specs.Call.{tokens_refusal, text_refusal_of, closers_after, closed_tokens, closed_text}
use Rattle.closers.specs.Answers.{Matched, Answered}
use Rattle.closers.proofs.Calls.{get_d_in, tokens-turned, tokens-taken, text-turned, text-taken}

take-front : (c d : List ℕ) → take (length c) (c ++ d) ≡ c
take-front [] d = refl
take-front (x ∷ c) d = ap (λ (r : List ℕ). x ∷ r) (take-front c d)

module _ (text : List ℕ) (ts : List Lexeme) (out : List ℕ) where
  abbrev n : ℕ
  n = count_others ts

  abbrev c : List ℕ
  c = closers_of text ts

  abbrev w : List ℕ
  w = c ++ drop n out

  size : length c ≡ n
  size = (nested text ts).0 ∙ entries-count nowhere ts

  at : (i : ℕ) → i < n → get_or w i 0 ≡ get_or c i (length (entries nowhere ts))
  at i h = get_or-append c (drop n out) 0 i (omega (arith, size)) ∙ get_d_in c i 0 (length (entries nowhere ts)) (omega (arith, size))

  matched : Matched n w
  matched =
      let p = nested text ts in
      let e = entries-count nowhere ts in
      record {
        place = λ i h. omega (arith, at i h, p.1 i, e);
        behind = λ i h k. rw (at i h) (p.2 i (omega (arith, at i h, e)));
        one-opener = λ i j l h k z.
            one-opener text ts i j l (omega (arith, at i (omega arith), e)) (omega (arith, at i (omega arith), at j h, z, e)) (sym (at i (omega arith)) ∙ z ∙ at j h);
        never-cross = λ i j l h k m.
            rw (at i (omega arith), at j h) (p.3 i j l (omega (arith, at i (omega arith), e)) (omega (arith, at j h, e)));
        opens-nothing = λ i h k.
            at (get_or w i 0) k ∙ ap (λ (m : ℕ). get_or c m (length (entries nowhere ts))) (at i h)
            ∙ closer-opens_nothing text ts i (omega (arith, at i h, e)) ∙ e;
      }

  answered : Answered text ts (closers_after text ts out)
  unfolding closers_after
  answered =
      record { whole = ap (λ (m : ℕ). take m (c ++ drop n out)) (sym size) ∙ take-front c (drop n out); matched = matched }

-- whenever the call on a list accepts
pub tokens-answered : (text table : List ℕ) (count : ℕ) (out v y : List ℕ) → closed_tokens text table count out ≡ (accepted v, y)
    → (v ≡ count_others (token_list count table) ∷ []) × Answered text (token_list count table) y
tokens-answered text table count out v y h =
    by_option (tokens_refusal text table count (length out))
    (λ e.
    let z = sym (tokens-taken text table count out e) ∙ h in
    let f : accepted (count_others (token_list count table) ∷ []) ≡ accepted v = ap (λ (x : Answer × List ℕ). x.0) z in
    let g : closers_after text (token_list count table) out ≡ y = ap (λ (x : Answer × List ℕ). x.1) z in
    (cc, subst (λ (x : List ℕ). Answered text (token_list count table) x) g (answered text (token_list count table) out)))
    (λ k e.
    let z : refused k ≡ accepted v = ap (λ (x : Answer × List ℕ). x.0) (tokens-turned text table count out k e ∙ h) in
    apart cc)

-- the same for the call on a text
pub text-answered : (text table out v t y : List ℕ) → closed_text text table out ≡ (accepted v, t, y)
    → (v ≡ length (tokens text) ∷ count_others (tokens text) ∷ []) × Answered text (tokens text) y
text-answered text table out v t y h =
    by_option (text_refusal_of text (length table) (length out))
    (λ e.
    let z = sym (text-taken text table out e) ∙ h in
    let f : accepted (length (tokens text) ∷ count_others (tokens text) ∷ []) ≡ accepted v = ap (λ (x : Answer × List ℕ × List ℕ). x.0) z in
    let g : closers_after text (tokens text) out ≡ y = ap (λ (x : Answer × List ℕ × List ℕ). x.2) z in
    (cc, subst (λ (x : List ℕ). Answered text (tokens text) x) g (answered text (tokens text) out)))
    (λ k e.
    let z : refused k ≡ accepted v = ap (λ (x : Answer × List ℕ × List ℕ). x.0) (text-turned text table out k e ∙ h) in
    apart cc)
