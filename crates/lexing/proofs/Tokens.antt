-- The tokens from a place on, read by read: how many reads are enough, how many tokens there are, and where they lie.
use mathlib.Core.Path.{◌≡◌, refl, sym, ap, ◌∙◌, subst}
use mathlib.Core.List.{List, [], ◌∷◌, ◌++◌}
use Prim.Native.Nat.{ℕ, zero, suc, ◌+◌, ◌≤◌, ◌<◌}
use native.Mathlib.Omega.{arith}
use lib.ListN.{length, length-append}
use borrow.Author.Tests.{lt-ltb, le-ltb}
use Rattle.tokens.specs.Lexeme.{Lexeme}
use Rattle.lexing.specs.Rules.{Read, read_at, tokens_from, tokens_by}
use Rattle.tokens.proofs.Cases.{by_lt}
use Rattle.lexing.proofs.Moves.{Between, Sound, read-moves}

module _ (rule5 : List ℕ → ℕ → Read) (text : List ℕ) where
  -- one read, and the tokens of f more
  pub read-on : (f at : ℕ) → at < length text →
      tokens_from rule5 (suc f) text at ≡
      (read_at rule5 text at).first ∷ ((read_at rule5 text at).waiting ++ tokens_from rule5 f text (read_at rule5 text at).next)
  unfolding tokens_from
  read-on f at h = rw (lt-ltb at (length text) h, tokens_from)

  pub tokens-end : (f at : ℕ) → length text ≤ at → tokens_from rule5 f text at ≡ []
  unfolding tokens_from
  tokens-end zero at h = refl
  tokens-end (suc f) at h = rw (le-ltb at (length text) h, tokens_from)

pub between_le : (from to : ℕ) (ts : List Lexeme) → Between from to ts → from ≤ to
between_le from to [] p = p
between_le from to (t ∷ ts) p = omega (arith, between_le (t.span.start + t.span.len) to ts p.1)

-- from any token on
between-part : (from to : ℕ) (ts us : List Lexeme) → Between from to (ts ++ us) → (at : ℕ) × Between at to us
between-part from to [] us p = (from, p)
between-part from to (t ∷ ts) us p = between-part (t.span.start + t.span.len) to ts us p.1

between-later : (from to end : ℕ) (us : List Lexeme) → from ≤ to → Between to end us → Between from end us
between-later from to end [] h q = omega arith
between-later from to end (u ∷ us) h q = (omega arith, q.1)

between-append : (from to end : ℕ) (ts us : List Lexeme) → Between from to ts → Between to end us
    → Between from end (ts ++ us)
between-append from to end [] us p q = between-later from to end us p q
between-append from to end (t ∷ ts) us p q = (p.0, between-append (t.span.start + t.span.len) to end ts us p.1 q)

module _ {rule5 : List ℕ → ℕ → Read} (sound : Sound rule5) (text : List ℕ) where
  pub fuel : (f g at : ℕ) → length text ≤ at + f → length text ≤ at + g
      → tokens_from rule5 f text at ≡ tokens_from rule5 g text at
  fuel zero g at h l = tokens-end rule5 text zero at (omega arith) ∙ sym (tokens-end rule5 text g at (omega arith))
  fuel (suc f) zero at h l =
      tokens-end rule5 text (suc f) at (omega arith) ∙ sym (tokens-end rule5 text zero at (omega arith))
  fuel (suc f) (suc g) at h l =
      by_lt at (length text)
      (λ e.
      let m = (read-moves sound text at e).on in
      read-on rule5 text f at e
      ∙ ap (λ (ts : List Lexeme). (read_at rule5 text at).first ∷ ((read_at rule5 text at).waiting ++ ts))
      (fuel f g (read_at rule5 text at).next (omega arith) (omega arith))
      ∙ sym (read-on rule5 text g at e))
      (λ e. tokens-end rule5 text (suc f) at e ∙ sym (tokens-end rule5 text (suc g) at e))

  pub tokens-step : (f at : ℕ) → length text ≤ at + f → at < length text →
      tokens_from rule5 f text at ≡
      (read_at rule5 text at).first ∷ ((read_at rule5 text at).waiting ++ tokens_from rule5 f text (read_at rule5 text at).next)
  tokens-step f at h l = fuel f (suc f) at h (omega arith) ∙ read-on rule5 text f at l

  pub count-step : (f at : ℕ) → length text ≤ at + f → at < length text →
      length (tokens_from rule5 f text at) ≡
      suc (length (read_at rule5 text at).waiting) + length (tokens_from rule5 f text (read_at rule5 text at).next)
  count-step f at h l =
      rw (tokens-step f at h l) (rw length-append (omega arith))

  pub count-from : (f at : ℕ) → at ≤ length text → at + length (tokens_from rule5 f text at) ≤ length text
  unfolding tokens_from
  count-from zero at h = omega arith
  count-from (suc f) at h =
      by_lt at (length text)
      (λ e.
      let m = read-moves sound text at e in
      rw (read-on rule5 text f at e) (rw length-append (omega (arith, m.fewer, count-from f _ m.inside))))
      (λ e. rw (tokens-end rule5 text (suc f) at e) (omega arith))

  pub count-bound : length (tokens_by rule5 text) ≤ length text
  unfolding tokens_by
  count-bound = omega (arith, count-from (length text) 0 (omega arith))

  pub between-from : (f at : ℕ) → at ≤ length text → Between at (length text) (tokens_from rule5 f text at)
  unfolding tokens_from
  between-from zero at h = h
  between-from (suc f) at h =
      by_lt at (length text)
      (λ e.
      let m = read-moves sound text at e in
      let r = read_at rule5 text at in
      rw (read-on rule5 text f at e)
      (between-append at _ (length text) (r.first ∷ r.waiting) _ m.ordered (between-from f _ m.inside)))
      (λ e. rw (tokens-end rule5 text (suc f) at e) h)

  pub between : Between 0 (length text) (tokens_by rule5 text)
  unfolding tokens_by
  between = between-from (length text) 0 (omega arith)

  module _ (front back : List Lexeme) where
    part : (ts : List Lexeme) → tokens_by rule5 text ≡ front ++ ts → (at : ℕ) × Between at (length text) ts
    part ts e = between-part 0 (length text) front ts (subst (Between 0 (length text)) e between)

    pub inside-by : (t : Lexeme) → tokens_by rule5 text ≡ front ++ (t ∷ back) → t.span.start + t.span.len ≤ length text
    inside-by t e = between_le _ (length text) back (part (t ∷ back) e).1.1

    pub in_order_by : (s t : Lexeme) → tokens_by rule5 text ≡ front ++ (s ∷ t ∷ back)
        → s.span.start + s.span.len ≤ t.span.start
    in_order_by s t e = (part (s ∷ t ∷ back) e).1.1.0
