-- Tokens added one after the other: the counts add up.
use mathlib.Core.Path.{◌≡◌, refl, sym, ◌∙◌, subst}
use mathlib.Core.Bool.{true, false}
use mathlib.Core.List.{List, [], ◌∷◌, ◌++◌}
use Prim.Native.Nat.{ℕ, ◌+◌}
use native.Mathlib.Omega.{arith}
use lib.Dec.{eqb}
use lib.ListN.{length-append}
use Rattle.tokens.specs.Kinds.{number_of}
use Rattle.tokens.specs.Lexeme.{Lexeme}
use Rattle.tokens.specs.Table.{count_others}
use Rattle.tokens.proofs.Cases.{by_eq}
use Rattle.tokens.proofs.TokenList.{count-space, count-other}
use Rattle.lexing.specs.Rules.{Read}
use Rattle.lexer.specs.declared.table.Listed.{Listed}
use Rattle.lexer.specs.Listing.{put_token, list_into}
use Rattle.lexer.specs.Coded.{listed, with_found, Added, AddedRead}
use Rattle.lexer.proofs.Into.{into_append}

others-append : (ts us : List Lexeme) → count_others (ts ++ us) ≡ count_others ts + count_others us
unfolding count_others
others-append [] us = omega arith
others-append (t ∷ ts) us =
    by_eq (number_of t.token) 23
    (λ e. omega (arith, others-append ts us, count-space t (ts ++ us) e, count-space t ts e))
    (λ e. omega (arith, others-append ts us, count-other t (ts ++ us) e, count-other t ts e))

-- what is written of one token behind n others
abbrev pub Put : Lexeme → ℕ → List ℕ → List ℕ → Type 0
Put t n before after = after ≡ put_token n t.span.start t.span.len (number_of t.token) before

pub added_none : (p : Listed) (before : List ℕ) → Added [] p.next p before p before
unfolding count_others list_into
added_none p before =
    record {
      all_are = omega arith;
      spaces-are = omega arith;
      next-is = refl;
      found-is = refl;
      words_are = refl;
    }

module _ {p r : Listed} {next : ℕ} {before after : List ℕ} (t : Lexeme) where
  pub added-other : eqb (number_of t.token) 23 ≡ false → r ≡ listed (p.all + 1) p.spaces next p.found → Put t p.all before after
      → Added (t ∷ []) next p before r after
  unfolding count_others list_into
  added-other o e w =
      record {
        all_are = rw e;
        spaces-are = rw (e, o, count_others);
        next-is = rw e;
        found-is = rw e;
        words_are = w;
      }

  -- a read of one token other than Space, and of one Space
  pub added-read : {q : Read} → eqb (number_of t.token) 23 ≡ false → record { first = t; waiting = []; next = next } ≡ q
      → r ≡ listed (p.all + 1) p.spaces next p.found → Put t p.all before after → AddedRead q p before r after
  added-read o f e w = subst (λ (q : Read). AddedRead q p before r after) f (added-other o e w)

  pub added-space : {q : Read} → eqb (number_of t.token) 23 ≡ true → record { first = t; waiting = []; next = next } ≡ q
      → r ≡ listed (p.all + 1) (p.spaces + 1) next p.found → Put t p.all before after → AddedRead q p before r after
  unfolding count_others list_into
  added-space o f e w =
      subst (λ (q : Read). AddedRead q p before r after) f
      record {
        all_are = rw e;
        spaces-are = rw (e, o, count_others) (omega arith);
        next-is = rw e;
        found-is = rw e;
        words_are = w;
      }

module _ {p r : Listed} {before after : List ℕ} where
  pub added-as : {q u : Read} → q ≡ u → AddedRead q p before r after → AddedRead u p before r after
  added-as e a = subst (λ (q : Read). AddedRead q p before r after) e a

  -- with another word of what was found, before and after
  pub added-found : {ts : List Lexeme} {next : ℕ} (found : ℕ) → Added ts next p before r after
      → Added ts next (with_found p found) before (with_found r found) after
  added-found found a =
      record {
        all_are = a.all_are;
        spaces-are = a.spaces-are;
        next-is = a.next-is;
        found-is = refl;
        words_are = a.words_are;
      }

  -- more tokens behind some
  pub added_more : {ts us : List Lexeme} {m n : ℕ} {q : Listed} {mid : List ℕ} → Added ts m p before q mid
      → Added us n q mid r after → Added (ts ++ us) n p before r after
  added_more {ts} {us} {m} {n} {q} {mid} a b =
      record {
        all_are = omega (arith, a.all_are, b.all_are, length-append ts us);
        spaces-are = omega (arith, a.spaces-are, b.spaces-are, others-append ts us, length-append ts us);
        next-is = b.next-is;
        found-is = b.found-is ∙ a.found-is;
        words_are = b.words_are ∙ rw (a.words_are, a.all_are) (sym (into_append p.all before ts us));
      }

-- one more token other than Space
pub added_next : {p q r : Listed} {m next : ℕ} {ts : List Lexeme} {before mid after : List ℕ} (t : Lexeme) → eqb (number_of t.token) 23 ≡ false
    → Added ts m p before q mid → r ≡ listed (q.all + 1) q.spaces next q.found → Put t q.all mid after
    → Added (ts ++ (t ∷ [])) next p before r after
added_next t o a e w = added_more a (added-other t o e w)
