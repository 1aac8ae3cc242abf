-- The token list of an accepted text meets no refusal, whatever words follow it in the table.
use mathlib.Core.Path.{◌≡◌, refl}
use mathlib.Core.Bool.{Bool, true, false, ◌&&◌}
use mathlib.Core.List.{List, [], ◌∷◌, ◌++◌}
use mathlib.Core.Option.{none}
use Prim.Native.Nat.{ℕ, ◌+◌, ◌*◌}
use native.Mathlib.Omega.{arith}
use lib.Dec.{eqb}
use lib.ListN.{length, length-append}
use borrow.Author.Tests.{le-ltb}
use Rattle.tokens.specs.Kinds.{number_of}
use Rattle.tokens.specs.Lexeme.{Lexeme}
use Rattle.lexing.specs.Rules.{Read, tokens_by}
use Rattle.tokens.specs.Table.{table_words}
use Rattle.tokens.specs.Refusals.{text_refusal, long_space, tokens_refusal, table_refusal, list_refusal}
use Rattle.tokens.proofs.Cases.{by_test, clash}
use Rattle.tokens.proofs.Order.{text-short}
use Rattle.tokens.proofs.TokenList.{words-length}
use Rattle.lexing.proofs.Moves.{Between, Sound}
use Rattle.lexing.proofs.Tokens.{between, between_le, count-bound}
use Rattle.lexing.proofs.Spaces.{Spaced, spaced}
use Rattle.tokens.proofs.Numbers.{number_small}

long-space : (len kind : ℕ) → long_space len kind ≡ true → eqb kind 23 ≡ true
unfolding long_space
long-space len kind p = by_test (eqb kind 23) (λ e. e) (λ e. clash false (rw (e, long_space) at p) refl)

-- `long` says that the token before is a Space with a byte, `after` that it is a Space
tokens-accepted : (size from : ℕ) (long after : Bool) (ts : List Lexeme) (rest : List ℕ)
    → (long ≡ true → after ≡ true) → Between from size ts → Spaced after ts
    → tokens_refusal size long (length ts) (table_words ts ++ rest) ≡ none
unfolding tokens_refusal table_words
tokens-accepted size from long after [] rest h b s = refl
tokens-accepted size from long after (t ∷ ts) rest h b s =
    rw (le-ltb 23 (number_of t.token) (number_small t.token), tokens_refusal)
    (rw (le-ltb size (t.span.start + t.span.len) (between_le _ _ ts b.1))
    (rw (apart long after (eqb (number_of t.token) 23) h s.0)
    (tokens-accepted size (t.span.start + t.span.len) (long_space t.span.len (number_of t.token)) (eqb (number_of t.token) 23) ts rest (long-space _ _) b.1 s.1)))
  where
    apart : (long after c : Bool) → (long ≡ true → after ≡ true) → (after && c) ≡ false → (long && c) ≡ false
    apart false after c h s = refl
    apart true after c h s = rw (h refl) at s

pub accepted-by : {rule5 : List ℕ → ℕ → Read} → Sound rule5 → (text rest : List ℕ) → text_refusal text ≡ none
    → list_refusal text (length (tokens_by rule5 text)) (table_words (tokens_by rule5 text) ++ rest) ≡ none
unfolding list_refusal table_refusal
accepted-by {rule5} sound text rest p =
    let ts = tokens_by rule5 text in
    rw (p, list_refusal)
    (rw (le-ltb 4096 (length ts) (omega (arith, text-short text p, count-bound sound text)), table_refusal)
    (rw
    (le-ltb (length (table_words ts ++ rest)) (3 * length ts) (omega (arith, length-append (table_words ts) rest, words-length ts)))
    (tokens-accepted (length text) 0 false false ts rest (λ e. e) (between sound text) (spaced sound text))))
