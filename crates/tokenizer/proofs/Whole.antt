-- The reads from a text's start to its end: they have all its tokens.
use mathlib.Core.Path.{◌≡◌, refl, sym, ap, ◌∙◌}
use mathlib.Core.List.{List, ◌∷◌, ◌++◌}
use mathlib.Core.Option.{Option, none}
use Prim.Native.Nat.{ℕ, zero, suc, min}
use native.Mathlib.Omega.{arith}
use lib.ListN.{length}
use Rattle.tokens.specs.Lexeme.{Lexeme}
use Rattle.tokens.proofs.Cases.{by_lt}
use Rattle.lexing.specs.Rules.{byte_at, read_at, token_row_at, tokens_from, tokens_by, tokens}
use Rattle.lexing.proofs.Tokens.{read-on, tokens-end}
use Rattle.lexer.specs.Listing.{Reads, reads_of, reads_to}
use Rattle.lexer.proofs.Stops.{reads_on, reads_end}

reads_all : (text : List ℕ) (f : ℕ) (row : Option ℕ) (at : ℕ) → (reads_of (length text) f text row at).list ≡ tokens_from byte_at f text at
unfolding reads_of tokens_from
reads_all text zero row at = refl
reads_all text (suc f) row at =
    by_lt at (length text)
    (λ e.
    ap (λ (q : Reads). q.list) (reads_on (length text) text f row at e)
    ∙ ap (λ (ts : List Lexeme). (read_at byte_at text at).first ∷ ((read_at byte_at text at).waiting ++ ts)) (reads_all text f (token_row_at text at) (read_at byte_at text at).next)
    ∙ sym (read-on byte_at text f at e))
    (λ e. ap (λ (q : Reads). q.list) (reads_end (length text) text (suc f) row at e) ∙ sym (tokens-end byte_at text (suc f) at e))

abbrev pub all_reads : List ℕ → Reads
all_reads text = reads_to (min (length text) (length text)) text none 0

pub whole : (text : List ℕ) → (all_reads text).list ≡ tokens text
unfolding reads_to tokens_by
whole text = ap (λ (stop : ℕ). (reads_to stop text none 0).list) (omega arith) ∙ reads_all text (length text) none 0
