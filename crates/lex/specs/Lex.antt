-- One read at a place: what `lex_at` answers.
use Rattle.std.specs.Prelude.{true, false, List, ℕ, ◌+◌, ltb, length, get_or, Result, Ok, Err, Some, None}
use Rattle.std.specs.Prelude as code
use Rattle.std.proofs.Math.Option.{Option, none, some}
use Rattle.lex.specs.declared.Spanned.{Spanned}
use Rattle.lex.specs.declared.Queue.{Queue}
use Rattle.lex.specs.declared.Lexing.{Lexing}
use Rattle.tokens.specs.declared.token.Token.TheVariants.{Frac}
use Rattle.tokens.specs.Kinds.{token_of}
use Rattle.tokens.specs.Lexeme.{Lexeme, lexeme}
use Rattle.lexing.specs.Rules.{Read, byte_at, read_at, token_row_at}
use Rattle.lexer.specs.Lookup.{token_row}
use Rattle.lexer.specs.Listing.{place_refusal}

-- a token with its span as the code's struct: from three words of a list, and as a value of the definitions
abbrev pub spanned_at : List ℕ → ℕ → Spanned
spanned_at words i = record { token = token_of (get_or words (i + 2) 0); start = get_or words i 0; len = get_or words (i + 1) 0 }

abbrev pub spanned_of : Lexeme → Spanned
spanned_of t = record { token = t.token; start = t.span.start; len = t.span.len }

-- what stands in the places where none waits
abbrev pub no_lexeme : Lexeme
no_lexeme = lexeme 0 0 Frac

-- tokens that wait, at most three, as the code's struct
abbrev pub queue_of : List Lexeme → Queue
queue_of ts =
    record {
      count = length ts;
      first = spanned_of (get_or ts 0 no_lexeme);
      second = spanned_of (get_or ts 1 no_lexeme);
      third = spanned_of (get_or ts 2 no_lexeme);
    }

-- the same from the twelve words of a list, the first of them those of a token that is handed over
abbrev pub queue_at : List ℕ → ℕ → Queue
queue_at words n = record { count = n; first = spanned_at words 3; second = spanned_at words 6; third = spanned_at words 9 }

abbrev pub lexing_of : Spanned → Queue → ℕ → code.Option ℕ → Lexing
lexing_of first queued next row = record { first = first; queued = queued; next = next; row = row }

-- a read as the code's answer, with the row of its first token
abbrev pub lexing : Read → Option ℕ → Lexing
lexing r row = lexing_of (spanned_of r.first) (queue_of r.waiting) r.next (token_row row)

-- "For a step: 1, 2, then 5 if the place or a waiting token passes the text"; no token waits. "A refusal carries its number only". In an
-- accepted text, the tokens that are read at the place, the next place and the row of the first, or none at the text's end.
unfoldable pub lexed_at : List ℕ → ℕ → Result (code.Option Lexing) ℕ
lexed_at text at =
    elim (place_refusal text at) [
      | some k ↦ Err k
      | none ↦
          elim (ltb at (length text)) [ true ↦ Ok (Some (lexing (read_at byte_at text at) (token_row_at text at))) | false ↦ Ok None ]
    ]
