-- The call that lists the tokens of reads: what it answers, and what is left in the token table.
use Rattle.std.specs.Prelude.{true, false, List, [], ◌∷◌, ◌++◌, ℕ, zero, suc, ◌+◌, ◌*◌, ◌/◌, min, ltb, length, take, drop, Result, Ok, Err}
use Rattle.std.specs.Prelude as code
use Rattle.std.proofs.Math.Option.{Option, none, some}
use Rattle.tokens.specs.Kinds.{number_of}
use Rattle.tokens.specs.Lexeme.{Lexeme}
use Rattle.tokens.specs.Table.{count_others}
use Rattle.tokens.specs.Refusals.{text_refusal}
use Rattle.lexing.specs.Rules.{Read, byte_at, read_at, token_row_at}
use Rattle.lexer.specs.declared.Listing.{Listing}
use Rattle.lexer.specs.Lookup.{token_row}

-- a table with other words from a place on
unfoldable pub with_words : List ℕ → ℕ → List ℕ → List ℕ
with_words table at words = take at table ++ words ++ drop (at + length words) table

-- a table with the words of token n, if it has three words for it
unfoldable pub put_token : ℕ → ℕ → ℕ → ℕ → List ℕ → List ℕ
put_token n start len kind table =
    elim (ltb n (length table / 3)) [ true ↦ with_words table (3 * n) (start ∷ len ∷ kind ∷ []) | false ↦ table ]

-- tokens, numbered from n, put one after the other
unfoldable pub list_into : ℕ → List ℕ → List Lexeme → List ℕ
list_into n table [] = table
list_into n table (t ∷ ts) = list_into (suc n) (put_token n t.span.start t.span.len (number_of t.token) table) ts

-- the tokens of the reads from a place on that begin before `stop`, the place behind them, and the row of the last read's first token,
-- none where nothing is read
pub record Reads : Type 0 where
  pub list : List Lexeme
  pub next : ℕ
  pub row : Option ℕ

abbrev pub behind : Read → Reads → Reads
behind r q = record { list = r.first ∷ (r.waiting ++ q.list); next = q.next; row = q.row }

-- `row` is that of the read before
unfoldable pub reads_of : ℕ → ℕ → List ℕ → Option ℕ → ℕ → Reads
reads_of stop zero text row at = record { list = []; next = at; row = row }
reads_of stop (suc f) text row at =
    elim (ltb at stop) [
      | true ↦ behind (read_at byte_at text at) (reads_of stop f text (token_row_at text at) (read_at byte_at text at).next)
      | false ↦ record { list = []; next = at; row = row }
    ]

-- each read moves on, so as many reads as bytes are enough
unfoldable pub reads_to : ℕ → List ℕ → Option ℕ → ℕ → Reads
reads_to stop text row at = reads_of stop (length text) text row at

abbrev pub listing : ℕ → ℕ → ℕ → code.Option ℕ → Listing
listing all others next row = record { all = all; others = others; next = next; row = row }

-- The reads as the code's answer: their tokens counted, the place behind them and that row; and the tokens put as far as they fit.
unfoldable pub listed_to : ℕ → List ℕ → ℕ → List ℕ → Listing × List ℕ
listed_to stop text from table =
    let q = reads_to stop text none from in
    (listing (length q.list) (count_others q.list) q.next (token_row q.row), list_into 0 table q.list)

-- "For a step: 1, 2, then 5 if the place or a waiting token passes the text": what is refused of a place alone, where no token waits. The
-- text's end is a place of the text.
unfoldable pub place_refusal : List ℕ → ℕ → Option ℕ
place_refusal text at =
    elim (text_refusal text) [
      | some k ↦ some k
      | none ↦
          elim (ltb (length text) at) [ true ↦ some 5 | false ↦ none ]
    ]

abbrev pub accepted : Listing × List ℕ → Result Listing ℕ × List ℕ
accepted (l, table) = (Ok l, table)

-- "A refusal carries its number only and changes nothing". In an accepted text the reads from a place on that begin before `stop` and
-- before the text's end are listed; from that end on there are none.
unfoldable pub listed_reads : List ℕ → ℕ → ℕ → List ℕ → Result Listing ℕ × List ℕ
listed_reads text from stop table =
    elim (place_refusal text from) [ some k ↦ (Err k, table) | none ↦ accepted (listed_to (min stop (length text)) text from table) ]
