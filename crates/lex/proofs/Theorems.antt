-- The theorems about the row that `lex_at` answers.
use mathlib.Core.Path.{◌≡◌, sym, ap, ◌∙◌}
use mathlib.Core.List.{List}
use Prim.Native.Nat.{ℕ}
use lib.ListN.{length}
use Rattle.tokens.proofs.Cases.{by_lt, by_option, apart}
use Rattle.lexing.specs.Longest.{longest_at, number_in, IsRow}
use Rattle.lexing.specs.Rules.{byte_at, read_at, token_row_at}
use Rattle.lexing.proofs.Theorems.{row-of_read, read-by_row}
use Rattle.std.specs.Prelude.{Option, Ok, Some}
use Rattle.lexer.specs.Lookup.{token_row}
use Rattle.lexer.specs.Listing.{place_refusal}
use Rattle.lex.specs.declared.Spanned.{Spanned}
use Rattle.lex.specs.declared.Queue.{Queue}
use Rattle.lex.specs.declared.Lexing.{Lexing}
use Rattle.lex.specs.Lex.{spanned_of, lexing_of, lexing, lexed_at}
use Rattle.lex.proofs.Answers.{lex_refused, lex_end, lex_read}

module _ (text : List ℕ) (at : ℕ) (first : Spanned) (queued : Queue) (next : ℕ) (row : Option ℕ)
    (e : Ok (Some (lexing_of first queued next row)) ≡ lexed_at text at) where
  record Parts : Type 0 where
    first-is : first ≡ spanned_of (read_at byte_at text at).first
    row_is : row ≡ token_row (token_row_at text at)

  parts : Parts
  parts =
      by_option (place_refusal text at)
      (λ a.
      by_lt at (length text)
      (λ l.
      let q = e ∙ sym (lex_read text at a l) in
      let i : lexing_of first queued next row ≡ lexing (read_at byte_at text at) (token_row_at text at) = cc in
      record { first-is = ap (λ (r : Lexing). r.first) i; row_is = ap (λ (r : Lexing). r.row) i })
      (λ l. let q = e ∙ sym (lex_end text at a l) in apart cc))
      (λ k a. let q = e ∙ sym (lex_refused text at k a) in apart cc)

  -- The row that is answered with a read is the lookup's at that place, or none where it finds none.
  pub lexed-row : row ≡ token_row (number_in (longest_at text at))
  lexed-row = parts.row_is ∙ ap token_row (row-of_read text at)

  -- A first token that is answered with a row starts at the place, and is that row's.
  pub lexed-by_row : (k : ℕ) → row ≡ Some k → (first.start ≡ at) × IsRow text at first.len first.token k
  lexed-by_row k f =
      by_option (token_row_at text at) (λ o. let q = sym f ∙ parts.row_is ∙ ap token_row o in apart cc)
      (λ j o.
      let q = sym f ∙ parts.row_is ∙ ap token_row o in
      let n : j ≡ k = cc in
      rw (parts.first-is, ← n) (read-by_row byte_at text at j o))
