-- The tokens of a text. Document 01, src/tokenizer.rs: "At each place, in order", rules 1 to 5.
use Rattle.std.specs.Prelude.{Bool, true, false, not, List, [], ◌∷◌, ◌++◌, ℕ, zero, suc, ◌+◌, ◌-◌, eqb, ltb, leb, length, get_or, drop}
use Rattle.std.proofs.Math.Option.{Option, none, some}
use Rattle.tokens.specs.declared.token.Token.{Token}
use Rattle.tokens.specs.declared.token.Token.TheVariants.{Number, Text, Ident, Operator, OpenBracket, CloseBracket, Space}
use Rattle.tokens.specs.Bytes.{bytes, same}
use Rattle.tokens.specs.Lexeme.{Lexeme, lexeme}
use Rattle.lexing.specs.Longest.{longest_at, number_in}

-- What is read at a place: a token, those that wait behind it, and the next place.
pub record Read : Type 0 where
  pub first : Lexeme
  pub waiting : List Lexeme
  pub next : ℕ

-- one token of n bytes at the place, and nothing behind it
abbrev pub alone : ℕ → ℕ → Token → Read
alone at n t = record { first = lexeme at n t; waiting = []; next = at + n }

-- how many bytes at the front pass the test
unfoldable pub run : (ℕ → Bool) → List ℕ → ℕ
run p [] = 0
run p (c ∷ s) = elim (p c) [ true ↦ suc (run p s) | false ↦ 0 ]

-- where the run of bytes that pass the test, from the place on, ends
unfoldable pub run_end : (ℕ → Bool) → List ℕ → ℕ → ℕ
run_end p text at = at + run p (drop at text)

-- "Blanks (bytes 9 to 13 and 32)"
unfoldable pub blank : ℕ → Bool
blank c = elim (leb 9 c) [ true ↦ elim (leb c 13) [ true ↦ true | false ↦ eqb c 32 ] | false ↦ false ]

-- 0 to 9
unfoldable pub digit : ℕ → Bool
digit c = elim (leb 48 c) [ true ↦ leb c 57 | false ↦ false ]

-- a to z, A to Z
unfoldable pub letter : ℕ → Bool
letter c = elim (leb 97 c) [ true ↦ leb c 122 | false ↦ elim (leb 65 c) [ true ↦ leb c 90 | false ↦ false ] ]

-- any byte but b
unfoldable pub other : ℕ → ℕ → Bool
other b c = not (eqb c b)

-- Rule 1: "Blanks together are one Space token."
unfoldable pub blanks_at : List ℕ → ℕ → Option Read
blanks_at text at =
    let e = run_end blank text at in
    elim (ltb at e) [ true ↦ some (alone at (e - at) Space) | false ↦ none ]

-- Rule 2, "After `text` or `mbox`, blanks and then `(`, `[` or `{`": the matching closer, or 0 for any other byte
unfoldable pub closer : ℕ → ℕ
closer c =
    elim (eqb c 40) [
      | true ↦ 41
      | false ↦
          elim (eqb c 91) [
            | true ↦ 93
            | false ↦
                elim (eqb c 123) [ true ↦ 125 | false ↦ 0 ]
          ]
    ]

-- Rule 2: "those blanks are in no token; the bracket is OpenBracket; the bytes up to the first matching closer are Text,
-- possibly of length 0; the closer is CloseBracket. With no closer, Text runs to the end." The command has n bytes, its
-- bracket stands at b and is closed by c.
unfoldable pub literal_at : List ℕ → ℕ → ℕ → Token → ℕ → ℕ → Read
literal_at text at n t b c =
    let e = run_end (other c) text (b + 1) in
    elim (ltb e (length text)) [
      | true ↦ record {
        first = lexeme at n t;
        waiting = lexeme b 1 OpenBracket ∷ lexeme (b + 1) (e - (b + 1)) Text ∷ lexeme e 1 CloseBracket ∷ [];
        next = e + 1;
      }
      | false ↦ record {
        first = lexeme at n t;
        waiting = lexeme b 1 OpenBracket ∷ lexeme (b + 1) (e - (b + 1)) Text ∷ [];
        next = e;
      }
    ]

-- Rule 2: "Without a bracket nothing special happens."
unfoldable pub command_at : List ℕ → ℕ → ℕ → Token → Read
command_at text at n t =
    let b = run_end blank text (at + n) in
    let c = closer (get_or text b 0) in
    elim (eqb c 0) [ true ↦ alone at n t | false ↦ literal_at text at n t b c ]

-- the spelling is `text` or `mbox`
unfoldable pub is_text_command : List ℕ → Bool
is_text_command s = elim (same s (bytes "text")) [ true ↦ true | false ↦ same s (bytes "mbox") ]

-- Rule 2: "The longest spelling."
unfoldable pub spelling_at : List ℕ → ℕ → Option Read
spelling_at text at =
    elim (longest_at text at) [
      | none ↦ none
      | some f ↦
          let n = length f.row.spelling in
          elim (is_text_command f.row.spelling)
          [ true ↦ some (command_at text at n f.row.token) | false ↦ some (alone at n f.row.token) ]
    ]

-- Rule 3, "Digits with at most one point": where they end
unfoldable pub number_end : List ℕ → ℕ → ℕ
number_end text at =
    let p = run_end digit text at in
    elim (eqb (get_or text p 0) 46) [ true ↦ run_end digit text (p + 1) | false ↦ p ]

-- past a point at the place
unfoldable pub past_point : List ℕ → ℕ → ℕ
past_point text at = elim (eqb (get_or text at 0) 46) [ true ↦ at + 1 | false ↦ at ]

-- Rule 3: "Number, but not a point alone."
unfoldable pub number_at : List ℕ → ℕ → Option Read
number_at text at =
    elim (ltb (past_point text at) (number_end text at))
    [ true ↦ some (alone at (number_end text at - at) Number) | false ↦ none ]

-- Rule 4: "A quote with a later quote: Text between them."
unfoldable pub quotation_at : List ℕ → ℕ → Option Read
quotation_at text at =
    elim (eqb (get_or text at 0) 34) [
      | true ↦
          let e = run_end (other 34) text (at + 1) in
          elim (ltb e (length text))
          [ true ↦ some (record { first = lexeme (at + 1) (e - (at + 1)) Text; waiting = []; next = e + 1 }) | false ↦ none ]
      | false ↦ none
    ]

-- Rule 5: "One byte: Ident if a letter, else Operator."
unfoldable pub byte_at : List ℕ → ℕ → Read
byte_at text at = elim (letter (get_or text at 0)) [ true ↦ alone at 1 Ident | false ↦ alone at 1 Operator ]

-- What is read at a place, by the first rule that applies; the fifth, which always does, is given: another one makes another
-- tokenizer over the same four.
unfoldable pub read_at : (List ℕ → ℕ → Read) → List ℕ → ℕ → Read
read_at rule5 text at =
    elim (blanks_at text at) [
      | some r ↦ r
      | none ↦
          elim (spelling_at text at) [
            | some r ↦ r
            | none ↦
                elim (number_at text at) [
                  | some r ↦ r
                  | none ↦
                      elim (quotation_at text at) [ some r ↦ r | none ↦ rule5 text at ]
                ]
          ]
    ]

-- Request 2.1: the number of the row by which the first token at a place is read, in the same order: a read by rule 1 has none, one by
-- rule 2 has that of the longest spelling, and where none fits, the reads by rules 3 to 5 have none.
unfoldable pub token_row_at : List ℕ → ℕ → Option ℕ
token_row_at text at = elim (blanks_at text at) [ some r ↦ none | none ↦ number_in (longest_at text at) ]

-- the tokens from a place on, of at most f reads
unfoldable pub tokens_from : (List ℕ → ℕ → Read) → ℕ → List ℕ → ℕ → List Lexeme
tokens_from rule5 zero text at = []
tokens_from rule5 (suc f) text at =
    elim (ltb at (length text))
    [ true ↦ let r = read_at rule5 text at in r.first ∷ (r.waiting ++ tokens_from rule5 f text r.next) | false ↦ [] ]

-- The token list of a text. Each read moves on, so as many reads as bytes are enough.
unfoldable pub tokens_by : (List ℕ → ℕ → Read) → List ℕ → List Lexeme
tokens_by rule5 text = tokens_from rule5 (length text) text 0

abbrev pub tokens : List ℕ → List Lexeme
tokens text = tokens_by byte_at text
