-- The calls on a text: what they answer, and what is left in the token table.
use Rattle.std.specs.Prelude.{true, false, List, [], ◌∷◌, ◌++◌, ℕ, ◌*◌, ltb, leb, length, drop, Result, Ok, Err}
use Rattle.std.proofs.Math.Option.{none, some}
use Rattle.tokenizer.specs.declared.TokenizedUnder.{TokenizedUnder}
use Rattle.tokenizer.specs.declared.Counted.{Counted}
use Rattle.lexing.specs.Rules.{tokens}
use Rattle.tokens.specs.Table.{table_words, count_others}
use Rattle.tokens.specs.Refusals.{Answer, accepted, refused, text_refusal}
use Rattle.tokenizer.specs.declared.TokenizedUnder.TheVariants as under
use Rattle.refusals.specs.declared.refusal.Refusal.{Refusal}
use Rattle.refusals.specs.Refusal.{answered}

-- the code's answer in the words of document 01
abbrev pub answer_of : Result ℕ Refusal → Answer
answer_of r = answered (λ n. n ∷ []) r

-- "For text: 1, 2, 7": "7 token table shorter than 3 words a token". A refusal changes nothing; an accepted text's tokens stand
-- in the first words, and the words past the list are unchanged.
unfoldable pub tokenized : List ℕ → List ℕ → Answer × List ℕ
tokenized text table =
    elim (text_refusal text) [
      | some k ↦ (refused k, table)
      | none ↦
          elim (ltb (length table) (3 * length (tokens text))) [
            | true ↦ (refused 7, table)
            | false ↦
                (accepted (length (tokens text) ∷ []), table_words (tokens text) ++ drop (3 * length (tokens text)) table)
          ]
    ]

-- The same for a caller whose other buffers have room for fewer than `room` tokens other than Space: a text with `room` or more
-- of them is only counted, so that the caller can refuse it with nothing changed.
unfoldable pub tokenized_under : List ℕ → List ℕ → ℕ → Result TokenizedUnder ℕ × List ℕ
tokenized_under text table room =
    elim (text_refusal text) [
      | some k ↦ (Err k, table)
      | none ↦
          elim (ltb (length table) (3 * length (tokens text))) [
            | true ↦ (Err 7, table)
            | false ↦
                elim (leb room (count_others (tokens text))) [
                  | true ↦ (Ok (under.Many (count_others (tokens text))), table)
                  | false ↦ (
                    Ok (under.Tokens (length (tokens text)) (count_others (tokens text))),
                    table_words (tokens text) ++ drop (3 * length (tokens text)) table,
                  )
                ]
          ]
    ]

abbrev pub count_of : Result Counted Refusal → Answer
count_of r = answered (λ c. c.all ∷ c.others ∷ []) r

-- "For text: 1, 2": an accepted text's tokens, and n, "the tokens other than Space"
unfoldable pub counted : List ℕ → Answer
counted text =
    elim (text_refusal text) [
      | some k ↦ refused k
      | none ↦ accepted (length (tokens text) ∷ count_others (tokens text) ∷ [])
    ]
