-- The bracket pass as calls: what they answer, and what they leave in the lent buffers.
use Rattle.std.specs.Prelude.{true, false, List, [], ◌∷◌, ◌++◌, ℕ, ◌*◌, ltb, length, drop, Result}
use Rattle.std.proofs.Math.Option.{Option, none, some}
use Rattle.tokens.specs.Lexeme.{Lexeme}
use Rattle.tokens.specs.Table.{table_words, token_list, count_others}
use Rattle.tokens.specs.Refusals.{Answer, accepted, refused, text_refusal, list_refusal}
use Rattle.lexing.specs.Rules.{tokens}
use Rattle.reading.specs.Reading.{closers_of}
use Rattle.refusals.specs.declared.refusal.Refusal.{Refusal}
use Rattle.refusals.specs.Refusal.{answered}
use Rattle.closers.specs.declared.PairedText.{PairedText}

-- The code's answers in the words of document 01.
abbrev pub answer_of : Result ℕ Refusal → Answer
answer_of r = answered (λ (others : ℕ). others ∷ []) r

abbrev pub text_values : PairedText → List ℕ
text_values found = found.tokens ∷ found.others ∷ []

abbrev pub text_answer_of : Result PairedText Refusal → Answer
text_answer_of r = answered text_values r

-- "in a lent buffer of n words (a shorter one is 8 …)": of n tokens other than Space, the buffer having so many words
unfoldable pub out_refusal : ℕ → ℕ → Option ℕ
out_refusal n out = elim (ltb out n) [ true ↦ some 8 | false ↦ none ]

-- "turns back as in 01 for token lists": "1, 2, 3, then token by token 4, 5, 6, then 8"
unfoldable pub tokens_refusal : List ℕ → List ℕ → ℕ → ℕ → Option ℕ
tokens_refusal text table count out =
    elim (list_refusal text count table) [ some k ↦ some k | none ↦ out_refusal (count_others (token_list count table)) out ]

-- "For text: 1, 2, 7, 8, …, each where the call has that buffer."
unfoldable pub text_refusal_of : List ℕ → ℕ → ℕ → Option ℕ
text_refusal_of text table out =
    elim (text_refusal text) [
      | some k ↦ some k
      | none ↦ elim (ltb table (3 * length (tokens text))) [ true ↦ some 7 | false ↦ out_refusal (count_others (tokens text)) out ]
    ]

-- "for each token other than Space the place of its closer, counted from 0 among those tokens, or n for none, in a lent buffer of n
-- words (…, words past them are unchanged)"
unfoldable pub closers_after : List ℕ → List Lexeme → List ℕ → List ℕ
closers_after text ts out = closers_of text ts ++ drop (count_others ts) out

-- The call on a list of `count` tokens in a table, which it reads only: the answer, which is n, and the buffer after it. A refusal
-- changes nothing.
unfoldable pub closed_tokens : List ℕ → List ℕ → ℕ → List ℕ → Answer × List ℕ
closed_tokens text table count out =
    elim (tokens_refusal text table count (length out)) [
      | some k ↦ (refused k, out)
      | none ↦ let ts = token_list count table in (accepted (count_others ts ∷ []), closers_after text ts out)
    ]

-- The call on a text: its tokens and n, its token list in the table, and the closers.
unfoldable pub closed_text : List ℕ → List ℕ → List ℕ → Answer × List ℕ × List ℕ
closed_text text table out =
    elim (text_refusal_of text (length table) (length out)) [
      | some k ↦ (refused k, table, out)
      | none ↦
          let ts = tokens text in (
            accepted (length ts ∷ count_others ts ∷ []),
            table_words ts ++ drop (3 * length ts) table,
            closers_after text ts out,
          )
    ]
