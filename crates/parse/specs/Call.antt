-- The calls on a text and on a token list: what they answer, and what they leave in the lent buffers.
use Rattle.std.specs.Prelude.{true, false, List, [], ◌∷◌, ◌++◌, ℕ, ◌-◌, ◌*◌, ltb, length, drop, replicate, Result}
use Rattle.std.proofs.Math.Option.{Option, none, some}
use Rattle.tokens.specs.Lexeme.{Lexeme}
use Rattle.lexing.specs.Rules.{tokens}
use Rattle.tokens.specs.Table.{table_words, token_list, count_others}
use Rattle.tokens.specs.Refusals.{Answer, accepted, refused, text_refusal, list_refusal, entry_words, room_refusal_by, bit}
use Rattle.tree.specs.Tree.{count}
use Rattle.tree.specs.Words.{encode_items}
use Rattle.reading.specs.Reading.{read_tokens, blank}
use Rattle.refusals.specs.declared.refusal.Refusal.{Refusal}
use Rattle.refusals.specs.Refusal.{answered}
use Rattle.parse.specs.declared.Parsed.{Parsed}
use Rattle.parse.specs.declared.ParsedTokens.{ParsedTokens}

-- The code's answers in the words of document 01. Blank is 1 or 0.
abbrev pub text_values : Parsed → List ℕ
text_values read = read.tokens ∷ read.takes ∷ read.items ∷ bit read.blank ∷ []

abbrev pub answer_of : Result Parsed Refusal → Answer
answer_of r = answered text_values r

abbrev pub list_values : ParsedTokens → List ℕ
list_values read = read.takes ∷ read.items ∷ bit read.blank ∷ []

abbrev pub list_answer_of : Result ParsedTokens Refusal → Answer
list_answer_of r = answered list_values r

-- The definitions go by the words of work that an entry has, `entry_words` now and four before: "Two words a token, 2 × (n + 1) in all,
-- must do for what four did". Only refusal 8 uses them (proofs/HalfWords.antt).

-- "For text: 1, 2, 7, 8, 9, 10, each where the call has that buffer." "7 token table shorter than 3 words a token"
unfoldable pub parse_refusal_by : ℕ → List ℕ → ℕ → ℕ → ℕ → Option ℕ
parse_refusal_by words text table work tree =
    elim (text_refusal text) [
      | some k ↦ some k
      | none ↦
          elim (ltb table (3 * length (tokens text))) [ true ↦ some 7 | false ↦ room_refusal_by words (count_others (tokens text)) work tree ]
    ]

abbrev pub parse_refusal : List ℕ → ℕ → ℕ → ℕ → Option ℕ
parse_refusal text table work tree = parse_refusal_by entry_words text table work tree

-- "For a token list: 1, 2, 3, then token by token 4, 5, 6, then 8, 9."
unfoldable pub parse_tokens_refusal_by : ℕ → List ℕ → List ℕ → ℕ → ℕ → ℕ → Option ℕ
parse_tokens_refusal_by words text table count work tree =
    elim (list_refusal text count table) [ some k ↦ some k | none ↦ room_refusal_by words (count_others (token_list count table)) work tree ]

abbrev pub parse_tokens_refusal : List ℕ → List ℕ → ℕ → ℕ → ℕ → Option ℕ
parse_tokens_refusal text table count work tree = parse_tokens_refusal_by entry_words text table count work tree

-- What an accepted reading of a list answers: takes, the root's items, and "blank".
unfoldable pub values : List ℕ → List Lexeme → List ℕ
values text ts =
    let r = read_tokens text ts in r.takes ∷ count r.tree ∷ bit (blank text r.tree) ∷ []

-- "After an accepted reading work is all zero, tree words past the tree's end are zero": what it leaves in work and tree of this
-- many words
unfoldable pub work_after : ℕ → List ℕ
work_after work = replicate work 0

unfoldable pub tree_after : List ℕ → List Lexeme → ℕ → List ℕ
tree_after text ts tree =
    let words = encode_items (read_tokens text ts).tree in words ++ replicate (tree - length words) 0

-- The call on a text: the answer, and the buffers after it. A refusal changes nothing; table words past the list are unchanged.
unfoldable pub parsed_text_by : ℕ → List ℕ → List ℕ → List ℕ → List ℕ → Answer × List ℕ × List ℕ × List ℕ
parsed_text_by words text table work tree =
    elim (parse_refusal_by words text (length table) (length work) (length tree)) [
      | some k ↦ (refused k, table, work, tree)
      | none ↦
          let ts = tokens text in (
            accepted (length ts ∷ values text ts),
            table_words ts ++ drop (3 * length ts) table,
            work_after (length work),
            tree_after text ts (length tree),
          )
    ]

abbrev pub parsed_text : List ℕ → List ℕ → List ℕ → List ℕ → Answer × List ℕ × List ℕ × List ℕ
parsed_text text table work tree = parsed_text_by entry_words text table work tree

-- The call on a list of `count` tokens in a table, which it reads only.
unfoldable pub parsed_tokens_by : ℕ → List ℕ → List ℕ → ℕ → List ℕ → List ℕ → Answer × List ℕ × List ℕ
parsed_tokens_by words text table count work tree =
    elim (parse_tokens_refusal_by words text table count (length work) (length tree)) [
      | some k ↦ (refused k, work, tree)
      | none ↦
          let ts = token_list count table in
          (accepted (values text ts), work_after (length work), tree_after text ts (length tree))
    ]

abbrev pub parsed_tokens : List ℕ → List ℕ → ℕ → List ℕ → List ℕ → Answer × List ℕ × List ℕ
parsed_tokens text table count work tree = parsed_tokens_by entry_words text table count work tree
