-- What the parts of `tokenize_under` say of a list of tokens.
use Rattle.std.specs.Prelude.{◌≡◌, List, ℕ, ◌*◌, ◌≤◌, length, take, Result, Ok, Err}
use Rattle.std.proofs.Math.Option.{none}
use Rattle.tokens.specs.Table.{table_words, count_others}
use Rattle.tokens.specs.Refusals.{text_refusal}
use Rattle.lexing.specs.Rules.{tokens}
use Rattle.lexer.specs.declared.Listing.{Listing}
use Rattle.tokenizer.specs.declared.TokenizedUnder.{TokenizedUnder}
use Rattle.tokenizer.specs.declared.TokenizedUnder.TheVariants as under

-- the answer of a list of all tokens
abbrev pub all_listed : Result Listing ℕ × List ℕ → Result TokenizedUnder ℕ × List ℕ
all_listed (Ok l, table) = (Ok (under.Tokens l.all l.others), table)
all_listed (Err k, table) = (Err k, table)

-- the text is accepted, its tokens are counted, and they wait in a list if they are at most 160
pub record Waiting (text list : List ℕ) (all others : ℕ) : Type 0 where
  pub accepted : text_refusal text ≡ none
  pub all_are : all ≡ length (tokens text)
  pub others-are : others ≡ count_others (tokens text)
  pub words_are : all ≤ 160 → take (3 * all) list ≡ table_words (tokens text)
