-- What checking a token list answers.
use Rattle.std.specs.Prelude.{List, ℕ, Result, Ok, Err}
use Rattle.std.proofs.Math.Option.{Option, none, some}
use Rattle.tokens.specs.Lexeme.{Lexeme}
use Rattle.tokens.specs.Refusals.{list_refusal}
use Rattle.tokens.specs.Table.{token_list, count_others}

-- the number of the refusal, or how many of the tokens are other than Space
unfoldable pub answer : Option ℕ → List Lexeme → Result ℕ ℕ
answer (some k) ts = Err k
answer none ts = Ok (count_others ts)

-- "For a token list: 1, 2, 3, then token by token 4, 5, 6": a list of `count` tokens in a table, over a text
unfoldable pub checked : List ℕ → List ℕ → ℕ → Result ℕ ℕ
checked text table count = answer (list_refusal text count table) (token_list count table)
