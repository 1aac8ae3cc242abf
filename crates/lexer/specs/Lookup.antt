-- What the lookup's functions answer.
use Rattle.std.specs.Prelude.{true, false, ℕ, ltb, length, Some, None}
use Rattle.std.specs.Prelude as code
use Rattle.std.proofs.Math.Option.{Option, none, some}
use Rattle.lexer.specs.declared.prefix_map.Longest.{Longest}
use Rattle.tokens.specs.declared.token.Token.{Token}
use Rattle.lexing.specs.Longest.{Numbered}

-- the public answer: the spelling's length, its token and its row
abbrev pub longest : ℕ → Token → ℕ → Longest
longest len token row = record { len = len; token = token; row = row }

abbrev pub longest_answer : Option Numbered → code.Option Longest
longest_answer none = None
longest_answer (some f) = Some (longest (length f.row.spelling) f.row.token f.number)

-- the row of a token as the code's Option
abbrev pub token_row : Option ℕ → code.Option ℕ
token_row none = None
token_row (some k) = Some k

-- the row's number if the spelling has two bytes or more
abbrev pub longer_row : Option Numbered → code.Option ℕ
longer_row none = None
longer_row (some f) = elim (ltb 1 (length f.row.spelling)) [ true ↦ Some f.number | false ↦ None ]
