-- The exported calls: an answer as a number and the words of the lent answer.
use Rattle.std.specs.Prelude.{◌≡◌, List, [], ◌∷◌, ◌++◌, ℕ, length, take, drop, Option, Some, None}
use Rattle.tokens.specs.Kinds.{number_of}
use Rattle.tokens.specs.Refusals.{Answer, accepted, refused}
use Rattle.lexer.specs.declared.prefix_map.Longest.{Longest}

-- 0, or the number of the refusal
unfoldable pub code_of : Answer → ℕ
code_of (accepted values) = 0
code_of (refused k) = k

-- An accepted call's values stand first in the lent answer, as many as it has words for; the words behind them, and all of a refused
-- call's, are unchanged.
unfoldable pub values_in : Answer → List ℕ → List ℕ
values_in (accepted values) answer = take (length answer) values ++ drop (length values) answer
values_in (refused k) answer = answer

-- the number that is returned, and the lent answer before and after
pub record Given (a : Answer) (returned : ℕ) (before after : List ℕ) : Type 0 where
  pub code : returned ≡ code_of a
  pub values : after ≡ values_in a before

-- The values of the lookup: the spelling's length, the number of its kind and its row; where none fits, a length of 0 and no row.
abbrev pub lookup_values : Option Longest → List ℕ
lookup_values None = 0 ∷ []
lookup_values (Some found) = found.len ∷ number_of found.token ∷ found.row ∷ []

abbrev pub looked_up : Option Longest → Answer
looked_up found = accepted (lookup_values found)
