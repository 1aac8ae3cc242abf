-- The answer of the check of a list that a refusal, or none, gives.
use mathlib.Core.Path.{◌≡◌}
use mathlib.Core.List.{List}
use mathlib.Core.Option.{Option, none, some}
use Prim.Native.Nat.{ℕ}
use Rattle.std.specs.Prelude.{Ok, Err}
use Rattle.tokens.specs.Lexeme.{Lexeme}
use Rattle.tokens.specs.Table.{count_others}
use Rattle.lists.specs.Checks.{answer}

module _ {o : Option ℕ} (ts : List Lexeme) where
  pub answer-refused : {k : ℕ} → o ≡ some k → Err k ≡ answer o ts
  unfolding answer
  answer-refused e = rw e

  pub answer-accepted : {n : ℕ} → o ≡ none → count_others ts ≡ n → Ok n ≡ answer o ts
  unfolding answer
  answer-accepted e f = rw (e, answer, f)
