-- `is_short`: there are no more entries than tokens.
use Rattle.std.proofs.Common.{arith}
use Rattle.tokens.proofs.TokenList.{others-few}
use Rattle.std.proofs.lemmas.Grind.{common_steps}
use Rattle.entries.proofs.is_short.Goals as goal

pub returns-then-tokens-words : goal.returns-then-tokens-words
returns-then-tokens-words c = grind (arith, common_steps, others-few)

pub overflow_add-result : goal.overflow_add-result
overflow_add-result c = omega (arith, others-few)

pub overflow_mul-result : goal.overflow_mul-result
overflow_mul-result c = omega (arith, others-few)
