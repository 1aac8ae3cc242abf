use mathlib.Core.Path.{sym}
use Rattle.asciimath_answers.proofs.Passing.{given-as}
use Rattle.asciimath.proofs.asciimath_count.Goals as goal

pub returns : goal.returns
returns c = let g = given-as (sym c.count_tokens.ensures) c.give.ensures in (g.code, g.values)
