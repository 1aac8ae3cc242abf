use mathlib.Core.Path.{sym, ap}
use Rattle.asciimath_answers.specs.Exported.{looked_up}
use Rattle.asciimath_answers.proofs.Passing.{given-as}
use Rattle.asciimath.proofs.asciimath_lookup.Goals as goal

pub returns : goal.returns
returns c = let g = given-as (ap looked_up (sym c.get_longest_prefix.ensures)) c.give.ensures in (g.code, g.values)
