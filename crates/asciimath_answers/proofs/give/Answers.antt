use Rattle.std.proofs.Common.{rules, refl}
use Rattle.asciimath_answers.specs.Exported.{code_of, values_in}
use Rattle.asciimath_answers.proofs.give.Goals as goal

pub returns-in-Ok : goal.returns-in-Ok
unfolding code_of
returns-in-Ok g c = rw c.in-Ok.is (record { code = refl; values = c.put.ensures })

pub returns-in-Err : goal.returns-in-Err
unfolding code_of values_in
returns-in-Err g c = rw c.in-Err.is (record { code = c.number.ensures; values = refl })
