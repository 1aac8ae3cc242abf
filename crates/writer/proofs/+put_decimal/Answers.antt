-- A number's front digits are put, then its last one. The measure is the number.
use native.Mathlib.Omega.{arith}
use mathlib.Core.Path.{◌∙◌}
use Rattle.writer.proofs.Decimals.{small, large}
use Rattle.writer.proofs.Puts.{then}
use Rattle.writer.proofs.+put_decimal.Goals as goal

pub shape_of-out-then-n-lt10 : goal.shape_of-out-then-n-lt10
shape_of-out-then-n-lt10 t c = c.put_byte.ensures.same

pub returns-then-n-lt10 : goal.returns-then-n-lt10
returns-then-n-lt10 t c = rw (small c.args.n (omega arith)) c.put_byte.ensures

pub shape_of-out-else-n-lt10 : goal.shape_of-out-else-n-lt10
shape_of-out-else-n-lt10 t c = c.put_byte-else-n-lt10.ensures.same ∙ c.put_decimal-end.ensures.same

pub returns-else-n-lt10 : goal.returns-else-n-lt10
returns-else-n-lt10 t c = rw (large c.args.n (omega arith)) (then c.put_decimal-end.ensures c.put_byte-else-n-lt10.ensures)
