-- As many values as the answer has words for, and the words behind them.
use Rattle.std.proofs.Common.{◌≡◌, length, arith}
use Rattle.std.specs.Prelude.{min}
use Rattle.std.proofs.lemmas.List.{take_min, drop_min}
use Rattle.asciimath_answers.specs.Exported.{values_in}
use Rattle.asciimath_answers.proofs.put_all.Goals as goal

pub returns : goal.returns
unfolding values_in
returns c =
    let a = c.args.answer.now in
    let v = c.args.values.now in
    let n : c.min-n.result ≡ min (length v) (length a) = omega (arith, c.min-n.ensures) in
    rw (← take_min (length a) v, ← drop_min (length v) a, ← c.min-n.ensures, ← n, c.copy_from_slice.ensures.after)
