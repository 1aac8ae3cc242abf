-- `pair_sized`: no list has more than 4,096 tokens other than Space.
use native.Mathlib.Omega.{arith}
use Rattle.closers_pass.proofs.Answers.{few}
use Rattle.closers.proofs.pair_sized.Goals as goal

pub pair_in-requires-else-others-le-SMALL-clause-table_bound : goal.pair_in-requires-else-others-le-SMALL-clause-table_bound
pair_in-requires-else-others-le-SMALL-clause-table_bound c = omega (arith, few c.args.text.now c.args.table.now c.args.count c.requires.table_value)
