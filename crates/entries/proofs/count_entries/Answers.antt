-- `count_entries`: the tokens before i are counted.
use Rattle.std.proofs.Common.{arith}
use Rattle.tokens.specs.Table.{count_others}
use Rattle.tokens.proofs.TokenList.{tokens_none, others_same, others-more}
use Rattle.entries.proofs.count_entries.Goals as goal

pub loop-i-preserved : goal.loop-i-preserved
loop-i-preserved c = grind (arith, others_same, others-more)

pub returns : goal.returns
unfolding count_others
returns c = grind (arith, tokens_none)
