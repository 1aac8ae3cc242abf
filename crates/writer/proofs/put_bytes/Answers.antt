-- Past the end, inside, or across it.
use Rattle.std.proofs.Common.{arith}
use Rattle.writer.proofs.Puts.{past_end}
use Rattle.writer.proofs.put_bytes.Goals as goal

pub returns-then-out-at : goal.returns-then-out-at
returns-then-out-at c = past_end _ _ _ _ (omega arith) c.if-out-at.true c.saturating_add.ensures
