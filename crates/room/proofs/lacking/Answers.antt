-- `lacking`: 8 if it is work.
use mathlib.Core.Path.{sym}
use native.Mathlib.Omega.{arith}
use Rattle.room.proofs.Lengths.{lacking_work, lacking_tree}
use Rattle.room.proofs.lacking.Goals as goal

pub returns-then-work-n : goal.returns-then-work-n
returns-then-work-n c = sym (lacking_work c.args.n c.args.work (omega (arith, c.if-work-n.true)))

pub returns-else-work-n : goal.returns-else-work-n
returns-else-work-n c = sym (lacking_tree c.args.n c.args.work (omega (arith, c.if-work-n.false)))
