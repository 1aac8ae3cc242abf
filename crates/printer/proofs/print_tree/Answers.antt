-- The print, if the length found first fits the buffer.
use native.Mathlib.Omega.{arith}
use Rattle.writer.proofs.Fits.{put_whole, put-short}
use Rattle.printer.proofs.print_tree.Goals as goal

pub returns-then-need-out : goal.returns-then-need-out
returns-then-need-out c = put_whole 10 c.put_tree-need.ensures (omega arith) c.if-need-out.true c.put_tree.ensures

pub returns-else-need-out : goal.returns-else-need-out
returns-else-need-out c = put-short 10 c.put_tree-need.ensures c.if-need-out.false
