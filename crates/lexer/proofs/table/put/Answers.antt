-- Three words, if there is room for them.
use native.Mathlib.Omega.{arith}
use Rattle.lexer.proofs.Into.{put-words, put-none}
use Rattle.lexer.proofs.table.put.Goals as goal

pub returns-then-n-table : goal.returns-then-n-table
returns-then-n-table c = put-words c.args.n c.args.start c.args.len c.args.kind c.args.table.now (omega arith)

pub returns-else-n-table : goal.returns-else-n-table
returns-else-n-table c = put-none c.args.n c.args.start c.args.len c.args.kind c.args.table.now (omega arith)
