-- Past the last word there are no lines.
use Rattle.tree.proofs.Heads.{lines-past}
use Rattle.tree.proofs.walk.lines_at.Goals as goal

pub returns-then-head-words : goal.returns-then-head-words
returns-then-head-words c = lines-past _ _ c.if-head-words.true
