-- A cell takes its head and as many words as that says.
use Rattle.std.proofs.Common.{◌-◌, ◌∙◌, arith}
use Rattle.tree.proofs.Steps.{cell-none, cell-more, cell-past}
use Rattle.tree.proofs.walk.cells_end.Goals as goal

pub returns-then-at-words : goal.returns-then-at-words
returns-then-at-words c = cell-past _ _ (c.args.count - c.loop.counter) c.if-at-words.true ∙ c.loop.invariant

pub loop-preserved : goal.loop-preserved
loop-preserved c = cell-more _ _ _ (omega arith) c.if-at-words.false c.word.ensures ∙ c.loop.invariant

pub returns : goal.returns
returns c = cell-none _ _ (c.args.count - c.loop.counter) (omega arith) ∙ c.loop.invariant
