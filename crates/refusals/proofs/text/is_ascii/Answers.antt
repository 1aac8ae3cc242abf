use mathlib.Core.Path.{sym, ◌∙◌}
use Rattle.refusals.proofs.Ascii.{ascii-next, ascii-end}
use Rattle.refusals.proofs.text.is_ascii.Goals as goal

pub loop-byte-preserved : goal.loop-byte-preserved
loop-byte-preserved c = c.loop-byte.invariant ∙ ascii-next c.loop-byte.ok c.args.text.now c.loop-byte.byte-index c.loop-byte-test.true

pub returns : goal.returns
returns c = sym (c.loop-byte.invariant ∙ ascii-end _ _ _ c.loop-byte-test.false)
