-- A bracket that is not dropped.
use native.Mathlib.Omega.{arith}
use mathlib.Core.Path.{sym, ◌∙◌}
use Rattle.writer.proofs.Puts.{none, put_as}
use Rattle.mathml_heads.proofs.Parts.{kept-none, kept-some}
use Rattle.mathml_heads.proofs.Runs.{pieces_as}
use Rattle.mathml_heads.proofs.opening.put_kept.Goals as goal

pub returns-then-drops : goal.returns-then-drops
returns-then-drops c = put_as (kept-none _ _ _ _ (sym c.drops.ensures ∙ c.if-drops.true)) (none _ _ (omega arith) (omega arith))

pub returns : goal.returns
returns c = pieces_as (kept-some _ _ _ _ (sym c.drops.ensures ∙ c.if-drops.false)) c.put_bracket.ensures
