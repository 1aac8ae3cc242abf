-- Before child 0 stands what opens the node.
use native.Mathlib.Omega.{arith}
use Rattle.writer.proofs.Puts.{none, put_as}
use Rattle.mathml_heads.proofs.Runs.{pieces_as}
use Rattle.mathml.proofs.Placing.{begun-opens, begun-on}
use Rattle.mathml.proofs.part.put_begun.Goals as goal

pub returns-then-i-eq0 : goal.returns-then-i-eq0
returns-then-i-eq0 c = pieces_as (begun-opens _ _ _ _ c.if-i-eq0.true) c.put_opening.ensures

pub returns : goal.returns
returns c = put_as (begun-on _ _ _ _ c.if-i-eq0.false) (none _ _ (omega arith) (omega arith))
