-- Between two rows.
use native.Mathlib.Omega.{arith}
use Rattle.mathml_rules.specs.Pieces.{Piece}
use mathlib.Core.List.{[]}
use Rattle.writer.proofs.Puts.{none, put_as}
use Rattle.mathml_heads.proofs.Parts.{same_row}
use Rattle.mathml_heads.proofs.Runs.{then-written, one}
use Rattle.mathml_heads.proofs.below.put_between_rows.Goals as goal

pub returns-then-left-eq0 : goal.returns-then-left-eq0
returns-then-left-eq0 c = rw c.if-left-eq0.true (then-written _ _ (one (Piece.end 32) c.put_end-end.ensures) (one (Piece.start 32 []) c.put_start.ensures))

pub returns : goal.returns
returns c = put_as (same_row _ c.if-left-eq0.false) (none _ _ (omega arith) (omega arith))
