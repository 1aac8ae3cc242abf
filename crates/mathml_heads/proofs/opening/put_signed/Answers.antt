-- A sign before its operand.
use Rattle.mathml_rules.specs.Pieces.{Piece}
use mathlib.Core.List.{[]}
use Rattle.mathml_heads.proofs.Runs.{then-written, one}
use Rattle.mathml_heads.proofs.opening.put_signed.Goals as goal

pub returns : goal.returns
returns c = then-written _ _ (one (Piece.start _ []) c.put_start-end.ensures) c.put_drawn.ensures
