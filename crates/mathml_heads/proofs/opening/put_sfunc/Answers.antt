-- A function in a simple place.
use Rattle.mathml_rules.specs.Pieces.{Piece}
use mathlib.Core.List.{[]}
use Rattle.mathml_heads.proofs.Runs.{then-written, one}
use Rattle.mathml_heads.proofs.opening.put_sfunc.Goals as goal

pub returns : goal.returns
returns c = then-written _ _ (one (Piece.start 11 []) c.put_start-a.ensures) (then-written _ _ c.put_leaf-b.ensures c.put_apply.ensures)
