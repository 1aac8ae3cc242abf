-- A function with its script.
use Rattle.mathml_rules.specs.Pieces.{Piece}
use mathlib.Core.List.{[]}
use Rattle.mathml_heads.proofs.Runs.{then-written, one}
use Rattle.mathml_heads.proofs.opening.put_func.Goals as goal

pub returns : goal.returns
returns c = then-written _ _ (one (Piece.start 14 []) c.put_start-a.ensures) (then-written _ _ c.put_begin_script-b.ensures c.put_leaf.ensures)
