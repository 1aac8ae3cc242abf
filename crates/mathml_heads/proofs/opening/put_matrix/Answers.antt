-- What opens a matrix.
use Rattle.mathml_rules.specs.Pieces.{Piece}
use mathlib.Core.List.{[], ◌∷◌}
use Rattle.mathml_heads.proofs.Runs.{then-written, one}
use Rattle.mathml_heads.proofs.opening.put_matrix.Goals as goal

pub returns : goal.returns
returns c = then-written _ _ (one (Piece.start 16 []) c.put_start-a.ensures) (then-written _ _ c.put_bracket-b.ensures (then-written (Piece.start 31 _ ∷ []) _ (one (Piece.start 31 _) c.put_table-c.ensures) (one (Piece.start 32 []) c.put_start.ensures)))
