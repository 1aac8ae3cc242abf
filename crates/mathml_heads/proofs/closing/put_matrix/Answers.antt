-- What closes a matrix.
use Rattle.mathml_rules.specs.Pieces.{Piece}
use Rattle.mathml_heads.proofs.Runs.{then-written, one}
use Rattle.mathml_heads.proofs.closing.put_matrix.Goals as goal

pub returns : goal.returns
returns c = then-written _ _ (one (Piece.end 32) c.put_end-a.ensures) (then-written _ _ (one (Piece.end 31) c.put_end-b.ensures) (then-written _ _ c.put_bracket-c.ensures (one (Piece.end 16) c.put_end.ensures)))
