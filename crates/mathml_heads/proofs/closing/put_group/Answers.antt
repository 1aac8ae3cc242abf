-- What closes a group.
use Rattle.mathml_rules.specs.Pieces.{Piece}
use Rattle.mathml_heads.proofs.Runs.{then-written, one}
use Rattle.mathml_heads.proofs.closing.put_group.Goals as goal

pub returns : goal.returns
returns c = then-written _ _ c.put_kept-end.ensures (one (Piece.end 15) c.put_end.ensures)
