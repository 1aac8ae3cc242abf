-- What opens a group.
use Rattle.mathml_rules.specs.Pieces.{Piece}
use mathlib.Core.List.{[]}
use Rattle.mathml_heads.proofs.Runs.{then-written, one}
use Rattle.mathml_heads.proofs.opening.put_group.Goals as goal

pub returns : goal.returns
returns c = then-written _ _ (one (Piece.start 15 []) c.put_start-end.ensures) c.put_kept.ensures
