-- MATHML.md, section 4, "A", by a name that a contract can use (there `A` is taken).
use Rattle.std.specs.Prelude.{List, ℕ}
use Rattle.mathml_rules.specs.Pieces.{Piece}
use Rattle.mathml_rules.specs.Mathml.{A}

-- the sign of application behind a function's name
abbrev pub application : List ℕ → List Piece
application name = A name
