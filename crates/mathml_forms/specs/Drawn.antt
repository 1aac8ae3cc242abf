-- What a form's number draws.
use Rattle.std.specs.Prelude.{true, false, List, [], ◌∷◌, ◌++◌, ℕ, zero, suc, ◌/◌, ◌%◌, eqb, ltb}
use Rattle.mathml_rules.specs.Pieces.{Piece}
use Rattle.mathml_rules.specs.Mathml.{B}

-- the bytes behind the 1; n has at most `more` of them
unfoldable pub unpacked_by : ℕ → ℕ → List ℕ
unpacked_by zero n = []
unpacked_by (suc more) n = elim (ltb n 256) [ true ↦ [] | false ↦ unpacked_by more (n / 256) ++ (n % 256 ∷ []) ]

unfoldable pub unpacked : ℕ → List ℕ
unpacked n = unpacked_by n n

-- what s is shown as, if the number of its form is n: 0 is no form
unfoldable pub drawn_as : ℕ → List ℕ → List ℕ
drawn_as n s = elim (eqb n 0) [ true ↦ s | false ↦ unpacked n ]

-- MATHML.md, section 4, "B", by a name that a contract can use (there `B` is taken)
abbrev pub bracket : List ℕ → List Piece
bracket s = B s
