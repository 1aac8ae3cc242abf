-- MATHML.md, section 5, "Unary commands: E e (left mark, c1, right mark), each mark L 4 of the bytes"; and of section 4 the binary
-- commands.
use Rattle.std.specs.Prelude.{true, false, List, [], ◌∷◌, ◌++◌, ℕ}
use Prim.Native.String.{String}
use Rattle.tokens.specs.Bytes.{bytes, same}
use Rattle.mathml_rules.specs.Utf8.{utf8}
use Rattle.mathml_rules.specs.Pieces.{Piece, E, L}

pub record Command : Type 0 where
  pub name : List ℕ
  pub element : ℕ
  pub left : List ℕ
  pub right : List ℕ

abbrev pub command : String → ℕ → String → String → Command
command s e l r = record { name = bytes s; element = e; left = utf8 l; right = utf8 r }

unfoldable pub unaries : List Command
unaries =
    command "sqrt" 24 "" "" ∷
    command "cancel" 25 "" "" ∷
    command "abs" 10 "|" "|" ∷
    command "Abs" 10 "|" "|" ∷
    command "norm" 10 "‖" "‖" ∷
    command "floor" 10 "⌊" "⌋" ∷
    command "ceil" 10 "⌈" "⌉" ∷
    command "hat" 26 "" "^" ∷
    command "bar" 26 "" "‾" ∷
    command "overline" 26 "" "‾" ∷
    command "vec" 26 "" "→" ∷
    command "dot" 26 "" "˙" ∷
    command "ddot" 26 "" "¨" ∷
    command "tilde" 26 "" "~" ∷
    command "overarc" 26 "" "⏜" ∷
    command "overparen" 26 "" "⏜" ∷
    command "ul" 27 "" "_" ∷
    command "underline" 27 "" "_" ∷
    command "ubrace" 29 "" "⏟" ∷
    command "underbrace" 29 "" "⏟" ∷
    command "obrace" 28 "" "⏞" ∷
    command "overbrace" 28 "" "⏞" ∷
    []

-- "B s is L 4 (shown s), or nothing if .. shown s is (`{:`, `:}`)": L 4, or nothing where there are no bytes; so for marks too
unfoldable pub mark : List ℕ → List Piece
mark [] = []
mark (b ∷ s) = L 4 (b ∷ s)

-- "text, mbox: c1 alone, no element"; "an unknown unary is c1"
unfoldable pub unary_by : List Command → List ℕ → List Piece → List Piece
unary_by [] s c1 = c1
unary_by (r ∷ rs) s c1 =
    elim (same r.name s) [
      | true ↦ E r.element (mark r.left ++ (c1 ++ mark r.right))
      | false ↦ unary_by rs s c1
    ]

unfoldable pub unary : List ℕ → List Piece → List Piece
unary s c1 = unary_by unaries s c1

-- "root: E 30 (c2, c1); stackrel, overset: E 28 (c2, c1); underset: E 29 (c2, c1)"
unfoldable pub exchanging : List Command
exchanging =
    command "root" 30 "" "" ∷ command "stackrel" 28 "" "" ∷ command "overset" 28 "" "" ∷ command "underset" 29 "" "" ∷ []

-- "frac: E 12 (c1, c2)"; "an unknown binary E 12 (c1, c2)"
unfoldable pub binary_by : List Command → List ℕ → List Piece → List Piece → List Piece
binary_by [] s c1 c2 = E 12 (c1 ++ c2)
binary_by (r ∷ rs) s c1 c2 =
    elim (same r.name s) [ true ↦ E r.element (c2 ++ c1) | false ↦ binary_by rs s c1 c2 ]

unfoldable pub binary : List ℕ → List Piece → List Piece → List Piece
binary s c1 c2 = binary_by exchanging s c1 c2
