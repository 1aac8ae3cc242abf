-- A node's spans, script and class, by its own words (docs/LAYOUT.md); and the parts of its opening that the code puts by one function.
use Rattle.std.specs.Prelude.{Bool, ◌||◌, List, ◌∷◌, ◌++◌, ℕ, get_or}
use Rattle.tokens.specs.declared.token.SymbolClass.{SymbolClass}
use Rattle.tokens.specs.declared.token.SymbolClass.TheVariants as class
use Rattle.tokens.specs.Lexeme.{Span}
use Rattle.tree.specs.Tree.{Script}
use Rattle.tree.specs.Decode.{classes, scripts}
use Rattle.mathml_rules.specs.Pieces.{Piece, L}
use Rattle.mathml_rules.specs.Mathml.{A, B}
use Rattle.mathml_rules.specs.Refusal.{one_of, fonts, refused_binaries, controls, refused_lines}
use Rattle.mathml_rules.specs.Parts.{begin, finish, begin_script, line_attribute}

abbrev pub left_span : List ℕ → Span
left_span words = record { start = get_or words 1 0; len = get_or words 2 0 }

abbrev pub right_span : List ℕ → Span
right_span words = record { start = get_or words 4 0; len = get_or words 5 0 }

abbrev pub script_of : ℕ → Script
script_of n = get_or scripts n Script.none

abbrev pub class_of : ℕ → SymbolClass
class_of n = get_or classes n class.Glyph

-- what opens a function in a simple place, a function, a matrix; what closes a matrix
abbrev pub sfunc_opening : List ℕ → List Piece
sfunc_opening s = begin 11 ++ (L 3 s ++ A s)

abbrev pub func_opening : ℕ → List ℕ → List Piece
func_opening script s = begin 14 ++ (begin_script (script_of script) ++ L 3 s)

abbrev pub matrix_opening : List ℕ → ℕ → List ℕ → List Piece
matrix_opening left cols lines = begin 16 ++ (B left ++ (Piece.start 31 (line_attribute cols lines) ∷ begin 32))

abbrev pub matrix_closing : List ℕ → List Piece
matrix_closing right = finish 32 ++ (finish 31 ++ (B right ++ finish 16))

-- the refusals of a unary and a binary command, of a group's brackets and of a matrix
abbrev pub unary_refused : List ℕ → Bool
unary_refused s = controls s || one_of fonts s

abbrev pub binary_refused : List ℕ → Bool
binary_refused s = controls s || one_of refused_binaries s

abbrev pub brackets_refused : List ℕ → List ℕ → Bool
brackets_refused left right = controls left || controls right

abbrev pub matrix_refused : List ℕ → List ℕ → ℕ → List ℕ → Bool
matrix_refused left right cols lines = controls left || (controls right || refused_lines cols lines)
