-- The unary commands of MATHML.md, section 5, sorted by what they put.
use Rattle.std.specs.Prelude.{true, false, Option, Some, None, List, [], ◌∷◌, ℕ, zero, suc}
use Prim.Native.String.{String}
use Rattle.tokens.specs.Bytes.{bytes, same}
use Rattle.mathml_rules.specs.Utf8.{utf8}
use Rattle.mathml_commands.specs.declared.unary.Command.{Command}
use Rattle.mathml_commands.specs.declared.unary.Command.TheVariants as variant

pub record Row : Type 0 where
  pub spelling : List ℕ
  pub command : Command

abbrev pub row : String → Command → Row
row s c = record { spelling = bytes s; command = c }

unfoldable pub rows : List Row
rows =
    row "sqrt" variant.Sqrt ∷
    row "cancel" variant.Cancel ∷
    row "abs" variant.Abs ∷
    row "Abs" variant.Abs ∷
    row "norm" variant.Norm ∷
    row "floor" variant.Floor ∷
    row "ceil" variant.Ceil ∷
    row "hat" variant.Hat ∷
    row "bar" variant.Bar ∷
    row "overline" variant.Bar ∷
    row "vec" variant.Vec ∷
    row "dot" variant.Dot ∷
    row "ddot" variant.Ddot ∷
    row "tilde" variant.Tilde ∷
    row "overarc" variant.Arc ∷
    row "overparen" variant.Arc ∷
    row "ul" variant.Underline ∷
    row "underline" variant.Underline ∷
    row "ubrace" variant.Ubrace ∷
    row "underbrace" variant.Ubrace ∷
    row "obrace" variant.Obrace ∷
    row "overbrace" variant.Obrace ∷
    []

unfoldable pub command_in : List Row → List ℕ → Command
command_in [] s = variant.Unknown
command_in (r ∷ l) s = elim (same r.spelling s) [ true ↦ r.command | false ↦ command_in l s ]

unfoldable pub command_of : List ℕ → Command
command_of s = command_in rows s

-- the number of its element; 0 is none
abbrev pub element_for : Command → ℕ
element_for variant.Unknown = 0
element_for variant.Sqrt = 24
element_for variant.Cancel = 25
element_for variant.Abs = 10
element_for variant.Norm = 10
element_for variant.Floor = 10
element_for variant.Ceil = 10
element_for variant.Hat = 26
element_for variant.Bar = 26
element_for variant.Vec = 26
element_for variant.Dot = 26
element_for variant.Ddot = 26
element_for variant.Tilde = 26
element_for variant.Arc = 26
element_for variant.Underline = 27
element_for variant.Ubrace = 29
element_for variant.Obrace = 28

-- the number of an element, or none
abbrev pub number_if : ℕ → Option ℕ
number_if zero = None
number_if (suc n) = Some (suc n)

-- the mark before the argument
unfoldable pub left_mark : Command → List ℕ
left_mark variant.Unknown = []
left_mark variant.Sqrt = []
left_mark variant.Cancel = []
left_mark variant.Abs = utf8 "|"
left_mark variant.Norm = utf8 "‖"
left_mark variant.Floor = utf8 "⌊"
left_mark variant.Ceil = utf8 "⌈"
left_mark variant.Hat = []
left_mark variant.Bar = []
left_mark variant.Vec = []
left_mark variant.Dot = []
left_mark variant.Ddot = []
left_mark variant.Tilde = []
left_mark variant.Arc = []
left_mark variant.Underline = []
left_mark variant.Ubrace = []
left_mark variant.Obrace = []

-- the mark behind it
unfoldable pub right_mark : Command → List ℕ
right_mark variant.Unknown = []
right_mark variant.Sqrt = []
right_mark variant.Cancel = []
right_mark variant.Abs = utf8 "|"
right_mark variant.Norm = utf8 "‖"
right_mark variant.Floor = utf8 "⌋"
right_mark variant.Ceil = utf8 "⌉"
right_mark variant.Hat = utf8 "^"
right_mark variant.Bar = utf8 "‾"
right_mark variant.Vec = utf8 "→"
right_mark variant.Dot = utf8 "˙"
right_mark variant.Ddot = utf8 "¨"
right_mark variant.Tilde = utf8 "~"
right_mark variant.Arc = utf8 "⏜"
right_mark variant.Underline = utf8 "_"
right_mark variant.Ubrace = utf8 "⏟"
right_mark variant.Obrace = utf8 "⏞"
