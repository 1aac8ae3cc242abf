-- MATHML.md, section 7, 3: what each element holds, by a reader of pieces with a stack of counts. (That each end tag is its start
-- tag's is Nested.antt's.)
use Rattle.std.specs.Prelude.{Bool, true, false, List, [], ◌∷◌, ℕ, ◌+◌, eqb}
use Prim.Native.String.{String}
use Rattle.tokens.specs.Bytes.{bytes, same}
use Rattle.mathml_rules.specs.Run.{run}
use Rattle.mathml_rules.specs.Elements.{element_of}
use Rattle.mathml_rules.specs.Pieces.{Piece}

-- so many child elements; any number of them; characters only; rows of a table only; cells of a row only
pub data Shape : Type 0 where
  exactly : ℕ → Shape
  any characters rows cells : Shape

pub record Held : Type 0 where
  pub name : List ℕ
  pub shape : Shape

abbrev pub held : String → Shape → Held
held n s = record { name = bytes n; shape = s }

-- "mfrac, mroot, msub, msup, mover, munder have 2 child elements, msubsup 3, mi mn mo mtext only characters, mspace nothing, mtable
-- only mtr, mtr only mtd ..; math, mrow, msqrt, menclose, mtd any number"
unfoldable pub shapes : List Held
shapes =
    held "mfrac" (Shape.exactly 2) ∷
    held "mroot" (Shape.exactly 2) ∷
    held "msub" (Shape.exactly 2) ∷
    held "msup" (Shape.exactly 2) ∷
    held "mover" (Shape.exactly 2) ∷
    held "munder" (Shape.exactly 2) ∷
    held "msubsup" (Shape.exactly 3) ∷
    held "mi" Shape.characters ∷
    held "mn" Shape.characters ∷
    held "mo" Shape.characters ∷
    held "mtext" Shape.characters ∷
    held "mspace" (Shape.exactly 0) ∷
    held "mtable" Shape.rows ∷
    held "mtr" Shape.cells ∷
    held "math" Shape.any ∷
    held "mrow" Shape.any ∷
    held "msqrt" Shape.any ∷
    held "menclose" Shape.any ∷
    held "mtd" Shape.any ∷
    []

-- another name: nothing
unfoldable pub shape_by : List Held → List ℕ → Shape
shape_by [] n = Shape.exactly 0
shape_by (h ∷ l) n = elim (same h.name n) [ true ↦ h.shape | false ↦ shape_by l n ]

unfoldable pub shape : ℕ → Shape
shape e = shape_by shapes (element_of e).name

-- "mtr only in mtable and mtd only in mtr"
pub data Sort : Type 0 where
  plain row cell : Sort

unfoldable pub sort : ℕ → Sort
sort e =
    elim (same (element_of e).name (bytes "mtr")) [
      | true ↦ Sort.row
      | false ↦
          elim (same (element_of e).name (bytes "mtd")) [ true ↦ Sort.cell | false ↦ Sort.plain ]
    ]

abbrev pub allows : Shape → Sort → Bool
allows (Shape.exactly n) Sort.plain = true
allows (Shape.exactly n) Sort.row = false
allows (Shape.exactly n) Sort.cell = false
allows Shape.any Sort.plain = true
allows Shape.any Sort.row = false
allows Shape.any Sort.cell = false
allows Shape.characters Sort.plain = false
allows Shape.characters Sort.row = false
allows Shape.characters Sort.cell = false
allows Shape.rows Sort.plain = false
allows Shape.rows Sort.row = true
allows Shape.rows Sort.cell = false
allows Shape.cells Sort.plain = false
allows Shape.cells Sort.row = false
allows Shape.cells Sort.cell = true

-- at the end tag
abbrev pub full : Shape → ℕ → Bool
full (Shape.exactly n) k = eqb k n
full Shape.any k = true
full Shape.characters k = true
full Shape.rows k = true
full Shape.cells k = true

abbrev pub is_cells : Shape → Bool
is_cells (Shape.exactly n) = false
is_cells Shape.any = false
is_cells Shape.characters = false
is_cells Shape.rows = false
is_cells Shape.cells = true

abbrev pub is_characters : Shape → Bool
is_characters (Shape.exactly n) = false
is_characters Shape.any = false
is_characters Shape.characters = true
is_characters Shape.rows = false
is_characters Shape.cells = false

-- "mtr only mtd, `cols` of them": as many as the table's start tag says, by what stands there behind the table's attributes. For one
-- column that is nothing, else ` columnlines="V"`, "V having cols − 1 entries, one for each place between two columns, with one byte
-- 32 between" (section 6). So each column but the first has one blank: that of the second stands before `columnlines`.
unfoldable pub blanks : List ℕ → ℕ
blanks [] = 0
blanks (b ∷ s) = elim (eqb b 32) [ true ↦ blanks s + 1 | false ↦ blanks s ]

abbrev pub columns_of : List ℕ → ℕ
columns_of more = blanks more + 1

-- An open element: its shape, its child elements so far, and, if it is a table, how many cells each row has.
pub data Frame : Type 0 where
  frame : Shape → ℕ → ℕ → Frame

pub data Held? : Type 0 where
  inside : List Frame → Held?
  whole wrong : Held?

-- An element begins: the outermost one, which is no row and no cell, or a child.
unfoldable pub entered : ℕ → List ℕ → List Frame → Held?
entered e more [] =
    elim (allows Shape.any (sort e)) [ true ↦ Held?.inside (frame (shape e) 0 (columns_of more) ∷ []) | false ↦ Held?.wrong ]
entered e more (frame s k w ∷ st) =
    elim (allows s (sort e)) [
      | true ↦ Held?.inside (frame (shape e) 0 (columns_of more) ∷ frame s (k + 1) w ∷ st)
      | false ↦ Held?.wrong
    ]

-- a row of n cells ends
unfoldable pub row_left : ℕ → List Frame → Held?
row_left n [] = Held?.wrong
row_left n (frame s k w ∷ st) = elim (eqb n w) [ true ↦ Held?.inside (frame s k w ∷ st) | false ↦ Held?.wrong ]

-- an element ends
unfoldable pub left : List Frame → Held?
left [] = Held?.whole
left (f ∷ st) = Held?.inside (f ∷ st)

unfoldable pub ended : List Frame → Held?
ended [] = Held?.wrong
ended (frame s k w ∷ st) =
    elim (full s k) [
      | true ↦ elim (is_cells s) [ true ↦ row_left k st | false ↦ left st ]
      | false ↦ Held?.wrong
    ]

unfoldable pub lettered : List Frame → Held?
lettered [] = Held?.wrong
lettered (frame s k w ∷ st) = elim (is_characters s) [ true ↦ Held?.inside (frame s k w ∷ st) | false ↦ Held?.wrong ]

unfoldable pub stepped : Held? → Piece → Held?
stepped (Held?.inside st) (Piece.start e more) = entered e more st
stepped (Held?.inside st) (Piece.end e) = ended st
stepped (Held?.inside st) (Piece.chars s) = lettered st
stepped Held?.whole p = Held?.wrong
stepped Held?.wrong p = Held?.wrong

abbrev pub steps : Held? → List Piece → Held?
steps q x = run stepped q x

unfoldable pub is_whole : Held? → Bool
is_whole (Held?.inside st) = false
is_whole Held?.whole = true
is_whole Held?.wrong = false

-- the pieces are one element in which every element holds what it may
unfoldable pub fitting : List Piece → Bool
fitting x = is_whole (steps (Held?.inside []) x)
