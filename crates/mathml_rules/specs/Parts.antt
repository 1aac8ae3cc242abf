-- MATHML.md, section 4, the same front to back: "A node's bytes are `open h`, before each child i `between h i`, `close h`." The output front to back, for a
-- walk that meets each node before its children; only root, stackrel, overset and underset have their children exchanged.
use Rattle.std.specs.Prelude.{Bool, true, false, List, [], ◌∷◌, ◌++◌, ◌≡◌, ℕ, zero, suc, ◌*◌, ◌<◌, eqb, ltb}
use Rattle.tokens.specs.Bytes.{bytes, same}
use Rattle.tree.specs.Tree.{Script, Head, Prefix, Node, node, Nodes, end, ◌▸◌, count}
use Rattle.tree.specs.WellFormed.{Lines}
use Rattle.mathml_rules.specs.declared.Mode.{Mode}
use Rattle.mathml_rules.specs.Forms.{shown}
use Rattle.mathml_rules.specs.Pieces.{Piece, E, L}
use Rattle.mathml_rules.specs.Commands.{Command, unaries, exchanging, mark}
use Rattle.mathml_rules.specs.Mathml.{own, atom, arguments, A, B, dropped, child}

abbrev pub begin : ℕ → List Piece
begin e = Piece.start e [] ∷ []

abbrev pub finish : ℕ → List Piece
finish e = Piece.end e ∷ []

-- the element of a script, if it has one
unfoldable pub begin_script : Script → List Piece
begin_script Script.none = []
begin_script Script.sub = begin 13
begin_script Script.super = begin 20
begin_script Script.subsuper = begin 21

unfoldable pub finish_script : Script → List Piece
finish_script Script.none = []
finish_script Script.sub = finish 13
finish_script Script.super = finish 20
finish_script Script.subsuper = finish 21

unfoldable pub begin_unary : List Command → List ℕ → List Piece
begin_unary [] s = []
begin_unary (r ∷ rs) s = elim (same r.name s) [ true ↦ begin r.element ++ mark r.left | false ↦ begin_unary rs s ]

unfoldable pub finish_unary : List Command → List ℕ → List Piece
finish_unary [] s = []
finish_unary (r ∷ rs) s = elim (same r.name s) [ true ↦ mark r.right ++ finish r.element | false ↦ finish_unary rs s ]

-- the element of a binary command, and whether it exchanges its children
unfoldable pub binary_element : List Command → List ℕ → ℕ
binary_element [] s = 12
binary_element (r ∷ rs) s = elim (same r.name s) [ true ↦ r.element | false ↦ binary_element rs s ]

unfoldable pub exchanges : List Command → List ℕ → Bool
exchanges [] s = false
exchanges (r ∷ rs) s = elim (same r.name s) [ true ↦ true | false ↦ exchanges rs s ]

-- a bracket that is not dropped
unfoldable pub kept : Mode → List ℕ → List ℕ → List ℕ → List Piece
kept m left right s = elim (dropped m left right) [ true ↦ [] | false ↦ B s ]

-- The attribute of a table from its lines in order: lines before boundary j are passed over, then the first one left tells whether
-- boundary j has a line.
unfoldable pub not_before : ℕ → List ℕ → List ℕ
not_before j [] = []
not_before j (b ∷ l) = elim (ltb b j) [ true ↦ not_before j l | false ↦ b ∷ l ]

abbrev pub first_is : ℕ → List ℕ → Bool
first_is j [] = false
first_is j (b ∷ l) = eqb b j

abbrev pub entry_for : Bool → List ℕ
entry_for true = bytes "solid"
entry_for false = bytes "none"

-- n more entries, from j on
unfoldable pub entries_from : ℕ → ℕ → List ℕ → List ℕ
entries_from j zero lines = []
entries_from j (suc n) lines =
    let l = not_before j lines in 32 ∷ (entry_for (first_is j l) ++ entries_from (suc j) n l)

unfoldable pub line_attribute : ℕ → List ℕ → List ℕ
line_attribute zero lines = []
line_attribute (suc zero) lines = []
line_attribute (suc (suc n)) lines =
    let l = not_before 1 lines in
    bytes " columnlines=\"" ++ (entry_for (first_is 1 l) ++ (entries_from 2 n l ++ bytes "\""))

-- "open h"
unfoldable pub opening : List ℕ → Mode → Head → List Piece
opening text m Head.missing = E 0 []
opening text m (Head.atom a sp) = atom a (own text sp)
opening text m (Head.prefix Prefix.signed sp) = begin 8 ++ L 5 (shown (own text sp))
opening text m (Head.prefix Prefix.ssigned sp) = begin 9 ++ L 5 (shown (own text sp))
opening text m (Head.prefix Prefix.unary sp) = begin_unary unaries (own text sp)
opening text m (Head.prefix Prefix.sfunc sp) = begin 11 ++ (L 3 (own text sp) ++ A (own text sp))
opening text m (Head.prefix Prefix.binary sp) = begin (binary_element exchanging (own text sp))
opening text m (Head.simple sc) = begin_script sc
opening text m (Head.func sp sc) = begin 14 ++ (begin_script sc ++ L 3 (own text sp))
opening text m Head.frac = begin 18
opening text m Head.cell = begin 17
opening text m (Head.group a b) = begin 15 ++ kept m (own text a) (own text b) (own text a)
opening text m (Head.matrix a b cols lines) = begin 16 ++ (B (own text a) ++ (Piece.start 31 (line_attribute cols lines) ∷ begin 32))

-- "close h"
unfoldable pub closing : List ℕ → Mode → Head → List Piece
closing text m Head.missing = []
closing text m (Head.atom a sp) = []
closing text m (Head.prefix Prefix.signed sp) = finish 8
closing text m (Head.prefix Prefix.ssigned sp) = finish 9
closing text m (Head.prefix Prefix.unary sp) = finish_unary unaries (own text sp)
closing text m (Head.prefix Prefix.sfunc sp) = finish 11
closing text m (Head.prefix Prefix.binary sp) = finish (binary_element exchanging (own text sp))
closing text m (Head.simple sc) = finish_script sc
closing text m (Head.func sp sc) = finish 14
closing text m Head.frac = finish 18
closing text m Head.cell = finish 17
closing text m (Head.group a b) = kept m (own text a) (own text b) (own text b) ++ finish 15
closing text m (Head.matrix a b cols lines) = finish 32 ++ (finish 31 ++ (B (own text b) ++ finish 16))

-- "`between` is empty but for func (before its argument: end tag of the script element, then U+2061)": what stands before child i
unfoldable pub between_func : Script → List ℕ → ℕ → List Piece
between_func sc name i = elim (eqb i (arguments sc)) [ true ↦ finish_script sc ++ A name | false ↦ [] ]

-- "and matrix (before cell i: `</mtr>` and `<mtr>` when the running column is back at 0)": so many cells are left in the row
abbrev pub between_rows : ℕ → List Piece
between_rows zero = finish 32 ++ begin 32
between_rows (suc left) = []

-- how many are left behind the next one, of `cols` in a row
abbrev pub one_less : ℕ → ℕ
one_less zero = zero
one_less (suc n) = n

abbrev pub cells_left : ℕ → ℕ → ℕ
cells_left cols zero = one_less cols
cells_left cols (suc left) = left

abbrev pub cols_of : Head → ℕ
cols_of Head.missing = 0
cols_of (Head.atom a sp) = 0
cols_of (Head.prefix p sp) = 0
cols_of (Head.simple sc) = 0
cols_of (Head.func sp sc) = 0
cols_of Head.frac = 0
cols_of Head.cell = 0
cols_of (Head.group a b) = 0
cols_of (Head.matrix a b cols lines) = cols

-- what stands before child i, with so many cells left in its row
unfoldable pub before : List ℕ → Head → ℕ → ℕ → List Piece
before text Head.missing i left = []
before text (Head.atom a sp) i left = []
before text (Head.prefix p sp) i left = []
before text (Head.simple sc) i left = []
before text (Head.func sp sc) i left = between_func sc (own text sp) i
before text Head.frac i left = []
before text Head.cell i left = []
before text (Head.group a b) i left = []
before text (Head.matrix a b cols lines) i left = between_rows left

-- the children from child i on, each behind what stands before it
unfoldable pub woven : List ℕ → Head → ℕ → ℕ → List (List Piece) → List Piece
woven text h i left [] = []
woven text h i left (c ∷ cs) = before text h i left ++ (c ++ woven text h (suc i) (cells_left (cols_of h) left) cs)

-- root, stackrel, overset and underset have their children exchanged
unfoldable pub swaps : List ℕ → Head → Bool
swaps text Head.missing = false
swaps text (Head.atom a sp) = false
swaps text (Head.prefix Prefix.signed sp) = false
swaps text (Head.prefix Prefix.ssigned sp) = false
swaps text (Head.prefix Prefix.unary sp) = false
swaps text (Head.prefix Prefix.sfunc sp) = false
swaps text (Head.prefix Prefix.binary sp) = exchanges exchanging (own text sp)
swaps text (Head.simple sc) = false
swaps text (Head.func sp sc) = false
swaps text Head.frac = false
swaps text Head.cell = false
swaps text (Head.group a b) = false
swaps text (Head.matrix a b cols lines) = false

-- the children with what stands between them
unfoldable pub between : List ℕ → Head → List (List Piece) → List Piece
between text h cs =
    elim (swaps text h) [ true ↦ child cs 1 ++ child cs 0 | false ↦ woven text h 0 (cols_of h) cs ]

-- What the walk needs of a tree beside its layout (crates/tree/specs/Laid.antt): a matrix has whole rows, and its column lines are in
-- order. Every well-formed tree is so.
abbrev pub WholeRows : Head → Nodes → Type 0
WholeRows Head.missing l = Unit {0}
WholeRows (Head.atom a sp) l = Unit {0}
WholeRows (Head.prefix p sp) l = Unit {0}
WholeRows (Head.simple sc) l = Unit {0}
WholeRows (Head.func sp sc) l = Unit {0}
WholeRows Head.frac l = Unit {0}
WholeRows Head.cell l = Unit {0}
WholeRows (Head.group a b) l = Unit {0}
WholeRows (Head.matrix a b cols lines) l = Lines cols 0 lines × ((rows : ℕ) × ((count l ≡ rows * cols) × (0 < count l)))

abbrev mutual
  pub Whole : Node → Type 0
  Whole (node h l) = WholeRows h l × Wholes l

  pub Wholes : Nodes → Type 0
  Wholes end = Unit {0}
  Wholes (x ▸ l) = Whole x × Wholes l
