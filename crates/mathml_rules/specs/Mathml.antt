-- MATHML.md, section 4, "The definition: `out mode node`, by recursion on the node", and section 6, the table of a matrix.
use Rattle.std.specs.Prelude.{Bool, true, false, ◌&&◌, ◌||◌, List, [], ◌∷◌, ◌++◌, ℕ, zero, suc, eqb, ltb, length, get_or, take, drop}
use Prim.Native.String.{String}
use Rattle.tokens.specs.declared.token.SymbolClass.{SymbolClass}
use Rattle.tokens.specs.declared.token.SymbolClass.TheVariants as class
use Rattle.tokens.specs.Bytes.{bytes, same}
use Rattle.tokens.specs.Lexeme.{Span}
use Rattle.tree.specs.Tree.{Script, Head, Atom, Prefix, Node, node, Nodes, end, ◌▸◌}
use Rattle.mathml_rules.specs.declared.Mode.{Mode}
use Rattle.mathml_rules.specs.declared.Mode.TheVariants as mode
use Rattle.mathml_rules.specs.Utf8.{utf8}
use Rattle.mathml_rules.specs.Forms.{shown}
use Rattle.mathml_rules.specs.Pieces.{Piece, within, E, L, written}
use Rattle.mathml_rules.specs.Commands.{mark, unary, binary}

-- "`own` is the text's bytes in the node's span (at, len)."
unfoldable pub own : List ℕ → Span → List ℕ
own text sp = take sp.len (drop sp.start text)

-- the pieces of lists of pieces, one after another
unfoldable pub together : List (List Piece) → List Piece
together [] = []
together (x ∷ l) = x ++ together l

-- "symbol: L 22 (shown own) if the class is 0 Glyph, 1 Name or 6 Space, else L 7 (shown own)"
unfoldable pub symbol_element : SymbolClass → ℕ
symbol_element class.Glyph = 22
symbol_element class.Name = 22
symbol_element class.Joining = 7
symbol_element class.JoiningName = 7
symbol_element class.Leading = 7
symbol_element class.LeadingName = 7
symbol_element class.Space = 22
symbol_element class.Separator = 7

-- "number, text, ident: L 1 own, L 2 own, L 3 own; operator: L 4 own; sign: L 5 (shown own); space: E 6 nothing"
unfoldable pub atom : Atom → List ℕ → List Piece
atom Atom.number s = L 1 s
atom Atom.text s = L 2 s
atom Atom.ident s = L 3 s
atom Atom.operator s = L 4 s
atom Atom.sign s = L 5 (shown s)
atom Atom.space s = E 6 []
atom (Atom.symbol c) s = L (symbol_element c) (shown s)

-- "S script base args: none → base alone (no element); sub → E 13, super → E 20, subsuper → E 21 of (base, args)."
unfoldable pub S : Script → List Piece → List Piece → List Piece
S Script.none base args = base
S Script.sub base args = E 13 (base ++ args)
S Script.super base args = E 20 (base ++ args)
S Script.subsuper base args = E 21 (base ++ args)

-- how many arguments a script has
unfoldable pub arguments : Script → ℕ
arguments Script.none = 0
arguments Script.sub = 1
arguments Script.super = 1
arguments Script.subsuper = 2

-- "A is L 4 U+2061 (E2 81 A1) if the name has one byte (`f`, `g`), else L 23 U+2061."
unfoldable pub A : List ℕ → List Piece
A name = L (elim (eqb (length name) 1) [ true ↦ 4 | false ↦ 23 ]) (utf8 "\u{2061}")

-- "B s is L 4 (shown s), or nothing if s is empty (a bracket that stands for no token) or shown s is (`{:`, `:}`)." No spelling is
-- empty, so of an empty s the shown is empty.
unfoldable pub B : List ℕ → List Piece
B s = mark (shown s)

-- "Brackets are dropped iff both stand there as typed: `(`…`)` or `{`…`}` in mode ARGUMENT; these or `[`…`]` in mode TEXT."
unfoldable pub pair : String → String → List ℕ → List ℕ → Bool
pair l r left right = same left (bytes l) && same right (bytes r)

unfoldable pub dropped : Mode → List ℕ → List ℕ → Bool
dropped mode.Keep left right = false
dropped mode.Argument left right = pair "(" ")" left right || pair "{" "}" left right
dropped mode.Text left right = pair "(" ")" left right || (pair "{" "}" left right || pair "[" "]" left right)

-- "group: E 15 (items) if its brackets are dropped, else E 15 (B left, items, B right)"
unfoldable pub group : Mode → List ℕ → List ℕ → List Piece → List Piece
group m left right items =
    elim (dropped m left right) [ true ↦ E 15 items | false ↦ E 15 (B left ++ (items ++ B right)) ]

-- Section 6: "entry j (from 1) is `solid` if boundary j has a line, else `none`"
unfoldable pub has : ℕ → List ℕ → Bool
has j [] = false
has j (b ∷ l) = eqb j b || has j l

unfoldable pub line_entry : List ℕ → ℕ → List ℕ
line_entry lines j = elim (has j lines) [ true ↦ bytes "solid" | false ↦ bytes "none" ]

-- n more entries, from j on, "with one byte 32 between"
unfoldable pub line_entries : List ℕ → ℕ → ℕ → List ℕ
line_entries lines j zero = []
line_entries lines j (suc n) = 32 ∷ (line_entry lines j ++ line_entries lines (suc j) n)

-- "If cols is 2 or more the start tag is `<mtable columnlines="V">`, V having cols − 1 entries, one for each place between two
-- columns .. With one column there is no such place and the start tag is `<mtable>`."
unfoldable pub columnlines : ℕ → List ℕ → List ℕ
columnlines zero lines = []
columnlines (suc zero) lines = []
columnlines (suc (suc n)) lines =
    bytes " columnlines=\"" ++ (line_entry lines 1 ++ (line_entries lines 2 n ++ bytes "\""))

-- "for each row E 32 (its `cols` cells)"; at most f rows
unfoldable pub table_rows : ℕ → ℕ → List (List Piece) → List Piece
table_rows zero cols cells = []
table_rows (suc f) cols [] = []
table_rows (suc f) cols (c ∷ cells) =
    E 32 (together (take cols (c ∷ cells))) ++ table_rows f cols (drop cols (c ∷ cells))

-- "`start 31`, for each row .., `end 31`"
unfoldable pub table : ℕ → List ℕ → List (List Piece) → List Piece
table cols lines cells = within 31 (columnlines cols lines) (table_rows (length cells) cols cells)

-- The modes of children that differ: "unary: ARGUMENT; text and mbox: TEXT"
unfoldable pub text_mode : List ℕ → Mode
text_mode s = elim (same s (bytes "text") || same s (bytes "mbox")) [ true ↦ mode.Text | false ↦ mode.Argument ]

-- "simple: c1: script none → the node's own mode, else KEEP; c2, c3: ARGUMENT"
unfoldable pub simple_mode : Script → Mode → ℕ → Mode
simple_mode Script.none m i = m
simple_mode Script.sub m i = elim (eqb i 0) [ true ↦ mode.Keep | false ↦ mode.Argument ]
simple_mode Script.super m i = elim (eqb i 0) [ true ↦ mode.Keep | false ↦ mode.Argument ]
simple_mode Script.subsuper m i = elim (eqb i 0) [ true ↦ mode.Keep | false ↦ mode.Argument ]

-- "func: script arguments ARGUMENT, argument KEEP"
unfoldable pub func_mode : Script → ℕ → Mode
func_mode sc i = elim (ltb i (arguments sc)) [ true ↦ mode.Argument | false ↦ mode.Keep ]

-- The mode of a node's child i (from 0), the node's own mode being m: these, "frac, binary: ARGUMENT", and all others KEEP.
unfoldable pub handed : List ℕ → Mode → Head → ℕ → Mode
handed text m Head.missing i = mode.Keep
handed text m (Head.atom a sp) i = mode.Keep
handed text m (Head.prefix Prefix.signed sp) i = mode.Keep
handed text m (Head.prefix Prefix.ssigned sp) i = mode.Keep
handed text m (Head.prefix Prefix.unary sp) i = text_mode (own text sp)
handed text m (Head.prefix Prefix.sfunc sp) i = mode.Keep
handed text m (Head.prefix Prefix.binary sp) i = mode.Argument
handed text m (Head.simple sc) i = simple_mode sc m i
handed text m (Head.func sp sc) i = func_mode sc i
handed text m Head.frac i = mode.Argument
handed text m Head.cell i = mode.Keep
handed text m (Head.group a b) i = mode.Keep
handed text m (Head.matrix a b cols lines) i = mode.Keep

-- "an absent child no pieces"
abbrev pub child : List (List Piece) → ℕ → List Piece
child cs i = get_or cs i []

-- The pieces of a node, from its own fields, its mode and its children's pieces.
unfoldable pub join : List ℕ → Mode → Head → List (List Piece) → List Piece
join text m Head.missing cs = E 0 []
join text m (Head.atom a sp) cs = atom a (own text sp)
join text m (Head.prefix Prefix.signed sp) cs = E 8 (L 5 (shown (own text sp)) ++ child cs 0)
join text m (Head.prefix Prefix.ssigned sp) cs = E 9 (L 5 (shown (own text sp)) ++ child cs 0)
join text m (Head.prefix Prefix.unary sp) cs = unary (own text sp) (child cs 0)
join text m (Head.prefix Prefix.sfunc sp) cs = E 11 (L 3 (own text sp) ++ (A (own text sp) ++ child cs 0))
join text m (Head.prefix Prefix.binary sp) cs = binary (own text sp) (child cs 0) (child cs 1)
join text m (Head.simple sc) cs = S sc (child cs 0) (together (take (arguments sc) (drop 1 cs)))
-- "func: E 14 (S script (L 3 own) (its script arguments), A, its argument)"
join text m (Head.func sp sc) cs =
    E 14 (S sc (L 3 (own text sp)) (together (take (arguments sc) cs)) ++ (A (own text sp) ++ child cs (arguments sc)))
join text m Head.frac cs = E 18 (child cs 0 ++ child cs 1)
join text m Head.cell cs = E 17 (together cs)
join text m (Head.group a b) cs = group m (own text a) (own text b) (together cs)
-- "matrix: E 16 (B left, the table, B right), in every mode"
join text m (Head.matrix a b cols lines) cs = E 16 (B (own text a) ++ (table cols lines cs ++ B (own text b)))

unfoldable mutual
  pub out : List ℕ → Mode → Node → List Piece
  out text m (node h l) = join text m h (outs text m h 0 l)

  -- the pieces of each of the children of h, from child i on
  pub outs : List ℕ → Mode → Head → ℕ → Nodes → List (List Piece)
  outs text m h i end = []
  outs text m h i (x ▸ l) = out text (handed text m h i) x ∷ outs text m h (suc i) l

-- "root: E 19 (items)"; the items as those of a cell, KEEP
unfoldable pub root : List ℕ → Nodes → List Piece
root text tree = E 19 (together (outs text mode.Keep Head.cell 0 tree))

-- the MathML of a text with its tree
unfoldable pub mathml_of : List ℕ → Nodes → List ℕ
mathml_of text tree = written (root text tree)
