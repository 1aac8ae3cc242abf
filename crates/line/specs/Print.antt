-- The printed tree of document 01, 'The printed tree', byte by byte.
use Rattle.std.specs.Prelude.{ℕ, List, [], ◌∷◌, ◌++◌, get_or}
use Prim.Native.String.{String}
use Rattle.tokens.specs.Bytes.{bytes}
use Rattle.tokens.specs.Kinds.{class_number}
use Rattle.tokens.specs.Lexeme.{Span}
use Rattle.tree.specs.Tree.{Script, Head, Atom, Nodes, count}
use Rattle.tree.specs.Words.{head_words}
use Rattle.tree.specs.Visits.{Visit, visits}
use Rattle.writer.specs.Decimal.{decimal}

-- the nodes' names in the order of their kinds (docs/LAYOUT.md)
unfoldable pub names : List String
names =
    "missing" ∷ "number" ∷ "text" ∷ "ident" ∷ "operator" ∷ "sign" ∷ "space" ∷ "symbol" ∷ "signed" ∷ "ssigned" ∷ "unary" ∷ "sfunc" ∷
    "binary" ∷ "simple" ∷ "func" ∷ "group" ∷ "matrix" ∷ "cell" ∷ "frac" ∷ []

unfoldable pub name_of : ℕ → List ℕ
name_of kind = bytes (get_or names kind "")

-- "Fields stand as name=value": the byte 32, the name, `=` and the value
abbrev pub field : String → List ℕ → List ℕ
field name value = bytes " " ++ (bytes name ++ (bytes "=" ++ value))

-- a field whose value is a number
abbrev pub number : String → ℕ → List ℕ
number name n = field name (decimal n)

-- "at and len first for every node that stands for a token or a left bracket"
unfoldable pub left : Span → List ℕ
left sp = number "at" sp.start ++ number "len" sp.len

-- "rat, rlen (right bracket)"
unfoldable pub right : Span → List ℕ
right sp = number "rat" sp.start ++ number "rlen" sp.len

-- "Script is none, sub, super or subsuper"
unfoldable pub script_name : Script → List ℕ
script_name Script.none = bytes "none"
script_name Script.sub = bytes "sub"
script_name Script.super = bytes "super"
script_name Script.subsuper = bytes "subsuper"

unfoldable pub script : Script → List ℕ
script sc = field "script" (script_name sc)

-- "symbol adds class=0 to 7"
unfoldable pub class : Atom → List ℕ
class Atom.number = []
class Atom.text = []
class Atom.ident = []
class Atom.operator = []
class Atom.sign = []
class Atom.space = []
class (Atom.symbol c) = number "class" (class_number c)

-- "lines (commas, or none)"
unfoldable pub more : List ℕ → List ℕ
more [] = []
more (n ∷ l) = bytes "," ++ (decimal n ++ more l)

unfoldable pub commas : List ℕ → List ℕ
commas [] = bytes "none"
commas (n ∷ l) = decimal n ++ more l

-- The fields of a node with so many nodes below it, "then the added ones in the order named".
unfoldable pub fields : Head → ℕ → List ℕ
fields Head.missing k = []
fields (Head.atom a sp) k = left sp ++ class a
fields (Head.prefix p sp) k = left sp
fields (Head.simple sc) k = script sc
fields (Head.func sp sc) k = left sp ++ script sc
fields Head.frac k = []
fields Head.cell k = number "items" k
fields (Head.group a b) k = left a ++ (right b ++ number "items" k)
fields (Head.matrix a b cols lines) k =
    left a ++ (right b ++ (number "cols" cols ++ (number "cells" k ++ field "lines" (commas lines))))

-- the name of a node, by its kind
unfoldable pub name : Head → List ℕ
name h = name_of (get_or (head_words h 0 0) 0 0)

-- "Every line ends in a newline byte."
abbrev pub newline : List ℕ
newline = 10 ∷ []

-- the line of a node, and the lines of all
unfoldable pub line : Visit → List ℕ
line v =
    bytes "depth=" ++
    (decimal v.depth ++ (field "node" (name v.head) ++ (fields v.head v.children ++ newline)))

unfoldable pub lines : List Visit → List ℕ
lines [] = []
lines (v ∷ l) = line v ++ lines l

-- "First line: bytes, tokens with Space, takes, root items."
unfoldable pub first : ℕ → ℕ → ℕ → ℕ → List ℕ
first text tokens takes items =
    bytes "text=" ++
    (decimal text ++ (number "tokens" tokens ++ (number "takes" takes ++ (number "items" items ++ newline))))

-- "Then each node before its children."
unfoldable pub printed : ℕ → ℕ → ℕ → Nodes → List ℕ
printed text tokens takes tree = first text tokens takes (count tree) ++ lines (visits 0 tree)
