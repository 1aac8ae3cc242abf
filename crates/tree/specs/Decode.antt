-- The layout of docs/LAYOUT.md read back: the tree of a number of items and of the words that begin with theirs. What stands
-- behind the tree is not looked at.
use Rattle.std.specs.Prelude.{ℕ, zero, suc, true, false, cond, List, [], ◌∷◌, length, get_or, take, drop, eqb}
use Rattle.tokens.specs.declared.token.SymbolClass.{SymbolClass}
use Rattle.tokens.specs.declared.token.SymbolClass.TheVariants as class
use Rattle.tokens.specs.Lexeme.{Span}
use Rattle.tree.specs.Tree.{Script, Head, Atom, Prefix, Node, node, Nodes, end, ◌▸◌, leaf}
use Rattle.tree.specs.Words.{of_items}

-- the classes and the scripts in the order of their numbers
abbrev pub classes : List SymbolClass
classes =
    class.Glyph ∷ class.Name ∷ class.Joining ∷ class.JoiningName ∷ class.Leading ∷ class.LeadingName ∷ class.Space ∷
    class.Separator ∷ []

abbrev pub scripts : List Script
scripts = Script.none ∷ Script.sub ∷ Script.super ∷ Script.subsuper ∷ []

-- The head that a kind and a node's own words tell: the heads in the order of their kinds. A matrix's lines stand elsewhere.
unfoldable pub kind_head : ℕ → List ℕ → List ℕ → Head
kind_head kind words lines = get_or heads kind Head.missing
  where
    word : ℕ → ℕ
    word i = get_or words i 0

    left : Span
    left = record { start = word 1; len = word 2 }

    right : Span
    right = record { start = word 4; len = word 5 }

    script : Script
    script = get_or scripts (word 3) Script.none

    heads : List Head
    heads =
        Head.missing ∷
        Head.atom Atom.number left ∷
        Head.atom Atom.text left ∷
        Head.atom Atom.ident left ∷
        Head.atom Atom.operator left ∷
        Head.atom Atom.sign left ∷
        Head.atom Atom.space left ∷
        Head.atom (Atom.symbol (get_or classes (word 3) class.Glyph)) left ∷
        Head.prefix Prefix.signed left ∷
        Head.prefix Prefix.ssigned left ∷
        Head.prefix Prefix.unary left ∷
        Head.prefix Prefix.sfunc left ∷
        Head.prefix Prefix.binary left ∷
        Head.simple script ∷
        Head.func left script ∷
        Head.group left right ∷
        Head.matrix left right (word 6) lines ∷
        Head.cell ∷
        Head.frac ∷ []

-- the kind is a node's first word
abbrev pub head_of : List ℕ → List ℕ → Head
head_of words lines = kind_head (get_or words 0 0) words lines

-- How many nodes stand below a head. Of a group, a cell and a matrix it is the number in their words, k.
abbrev pub arguments : Script → ℕ
arguments Script.none = 0
arguments Script.sub = 1
arguments Script.super = 1
arguments Script.subsuper = 2

abbrev pub operands : Prefix → ℕ
operands Prefix.signed = 1
operands Prefix.ssigned = 1
operands Prefix.unary = 1
operands Prefix.sfunc = 1
operands Prefix.binary = 2

abbrev pub below : Head → ℕ → ℕ
below Head.missing k = 0
below (Head.atom a sp) k = 0
below (Head.prefix p sp) k = operands p
below (Head.simple sc) k = suc (arguments sc)
below (Head.func sp sc) k = suc (arguments sc)
below Head.frac k = 2
below Head.cell k = k
below (Head.group a b) k = k
below (Head.matrix a b c ls) k = k

-- A part of the tree with the words that are left behind it.
abbrev pub Decoder : Type 0 → Type 0
Decoder A = List ℕ → A × List ℕ

-- k nodes, one behind the other
unfoldable pub times : ℕ → Decoder Node → Decoder Nodes
times zero one words = (end, words)
times (suc k) one words =
    let x = one words in
    let l = times k one x.1 in
    (x.0 ▸ l.0, l.1)

-- An item: the word in front says whether it is a fraction.
unfoldable pub decode_item : Decoder Node → Decoder Node
decode_item one words =
    elim (eqb (get_or words 0 0) 1) [
      | true ↦ let l = times 2 one (drop 1 words) in (node Head.frac l.0, l.1)
      | false ↦ one (drop 1 words)
    ]

-- A node: its own words, eight for a matrix and six for any other; the nodes below it; a matrix's lines. A tree that is deeper than
-- `depth` is cut.
unfoldable pub decode_node : ℕ → Decoder Node
decode_node zero words = (leaf Head.missing, words)
decode_node (suc depth) words =
    let h = head_of words [] in
    let matrix = eqb (get_or words 0 0) 16 in
    let one = decode_node depth in
    let l = times (below h (get_or words 3 0)) (cond (of_items h) (decode_item one) one) (drop (cond matrix 8 6) words) in
    let lines = cond matrix (get_or words 7 0) 0 in
    (node (head_of words (take lines l.1)) l.0, drop lines l.1)

-- The tree. It is nowhere deeper than it has words.
unfoldable pub decode : ℕ → List ℕ → Nodes
decode items words = (times items (decode_item (decode_node (length words))) words).0
