-- The layout of a tree in words, in preorder: docs/LAYOUT.md. Six words a node (a matrix has eight), then the nodes below it, then
-- a matrix's column lines. Each item of the root, a group or a cell has one word in front: 1 for a fraction, whose two parts follow
-- without a header of their own, and 0 for any other item.
use Rattle.std.specs.Prelude.{ℕ, Bool, true, false, cond, List, [], ◌∷◌, ◌++◌, length}
use Rattle.tokens.specs.Kinds.{class_number}
use Rattle.tree.specs.Tree.{Script, Head, Atom, Prefix, Node, node, Nodes, end, ◌▸◌, count}

-- the number of a node's kind, its first word
abbrev pub atom_kind : Atom → ℕ
atom_kind Atom.number = 1
atom_kind Atom.text = 2
atom_kind Atom.ident = 3
atom_kind Atom.operator = 4
atom_kind Atom.sign = 5
atom_kind Atom.space = 6
atom_kind (Atom.symbol c) = 7

abbrev pub prefix_kind : Prefix → ℕ
prefix_kind Prefix.signed = 8
prefix_kind Prefix.ssigned = 9
prefix_kind Prefix.unary = 10
prefix_kind Prefix.sfunc = 11
prefix_kind Prefix.binary = 12

abbrev pub class_word : Atom → ℕ
class_word Atom.number = 0
class_word Atom.text = 0
class_word Atom.ident = 0
class_word Atom.operator = 0
class_word Atom.sign = 0
class_word Atom.space = 0
class_word (Atom.symbol c) = class_number c

abbrev pub script_number : Script → ℕ
script_number Script.none = 0
script_number Script.sub = 1
script_number Script.super = 2
script_number Script.subsuper = 3

-- A node's own words: kind; at and len; class, script, or the number of items or cells; the right bracket's at and len, or a cell's
-- words; for a matrix also its columns and the number of its lines. It has k nodes below it, which take w words.
abbrev pub head_words : Head → ℕ → ℕ → List ℕ
head_words Head.missing k w = 0 ∷ 0 ∷ 0 ∷ 0 ∷ 0 ∷ 0 ∷ []
head_words (Head.atom a sp) k w = atom_kind a ∷ sp.start ∷ sp.len ∷ class_word a ∷ 0 ∷ 0 ∷ []
head_words (Head.prefix p sp) k w = prefix_kind p ∷ sp.start ∷ sp.len ∷ 0 ∷ 0 ∷ 0 ∷ []
head_words (Head.simple sc) k w = 13 ∷ 0 ∷ 0 ∷ script_number sc ∷ 0 ∷ 0 ∷ []
head_words (Head.func sp sc) k w = 14 ∷ sp.start ∷ sp.len ∷ script_number sc ∷ 0 ∷ 0 ∷ []
head_words (Head.group a b) k w = 15 ∷ a.start ∷ a.len ∷ k ∷ b.start ∷ b.len ∷ []
head_words (Head.matrix a b c ls) k w = 16 ∷ a.start ∷ a.len ∷ k ∷ b.start ∷ b.len ∷ c ∷ length ls ∷ []
head_words Head.cell k w = 17 ∷ 0 ∷ 0 ∷ k ∷ w ∷ 0 ∷ []
head_words Head.frac k w = 18 ∷ 0 ∷ 0 ∷ 0 ∷ 0 ∷ 0 ∷ []

-- whether the nodes below are items
abbrev pub of_items : Head → Bool
of_items Head.missing = false
of_items (Head.atom a sp) = false
of_items (Head.prefix p sp) = false
of_items (Head.simple sc) = false
of_items (Head.func sp sc) = false
of_items Head.frac = false
of_items Head.cell = true
of_items (Head.group a b) = true
of_items (Head.matrix a b c ls) = false

abbrev pub is_frac : Head → Bool
is_frac Head.missing = false
is_frac (Head.atom a sp) = false
is_frac (Head.prefix p sp) = false
is_frac (Head.simple sc) = false
is_frac (Head.func sp sc) = false
is_frac Head.frac = true
is_frac Head.cell = false
is_frac (Head.group a b) = false
is_frac (Head.matrix a b c ls) = false

-- what stands behind the nodes below
abbrev pub tail_words : Head → List ℕ
tail_words Head.missing = []
tail_words (Head.atom a sp) = []
tail_words (Head.prefix p sp) = []
tail_words (Head.simple sc) = []
tail_words (Head.func sp sc) = []
tail_words Head.frac = []
tail_words Head.cell = []
tail_words (Head.group a b) = []
tail_words (Head.matrix a b c ls) = ls

-- a node with the words of those below it
abbrev pub with_head : Head → ℕ → List ℕ → List ℕ
with_head h k below = head_words h k (length below) ++ (below ++ tail_words h)

unfoldable mutual
  pub encode : Node → List ℕ
  encode (node h l) = with_head h (count l) (cond (of_items h) (encode_items l) (encodes l))

  pub encodes : Nodes → List ℕ
  encodes end = []
  encodes (x ▸ l) = encode x ++ encodes l

  pub encode_item : Node → List ℕ
  encode_item (node h l) =
      cond (is_frac h) (1 ∷ encodes l) (0 ∷ with_head h (count l) (cond (of_items h) (encode_items l) (encodes l)))

  -- the words of a tree: its items
  pub encode_items : Nodes → List ℕ
  encode_items end = []
  encode_items (x ▸ l) = encode_item x ++ encode_items l
