-- A cell is a column line by its words where the definition of the reading says so.
use mathlib.Core.Path.{◌≡◌, refl}
use mathlib.Core.List.{List}
use mathlib.Core.Bool.{false}
use Prim.Native.Nat.{ℕ, suc}
use native.Mathlib.Omega.{arith}
use lib.Dec.{eqb}
use borrow.Author.Tests.{ne_eqb}
use Rattle.tree.specs.Tree.{Script, Head, Atom, Prefix, Node, node, Nodes, end, ◌▸◌, count}
use Rattle.tree.specs.Words.{atom_kind, prefix_kind, encode, encodes, encode_item, encode_items}
use Rattle.reading.specs.Entries.{Entry}
use Rattle.reading.specs.Reading.{text_of, is_byte, is_unscripted, is_bar_symbol, is_column_line}
use Rattle.columns.specs.Columns.{is_line}

module _ (X : List ℕ) (es : List Entry) where
  two_items : (x y : Node) (l : Nodes) → is_line X (encode (node Head.cell (x ▸ (y ▸ l)))) ≡ false
  unfolding is_line encode
  two_items x y l = rw (ne_eqb (suc (suc (count l))) 1 (λ e. omega arith)) refl

  other_item : (h : Head) (m : Nodes) → is_unscripted h ≡ false → false ≡ is_column_line X es (node Head.cell (node h m ▸ end))
  unfolding is_column_line
  other_item h end e = refl
  other_item h (x ▸ m) e = rw e refl

  -- neither kind is a simple's, nor a prefix's a symbol's
  atom-kind : (a : Atom) → eqb (atom_kind a) 13 ≡ false
  atom-kind Atom.number = refl
  atom-kind Atom.text = refl
  atom-kind Atom.ident = refl
  atom-kind Atom.operator = refl
  atom-kind Atom.sign = refl
  atom-kind Atom.space = refl
  atom-kind (Atom.symbol c) = refl

  prefix-kind : (p : Prefix) → (eqb (prefix_kind p) 13 ≡ false) × (eqb (prefix_kind p) 7 ≡ false)
  prefix-kind Prefix.signed = (refl, refl)
  prefix-kind Prefix.ssigned = (refl, refl)
  prefix-kind Prefix.unary = (refl, refl)
  prefix-kind Prefix.sfunc = (refl, refl)
  prefix-kind Prefix.binary = (refl, refl)

  pub line-cell : (l : Nodes) → is_line X (encode (node Head.cell l)) ≡ is_column_line X es (node Head.cell l)
  unfolding is_line encode_items encode_item encodes encode is_column_line is_bar_symbol is_unscripted is_byte text_of
  line-cell end = refl
  line-cell (node Head.missing m ▸ end) = other_item Head.missing m refl
  line-cell (node (Head.atom a sp) m ▸ end) = rw (atom-kind a) (other_item (Head.atom a sp) m refl)
  line-cell (node (Head.prefix p sp) m ▸ end) = rw (prefix-kind p).0 (other_item (Head.prefix p sp) m refl)
  line-cell (node (Head.func sp sc) m ▸ end) = other_item (Head.func sp sc) m refl
  line-cell (node Head.frac m ▸ end) = other_item Head.frac m refl
  line-cell (node Head.cell m ▸ end) = other_item Head.cell m refl
  line-cell (node (Head.group a b) m ▸ end) = other_item (Head.group a b) m refl
  line-cell (node (Head.matrix a b c ls) m ▸ end) = other_item (Head.matrix a b c ls) m refl
  line-cell (node (Head.simple Script.sub) m ▸ end) = other_item (Head.simple Script.sub) m refl
  line-cell (node (Head.simple Script.super) m ▸ end) = other_item (Head.simple Script.super) m refl
  line-cell (node (Head.simple Script.subsuper) m ▸ end) = other_item (Head.simple Script.subsuper) m refl
  line-cell (node (Head.simple Script.none) end ▸ end) = refl
  line-cell (node (Head.simple Script.none) (node Head.missing k ▸ m) ▸ end) = refl
  line-cell (node (Head.simple Script.none) (node (Head.prefix p sp) k ▸ m) ▸ end) = rw (prefix-kind p).1 refl
  line-cell (node (Head.simple Script.none) (node (Head.simple sc) k ▸ m) ▸ end) = refl
  line-cell (node (Head.simple Script.none) (node (Head.func sp sc) k ▸ m) ▸ end) = refl
  line-cell (node (Head.simple Script.none) (node Head.frac k ▸ m) ▸ end) = refl
  line-cell (node (Head.simple Script.none) (node Head.cell k ▸ m) ▸ end) = refl
  line-cell (node (Head.simple Script.none) (node (Head.group a b) k ▸ m) ▸ end) = refl
  line-cell (node (Head.simple Script.none) (node (Head.matrix a b c ls) k ▸ m) ▸ end) = refl
  line-cell (node (Head.simple Script.none) (node (Head.atom Atom.number sp) k ▸ m) ▸ end) = refl
  line-cell (node (Head.simple Script.none) (node (Head.atom Atom.text sp) k ▸ m) ▸ end) = refl
  line-cell (node (Head.simple Script.none) (node (Head.atom Atom.ident sp) k ▸ m) ▸ end) = refl
  line-cell (node (Head.simple Script.none) (node (Head.atom Atom.operator sp) k ▸ m) ▸ end) = refl
  line-cell (node (Head.simple Script.none) (node (Head.atom Atom.sign sp) k ▸ m) ▸ end) = refl
  line-cell (node (Head.simple Script.none) (node (Head.atom Atom.space sp) k ▸ m) ▸ end) = refl
  line-cell (node (Head.simple Script.none) (node (Head.atom (Atom.symbol c) sp) k ▸ m) ▸ end) = refl
  line-cell (node h end ▸ (y ▸ l)) = two_items (node h end) y l
  line-cell (node h (x ▸ m) ▸ (y ▸ l)) = two_items (node h (x ▸ m)) y l
