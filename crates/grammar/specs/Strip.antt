-- A tree without its Space items: "the tree is that derivation, Space items aside", document 01.
use Rattle.std.specs.Prelude.{Bool, true, false}
use Rattle.tree.specs.Tree.{Head, Node, node, Nodes, end, ◌▸◌}
use Rattle.tree.specs.WellFormed.{is_space}

unfoldable pub is_space_item : Head → Bool
is_space_item Head.missing = false
is_space_item (Head.atom a sp) = is_space a
is_space_item (Head.prefix p sp) = false
is_space_item (Head.simple sc) = false
is_space_item (Head.func sp sc) = false
is_space_item Head.frac = false
is_space_item Head.cell = false
is_space_item (Head.group l r) = false
is_space_item (Head.matrix l r c ls) = false

-- The nodes without their Space items, at every depth; `keep` is such a node in front of m, or m alone.
unfoldable mutual
  pub strip : Nodes → Nodes
  strip end = end
  strip (x ▸ l) = keep x (strip l)

  pub keep : Node → Nodes → Nodes
  keep (node h l) m = elim (is_space_item h) [ true ↦ m | false ↦ node h (strip l) ▸ m ]
