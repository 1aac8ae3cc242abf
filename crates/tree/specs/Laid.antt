-- What a walk over the words needs of a tree: each head has the number of nodes below it that it should, and a matrix holds cells.
-- Every well-formed tree is so.
use Rattle.std.specs.Prelude.{◌≡◌}
use Rattle.tree.specs.Tree.{Head, Node, node, Nodes, end, ◌▸◌, count}
use Rattle.tree.specs.Decode.{below}

abbrev pub AllCells : Nodes → Type 0
AllCells end = Unit {0}
AllCells (node h l ▸ m) = (h ≡ Head.cell) × AllCells m

abbrev pub HoldsCells : Head → Nodes → Type 0
HoldsCells Head.missing l = Unit {0}
HoldsCells (Head.atom a sp) l = Unit {0}
HoldsCells (Head.prefix p sp) l = Unit {0}
HoldsCells (Head.simple sc) l = Unit {0}
HoldsCells (Head.func sp sc) l = Unit {0}
HoldsCells Head.frac l = Unit {0}
HoldsCells Head.cell l = Unit {0}
HoldsCells (Head.group a b) l = Unit {0}
HoldsCells (Head.matrix a b c ls) l = AllCells l

abbrev mutual
  pub Laid : Node → Type 0
  Laid (node h l) = (count l ≡ below h (count l)) × (HoldsCells h l × Laids l)

  pub Laids : Nodes → Type 0
  Laids end = Unit {0}
  Laids (x ▸ l) = Laid x × Laids l
