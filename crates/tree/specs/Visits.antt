-- The nodes of a tree in preorder: "each node before its children". The printed tree is a function of its visits. (MathML is not: what
-- closes a node stands behind its children.)
use Rattle.std.specs.Prelude.{ℕ, suc, List, [], ◌∷◌, ◌++◌}
use Rattle.tree.specs.Tree.{Head, Node, node, Nodes, end, ◌▸◌, count}

-- a node's depth, its head and how many nodes stand directly below it
pub record Visit : Type 0 where
  pub depth : ℕ
  pub head : Head
  pub children : ℕ

unfoldable mutual
  pub visit : ℕ → Node → List Visit
  visit depth (node h l) = record { depth = depth; head = h; children = count l } ∷ visits (suc depth) l

  pub visits : ℕ → Nodes → List Visit
  visits depth end = []
  visits depth (x ▸ l) = visit depth x ++ visits depth l
