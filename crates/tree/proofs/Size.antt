-- How many words a tree takes, node by node.
use Prim.Native.Nat.{ℕ, suc, ◌+◌, ◌≤◌}
use mathlib.Core.Path.{◌≡◌, refl, ap, ap₂, ◌∙◌}
use mathlib.Core.List.{List}
use mathlib.Core.Bool.{Bool, true, false, cond}
use native.Mathlib.Omega.{arith}
use lib.ListN.{length, length-append}
use Rattle.tree.specs.Tree.{Head, Node, node, Nodes, end, ◌▸◌, ◌⧺◌, count}
use Rattle.tree.specs.Words.{head_words, tail_words, of_items, is_frac, encode, encodes, encode_item, encode_items}

-- a node's own words, with a matrix's lines
abbrev pub own_size : Head → ℕ
own_size h = length (head_words h 0 0) + length (tail_words h)

unfoldable mutual
  pub size : Node → ℕ
  size (node h l) = own_size h + cond (of_items h) (size_items l) (sizes l)

  pub sizes : Nodes → ℕ
  sizes end = 0
  sizes (x ▸ l) = size x + sizes l

  pub size_item : Node → ℕ
  size_item (node h l) = cond (is_frac h) (suc (sizes l)) (suc (own_size h + cond (of_items h) (size_items l) (sizes l)))

  pub size_items : Nodes → ℕ
  size_items end = 0
  size_items (x ▸ l) = size_item x + size_items l

-- whatever their counts are
own-size : (h : Head) (k w : ℕ) → length (head_words h k w) ≡ length (head_words h 0 0)
own-size Head.missing k w = refl
own-size (Head.atom a sp) k w = refl
own-size (Head.prefix p sp) k w = refl
own-size (Head.simple sc) k w = refl
own-size (Head.func sp sc) k w = refl
own-size Head.frac k w = refl
own-size Head.cell k w = refl
own-size (Head.group a b) k w = refl
own-size (Head.matrix a b c ls) k w = refl

length-pick : (b : Bool) (x y : List ℕ) {m n : ℕ} → length x ≡ m → length y ≡ n → length (cond b x y) ≡ cond b m n
length-pick true x y p q = p
length-pick false x y p q = q

module _ (h : Head) (l : Nodes) (all : length (encodes l) ≡ sizes l) (items : length (encode_items l) ≡ size_items l) where
  node-size : length (encode (node h l)) ≡ size (node h l)
  unfolding encode size
  node-size =
      let below = cond (of_items h) (encode_items l) (encodes l) in
      simp length-append (omega (
        arith,
        own-size h (count l) (length below),
        length-pick (of_items h) (encode_items l) (encodes l) items all,
      ))

  item-size : length (encode_item (node h l)) ≡ size_item (node h l)
  unfolding encode size
  item-size = length-pick (is_frac h) _ _ (ap suc all) (ap suc node-size)

mutual
  unfolding encode size

  pub length-encode : (x : Node) → length (encode x) ≡ size x
  length-encode (node h l) = node-size h l (length-encodes l) (length-encode_items l)

  pub length-encodes : (l : Nodes) → length (encodes l) ≡ sizes l
  length-encodes end = refl
  length-encodes (x ▸ l) = length-append (encode x) (encodes l) ∙ ap₂ ◌+◌ (length-encode x) (length-encodes l)

  pub length-encode_item : (x : Node) → length (encode_item x) ≡ size_item x
  length-encode_item (node h l) = item-size h l (length-encodes l) (length-encode_items l)

  pub length-encode_items : (l : Nodes) → length (encode_items l) ≡ size_items l
  length-encode_items end = refl
  length-encode_items (x ▸ l) = length-append (encode_item x) (encode_items l) ∙ ap₂ ◌+◌ (length-encode_item x) (length-encode_items l)

-- items behind items; nodes behind nodes
pub size_items-join : (l m : Nodes) → size_items (l ⧺ m) ≡ size_items l + size_items m
unfolding size
size_items-join end m = omega arith
size_items-join (x ▸ l) m = omega (arith, size_items-join l m)

pub sizes-join : (l m : Nodes) → sizes (l ⧺ m) ≡ sizes l + sizes m
unfolding size
sizes-join end m = omega arith
sizes-join (x ▸ l) m = omega (arith, sizes-join l m)

-- an item has one word in front at the most
pub item-within : (x : Node) → size_item x ≤ suc (size x)
unfolding size
item-within (node Head.missing l) = omega arith
item-within (node (Head.atom a sp) l) = omega arith
item-within (node (Head.prefix p sp) l) = omega arith
item-within (node (Head.simple sc) l) = omega arith
item-within (node (Head.func sp sc) l) = omega arith
item-within (node Head.frac l) = omega arith
item-within (node Head.cell l) = omega arith
item-within (node (Head.group a b) l) = omega arith
item-within (node (Head.matrix a b c ls) l) = omega arith
