-- A row of nodes in the words of a tree: its first node, and the nodes behind it.
use Prim.Native.Nat.{ℕ, ◌+◌, ◌-◌, ◌≤◌, ◌<◌}
use native.Mathlib.Omega.{arith}
use mathlib.Core.Path.{◌≡◌, refl, sym, ap, ◌∙◌}
use mathlib.Core.Bool.{Bool, true, false}
use mathlib.Core.List.{List, ◌++◌, append_assoc}
use lib.ListN.{length, drop, length-append, length-drop}
use lib.Seq.{drop-drop, drop-append_seam}
use Rattle.tree.specs.declared.walk.Opened.{Opened}
use Rattle.tree.specs.Tree.{Head, Node, node, Nodes, end, ◌▸◌, count}
use Rattle.tree.specs.Words.{of_items, encode}
use Rattle.tree.specs.Walk.{row_words, node_words, past_of}
use Rattle.tree.proofs.Opens.{Opens}

pub row_words_lem : (items : Bool) (x : Node) (l : Nodes) → row_words items (x ▸ l) ≡ node_words items x ++ row_words items l
unfolding encode
row_words_lem true x l = refl
row_words_lem false x l = refl

pub row-none : (items : Bool) → length (row_words items end) ≡ 0
unfolding encode
row-none true = refl
row-none false = refl

pub none_left : (l : Nodes) → count l ≤ 0 → l ≡ end
none_left end e = refl
none_left (x ▸ l) e = absurd (omega arith)

-- the first of some nodes
pub record First (l : Nodes) : Type 0 where
  pub head : Head
  pub below : Nodes
  pub behind : Nodes
  pub are : l ≡ (node head below ▸ behind)

pub first : (l : Nodes) → 0 < count l → First l
first end h = absurd (omega arith)
first (node h k ▸ m) z = record { head = h; below = k; behind = m; are = refl }

module _ (words : List ℕ) (at : ℕ) (items : Bool) (x : Node) (m : Nodes) (rest : List ℕ) where
  -- the words of a node, and behind them those of the nodes behind it
  pub there : drop at words ≡ row_words items (x ▸ m) ++ rest → drop at words ≡ node_words items x ++ (row_words items m ++ rest)
  there e = e ∙ rw (row_words_lem items x m, append_assoc)

  pub behind : drop at words ≡ node_words items x ++ (row_words items m ++ rest) →
      drop (at + length (node_words items x)) words ≡ row_words items m ++ rest
  behind e =
      sym (drop-drop (length (node_words items x)) at words) ∙ ap (drop (length (node_words items x))) e
      ∙ drop-append_seam (node_words items x) (row_words items m ++ rest)

  pub sizes : length (row_words items (x ▸ m)) ≡ length (node_words items x) + length (row_words items m)
  sizes = ap length (row_words_lem items x m) ∙ length-append (node_words items x) (row_words items m)

-- Behind the nodes below it, and the words behind them, a node's words end.
pub past-node : (words : List ℕ) (at : ℕ) (items : Bool) (h : Head) (k : Nodes) (rest : List ℕ) (o : Opened) {far : ℕ} →
    Opens words at items h k rest o → drop at words ≡ node_words items (node h k) ++ rest → at ≤ length words →
    far ≡ o.from + length (row_words (of_items h) k) → past_of (length words) far o.tail ≡ at + length (node_words items (node h k))
past-node words at items h k rest o b e u f =
    let long : length words - at ≡ length (node_words items (node h k)) + length rest =
    sym (length-drop at words) ∙ ap length e ∙ length-append (node_words items (node h k)) rest in
    omega (arith, b.tail, b.next)
