-- The words of a tree print as its printed tree: the line of a node from its words is the line of its visit (the crate line,
-- proofs/Heads.antt), and a row is read to its end.
use Prim.Native.Nat.{ℕ, suc, ◌+◌, ◌-◌}
use mathlib.Core.Path.{◌≡◌, refl, sym, ap, ◌∙◌}
use mathlib.Core.Bool.{Bool, true, false}
use mathlib.Core.List.{List, [], ◌∷◌, ◌++◌, append_assoc}
use native.Mathlib.Omega.{arith}
use native.Mathlib.Numerals.{add-one}
use native.Mathlib.Nat.{add-zero}
use lib.ListN.{length, drop, length-append, length-drop}
use lib.Seq.{drop-drop, drop-append_seam}
use Rattle.tree.specs.declared.walk.Opened.{Opened}
use Rattle.tree.specs.Tree.{Head, Node, node, Nodes, end, ◌▸◌, count}
use Rattle.tree.specs.Words.{tail_words, of_items, encode, encode_items}
use Rattle.tree.specs.WellFormed.{WellFormed}
use Rattle.tree.specs.Walk.{row_words, node_words, placed_at, past_of}
use Rattle.tree.specs.Laid.{Laids}
use Rattle.tree.specs.Visits.{Visit, visits}
use Rattle.tree.proofs.Laid.{expression_laid}
use Rattle.tree.proofs.Steps.{step-within}
use Rattle.tree.proofs.Opens.{Opens, opens}
use Rattle.line.specs.Print.{line, lines, first, printed}
use Rattle.line.proofs.Heads.{line-of}
use Rattle.printer.specs.Rows.{Row, row_of}
use Rattle.printer.specs.Call.{print_words}
use Rattle.printer.proofs.Walks.{row-none, row-node}

-- the lines of two runs of visits
lines-append : (v w : List Visit) → lines (v ++ w) ≡ lines v ++ lines w
unfolding lines
lines-append [] w = refl
lines-append (x ∷ v) w = ap (λ (y : List ℕ). line x ++ y) (lines-append v w) ∙ sym (append_assoc (line x) (lines v) (lines w))

-- a node's line, the lines below it, and those of the nodes behind it
row-lines : (depth : ℕ) (h : Head) (l m : Nodes) →
    line (record { depth = depth; head = h; children = count l }) ++ (lines (visits (depth + 1) l) ++ lines (visits depth m))
    ≡ lines (visits depth (node h l ▸ m))
unfolding lines visits
row-lines depth h l m =
    rw add-one (ap (λ (y : List ℕ). line (record { depth = depth; head = h; children = count l }) ++ y) (sym (lines-append (visits (suc depth) l) (visits depth m))))

row_words_lem : (items : Bool) (x : Node) (l : Nodes) → row_words items (x ▸ l) ≡ node_words items x ++ row_words items l
unfolding encode
row_words_lem true x l = refl
row_words_lem false x l = refl

-- the row of a tree's nodes is their lines, and ends behind their words
module _ (words : List ℕ) where
  abbrev RowPrinted : Nodes → Type 0
  RowPrinted l =
      (at : ℕ) (items : Bool) (depth : ℕ) (rest : List ℕ) → Laids l → drop at words ≡ row_words items l ++ rest →
      row_of words at (count l) items depth ≡ record { lines = lines (visits depth l); end = at + length (row_words items l) }

  abbrev BelowPrinted : Node → Type 0
  BelowPrinted (node h l) = RowPrinted l

  end-printed : RowPrinted end
  unfolding encode lines visits
  end-printed at true depth rest c e = row-none words at 0 true depth (omega arith) ∙ rw add-zero
  end-printed at false depth rest c e = row-none words at 0 false depth (omega arith) ∙ rw add-zero

  node-printed : (x : Node) (m : Nodes) → BelowPrinted x → RowPrinted m → RowPrinted (x ▸ m)
  node-printed (node h l) m p q at items depth rest c e =
      let own : List ℕ = node_words items (node h l) in
      let row : drop at words ≡ own ++ (row_words items m ++ rest) = e ∙ rw (row_words_lem items (node h l) m, append_assoc) in
      let o : Opened = placed_at words at items in
      let k : Opens words at items h l (row_words items m ++ rest) o = opens words at items h l (row_words items m ++ rest) c.0 row in
      let i = step-within words at items o (sym k.found) in
      let below : row_of words o.from o.count o.items (depth + 1) ≡ record { lines = lines (visits (depth + 1) l); end = o.from + length (row_words (of_items h) l) } =
      rw (k.many, k.sort) (p o.from (of_items h) (depth + 1) (tail_words h ++ (row_words items m ++ rest)) c.0.1.1 k.row) in
      let long : length words - at ≡ length own + length (row_words items m ++ rest) =
      sym (length-drop at words) ∙ ap length row ∙ length-append own (row_words items m ++ rest) in
      let on : past_of (length words) (o.from + length (row_words (of_items h) l)) o.tail ≡ at + length own = omega (arith, k.tail, k.next) in
      let here : drop (at + length own) words ≡ row_words items m ++ rest = sym (drop-drop (length own) at words) ∙ ap (drop (length own)) row ∙ drop-append_seam own (row_words items m ++ rest) in
      let behind = q (at + length own) items depth rest c.1 here in
      let sizes : length (row_words items (node h l ▸ m)) ≡ length own + length (row_words items m) =
      ap length (row_words_lem items (node h l) m) ∙ length-append own (row_words items m) in
      let far : at + length own + length (row_words items m) ≡ at + length (row_words items (node h l ▸ m)) = omega arith in
      let text = line-of words at items l (row_words items m ++ rest) o depth h c.0.1.0 k in
      let one : suc (count m) - 1 ≡ count m = omega arith in
      row-node words at (suc (count m)) items depth o (omega arith) (sym k.found)
      ∙ rw (one, below, on, behind, far, text, row-lines depth h l m)

  mutual
    row-printed : (l : Nodes) → RowPrinted l
    row-printed end = end-printed
    row-printed (x ▸ m) = node-printed x m (below-printed x) (row-printed m)

    below-printed : (x : Node) → BelowPrinted x
    below-printed (node h l) = row-printed l

-- Of the words of a well-formed tree, whatever stands behind them, the print is the printed tree of document 01.
pub tree-printed : (words : List ℕ) (text tokens takes : ℕ) (tree : Nodes) (rest : List ℕ) → WellFormed tree → words ≡ encode_items tree ++ rest →
    print_words words text tokens takes (count tree) ≡ printed text tokens takes tree
unfolding print_words printed
tree-printed words text tokens takes tree rest f e = ap (λ (r : Row). first text tokens takes (count tree) ++ r.lines) (row-printed words tree 0 true 0 rest (expression_laid f) e)
