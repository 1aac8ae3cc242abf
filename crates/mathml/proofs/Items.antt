-- The items of the root, one after the other, and the whole.
use Prim.Native.Nat.{ℕ, suc, ◌-◌, ◌≤◌, ◌<◌}
use native.Mathlib.Omega.{arith}
use mathlib.Core.Path.{◌≡◌, refl, sym, ap, ◌∙◌}
use mathlib.Core.Bool.{true}
use mathlib.Core.List.{List, [], ◌∷◌, ◌++◌, append_assoc, append-nil}
use lib.ListN.{length, drop}
use Rattle.writer.specs.Put.{Put, most}
use Rattle.writer.proofs.Puts.{none, then, put_as}
use Rattle.tree.specs.Tree as T
use Rattle.tree.specs.Tree.{Head, node, Nodes, end, ◌▸◌, count}
use Rattle.tree.specs.Walk.{row_words, node_words}
use Rattle.tree.specs.Laid.{Laids}
use Rattle.mathml_rules.specs.declared.Mode.TheVariants as mode
use Rattle.mathml_rules.specs.Pieces.{Piece, bytes_of, written, within}
use Rattle.mathml_rules.specs.Mathml.{together, handed, out, outs, root, mathml_of}
use Rattle.mathml_rules.specs.Parts.{Wholes}
use Rattle.mathml_rules.proofs.Escapes.{written-append}
use Rattle.mathml_heads.proofs.Runs.{then-written, pieces_as}
use Rattle.mathml.specs.declared.place.Place.{Place}
use Rattle.mathml.specs.declared.node.Reached.{Reached}
use Rattle.mathml.specs.Walks.{InnerPlace, NodePut, Begins, ItemsPut, RootPut}
use Rattle.mathml.proofs.Rows.{none_left, first, there, behind}

-- the items by themselves: each keeps its brackets, whichever it is
module _ (text : List ℕ) where
  unfoldable pub items_out : Nodes → List Piece
  items_out end = []
  items_out (x ▸ l) = out text mode.Keep x ++ items_out l

  items-out : (l : Nodes) (i : ℕ) → together (outs text mode.Keep Head.cell i l) ≡ items_out l
  unfolding together outs handed items_out
  items-out end i = refl
  items-out (x ▸ l) i = ap (λ (y : List Piece). out text mode.Keep x ++ y) (items-out l (suc i))

  one-item : (x : T.Node) (l : Nodes) → items_out (x ▸ l) ≡ out text mode.Keep x ++ items_out l
  unfolding items_out
  one-item x l = refl

  no_item : items_out end ≡ []
  unfolding items_out
  no_item = refl

module _ (words text start : List ℕ) (place items : ℕ) where
  pub record Ahead (l : Nodes) (after : List ℕ) (at to left : ℕ) : Type 0 where
    pub nodes : Nodes
    pub laid : Laids nodes
    pub whole : Wholes nodes
    pub rest : List ℕ
    pub here : drop at words ≡ row_words true nodes ++ rest
    pub many : left ≡ count nodes
    pub done : List Piece
    pub put : Put start place after to (written done)
    pub goes : done ++ items_out text nodes ≡ items_out text l

  pub record Midway (after : List ℕ) (at to left : ℕ) : Type 0 where
    pub upto : at ≤ length words
    pub same : length after ≡ length start
    pub ahead : (l : Nodes) → Begins words l items → Ahead l after at to left

  pub begin : length start ≤ most → place ≤ most → Midway start 0 place items
  unfolding written
  begin h k = record {
    upto = omega arith;
    same = refl;
    ahead = λ l b. record {
      nodes = l;
      laid = b.0;
      whole = b.1.0;
      rest = b.1.1.0;
      here = b.1.1.1.0;
      many = b.1.1.1.1;
      done = [];
      put = none start place h k;
      goes = refl;
    };
  }

  module _ {after : List ℕ} {at to left : ℕ} (w : Midway after at to left) where
    onward : {p : Place} {after₂ : List ℕ} {r : Reached} → InnerPlace words at true p → 0 < left →
        NodePut words text after p.at p.items to mode.Keep after₂ r → (l : Nodes) → Begins words l items →
        (x : T.Node) (ms : Nodes) → (a : Ahead l after at to left) → a.nodes ≡ (x ▸ ms) → Ahead l after₂ r.at r.end (left - 1)
    onward i f q l b x ms a u =
        let c : Laids (x ▸ ms) = rw u at a.laid in
        let v : Wholes (x ▸ ms) = rw u at a.whole in
        let row : drop at words ≡ node_words true x ++ (row_words true ms ++ a.rest) =
        there words at true x ms a.rest (a.here ∙ ap (λ (y : Nodes). row_words true y ++ a.rest) u) in
        let y = i.read x (row_words true ms ++ a.rest) c.0 row in
        let read = q.read y.node (row_words true ms ++ a.rest) y.laid (y.whole v.0) y.here in
        let number : left ≡ suc (count ms) = rw u at a.many in
        record {
          nodes = ms;
          laid = c.1;
          whole = v.1;
          rest = a.rest;
          here = rw (read.0 ∙ y.ends) (behind words at true x ms a.rest row);
          many = omega arith;
          done = a.done ++ out text mode.Keep x;
          put = then-written a.done (out text mode.Keep x) a.put (pieces_as (y.same text mode.Keep) read.1);
          goes =
              append_assoc a.done (out text mode.Keep x) (items_out text ms)
              ∙ ap (λ (y : List Piece). a.done ++ y) (sym (one-item text x ms))
              ∙ ap (λ (y : Nodes). a.done ++ items_out text y) (sym u)
              ∙ a.goes;
        }

    pub more : {p : Place} {after₂ : List ℕ} {r : Reached} → InnerPlace words at true p → 0 < left →
        NodePut words text after p.at p.items to mode.Keep after₂ r → Midway after₂ r.at r.end (left - 1)
    more i f q = record {
      upto = q.upto;
      same = q.same ∙ w.same;
      ahead = λ l b.
          let a = w.ahead l b in
          let x = first a.nodes (omega (arith, a.many)) in
          onward i f q l b (node x.head x.below) x.behind a x.are;
    }

    pub done : left ≤ 0 → ItemsPut words text start place items after to
    done f = record {
      same = w.same;
      read = λ l b.
          let a = w.ahead l b in
          let n = none_left a.nodes (omega (arith, a.many)) in
          pieces_as
          (sym (append-nil a.done) ∙ ap (λ (y : List Piece). a.done ++ y) (sym (no_item text)) ∙ ap (λ (y : Nodes). a.done ++ items_out text y) (sym n) ∙ a.goes ∙ sym (items-out text l 0))
          a.put;
    }

-- the root's tags around its items
pub rooted : {words text start out₁ out₂ out₃ : List ℕ} {items begun end close : ℕ} →
    Put start 0 out₁ begun (bytes_of (Piece.start 19 [])) → ItemsPut words text out₁ begun items out₂ end → Put out₂ end out₃ close (bytes_of (Piece.end 19)) →
    RootPut words text start items out₃ close
unfolding mathml_of root within written
rooted {words} {text} {items = items} p q z = record {
  same = z.same ∙ q.same ∙ p.same;
  read = λ l b.
      let x : List Piece = together (outs text mode.Keep Head.cell 0 l) in
      put_as
      (ap (λ (y : List ℕ). bytes_of (Piece.start 19 []) ++ y)
      (ap (λ (y : List ℕ). written x ++ y) (sym (append-nil (bytes_of (Piece.end 19)))) ∙ sym (written-append x (Piece.end 19 ∷ []))))
      (then p (then (q.read l b) z));
}
