-- A row of nodes passed over, one after the other.
use Prim.Native.Nat.{ℕ, suc, ◌+◌, ◌-◌, ◌≤◌, ◌<◌}
use native.Mathlib.Omega.{arith}
use mathlib.Core.Path.{◌≡◌, refl, sym, ap, ◌∙◌}
use mathlib.Core.Bool.{Bool, false, ◌||◌, or_assoc, or-false}
use mathlib.Core.List.{List, ◌++◌, append-nil}
use lib.ListN.{length, drop}
use Rattle.tree.specs.declared.walk.Opened.{Opened}
use Rattle.std.proofs.Common.{Some, None}
use Rattle.tree.specs.Tree as T
use Rattle.tree.specs.Tree.{node, Nodes, end, ◌▸◌, count}
use Rattle.tree.specs.Words.{tail_words, of_items, encode}
use Rattle.tree.specs.Walk.{row_words, node_words, placed_at, past_of, step_at, head_at}
use Rattle.tree.specs.Laid.{Laid, Laids}
use Rattle.tree.proofs.Steps.{step-within}
use Rattle.tree.proofs.Opens.{Opens, opens}
use Rattle.tree.proofs.Heads.{head_at_lem}
use Rattle.mathml_rules.specs.Refusal.{refused_head, refused_node, refusal11}
use Rattle.mathml.specs.declared.place.Place.{Place}
use Rattle.mathml.specs.declared.pass.Passed.{Passed}
use Rattle.mathml.specs.Walks.{RowPassed, NodeEnds, InnerPlace}
use Rattle.mathml.proofs.Rows.{row-none, none_left, first, there, behind, sizes, past-node}

-- What is left of the nodes l, whose words are followed by `rest`; `seen` is whether one before them is refused.
pub record Ahead (words text : List ℕ) (from : ℕ) (items : Bool) (l : Nodes) (rest : List ℕ) (at left : ℕ) (seen : Bool) : Type 0 where
  pub nodes : Nodes
  pub laid : Laids nodes
  pub here : drop at words ≡ row_words items nodes ++ rest
  pub many : left ≡ count nodes
  pub size : at + length (row_words items nodes) ≡ from + length (row_words items l)
  pub goes : (seen || refusal11 text nodes) ≡ refusal11 text l

pub record Midway (words text : List ℕ) (from number : ℕ) (items : Bool) (at left : ℕ) (seen : Bool) : Type 0 where
  pub least : from ≤ at
  pub upto : at ≤ length words
  pub ahead : (l : Nodes) (rest : List ℕ) → Laids l → drop from words ≡ row_words items l ++ rest → number ≡ count l
      → Ahead words text from items l rest at left seen

pub begin : (words text : List ℕ) (from number : ℕ) (items : Bool) → from ≤ length words → Midway words text from number items from number false
begin words text from number items h = record {
  least = omega arith;
  upto = h;
  ahead = λ l rest c e n. record { nodes = l; laid = c; here = e; many = n; size = refl; goes = refl };
}

refused-more : (text : List ℕ) (x : T.Node) (m : Nodes) → refusal11 text (x ▸ m) ≡ (refused_node text x || refusal11 text m)
unfolding refusal11
refused-more text x m = refl

refused_end : (text : List ℕ) → refusal11 text end ≡ false
unfolding refusal11
refused_end text = refl

-- The nodes below one are passed, or it has none: where they end, and whether the node or one of them is refused, `known` being said
-- before them.
pub record Below (words text : List ℕ) (o : Opened) (known : Bool) (at : ℕ) (now : Bool) : Type 0 where
  pub passed : Passed
  pub row : RowPassed words text o.from o.count o.items passed
  pub ends : at ≡ passed.at
  pub told : now ≡ (known || passed.refused)

module _ {words text : List ℕ} {from number : ℕ} {items : Bool} {at left : ℕ} {seen : Bool} (w : Midway words text from number items at left seen) where
  pub done : left ≤ 0 → RowPassed words text from number items (record { at = at; refused = seen })
  done z = record {
    least = w.least;
    upto = w.upto;
    read = λ l rest c e n.
        let a = w.ahead l rest c e n in
        let m = none_left a.nodes (omega (arith, a.many)) in
        let s : length (row_words items a.nodes) ≡ 0 = rw m (row-none items) in
        let g : (seen || refusal11 text end) ≡ refusal11 text l = ap (λ (y : Nodes). seen || refusal11 text y) (sym m) ∙ a.goes in
        (omega (arith, a.size), sym (or-false seen) ∙ ap (λ (b : Bool). seen || b) (sym (refused_end text)) ∙ g);
  }

  module _ {l : Nodes} {rest : List ℕ} (a : Ahead words text from items l rest at left seen) (x : T.Node) (m : Nodes) (e : a.nodes ≡ (x ▸ m)) where
    laid : Laids (x ▸ m)
    laid = rw e at a.laid

    row : drop at words ≡ node_words items x ++ (row_words items m ++ rest)
    row = there words at items x m rest (a.here ∙ ap (λ (y : Nodes). row_words items y ++ rest) e)

  -- the next node is passed by way of the one that stands for it
  module _ {p : Place} (i : InnerPlace words at items p) where
    no_end : (y : T.Node) (more : List ℕ) → Laid y → drop p.at words ≡ node_words p.items y ++ more → None ≡ step_at words p.at p.items → ⊥
    no_end (node h k) more c d s =
        let f = (opens words p.at p.items h k more c d).found in
        let y : ◌≡◌ {A = ℕ} 0 1 = cc in
        omega arith

    pub cut : 0 < left → None ≡ step_at words p.at p.items → RowPassed words text from number items (record { at = at; refused = seen })
    cut z s = record {
      least = w.least;
      upto = w.upto;
      read = λ l rest c e n.
          let a = w.ahead l rest c e n in
          let f = first a.nodes (omega (arith, a.many)) in
          let x : T.Node = node f.head f.below in
          let y = i.read x (row_words items f.behind ++ rest) (laid a x f.behind f.are).0 (row a x f.behind f.are) in
          absurd (no_end y.node (row_words items f.behind ++ rest) y.laid y.here s);
    }

    module _ {o : Opened} (e : Some o ≡ step_at words p.at p.items) {known now : Bool} {end : ℕ} (q : Below words text o known end now)
        {next : ℕ} (g : next ≡ past_of (length words) end o.tail) where
      pub less : length words - next < length words - at
      less = let u = step-within words p.at p.items o e in omega (arith, q.row.least, q.row.upto, q.ends, i.least)

      stepped : (y : T.Node) (more : List ℕ) → Laid y → drop p.at words ≡ node_words p.items y ++ more →
          (next ≡ p.at + length (node_words p.items y)) × ((refused_head text (head_at words o.kind o.head) || q.passed.refused) ≡ refused_node text y)
      unfolding refused_node
      stepped (node h k) more c d =
          let f = opens words p.at p.items h k more c d in
          let y : placed_at words p.at p.items ≡ o = let v = f.found in cc in
          let b : Opens words p.at p.items h k more o = rw y at f in
          let low = q.row.read k (tail_words h ++ more) c.1.1 (rw b.sort b.row) b.many in
          let far : q.passed.at ≡ o.from + length (row_words (of_items h) k) = rw b.sort at low.0 in (
            g ∙ past-node words p.at p.items h k more o b d i.upto (q.ends ∙ far),
            λ j. refused_head text (head_at_lem words p.at p.items k more o h c b j) || low.1 j,
          )

      pub more : {own : Bool} → 0 < left → known ≡ (seen || own) → own ≡ refused_head text (head_at words o.kind o.head) →
          Midway words text from number items next (left - 1) now
      more {own} z t r = let u = step-within words p.at p.items o e in record {
        least = omega (arith, q.row.least, q.row.upto, q.ends, w.least, i.least);
        upto = omega arith;
        ahead = λ l rest c d n. let a = w.ahead l rest c d n in let f = first a.nodes (omega (arith, a.many)) in onward a (node f.head f.below) f.behind f.are;
      }
        where
          onward : {l : Nodes} {rest : List ℕ} (a : Ahead words text from items l rest at left seen) (y : T.Node) (m : Nodes)
              → a.nodes ≡ (y ▸ m) → Ahead words text from items l rest next (left - 1) now
          onward {l} {rest} a y m u =
              let tail : List ℕ = row_words items m ++ rest in
              let v = i.read y tail (laid a y m u).0 (row a y m u) in
              let s = stepped v.node tail v.laid v.here in
              let on : next ≡ at + length (node_words items y) = s.0 ∙ v.ends in
              let long : length (row_words items (y ▸ m)) ≡ length (node_words items y) + length (row_words items m) = sizes words at items y m rest in
              let whole : at + length (row_words items (y ▸ m)) ≡ from + length (row_words items l) = rw u at a.size in
              let number : left ≡ suc (count m) = rw u at a.many in
              let all : now ≡ (seen || refused_node text y) =
              q.told
              ∙ ap (λ (b : Bool). b || q.passed.refused) (t ∙ ap (λ (b : Bool). seen || b) r)
              ∙ or_assoc seen (refused_head text (head_at words o.kind o.head)) q.passed.refused
              ∙ ap (λ (b : Bool). seen || b) (s.1 ∙ v.refused text) in
              record {
                nodes = m;
                laid = (laid a y m u).1;
                here = rw on (behind words at items y m rest (row a y m u));
                many = omega arith;
                size = omega arith;
                goes =
                    ap (λ (b : Bool). b || refusal11 text m) all
                    ∙ or_assoc seen (refused_node text y) (refusal11 text m)
                    ∙ ap (λ (b : Bool). seen || b) (sym (refused-more text y m))
                    ∙ ap (λ (k : Nodes). seen || refusal11 text k) (sym u)
                    ∙ a.goes;
              }

-- no node below it
pub none_below : {words text : List ℕ} {o : Opened} {known : Bool} {at : ℕ} {now : Bool} → o.from ≤ length words → o.count ≤ 0 → at ≡ o.from → now ≡ known →
    Below words text o known at now
none_below {words} {text} {o} {known} h z e k = record {
  passed = record { at = o.from; refused = false };
  row = done (begin words text o.from o.count o.items h) z;
  ends = e;
  told = k ∙ sym (or-false known);
}

-- one node
pub ends : (words text : List ℕ) (at : ℕ) {x : Passed} → RowPassed words text at 1 false x → NodeEnds words at x.at
unfolding encode
ends words text at {x} q = record {
  least = q.least;
  upto = q.upto;
  read = λ y rest c e.
      let r = q.read (y ▸ end) rest (c, tt) (e ∙ ap (λ (w : List ℕ). w ++ rest) (sym (append-nil (encode y)))) refl in
      let n = sizes words at false y end rest in
      omega (arith, r.0, row-none false);
}
