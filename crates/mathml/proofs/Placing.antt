-- The parts of a node as the code puts them, and where its children begin.
use Prim.Native.Nat.{ℕ, ◌+◌, ◌≤◌, ◌<◌}
use native.Mathlib.Omega.{arith}
use mathlib.Core.Path.{◌≡◌, refl, sym, ap, ◌∙◌}
use mathlib.Core.Bool.{Bool, true, false, cond, or-false}
use mathlib.Core.List.{List, [], ◌++◌, append-nil}
use lib.Dec.{eqb, leb, ltb}
use lib.ListN.{length, get_or, drop}
use borrow.Author.Tests.{eq-eqb, ne_eqb, eqb-true, lt-ltb}
use Rattle.tokens.proofs.Cases.{by_test, clash}
use Rattle.writer.specs.Put.{Put, most}
use Rattle.writer.proofs.Puts.{none}
use Rattle.tree.specs.declared.walk.Opened.{Opened}
use Rattle.std.proofs.Common.{Some, None}
use Rattle.tree.specs.Tree as T
use Rattle.tree.specs.Tree.{Script, Head, node, Nodes, end, ◌▸◌, count}
use Rattle.tree.specs.Words.{encode}
use Rattle.tree.specs.Decode.{kind_head}
use Rattle.tree.specs.Laid.{Laid}
use Rattle.tree.specs.Walk.{node_words, headed_at, placed_at, past_of, step_at, lines_of, head_at}
use Rattle.tree.proofs.Steps.{step-node, step-within}
use Rattle.tree.proofs.Opens.{Opens, opens}
use Rattle.tree.proofs.Heads.{head_at_lem}
use Rattle.mathml_rules.specs.declared.Mode.{Mode}
use Rattle.mathml_rules.specs.Pieces.{written}
use Rattle.mathml_rules.specs.Mathml.{S, simple_mode, handed, join, out, outs}
use Rattle.mathml_rules.specs.Refusal.{refused_head, refused_node}
use Rattle.mathml_rules.specs.Parts.{opening, closing, before, swaps, cols_of, cells_left}
use Rattle.mathml_heads.proofs.Runs.{then-written, pieces_as}
use Rattle.mathml_heads.proofs.Closings.{close-none}
use Rattle.mathml.specs.declared.place.Place.{Place}
use Rattle.mathml.specs.declared.part.Part.{Part}
use Rattle.mathml.specs.Walks.{begun, row_left, count_at, NodeEnds, ChildPlace, OwnPlace, Inner, InnerPlace, last_part, ChildPut, LastPut, PartPut}

module _ (text : List ℕ) (m : Mode) (h : Head) (i : ℕ) where
  pub begun-opens : i ≡ 0 → opening text m h ≡ begun text m h i
  unfolding begun
  begun-opens e = rw (eq-eqb i 0 e, begun)

  pub begun-on : (i ≡ 0 → ⊥) → [] ≡ written (begun text m h i)
  unfolding begun written
  begun-on e = rw (ne_eqb i 0 e, begun)

module _ (h : Head) (i left : ℕ) where
  pub row-begins : i ≡ 0 → cols_of h ≡ row_left h i left
  unfolding row_left
  row-begins e = rw (eq-eqb i 0 e, row_left)

  pub row-goes_on : (i ≡ 0 → ⊥) → left ≡ row_left h i left
  unfolding row_left
  row-goes_on e = rw (ne_eqb i 0 e, row_left)

-- where a child begins
module _ {words : List ℕ} {swapped : Bool} {from i next : ℕ} where
  pub place-first : swapped ≡ true → from ≤ length words → i ≡ 1 → ChildPlace words swapped from i next from
  place-first t u e = record {
    least = omega arith;
    upto = u;
    start = λ s. clash swapped t s;
    on = λ s. clash swapped t s;
    second = λ s z. absurd (omega arith);
    first = λ s z. refl;
    behind = λ s z. absurd (omega arith);
  }

  pub place-second : {at : ℕ} → swapped ≡ true → i ≡ 0 → NodeEnds words from at → ChildPlace words swapped from i next at
  place-second t e n = record {
    least = n.least;
    upto = n.upto;
    start = λ s. clash swapped t s;
    on = λ s. clash swapped t s;
    second = λ s z. n;
    first = λ s z. absurd (omega arith);
    behind = λ s z. absurd (omega arith);
  }

  pub place-behind : {e at : ℕ} → swapped ≡ true → (i ≡ 1 → ⊥) → (i ≡ 0 → ⊥) → NodeEnds words from e → NodeEnds words e at → ChildPlace words swapped from i next at
  place-behind {e} t f g n k = record {
    least = omega (arith, n.least, k.least);
    upto = k.upto;
    start = λ s. clash swapped t s;
    on = λ s. clash swapped t s;
    second = λ s z. absurd (g z);
    first = λ s z. absurd (f z);
    behind = λ s z. (e, (n, k));
  }

  pub place-start : swapped ≡ false → from ≤ length words → next < from → ChildPlace words swapped from i next from
  place-start t u h = record {
    least = omega arith;
    upto = u;
    start = λ s z. refl;
    on = λ s z. absurd (omega arith);
    second = λ s. clash swapped s t;
    first = λ s. clash swapped s t;
    behind = λ s. clash swapped s t;
  }

  pub place-on : swapped ≡ false → next ≤ length words → from ≤ next → ChildPlace words swapped from i next next
  place-on t u h = record {
    least = h;
    upto = u;
    start = λ s z. omega arith;
    on = λ s z. refl;
    second = λ s. clash swapped s t;
    first = λ s. clash swapped s t;
    behind = λ s. clash swapped s t;
  }

-- the node itself
pub inner-same : (words : List ℕ) (at : ℕ) (items : Bool) → at ≤ length words → InnerPlace words at items (record { at = at; items = items })
inner-same words at items h = record {
  least = omega arith;
  upto = h;
  read = λ x more c e.
      record { node = x; laid = c; whole = λ v. v; here = e; ends = refl; same = λ text m. refl; refused = λ text. refl };
}

-- what tells a simple without script
pub bare-head : (words : List ℕ) (kind head : ℕ) {own : List ℕ} {held : ℕ} → kind ≡ 13 → own ≡ drop head words → held ≡ get_or own 3 0 → eqb held 0 ≡ true →
    head_at words kind head ≡ Head.simple Script.none
unfolding head_at kind_head
bare-head words kind head {own} {held} k w h e =
    let z : get_or (drop head words) 3 0 ≡ 0 = sym (ap (λ (x : List ℕ). get_or x 3 0) w) ∙ sym h ∙ eqb-true held 0 e in rw (k, z)

-- the node in a simple without script
bare-out : (text : List ℕ) (m : Mode) (y : T.Node) → out text m y ≡ out text m (node (Head.simple Script.none) (y ▸ end))
unfolding out join S outs handed simple_mode
bare-out text m y = refl

bare-refused : (text : List ℕ) (y : T.Node) → refused_node text y ≡ refused_node text (node (Head.simple Script.none) (y ▸ end))
unfolding refused_node refused_head
bare-refused text y = sym (or-false (refused_node text y))

module _ (words : List ℕ) (at : ℕ) (items : Bool) (o : Opened) (e : Some o ≡ step_at words at items) (b : head_at words o.kind o.head ≡ Head.simple Script.none) where
  abbrev place : Place
  place = record { at = o.from; items = false }

  bare-main : (l : Nodes) (more : List ℕ) → Laid (node (Head.simple Script.none) l) → Opens words at items (Head.simple Script.none) l more o →
      Inner words at items (node (Head.simple Script.none) l) more place
  unfolding encode
  bare-main end more c q = absurd (omega (arith, c.0))
  bare-main (y ▸ end) more c q =
      let w = append-nil (encode y) in
      record {
        node = y;
        laid = c.1.1.0;
        whole = λ v. v.1.0;
        here = q.row ∙ ap (λ (z : List ℕ). z ++ more) w;
        ends = omega (arith, q.next, ap length w);
        same = λ text m. bare-out text m y;
        refused = λ text. bare-refused text y;
      }
  bare-main (y ▸ z ▸ l) more c q = absurd (omega (arith, c.0))

  by_node : (x : T.Node) (more : List ℕ) → Laid x → drop at words ≡ node_words items x ++ more → Inner words at items x more place
  by_node (node h l) more c d =
      let p = opens words at items h l more c d in
      let s : placed_at words at items ≡ o = let f = p.found in cc in
      let q : Opens words at items h l more o = rw s at p in
      let k : h ≡ Head.simple Script.none = sym (head_at_lem words at items l more o h c q) ∙ b in
      rw k (bare-main l more (rw k at c) (rw k at q))

  inner-bare : InnerPlace words at items place
  inner-bare = let u = step-within words at items o e in record { least = omega (arith, u.on); upto = u.upto; read = by_node }

-- A leaf has no nodes below it, and no words behind them.
headed-leaf : (words : List ℕ) (head : ℕ) → get_or words head 0 < 8 → ((headed_at words head).count ≡ 0) × ((headed_at words head).tail ≡ 0)
unfolding headed_at
headed-leaf words head k = (rw (lt-ltb (get_or words head 0) 8 k), rw (ne_eqb (get_or words head 0) 16 (λ e. omega arith)))

placed-leaf : (words : List ℕ) (at : ℕ) (items : Bool) → (placed_at words at items).kind < 8 →
    ((placed_at words at items).count ≡ 0) × ((placed_at words at items).tail ≡ 0)
unfolding placed_at headed_at
placed-leaf words at false k = headed-leaf words at k
placed-leaf words at true k = by_test (eqb (get_or words at 0) 1) (λ t. absurd (fraction t)) (λ t. item t)
  where
    fraction : eqb (get_or words at 0) 1 ≡ true → ⊥
    fraction t = let k₁ : 18 < 8 = rw t at k in omega arith

    item : eqb (get_or words at 0) 1 ≡ false → ((placed_at words at true).count ≡ 0) × ((placed_at words at true).tail ≡ 0)
    item t = let k₁ : get_or words (at + 1) 0 < 8 = rw t at k in rw t (headed-leaf words (at + 1) k₁)

placed-is : (words : List ℕ) (at : ℕ) (items : Bool) (o : Opened) → Some o ≡ step_at words at items → placed_at words at items ≡ o
unfolding step_at
placed-is words at items o e = go (ltb at (length words)) (leb (placed_at words at items).from (length words)) e
  where
    go : (a b : Bool) → Some o ≡ cond a (cond b (Some (placed_at words at items)) None) None → placed_at words at items ≡ o
    go true true e = cc
    go true false e = let y : ◌≡◌ {A = ℕ} 0 1 = cc in absurd (omega arith)
    go false b e = let y : ◌≡◌ {A = ℕ} 0 1 = cc in absurd (omega arith)

-- and nothing closes it
leaf-closing : (text words : List ℕ) (m : Mode) (kind head : ℕ) → kind < 8 → [] ≡ closing text m (head_at words kind head)
unfolding head_at
leaf-closing text words m kind head k =
    close-none text (drop head words) (lines_of words (headed_at words head)) m kind
    (λ e. omega arith) (λ e. omega arith) (λ e. omega arith) (λ e. omega arith) (λ e. omega arith) (λ e. omega arith)
    (λ e. omega arith) (λ e. omega arith) (λ e. omega arith) (λ e. omega arith) (λ e. omega arith)

-- the own words of a node
module _ (words : List ℕ) (at : ℕ) where
  pub own-none : (items : Bool) → OwnPlace words at items (length words)
  own-none items = record { upto = omega arith; read = λ l. absurd (omega arith) }

  pub own-item : {items : Bool} → items ≡ true → at < length words → (get_or words at 0 ≡ 1 → ⊥) → OwnPlace words at items (at + 1)
  unfolding placed_at
  own-item e h n = record { upto = omega arith; read = λ l. (h, rw (e, ne_eqb (get_or words at 0) 1 n)) }

  pub own-plain : {items : Bool} → items ≡ false → at ≤ length words → OwnPlace words at items at
  unfolding placed_at
  own-plain e h = record { upto = h; read = λ l. (l, rw e) }

module _ (words : List ℕ) (at : ℕ) (items : Bool) {head : ℕ} (w : OwnPlace words at items head) where
  pub leaf-count : head < length words → get_or words head 0 < 8 → count_at words at items ≡ 0
  unfolding count_at step_at
  leaf-count l k =
      counts (ltb at (length words)) (leb (placed_at words at items).from (length words))
      (ap (λ (o : Opened). o.count) (w.read l).1 ∙ (headed-leaf words head k).0)
    where
      counts : (a b : Bool) → (placed_at words at items).count ≡ 0 →
          ◌≡◌ {A = ℕ} (elim (cond a (cond b (Some (placed_at words at items)) None) None) [ None ↦ 0 | Some o ↦ o.count ]) 0
      counts true true h = h
      counts true false h = refl
      counts false b h = refl

  pub inner-simple : {kind : ℕ} → kind ≡ get_or words head 0 → (kind ≡ 13) × (head_at words kind head ≡ Head.simple Script.none) → head + 6 ≤ length words →
      InnerPlace words at items (record { at = head + 6; items = false })
  unfolding headed_at
  inner-simple k b f =
      let e : get_or words head 0 ≡ 13 = sym k ∙ b.0 in
      let six : (headed_at words head).from ≡ head + 6 = rw e in
      let p = w.read (omega arith) in
      let s = step-node words at items p.0 (sym p.1) (omega (arith, six)) in
      rw (six) at (inner-bare words at items (headed_at words head) s (ap (λ (x : ℕ). head_at words x head) (sym k) ∙ b.1))

same-node : (words : List ℕ) (at : ℕ) (items : Bool) (o o₁ : Opened) → Some o ≡ step_at words at items → Some o₁ ≡ step_at words at items → o ≡ o₁
same-node words at items o o₁ e s = cc

counted : (words : List ℕ) (at : ℕ) (items : Bool) (o : Opened) → Some o ≡ step_at words at items → count_at words at items ≡ o.count
unfolding count_at
counted words at items o e = rw (← e, count_at)

-- the part that closes a node
pub last-put : {words text start after : List ℕ} {place kind head at tail ends close : ℕ} {m : Mode} {p : Part} → p ≡ last_part ends close m →
    ends ≡ past_of (length words) at tail → Put start place after close (written (closing text m (head_at words kind head))) →
    LastPut words text start place kind head m at tail after p
last-put t u q = rw t (record { more = refl; ends = u; put = q })

-- a part of the node that a step of the walk has opened
module _ (words text start : List ℕ) (place at : ℕ) (items : Bool) (m : Mode) (i left next : ℕ) where
  pub part_end : at ≤ length words → None ≡ step_at words at items → {p : Part} → place ≤ most → p ≡ last_part at place m →
      PartPut words text start place at items m i left next start p
  part_end h e z t = rw t (record {
    least = omega arith;
    upto = h;
    fits = z;
    deeper = λ d. clash false d refl;
    same = refl;
    child = λ o s. no o s;
    last = λ o s. no o s;
  })
    where
      no : {A : Type 0} (o : Opened) → Some o ≡ step_at words at items → A
      no o s = let y : ◌≡◌ {A = ℕ} 0 1 = cc in absurd (omega arith)

  module _ (o : Opened) (e : Some o ≡ step_at words at items) {out₁ : List ℕ} {begins child : ℕ}
      (b : Put start place out₁ begins (written (begun text m (head_at words o.kind o.head) i)))
      (k : ChildPlace words (swaps text (head_at words o.kind o.head)) o.from i next child) where
    pub part-child : {row : ℕ} {p : Part} {out₂ : List ℕ} → i < o.count → i < most → row ≡ row_left (head_at words o.kind o.head) i left →
        ChildPut words text out₁ begins o.kind o.head m i row child o.items out₂ p → PartPut words text start place at items m i left next out₂ p
    part-child {row} {p} f z j q =
        let h : Head = head_at words o.kind o.head in
        let u = step-within words at items o e in
        record {
          least = omega (arith, u.on, k.least, q.place.least);
          upto = q.place.upto;
          fits = omega (arith, q.put.count);
          deeper = λ t. (omega (arith, u.on, k.least, q.place.least), (rw (counted words at items o e) f, z));
          same = q.put.same ∙ b.same;
          child = λ o₁ s f₁. rw (← (same-node words at items o o₁ e s)) (
            q.more,
            q.mode,
            q.row ∙ ap (cells_left (cols_of h)) j,
            (child, (k, q.place)),
            then-written _ _ b (pieces_as (ap (before text h i) j) q.put),
          );
          last = λ o₁ s f₁. absurd (over o₁ (same-node words at items o o₁ e s) f₁);
        }
      where
        over : (o₁ : Opened) → o ≡ o₁ → o₁.count ≤ i → ⊥
        over o₁ s f₁ = let z : o.count ≡ o₁.count = ap (λ (x : Opened). x.count) s in omega arith

    pub part-last : {p : Part} {out₂ : List ℕ} → o.count ≤ i → LastPut words text out₁ begins o.kind o.head m child o.tail out₂ p →
        PartPut words text start place at items m i left next out₂ p
    part-last {p} f q =
        let u = step-within words at items o e in
        record {
          least = omega (arith, u.on, k.least, k.upto, q.ends);
          upto = omega (arith, q.ends);
          fits = omega (arith, q.put.count);
          deeper = λ t. clash p.more t q.more;
          same = q.put.same ∙ b.same;
          child = λ o₁ s f₁. absurd (under o₁ (same-node words at items o o₁ e s) f₁);
          last = λ o₁ s f₁. rw (← (same-node words at items o o₁ e s)) (q.more, (child, (k, q.ends)), then-written _ _ b q.put);
        }
      where
        under : (o₁ : Opened) → o ≡ o₁ → i < o₁.count → ⊥
        under o₁ s f₁ = let z : o.count ≡ o₁.count = ap (λ (x : Opened). x.count) s in omega arith

    pub part-leaf : {p : Part} → o.kind < 8 → p ≡ last_part child begins m → PartPut words text start place at items m i left next out₁ p
    unfolding written
    part-leaf f t =
        let s = placed-is words at items o e in
        let l = placed-leaf words at items (rw (← s) at f) in
        let none-there : o.count ≡ 0 = ap (λ (x : Opened). x.count) (sym s) ∙ l.0 in
        let no_tail : o.tail ≡ 0 = ap (λ (x : Opened). x.tail) (sym s) ∙ l.1 in
        part-last (omega arith) (last-put t (omega (arith, k.upto)) (pieces_as (leaf-closing text words m o.kind o.head f)
        (none out₁ begins (omega (arith, b.fits, b.same)) (omega (arith, b.count)))))
