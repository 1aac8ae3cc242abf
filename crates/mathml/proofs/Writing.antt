-- A node written front to back: what opens it, its children one after the other, each behind what stands before it, what closes it.
use Prim.Native.Nat.{ℕ, suc, ◌+◌, ◌≤◌, ◌<◌}
use native.Mathlib.Omega.{arith}
use native.Mathlib.Numerals.{add-one}
use mathlib.Core.Path.{◌≡◌, refl, sym, ap, ◌∙◌}
use mathlib.Core.Bool.{Bool, true, false}
use mathlib.Core.List.{List, [], ◌++◌, append_assoc, append-nil}
use lib.ListN.{length, drop, length-append}
use lib.Seq.{drop-drop, drop-append_seam}
use borrow.Author.Tests.{ne_eqb}
use Rattle.tokens.specs.Lexeme.{Span}
use Rattle.tokens.proofs.Cases.{by_test, by_lt, clash}
use Rattle.writer.specs.Put.{Put, most}
use Rattle.writer.proofs.Puts.{none}
use Rattle.tree.specs.declared.walk.Opened.{Opened}
use Rattle.std.proofs.Common.{Some}
use Rattle.tree.specs.Tree as T
use Rattle.tree.specs.Tree.{Head, Prefix, node, Nodes, end, ◌▸◌, count}
use Rattle.tree.specs.Words.{tail_words, of_items, encode}
use Rattle.tree.specs.Walk.{row_words, node_words, placed_at, step_at, head_at}
use Rattle.tree.specs.Laid.{Laid, Laids}
use Rattle.tree.proofs.Steps.{step-within}
use Rattle.tree.proofs.Opens.{Opens, opens}
use Rattle.tree.proofs.Heads.{head_at_lem}
use Rattle.mathml_rules.specs.declared.Mode.{Mode}
use Rattle.mathml_rules.specs.declared.Mode.TheVariants as mode
use Rattle.mathml_rules.specs.Pieces.{Piece, written}
use Rattle.mathml_rules.specs.Mathml.{handed, out, outs}
use Rattle.mathml_rules.specs.Parts.{opening, closing, before, woven, swaps, between, cols_of, cells_left, Whole, Wholes}
use Rattle.mathml_rules.proofs.Parts.{in_parts}
use Rattle.mathml_heads.proofs.Runs.{then-written, pieces_as}
use Rattle.mathml.specs.declared.part.Part.{Part}
use Rattle.mathml.specs.declared.node.Reached.{Reached}
use Rattle.mathml.specs.Walks.{begun, row_left, count_at, ChildPlace, PartPut, NodePut}
use Rattle.mathml.proofs.Rows.{row-none, none_left, first, there, behind, sizes, past-node}

-- A node whose words stand at `at`, as a step of the walk opens it.
record Found (words : List ℕ) (at : ℕ) (items : Bool) (h : Head) (l : Nodes) (rest : List ℕ) : Type 0 where
  opens : Opens words at items h l rest (placed_at words at items)
  is : head_at words (placed_at words at items).kind (placed_at words at items).head ≡ h

found : (words : List ℕ) (at : ℕ) (items : Bool) (h : Head) (l : Nodes) (rest : List ℕ) → Laid (node h l) →
    drop at words ≡ node_words items (node h l) ++ rest → Found words at items h l rest
found words at items h l rest c d =
    let p = opens words at items h l rest c d in
    record { opens = p; is = head_at_lem words at items l rest (placed_at words at items) h c p }

-- The children of a node in the order in which they are written, from turn i on: as they stand, or exchanged.
pub data Turn : Nodes → ℕ → Nodes → Type 0 where
  on_second : {x y : T.Node} → Turn (x ▸ y ▸ end) 0 (y ▸ x ▸ end)
  on_first : {x y : T.Node} → Turn (x ▸ y ▸ end) 1 (x ▸ end)
  on_none : {x y : T.Node} → Turn (x ▸ y ▸ end) 2 end

-- only a binary command exchanges its two children
binary-only : (text : List ℕ) (h : Head) → swaps text h ≡ true → (sp : Span) × (h ≡ Head.prefix Prefix.binary sp)
unfolding swaps
binary-only text Head.missing t = clash false t refl
binary-only text (Head.atom k sp) t = clash false t refl
binary-only text (Head.prefix Prefix.signed sp) t = clash false t refl
binary-only text (Head.prefix Prefix.ssigned sp) t = clash false t refl
binary-only text (Head.prefix Prefix.unary sp) t = clash false t refl
binary-only text (Head.prefix Prefix.sfunc sp) t = clash false t refl
binary-only text (Head.prefix Prefix.binary sp) t = (sp, refl)
binary-only text (Head.simple sc) t = clash false t refl
binary-only text (Head.func sp sc) t = clash false t refl
binary-only text Head.frac t = clash false t refl
binary-only text Head.cell t = clash false t refl
binary-only text (Head.group f g) t = clash false t refl
binary-only text (Head.matrix f g k ls) t = clash false t refl

exchanged : (l : Nodes) → count l ≡ 2 → (m : Nodes) × (Turn l 0 m × (count m ≡ 2))
exchanged end e = absurd (omega arith)
exchanged (x ▸ end) e = absurd (omega arith)
exchanged (x ▸ y ▸ end) e = (y ▸ x ▸ end, (Turn.on_second, refl))
exchanged (x ▸ y ▸ w ▸ l) e = absurd (omega arith)

-- the two children in the words
module _ (words : List ℕ) (from : ℕ) (x y : T.Node) (rest : List ℕ) (e : drop from words ≡ row_words false (x ▸ y ▸ end) ++ rest) where
  both_words : drop from words ≡ encode x ++ (encode y ++ rest)
  unfolding encode
  both_words = e ∙ simp (append_assoc, append-nil)

  behind-first : {at : ℕ} → at ≡ from + length (encode x) → drop at words ≡ encode y ++ rest
  behind-first u =
      rw u
      (sym (drop-drop (length (encode x)) from words) ∙ ap (drop (length (encode x))) both_words ∙ drop-append_seam (encode x) (encode y ++ rest))

  both-size : length (row_words false (x ▸ y ▸ end)) ≡ length (encode x) + length (encode y)
  unfolding encode
  both-size = ap (λ (w : List ℕ). length (encode x ++ w)) (append-nil (encode y)) ∙ length-append (encode x) (encode y)

-- the first of some nodes is their first, and the others are the others
heads-same : {x y : T.Node} {l m : Nodes} → (x ▸ l) ≡ (y ▸ m) → (x ≡ y) × (l ≡ m)
heads-same e = (cc, cc)

module _ (words : List ℕ) (from next at : ℕ) (rest : List ℕ) where
  -- the child of a turn
  turn-child : {l n : Nodes} {i : ℕ} → Turn l i n → Laids l → drop from words ≡ row_words false l ++ rest → ChildPlace words true from i next at →
      (x : T.Node) (ms : Nodes) → n ≡ (x ▸ ms) → (more : List ℕ) × (drop at words ≡ encode x ++ more)
  turn-child (Turn.on_second {x = x} {y = y}) c e k z ms u =
      let f = heads-same u in
      let n = (k.second refl refl).read x (encode y ++ rest) c.0 (both_words words from x y rest e) in
      (rest, behind-first words from x y rest e n ∙ ap (λ (w : T.Node). encode w ++ rest) f.0)
  turn-child (Turn.on_first {x = x} {y = y}) c e k z ms u =
      let f = heads-same u in
      (encode y ++ rest, rw (k.first refl refl) (both_words words from x y rest e ∙ ap (λ (w : T.Node). encode w ++ (encode y ++ rest)) f.0))
  turn-child Turn.on_none c e k z ms u = absurd (no_more u)
    where
      no_more : end ≡ (z ▸ ms) → ⊥
      no_more v = let y : ◌≡◌ {A = ℕ} 0 1 = cc in absurd (omega arith)

  -- where the last of two exchanged children ends
  turn_end : {l : Nodes} {i : ℕ} → Turn l i end → Laids l → drop from words ≡ row_words false l ++ rest → ChildPlace words true from i next at →
      at ≡ from + length (row_words false l)
  turn_end (Turn.on_none {x = x} {y = y}) c e k =
      let b = k.behind refl (omega arith) in
      let n = b.1.0.read x (encode y ++ rest) c.0 (both_words words from x y rest e) in
      let o = b.1.1.read y rest c.1.0 (behind-first words from x y rest e n) in
      omega (arith, n, o, both-size words from x y rest e)

turn_on : {l n : Nodes} {i : ℕ} → Turn l i n → (x : T.Node) (ms : Nodes) → n ≡ (x ▸ ms) → Turn l (suc i) ms
turn_on (Turn.on_second {x = x} {y = y}) z ms u = let f = heads-same u in rw (← f.1) Turn.on_first
turn_on (Turn.on_first {x = x} {y = y}) z ms u = let f = heads-same u in rw (← f.1) Turn.on_none
turn_on Turn.on_none z ms u = let y : ◌≡◌ {A = ℕ} 0 1 = cc in absurd (omega arith)

-- the pieces of a node whose two children are exchanged
swapped_pieces : (text : List ℕ) (m : Mode) (sp : Span) (x y : T.Node) → swaps text (Head.prefix Prefix.binary sp) ≡ true →
    between text (Head.prefix Prefix.binary sp) (outs text m (Head.prefix Prefix.binary sp) 0 (x ▸ y ▸ end))
    ≡ woven text (Head.prefix Prefix.binary sp) 0 0 (outs text m (Head.prefix Prefix.binary sp) 0 (y ▸ x ▸ end))
unfolding between outs handed woven before
swapped_pieces text m sp x y t = rw (t, between) (ap (λ (w : List Piece). out text mode.Argument y ++ w) (sym (append-nil (out text mode.Argument x))))

turned-pieces : (text : List ℕ) (m : Mode) (sp : Span) {l n : Nodes} → Turn l 0 n → swaps text (Head.prefix Prefix.binary sp) ≡ true →
    between text (Head.prefix Prefix.binary sp) (outs text m (Head.prefix Prefix.binary sp) 0 l)
    ≡ woven text (Head.prefix Prefix.binary sp) 0 0 (outs text m (Head.prefix Prefix.binary sp) 0 n)
turned-pieces text m sp (Turn.on_second {x = x} {y = y}) t = swapped_pieces text m sp x y t

plain-pieces : (text : List ℕ) (h : Head) → swaps text h ≡ false → (cs : List (List Piece)) → between text h cs ≡ woven text h 0 (cols_of h) cs
unfolding between
plain-pieces text h s cs = rw (s, between)

-- the children of a node from turn i on: one more, and no more
module _ (text : List ℕ) (m : Mode) (h : Head) where
  one_more : (x : T.Node) (ms : Nodes) (i left : ℕ) →
      woven text h i left (outs text m h i (x ▸ ms))
      ≡ before text h i left ++ (out text (handed text m h i) x ++ woven text h (suc i) (cells_left (cols_of h) left) (outs text m h (suc i) ms))
  unfolding woven outs
  one_more x ms i left = refl

  nothing-more : (i left : ℕ) → woven text h i left (outs text m h i end) ≡ []
  unfolding woven outs
  nothing-more i left = refl

  begun-none : (i : ℕ) → begun text m h (suc i) ≡ []
  unfolding begun
  begun-none i = rw (ne_eqb (suc i) 0 (λ z. omega arith), begun)

  begun_first : begun text m h 0 ≡ opening text m h
  unfolding begun
  begun_first = refl

  row-later : (i left : ℕ) → row_left h (suc i) left ≡ left
  unfolding row_left
  row-later i left = rw (ne_eqb (suc i) 0 (λ z. omega arith), row_left)

  row_first : (left : ℕ) → row_left h 0 left ≡ cols_of h
  unfolding row_left
  row_first left = refl

-- the same pieces, bracketed in another way
regroup : (d b f x w c : List Piece) → (d ++ ((b ++ f) ++ x)) ++ (w ++ c) ≡ d ++ (b ++ ((f ++ (x ++ w)) ++ c))
regroup d b f x w c = simp append_assoc

step-pieces : (text : List ℕ) (m : Mode) (h : Head) (x : T.Node) (ms : Nodes) (i left new : ℕ) (done : List Piece) → new ≡ cells_left (cols_of h) (row_left h i left) →
    (done ++ ((begun text m h i ++ before text h i (row_left h i left)) ++ out text (handed text m h i) x))
    ++ (begun text m h (i + 1) ++ (woven text h (i + 1) (row_left h (i + 1) new) (outs text m h (i + 1) ms) ++ closing text m h))
    ≡ done ++ (begun text m h i ++ (woven text h i (row_left h i left) (outs text m h i (x ▸ ms)) ++ closing text m h))
step-pieces text m h x ms i left new done e =
    let row : ℕ = row_left h i left in
    rw (add-one, begun-none text m h i, row-later text m h i new, e)
    (regroup done (begun text m h i) (before text h i row) (out text (handed text m h i) x) (woven text h (suc i) (cells_left (cols_of h) row) (outs text m h (suc i) ms)) (closing text m h)
    ∙ ap (λ (z : List Piece). done ++ (begun text m h i ++ (z ++ closing text m h))) (sym (one_more text m h x ms i row)))

module _ (words text start : List ℕ) (at : ℕ) (items : Bool) (place : ℕ) (m : Mode) where
  -- What is left of a node whose words are followed by `rest`, from turn i on: `done` is put.
  pub record Ahead (h : Head) (l : Nodes) (rest after : List ℕ) (next to left i : ℕ) : Type 0 where
    pub nodes : Nodes
    pub laid : Laids nodes
    pub whole : Wholes nodes
    pub many : i + count nodes ≡ count l
    -- where the next child begins
    pub here : swaps text h ≡ false → (a : ℕ) → (next ≤ (placed_at words at items).from → a ≡ (placed_at words at items).from) →
        ((placed_at words at items).from ≤ next → a ≡ next) → drop a words ≡ row_words (of_items h) nodes ++ (tail_words h ++ rest)
    pub size : swaps text h ≡ false → (a : ℕ) → (next ≤ (placed_at words at items).from → a ≡ (placed_at words at items).from) →
        ((placed_at words at items).from ≤ next → a ≡ next) →
        a + length (row_words (of_items h) nodes) ≡ (placed_at words at items).from + length (row_words (of_items h) l)
    pub turn : swaps text h ≡ true → Turn l i nodes
    pub done : List Piece
    pub put : Put start place after to (written done)
    pub goes : done ++ (begun text m h i ++ (woven text h i (row_left h i left) (outs text m h i nodes) ++ closing text m h)) ≡ out text m (node h l)

  pub record Midway (after : List ℕ) (next to left i : ℕ) : Type 0 where
    pub least : at ≤ next
    pub upto : next ≤ length words
    pub fits : length start ≤ most
    pub same : length after ≡ length start
    pub ahead : (h : Head) (l : Nodes) (rest : List ℕ) → Laid (node h l) → Whole (node h l) → drop at words ≡ node_words items (node h l) ++ rest →
        Ahead h l rest after next to left i

  begin-plain : (h : Head) (l : Nodes) (rest : List ℕ) → Laid (node h l) → Whole (node h l) → drop at words ≡ node_words items (node h l) ++ rest →
      swaps text h ≡ false → length start ≤ most → place ≤ most → Ahead h l rest start at place 0 0
  unfolding written
  begin-plain h l rest c v d s f k =
      let g = found words at items h l rest c d in
      let u = step-within words at items (placed_at words at items) (sym g.opens.found) in
      record {
        nodes = l;
        laid = c.1.1;
        whole = v.1;
        many = omega arith;
        here = λ t a p q. rw (p (omega (arith, u.on))) g.opens.row;
        size = λ t a p q. rw (p (omega (arith, u.on)));
        turn = λ t. clash (swaps text h) t s;
        done = [];
        put = none start place f k;
        goes =
            rw (begun_first text m h, row_first text m h 0)
            (ap (λ (x : List Piece). opening text m h ++ (x ++ closing text m h)) (sym (plain-pieces text h s (outs text m h 0 l)))
            ∙ sym (in_parts text m h l c.0 v.0));
      }

  begin-swapped : (sp : Span) (l : Nodes) (rest : List ℕ) → let h = Head.prefix Prefix.binary sp in Laid (node h l) → Whole (node h l) →
      swaps text h ≡ true → length start ≤ most → place ≤ most → Ahead h l rest start at place 0 0
  unfolding written
  begin-swapped sp l rest c v s f k =
      let h : Head = Head.prefix Prefix.binary sp in
      let t = exchanged l c.0 in
      let both : Laids t.0 × Wholes t.0 = turned t.1.0 c.1.1 v.1 in
      record {
        nodes = t.0;
        laid = both.0;
        whole = both.1;
        many = omega (arith, t.1.1, c.0);
        here = λ z. clash (swaps text h) s z;
        size = λ z. clash (swaps text h) s z;
        turn = λ z. t.1.0;
        done = [];
        put = none start place f k;
        goes =
            rw (begun_first text m h, row_first text m h 0)
            (ap (λ (x : List Piece). opening text m h ++ (x ++ closing text m h)) (sym (turned-pieces text m sp t.1.0 s))
            ∙ sym (in_parts text m h l c.0 v.0));
      }
    where
      turned : {l n : Nodes} → Turn l 0 n → Laids l → Wholes l → Laids n × Wholes n
      turned Turn.on_second c v = ((c.1.0, (c.0, tt)), (v.1.0, (v.0, tt)))

  begin-any : length start ≤ most → place ≤ most → (h : Head) (l : Nodes) (rest : List ℕ) → Laid (node h l) → Whole (node h l) →
      drop at words ≡ node_words items (node h l) ++ rest → Ahead h l rest start at place 0 0
  begin-any f k h l rest c v d =
      by_test (swaps text h)
      (λ t.
      let b = binary-only text h t in
      rw b.1 (begin-swapped b.0 l rest (rw b.1 at c) (rw b.1 at v) (rw b.1 at t) f k))
      (λ s. begin-plain h l rest c v d s f k)

  pub begin : at ≤ length words → length start ≤ most → place ≤ most → Midway start at place 0 0
  begin h f k = record { least = omega arith; upto = h; fits = f; same = refl; ahead = begin-any f k }

  module _ {after : List ℕ} {next to left i : ℕ} (w : Midway after next to left i) {out₁ : List ℕ} {p : Part}
      (q : PartPut words text after to at items m i left next out₁ p) where
    -- the node that a step of the walk has opened
    module _ (h : Head) (l : Nodes) (rest : List ℕ) (c : Laid (node h l)) (v : Whole (node h l)) (d : drop at words ≡ node_words items (node h l) ++ rest) where
      a : Ahead h l rest after next to left i
      a = w.ahead h l rest c v d

      g : Found words at items h l rest
      g = found words at items h l rest c d

      abbrev o : Opened
      o = placed_at words at items

      seen : Some o ≡ step_at words at items
      seen = sym g.opens.found

      -- the child of this turn, wherever it stands
      record Child (e : ℕ) (x : T.Node) : Type 0 where
        more : List ℕ
        here : drop e words ≡ node_words (of_items h) x ++ more

      -- the child at the next place of a row
      plain-child : {e : ℕ} → swaps text h ≡ false → (x : T.Node) (ms : Nodes) → a.nodes ≡ (x ▸ ms) → ChildPlace words (swaps text h) o.from i next e → Child e x
      plain-child {e = e₁} s x ms u k =
          let e = a.here s e₁ (k.start s) (k.on s) in
          record {
            more = row_words (of_items h) ms ++ (tail_words h ++ rest);
            here = there words e₁ (of_items h) x ms (tail_words h ++ rest) (e ∙ ap (λ (y : Nodes). row_words (of_items h) y ++ (tail_words h ++ rest)) u);
          }

      swapped_child : {e : ℕ} → swaps text h ≡ true → (x : T.Node) (ms : Nodes) → a.nodes ≡ (x ▸ ms) → ChildPlace words (swaps text h) o.from i next e → Child e x
      swapped_child {e = e₁} s x ms u k =
          let b = binary-only text h s in
          let flat : of_items h ≡ false = rw b.1 refl in
          let none : tail_words h ≡ [] = rw b.1 refl in
          let row : drop o.from words ≡ row_words false l ++ rest = g.opens.row ∙ (λ j. row_words (flat j) l ++ (none j ++ rest)) in
          let r = turn-child words o.from next e₁ rest (a.turn s) c.1.1 row (rw s at k) x ms u in
          record { more = r.0; here = r.1 ∙ ap (λ (t : Bool). node_words t x ++ r.0) (sym flat) }

      a_child : {e : ℕ} (x : T.Node) (ms : Nodes) → a.nodes ≡ (x ▸ ms) → ChildPlace words (swaps text h) o.from i next e → Child e x
      a_child x ms u k = by_test (swaps text h) (λ s. swapped_child s x ms u k) (λ s. plain-child s x ms u k)

      module _ {out₂ : List ℕ} {r : Reached} (n : NodePut words text out₁ p.at p.items p.end p.mode out₂ r) (f : i < o.count) where
        onward : (x : T.Node) (ms : Nodes) → a.nodes ≡ (x ▸ ms) → Ahead h l rest out₂ r.at r.end p.left (i + 1)
        onward x ms u =
            let b = q.child o seen f in
            let e₁ : ℕ = b.3.0 in
            let k : ChildPlace words (swaps text h) o.from i next e₁ = rw g.is at b.3.1.0 in
            let c₁ : Laids (x ▸ ms) = rw u at a.laid in
            let v₁ : Wholes (x ▸ ms) = rw u at a.whole in
            let y = a_child x ms u k in
            let sort : o.items ≡ of_items h = g.opens.sort in
            let z = b.3.1.1.read x y.more c₁.0 (y.here ∙ ap (λ (t : Bool). node_words t x ++ y.more) (sym sort)) in
            let read = n.read z.node y.more z.laid (z.whole v₁.0) z.here in
            let on : r.at ≡ e₁ + length (node_words (of_items h) x) = read.0 ∙ z.ends ∙ ap (λ (t : Bool). e₁ + length (node_words t x)) sort in
            let tail : List ℕ = tail_words h ++ rest in
            let row : swaps text h ≡ false → drop e₁ words ≡ node_words (of_items h) x ++ (row_words (of_items h) ms ++ tail) =
            λ s. there words e₁ (of_items h) x ms tail (a.here s e₁ (k.start s) (k.on s) ∙ ap (λ (z : Nodes). row_words (of_items h) z ++ tail) u) in
            let sizes-are = sizes words e₁ (of_items h) x ms tail in
            let number : i + suc (count ms) ≡ count l = rw u at a.many in
            let mode-is : p.mode ≡ handed text m h i = b.1 ∙ ap (λ (z : Head). handed text m z i) g.is in
            let left_is : p.left ≡ cells_left (cols_of h) (row_left h i left) = b.2 ∙ ap (λ (z : Head). cells_left (cols_of z) (row_left z i left)) g.is in
            let front : List Piece = begun text m h i ++ before text h i (row_left h i left) in
            let mine : List Piece = out text (handed text m h i) x in
            let put_front : Put after to out₁ p.end (written front) =
            pieces_as (ap (λ (z : Head). begun text m z i ++ before text z i (row_left z i left)) g.is) b.4 in
            let put-mine : Put out₁ p.end out₂ r.end (written mine) = pieces_as (z.same text p.mode ∙ ap (λ (w : Mode). out text w x) mode-is) read.1 in
            record {
              nodes = ms;
              laid = c₁.1;
              whole = v₁.1;
              many = omega arith;
              here = λ s z f₁ f₂. rw (f₂ (omega (arith, k.least, b.3.1.1.least, n.least)), on) (behind words e₁ (of_items h) x ms tail (row s));
              size = λ s z f₁ f₂.
                  let whole : e₁ + length (row_words (of_items h) a.nodes) ≡ o.from + length (row_words (of_items h) l) = a.size s e₁ (k.start s) (k.on s) in
                  let whole₁ : e₁ + length (row_words (of_items h) (x ▸ ms)) ≡ o.from + length (row_words (of_items h) l) = rw u at whole in
                  let there₁ : z ≡ r.at = f₂ (omega (arith, k.least, b.3.1.1.least, n.least)) in
                  omega (arith, on);
              turn = λ s. rw add-one (turn_on (a.turn s) x ms u);
              done = a.done ++ (front ++ mine);
              put = then-written a.done (front ++ mine) a.put (then-written front mine put_front put-mine);
              goes =
                  step-pieces text m h x ms i left p.left a.done left_is
                  ∙ ap (λ (z : Nodes). a.done ++ (begun text m h i ++ (woven text h i (row_left h i left) (outs text m h i z) ++ closing text m h))) (sym u)
                  ∙ a.goes;
            }

        next-ahead : Ahead h l rest out₂ r.at r.end p.left (i + 1)
        next-ahead = let x = first a.nodes (omega (arith, a.many, g.opens.many)) in onward (node x.head x.below) x.behind x.are

      -- behind the last child
      last-place : (e : ℕ) → a.nodes ≡ end → ChildPlace words (swaps text h) o.from i next e → e ≡ o.from + length (row_words (of_items h) l)
      last-place e u k =
          by_test (swaps text h)
          (λ s.
          let b = binary-only text h s in
          let flat : of_items h ≡ false = rw b.1 refl in
          let none : tail_words h ≡ [] = rw b.1 refl in
          let row : drop o.from words ≡ row_words false l ++ rest = g.opens.row ∙ (λ j. row_words (flat j) l ++ (none j ++ rest)) in
          turn_end words o.from next e rest (rw u at (a.turn s)) c.1.1 row (rw s at k) ∙ ap (λ (t : Bool). o.from + length (row_words t l)) (sym flat))
          (λ s.
          let z : length (row_words (of_items h) a.nodes) ≡ 0 = rw u (row-none (of_items h)) in
          omega (arith, a.size s e (k.start s) (k.on s)))

      closed-here : o.count ≤ i → (p.at ≡ at + length (node_words items (node h l))) × Put start place out₁ p.end (written (out text m (node h l)))
      closed-here f =
          let b = q.last o seen f in
          let u : a.nodes ≡ end = none_left a.nodes (omega (arith, a.many, g.opens.many)) in
          let k : ChildPlace words (swaps text h) o.from i next b.1.0 = rw g.is at b.1.1.0 in
          let i₁ = step-within words at items o seen in
          let far = last-place b.1.0 u k in
          let front : List Piece = begun text m h i ++ closing text m h in
          let put_front : Put after to out₁ p.end (written front) = pieces_as (ap (λ (z : Head). begun text m z i ++ closing text m z) g.is) b.2 in (
            b.1.1.1 ∙ past-node words at items h l rest o g.opens d (omega (arith, i₁.on, i₁.upto)) far,
            pieces_as
                (ap (λ (z : List Piece). a.done ++ (begun text m h i ++ (z ++ closing text m h))) (sym (nothing-more text m h i (row_left h i left)))
                ∙ ap (λ (z : Nodes). a.done ++ (begun text m h i ++ (woven text h i (row_left h i left) (outs text m h i z) ++ closing text m h))) (sym u)
                ∙ a.goes)
                (then-written a.done front a.put put_front),
          )

    pub more : {out₂ : List ℕ} {r : Reached} → p.more ≡ true → NodePut words text out₁ p.at p.items p.end p.mode out₂ r →
        Midway out₂ r.at r.end p.left (i + 1)
    more {out₂} {r} f n = record {
      least = omega (arith, q.least, n.least);
      upto = n.upto;
      fits = w.fits;
      same = n.same ∙ q.same ∙ w.same;
      ahead = λ h l rest c v d.
          by_lt i (placed_at words at items).count
          (λ k. next-ahead h l rest c v d n k)
          (λ k. clash p.more f (q.last (placed_at words at items) (seen h l rest c v d) k).0);
    }

    pub closed : p.more ≡ false → NodePut words text start at items place m out₁ (record { at = p.at; end = p.end })
    closed f = record {
      least = q.least;
      upto = q.upto;
      same = q.same ∙ w.same;
      read = by_node;
    }
      where
        by_node : (x : T.Node) (rest : List ℕ) → Laid x → Whole x → drop at words ≡ node_words items x ++ rest →
            (p.at ≡ at + length (node_words items x)) × Put start place out₁ p.end (written (out text m x))
        by_node (node h l) rest c v d =
            by_lt i (placed_at words at items).count
            (λ k. clash p.more (q.child (placed_at words at items) (seen h l rest c v d) k).0 f)
            (λ k. closed-here h l rest c v d k)

-- A node without children is one part.
pub leaf-put : (words text start : List ℕ) (at : ℕ) (items : Bool) (place : ℕ) (m : Mode) {out₁ : List ℕ} {p : Part} →
    at ≤ length words → length start ≤ most → place ≤ most → count_at words at items ≡ 0 →
    PartPut words text start place at items m 0 0 at out₁ p → NodePut words text start at items place m out₁ (record { at = p.at; end = p.end })
leaf-put words text start at items place m {p = p} h f k z q =
    closed words text start at items place m (begin words text start at items place m h f k) q (only p.more refl)
  where
    only : (b : Bool) → p.more ≡ b → p.more ≡ false
    only true e = absurd (omega (arith, (q.deeper e).1.0))
    only false e = e

-- the same place and buffer by other names
pub child-as : {words text start out₁ out₂ : List ℕ} {at place next next₂ end end₂ : ℕ} {items : Bool} {m : Mode} → out₂ ≡ out₁ → next₂ ≡ next → end₂ ≡ end →
    NodePut words text start at items place m out₁ (record { at = next; end = end }) →
    NodePut words text start at items place m out₂ (record { at = next₂; end = end₂ })
child-as u v w q = rw (u, v, w) q
