-- What a step of the walk finds at the words of a node: its kind and its own words, the nodes below it, and what stands behind them.
use Prim.Native.Nat.{ℕ, ◌+◌, ◌-◌, ◌≤◌, ◌<◌}
use mathlib.Core.Path.{◌≡◌, refl, sym, ap, ◌∙◌}
use mathlib.Core.Bool.{Bool, true, false, cond}
use mathlib.Core.List.{List, ◌∷◌, ◌++◌, append_assoc}
use native.Mathlib.Omega.{arith}
use native.Mathlib.Nat.{add-zero}
use lib.ListN.{length, get_or, drop, length-append, length-drop}
use lib.Seq.{get_or-drop, drop-drop, drop-append_seam}
use lib.Dec.{eqb}
use Rattle.tree.specs.declared.walk.Opened.{Opened}
use Rattle.std.proofs.Common.{Some}
use Rattle.tree.specs.Tree.{Script, Head, Atom, Prefix, node, Nodes, end, ◌▸◌, count}
use Rattle.tree.specs.Words.{head_words, tail_words, of_items, is_frac, with_head, encode, encodes, encode_items}
use Rattle.tree.specs.Decode.{below}
use Rattle.tree.specs.Walk.{row_words, node_words, kind_of, below_of, headed_at, fraction_at, placed_at, step_at, cells_end}
use Rattle.tree.proofs.Steps.{step-node, placed-fraction, placed-item, placed-node, cell-more}
use Rattle.tree.specs.Laid.{AllCells, Laid}

-- What the answer says of a node whose words stand at `at` and are followed by `rest`.
pub record Opens (words : List ℕ) (at : ℕ) (items : Bool) (h : Head) (l : Nodes) (rest : List ℕ) (o : Opened) : Type 0 where
  pub found : step_at words at items ≡ Some o
  pub kind : o.kind ≡ kind_of h
  pub head : is_frac h ≡ false → drop o.head words ≡ head_words h (count l) (length (row_words (of_items h) l)) ++ (row_words (of_items h) l ++ (tail_words h ++ rest))
  pub row : drop o.from words ≡ row_words (of_items h) l ++ (tail_words h ++ rest)
  pub many : o.count ≡ count l
  pub sort : o.items ≡ of_items h
  pub tail : o.tail ≡ length (tail_words h)
  pub next : o.from + (length (row_words (of_items h) l) + length (tail_words h)) ≡ at + length (node_words items (node h l))

-- What the words say of a head, whatever stands behind its own words.
record Says (h : Head) (k : ℕ) (words behind : List ℕ) : Type 0 where
  kind : get_or words 0 0 ≡ kind_of h
  many : below_of (get_or words 0 0) (get_or words 3 0) ≡ below h k
  sort : cond (eqb (get_or words 0 0) 15) true (eqb (get_or words 0 0) 17) ≡ of_items h
  tail : cond (eqb (get_or words 0 0) 16) (get_or words 7 0) 0 ≡ length (tail_words h)
  skip : drop (cond (eqb (get_or words 0 0) 16) 8 6) words ≡ behind
  size : cond (eqb (get_or words 0 0) 16) 8 6 + length behind ≡ length words

says : (h : Head) (k w : ℕ) (behind : List ℕ) → Says h k (head_words h k w ++ behind) behind
says Head.missing k w r = search arith
says (Head.atom Atom.number sp) k w r = search arith
says (Head.atom Atom.text sp) k w r = search arith
says (Head.atom Atom.ident sp) k w r = search arith
says (Head.atom Atom.operator sp) k w r = search arith
says (Head.atom Atom.sign sp) k w r = search arith
says (Head.atom Atom.space sp) k w r = search arith
says (Head.atom (Atom.symbol c) sp) k w r = search arith
says (Head.prefix Prefix.signed sp) k w r = search arith
says (Head.prefix Prefix.ssigned sp) k w r = search arith
says (Head.prefix Prefix.unary sp) k w r = search arith
says (Head.prefix Prefix.sfunc sp) k w r = search arith
says (Head.prefix Prefix.binary sp) k w r = search arith
says (Head.simple Script.none) k w r = search arith
says (Head.simple Script.sub) k w r = search arith
says (Head.simple Script.super) k w r = search arith
says (Head.simple Script.subsuper) k w r = search arith
says (Head.func sp Script.none) k w r = search arith
says (Head.func sp Script.sub) k w r = search arith
says (Head.func sp Script.super) k w r = search arith
says (Head.func sp Script.subsuper) k w r = search arith
says Head.frac k w r = search arith
says Head.cell k w r = search arith
says (Head.group a b) k w r = search arith
says (Head.matrix a b c ls) k w r = search arith

-- the words of a node from its own words on, and what stands behind its own words
abbrev behind_of : Head → Nodes → List ℕ → List ℕ
behind_of h l rest = row_words (of_items h) l ++ (tail_words h ++ rest)

abbrev own_words : Head → Nodes → List ℕ
own_words h l = head_words h (count l) (length (row_words (of_items h) l))

record Headed (words : List ℕ) (at : ℕ) (h : Head) (l : Nodes) (rest : List ℕ) (o : Opened) : Type 0 where
  kind : o.kind ≡ kind_of h
  head : drop o.head words ≡ own_words h l ++ behind_of h l rest
  row : drop o.from words ≡ behind_of h l rest
  many : o.count ≡ count l
  sort : o.items ≡ of_items h
  tail : o.tail ≡ length (tail_words h)
  next : o.from + length (behind_of h l rest) ≡ at + length (own_words h l ++ behind_of h l rest)

headed : (words : List ℕ) (at : ℕ) (h : Head) (l : Nodes) (rest : List ℕ) → count l ≡ below h (count l) →
    drop at words ≡ own_words h l ++ behind_of h l rest → Headed words at h l rest (headed_at words at)
unfolding headed_at
headed words at h l rest c e =
    let all : List ℕ = own_words h l ++ behind_of h l rest in
    let s : Says h (count l) all (behind_of h l rest) = says h (count l) (length (row_words (of_items h) l)) (behind_of h l rest) in
    let size : ℕ = cond (eqb (get_or all 0 0) 16) 8 6 in
    let word : (i : ℕ) → get_or words (at + i) 0 ≡ get_or all i 0 = λ i. sym (get_or-drop at words i 0) ∙ ap (λ (x : List ℕ). get_or x i 0) e in
    let first : get_or words at 0 ≡ get_or all 0 0 = ap (λ (i : ℕ). get_or words i 0) (sym (add-zero at)) ∙ word 0 in
    record {
      kind = first ∙ s.kind;
      head = e;
      row = rw first (sym (drop-drop size at words) ∙ ap (drop size) e ∙ s.skip);
      many = rw (first, word 3) (s.many ∙ sym c);
      sort = rw first s.sort;
      tail = rw (first, word 7) s.tail;
      next = rw first (omega (arith, s.size));
    }

-- A place with words is a place before the end.
within : (words : List ℕ) (at : ℕ) (own rest : List ℕ) → drop at words ≡ own ++ rest → 0 < length own →
    (at < length words) × (at + (length own + length rest) ≡ length words)
within words at own rest e z =
    let l : length words - at ≡ length own + length rest = sym (length-drop at words) ∙ ap length e ∙ length-append own rest in
    omega arith

-- every node has words of its own
own-some : (h : Head) (k w : ℕ) → 0 < length (head_words h k w)
own-some Head.missing k w = omega arith
own-some (Head.atom a sp) k w = omega arith
own-some (Head.prefix p sp) k w = omega arith
own-some (Head.simple sc) k w = omega arith
own-some (Head.func sp sc) k w = omega arith
own-some Head.frac k w = omega arith
own-some Head.cell k w = omega arith
own-some (Head.group a b) k w = omega arith
own-some (Head.matrix a b c ls) k w = omega arith

module _ (words : List ℕ) (h : Head) (l : Nodes) (rest : List ℕ) (c : count l ≡ below h (count l)) where
  -- a node whose own words stand at `head`, found from `at` on
  opens-headed : (at head : ℕ) (items : Bool) → placed_at words at items ≡ headed_at words head → at ≤ head →
      drop head words ≡ own_words h l ++ behind_of h l rest →
      head + length (with_head h (count l) (row_words (of_items h) l)) ≡ at + length (node_words items (node h l)) →
      Opens words at items h l rest (placed_at words at items)
  opens-headed at head items p k e n =
      let d : Headed words head h l rest (headed_at words head) = headed words head h l rest c e in
      let own : 0 < length (own_words h l) = own-some h (count l) (length (row_words (of_items h) l)) in
      let w = within words head (own_words h l) (behind_of h l rest) e own in
      let m = simp length-append at d.next in
      let b = simp length-append at n in
      let r = simp length-append at w.1 in
      let q : (headed_at words head).from + (length (row_words (of_items h) l) + length (tail_words h)) ≡ at + length (node_words items (node h l)) = omega arith in
      rw p record {
        found = sym (step-node words at items (omega arith) (sym p) (omega arith));
        kind = d.kind;
        head = λ f. d.head;
        row = d.row;
        many = d.many;
        sort = d.sort;
        tail = d.tail;
        next = q;
      }

  opens-node : (at : ℕ) → drop at words ≡ node_words false (node h l) ++ rest → Opens words at false h l rest (placed_at words at false)
  unfolding encode
  opens-node at e = opens-headed at at false (sym (placed-node words at false refl)) (omega arith) (e ∙ simp append_assoc) refl

  opens-item : (at : ℕ) → is_frac h ≡ false → drop at words ≡ node_words true (node h l) ++ rest → Opens words at true h l rest (placed_at words at true)
  unfolding encode
  opens-item at f e =
      let all : List ℕ = with_head h (count l) (row_words (of_items h) l) in
      let i : node_words true (node h l) ≡ 0 ∷ all = rw f in
      let d : drop at words ≡ 0 ∷ (all ++ rest) = e ∙ ap (λ (x : List ℕ). x ++ rest) i in
      let w : 0 ≡ get_or words at 0 = sym (ap (λ (k : ℕ). get_or words k 0) (sym (add-zero at)) ∙ sym (get_or-drop at words 0 0) ∙ ap (λ (x : List ℕ). get_or x 0 0) d) in
      let g : drop (at + 1) words ≡ all ++ rest = sym (drop-drop 1 at words) ∙ ap (drop 1) d in
      opens-headed at (at + 1) true (sym (placed-item words at true refl w λ z. omega arith)) (omega arith) (g ∙ simp append_assoc) (omega (arith, ap length i))

opens-fraction : (words : List ℕ) (at : ℕ) (l : Nodes) (rest : List ℕ) → count l ≡ 2 → drop at words ≡ node_words true (node Head.frac l) ++ rest →
    Opens words at true Head.frac l rest (placed_at words at true)
unfolding encode
opens-fraction words at l rest c d =
    let w : 1 ≡ get_or words at 0 = sym (ap (λ (k : ℕ). get_or words k 0) (sym (add-zero at)) ∙ sym (get_or-drop at words 0 0) ∙ ap (λ (x : List ℕ). get_or x 0 0) d) in
    let p : placed_at words at true ≡ fraction_at at = sym (placed-fraction words at true refl w refl) in
    let b = within words at (1 ∷ encodes l) rest d (omega arith) in
    rw p record {
      found = sym (step-node words at true b.0 (sym p) (omega arith));
      kind = refl;
      head = λ f. let z : ◌≡◌ {A = ℕ} 0 1 = cc in absurd (omega arith);
      row = sym (drop-drop 1 at words) ∙ ap (drop 1) d;
      many = sym c;
      sort = refl;
      tail = refl;
      next = omega arith;
    }

pub opens : (words : List ℕ) (at : ℕ) (items : Bool) (h : Head) (l : Nodes) (rest : List ℕ) → Laid (node h l) →
    drop at words ≡ node_words items (node h l) ++ rest → Opens words at items h l rest (placed_at words at items)
opens words at false h l rest c e = opens-node words h l rest c.0 at e
opens words at true Head.frac l rest c e = opens-fraction words at l rest c.0 e
opens words at true Head.missing l rest c e = opens-item words _ l rest c.0 at refl e
opens words at true (Head.atom a sp) l rest c e = opens-item words _ l rest c.0 at refl e
opens words at true (Head.prefix p sp) l rest c e = opens-item words _ l rest c.0 at refl e
opens words at true (Head.simple sc) l rest c e = opens-item words _ l rest c.0 at refl e
opens words at true (Head.func sp sc) l rest c e = opens-item words _ l rest c.0 at refl e
opens words at true Head.cell l rest c e = opens-item words _ l rest c.0 at refl e
opens words at true (Head.group a b) l rest c e = opens-item words _ l rest c.0 at refl e
opens words at true (Head.matrix a b k ls) l rest c e = opens-item words _ l rest c.0 at refl e

-- The cells of a matrix end where their heads say.
cell-step : (words : List ℕ) (at k : ℕ) (inner rest : List ℕ) → drop at words ≡ head_words Head.cell k (length inner) ++ (inner ++ rest) →
    (at < length words) × ((length inner ≡ get_or words (at + 4) 0) × (drop (at + 6 + length inner) words ≡ rest))
cell-step words at k inner rest e = (
  (within words at (head_words Head.cell k (length inner)) (inner ++ rest) e (omega arith)).0,
  (
    sym (ap (λ (x : List ℕ). get_or x 4 0) e) ∙ get_or-drop at words 4 0,
    sym (drop-drop (length inner) (at + 6) words) ∙ ap (drop (length inner)) (sym (drop-drop 6 at words) ∙ ap (drop 6) e) ∙ drop-append_seam inner rest,
  ),
)

pub cells-end : (words : List ℕ) (l : Nodes) (at : ℕ) (rest : List ℕ) → AllCells l → drop at words ≡ encodes l ++ rest →
    cells_end words (count l) at ≡ at + length (encodes l)
unfolding cells_end encode
cells-end words end at rest a e = sym (add-zero at)
cells-end words (node h l ▸ m) at rest a e =
    let inner : List ℕ = encode_items l in
    let d : drop at words ≡ head_words Head.cell (count l) (length inner) ++ (inner ++ (encodes m ++ rest)) = rw a.0 at e ∙ simp append_assoc in
    let s = cell-step words at (count l) inner (encodes m ++ rest) d in
    let next = cells-end words m (at + 6 + length inner) rest a.1 s.1.1 in
    let size : length (encodes (node h l ▸ m)) ≡ 6 + length inner + length (encodes m) = rw a.0 (simp length-append (omega arith)) in
    let far : at + 6 + length inner ≡ at + (6 + length inner) = omega arith in
    sym (cell-more words at (count m) refl s.0 s.1.0) ∙ rw (← far) (next ∙ omega arith)
