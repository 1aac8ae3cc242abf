-- The loop over the cells of a row: what it keeps, and what each way out of it shows.
use Prim.Native.Nat.{ℕ, suc, ◌+◌, ◌*◌, ◌-◌, ◌≤◌, ◌<◌}
use mathlib.Core.Path.{◌≡◌, refl, ap, ◌∙◌, subst}
use mathlib.Core.List.{List, [], ◌∷◌, ◌++◌, append-nil}
use mathlib.Core.Option.{Option, none, some}
use mathlib.Core.Bool.{Bool, true, false}
use native.Mathlib.Omega.{arith}
use lib.ListN.{length}
use lib.Dec.{ltb}
use lib.Seq.{sets, length-sets}
use borrow.Author.Tests.{ltb-true, ltb-false, lt-ltb, le-ltb}
use Rattle.tokens.specs.declared.token.Token.TheVariants as token
use Rattle.tree.specs.Tree.{Head, node, Nodes, end, ◌▸◌, ◌⧺◌, count}
use Rattle.tree.specs.Words.{encode, encodes, encode_items}
use Rattle.reading.specs.Stop.{Stop}
use Rattle.reading.specs.Entries.{Entry}
use Rattle.reading.specs.Reading.{State, intermediates, prefixes, row_cells, next_matrix_row}
use Rattle.reading_cursor.specs.declared.Cursor.{Cursor}
use Rattle.parse.specs.declared.cursor.Items.{Items}
use Rattle.parse.specs.Buffer.{Wrote}
use Rattle.lookahead.specs.Tests.{test_at, is_kind}
use Rattle.parse.specs.Meet.{Each, Intermediates}
use Rattle.reading_cursor.specs.Moves.{onward, passing}
use Rattle.parse.proofs.Buffer.{fill, seq, back, wrote_none}
use Rattle.lookahead.proofs.Testing.{test_below}
use Rattle.parse.proofs.Whole.{whole-items}
use Rattle.std.specs.declared.option.Option as rust
use Rattle.std.specs.declared.option.Option.TheVariants.{Some, None}
use Rattle.columns.specs.Rows as columns
use Rattle.parse.specs.Matrix.{Filled, Fails, RowCells, MatrixRow}
use Rattle.parse.proofs.Scripting.{encodes-append, count-append}
use Rattle.reading_words.specs.Meet.{Input, At, Known, readers, cells_at, row_at}
use Rattle.stores.proofs.Stores.{kept_refl, kept_trans}
use Rattle.reading_words.proofs.Kit.{shut, ret-closed, at_shut, at_here, bind, ret, if_false, tick, at_tick, kind-is}
use Rattle.reading_words.proofs.Steps.{row-taken, turn_end, turn-other, turn-sep, turn-shut, with_one, with_cells, took-any, end-any}

-- one token passed, if there is one
pub passing-in : (n : ℕ) (c : Cursor) → c.pos < n → passing n c ≡ onward c
unfolding passing
passing-in n c h = rw (lt-ltb c.pos n h)

pub passing-out : (n : ℕ) (c : Cursor) → n ≤ c.pos → passing n c ≡ c
unfolding passing
passing-out n c h = rw (le-ltb c.pos n h)

pub passing-depth : (n : ℕ) (c : Cursor) → (passing n c).depth ≡ c.depth
passing-depth n c = go (ltb c.pos n) refl
  where
    go : (b : Bool) → ltb c.pos n ≡ b → (passing n c).depth ≡ c.depth
    go true e = ap (λ (q : Cursor). q.depth) (passing-in n c (ltb-true c.pos n e))
    go false e = ap (λ (q : Cursor). q.depth) (passing-out n c (ltb-false c.pos n e))

pub passing-within : (n : ℕ) (c : Cursor) → c.pos ≤ n → (passing n c).pos ≤ n
passing-within n c h = go (ltb c.pos n) refl
  where
    go : (b : Bool) → ltb c.pos n ≡ b → (passing n c).pos ≤ n
    go true e = omega (arith, ap (λ (q : Cursor). q.pos) (passing-in n c (ltb-true c.pos n e)), ltb-true c.pos n e)
    go false e = omega (arith, ap (λ (q : Cursor). q.pos) (passing-out n c (ltb-false c.pos n e)))

-- a cell's words
pub cell-words : {k w : ℕ} (l : Nodes) → k ≡ count l → w ≡ length (encode_items l) → encode (node Head.cell l) ≡ (17 ∷ 0 ∷ 0 ∷ k ∷ w ∷ 0 ∷ []) ++ encode_items l
unfolding encode
cell-words l hk hw = rw (hk, hw, append-nil)

cells-more_words : (acc l : Nodes) → encodes (acc ⧺ (node Head.cell l ▸ end)) ≡ encodes acc ++ encode (node Head.cell l)
unfolding encodes
cells-more_words acc l = encodes-append acc (node Head.cell l ▸ end) ∙ ap (λ (w : List ℕ). encodes acc ++ w) (append-nil (encode (node Head.cell l)))

cells-snoc : {k : ℕ} {l : Nodes} (m : Nodes) → columns.Cells k l → columns.Cells (k + 1) (l ⧺ (node Head.cell m ▸ end))
cells-snoc m columns.Cells.none = columns.Cells.cell columns.Cells.none
cells-snoc m (columns.Cells.cell {l = l} {m = l2} {n = n} p) =
    let z : suc (n + 1) ≡ suc n + 1 = omega arith in
    subst (λ (j : ℕ). columns.Cells j (node Head.cell l ▸ (l2 ⧺ (node Head.cell m ▸ end)))) z (columns.Cells.cell (cells-snoc m p))

-- At the loop's head: the cells read so far, and turns enough for the rest.
pub record Along (X t : List ℕ) (n : ℕ) (L : List ℕ) (d : ℕ) (I : Input) (s : State) (e : ℕ) (x y : List ℕ) (cur : Cursor) (stp num : ℕ) : Type 0 where
  pub left : ℕ
  pub acc : Nodes
  pub state : State
  pub whole : cells_at d I s ≡ with_cells acc (row_cells I.text I.es true (readers d I) (suc left) state)
  pub enough : n - cur.pos ≤ left
  pub at : At X t n L cur.pos cur.takes I state
  pub tree : Wrote x e y stp (encodes acc)
  pub number : num ≡ count acc
  pub all : columns.Cells num acc

pub record Inv (X t : List ℕ) (n : ℕ) (K L : List ℕ) (c : Cursor) (e : ℕ) (x y : List ℕ) (cur : Cursor) (stp num : ℕ) : Type 0 where
  pub moves : Filled X t n K L c e x y num cur stp
  pub along : Each X t n K c (λ I s. Along X t n L c.depth I s e x y cur stp num)

module _ {X t : List ℕ} {n : ℕ} {K : List ℕ} (c : Cursor) (e : ℕ) (x : List ℕ) where
  pub cells-none : c.pos ≤ n → Known X t n K → Inv X t n K K c e x x c e 0
  unfolding encodes
  cells-none k kn = record {
    moves = record { within = k; on = omega arith; depth = refl; room = omega arith; long = refl; kept = kept_refl K; known = kn };
    along = λ I s at. record { left = length I.es; acc = end; state = s; whole = none_first (cells_at c.depth I s); enough = omega (arith, at.given.size); at = at; tree = wrote_none x e; number = refl; all = columns.Cells.none };
  }
    where
      none_first : (r : Option (Nodes × Entry) × State) → r ≡ with_cells end r
      none_first (none, u) = refl
      none_first (some m, u) = refl

  module _ {L J y y2 z : List ℕ} {cur : Cursor} {stp num w : ℕ} {g : Items} (i : Inv X t n K L c e x y cur stp num) (p : Intermediates X t n L J n true true true cur (stp + 6) y y2 g)
      (hw : w ≡ g.end - stp - 6) (hz : z ≡ sets y2 stp (17 ∷ 0 ∷ 0 ∷ g.count ∷ w ∷ 0 ∷ [])) (room : e + 20 + 32 * (n - c.pos) ≤ length x) where
    record Turn (I : Input) (s : State) (a : Along X t n L c.depth I s e x y cur stp num) : Type 0 where
      pub l : Nodes
      pub u : State
      pub run : intermediates I.text I.es true (readers c.depth I) (suc (length I.es)) none Stop.sep none a.state ≡ (l, u)
      pub at : At X t n J g.cur.pos g.cur.takes I u
      pub tree : Wrote x e z g.end (encodes (a.acc ⧺ (node Head.cell l ▸ end)))
      pub number : num + 1 ≡ count (a.acc ⧺ (node Head.cell l ▸ end))

    turn : (I : Input) (s : State) (a : Along X t n L c.depth I s e x y cur stp num) → Turn I s a
    unfolding prefixes
    turn I s a =
        let q = rw i.moves.depth at (whole-items p (omega arith) I a.state a.at none refl refl) in
        let size : w ≡ length (encode_items q.answer) = omega (arith, hw, q.tree.upto) in
        let one : Wrote y stp z g.end ((17 ∷ 0 ∷ 0 ∷ g.count ∷ w ∷ 0 ∷ []) ++ encode_items q.answer) = rw hz (fill stp (17 ∷ 0 ∷ 0 ∷ g.count ∷ w ∷ 0 ∷ []) q.tree refl (omega (arith, p.moves.room, i.moves.room, i.moves.long))) in
        record {
          l = q.answer;
          u = q.state;
          run = q.runs;
          at = q.at;
          tree = rw (cells-more_words a.acc q.answer, cell-words q.answer q.besides.0 size) (seq a.tree one);
          number = omega (arith, a.number, count-append a.acc (node Head.cell q.answer ▸ end));
        }

    long-z : length z ≡ length x
    long-z = ap length hz ∙ length-sets y2 stp (17 ∷ 0 ∷ 0 ∷ g.count ∷ w ∷ 0 ∷ []) ∙ p.moves.long ∙ i.moves.long

    filled : g.cur.pos < n → Filled X t n K J c e x z (num + 1) (onward g.cur) g.end
    filled b = record {
      within = omega arith;
      on = omega (arith, i.moves.on, p.moves.on);
      depth = p.moves.depth ∙ i.moves.depth;
      room = omega (arith, i.moves.room, p.moves.room, p.moves.on, p.moves.within);
      long = long-z;
      kept = kept_trans i.moves.kept p.moves.kept;
      known = p.moves.known;
    }

    pub cells-more : test_at t J n (is_kind 3) g.cur.pos ≡ true → Inv X t n K J c e x z (passing n g.cur) g.end (num + 1)
    cells-more h =
        let b : g.cur.pos < n = test_below t J n (is_kind 3) g.cur.pos h in
        rw (passing-in n g.cur b) (record {
          moves = filled b;
          along = λ I s at.
              let a = i.along I s at in
              let q = turn I s a in
              let v = took-any q.at.given q.at.pos b in
              let l1 : a.left ≡ suc (a.left - 1) = omega (arith, a.enough, p.moves.on) in
              let R = readers c.depth I in
              let rest = row_cells I.text I.es true R a.left (tick q.u) in
              record {
                left = a.left - 1;
                acc = a.acc ⧺ (node Head.cell q.l ▸ end);
                state = tick q.u;
                whole = a.whole ∙ ap (with_cells a.acc) (turn-sep I R a.left q.l a.state q.u q.run v.1 (kind-is token.Sep true v.0.row b h))
                    ∙ with_one a.acc q.l rest.0 rest.1
                    ∙ ap (λ (m : ℕ). with_cells (a.acc ⧺ (node Head.cell q.l ▸ end)) (row_cells I.text I.es true R m (tick q.u))) l1;
                enough = omega (arith, l1, a.enough, p.moves.on);
                at = at_tick q.at;
                tree = q.tree;
                number = q.number;
                all = cells-snoc q.l a.all;
              };
        })

    module _ (h : test_at t J n (is_kind 3) g.cur.pos ≡ false) where
      pub cells-shut : test_at t J n (is_kind 21) g.cur.pos ≡ true → RowCells X t n K J c e x z (record { cur = passing n g.cur; end = g.end; count = num + 1; close = Some g.cur.pos })
      cells-shut k =
          let b : g.cur.pos < n = test_below t J n (is_kind 21) g.cur.pos k in
          rw (passing-in n g.cur b) (
            filled b,
            omega arith,
            b,
            λ I s at.
                let a = i.along I s at in
                let q = turn I s a in
                let v = took-any q.at.given q.at.pos b in
                record {
                  cells = a.acc ⧺ (node Head.cell q.l ▸ end);
                  right = v.0.entry;
                  state = tick q.u;
                  runs = a.whole ∙ ap (with_cells a.acc) (turn-shut I (readers c.depth I) a.left q.l a.state q.u q.run v.1 (kind-is token.Sep false v.0.row b h) (kind-is token.CloseBracket true v.0.row b k));
                  at = at_tick q.at;
                  there = v.0.there;
                  number = q.number;
                  all = cells-snoc q.l a.all;
                  tree = q.tree;
                },
          )

      pub cells-broken : test_at t J n (is_kind 21) g.cur.pos ≡ false → RowCells X t n K J c e x z (record { cur = passing n g.cur; end = g.end; count = num + 1; close = None })
      cells-broken k = (
        record { within = passing-within n g.cur p.moves.within; depth = passing-depth n g.cur ∙ p.moves.depth ∙ i.moves.depth; long = long-z; kept = kept_trans i.moves.kept p.moves.kept; known = p.moves.known },
        λ I s at.
            let a = i.along I s at in
            let q = turn I s a in
            let wr = back e q.tree (omega arith) (omega (arith, i.moves.room, p.moves.room, p.moves.on)) in
            go I s a q wr (ltb g.cur.pos n) refl,
      )
        where
          go : (I : Input) (s : State) (a : Along X t n L c.depth I s e x y cur stp num) (q : Turn I s a) → Wrote x e z e [] → (b : Bool) → ltb g.cur.pos n ≡ b → Fails X t n J (cells_at c.depth I) I s e x z (passing n g.cur)
          go I s a q wr true eq =
              let b : g.cur.pos < n = ltb-true g.cur.pos n eq in
              let v = took-any q.at.given q.at.pos b in
              rw (passing-in n g.cur b) (record {
                state = tick q.u;
                runs = a.whole ∙ ap (with_cells a.acc) (turn-other I (readers c.depth I) a.left q.l a.state q.u q.run v.1 (kind-is token.Sep false v.0.row b h) (kind-is token.CloseBracket false v.0.row b k));
                at = at_tick q.at;
                tree = wr;
              })
          go I s a q wr false eq =
              let b : n ≤ g.cur.pos = ltb-false g.cur.pos n eq in
              rw (passing-out n g.cur b) (record {
                state = q.u;
                runs = a.whole ∙ ap (with_cells a.acc) (turn_end I (readers c.depth I) a.left q.l a.state q.u q.run (end-any q.at.given q.at.pos b));
                at = q.at;
                tree = wr;
              })

-- a row: its bracket and its cells
module _ (X t : List ℕ) (n : ℕ) (K : List ℕ) (c : Cursor) (e : ℕ) (x : List ℕ) where
  pub row-met : (L y : List ℕ) (k : ℕ) (d : Cursor) (E : ℕ) (f : rust.Option ℕ) → test_at t K n (is_kind 20) c.pos ≡ true → RowCells X t n K L (onward c) e x y (record { cur = d; end = E; count = k; close = f })
      → MatrixRow X t n K L c e x y (record { cur = d; end = E; count = k; close = f })
  row-met L y k d E (Some q) h p =
      let b : c.pos < n = test_below t K n (is_kind 20) c.pos h in (
        record { within = p.0.within; on = omega (arith, p.0.on); depth = p.0.depth; room = omega (arith, p.0.room); long = p.0.long; kept = p.0.kept; known = p.0.known },
        p.1,
        b,
        p.2,
        λ I s at.
            let v = took-any at.given at.pos b in
            let w = p.3 I (tick s) (at_tick at) in
            record {
              row = record { left = v.0.entry; right = w.right; cells = w.cells };
              state = shut s.pos w.state;
              runs = row-taken I (readers c.depth I) s (tick s) v.0.entry (some (w.cells, w.right)) w.state v.1 (kind-is token.OpenBracket true v.0.row b h) w.runs ∙ ret-closed _ _ _;
              at = at_shut s.pos w.at;
              left = v.0.there;
              right = w.there;
              number = w.number;
              all = w.all;
              tree = w.tree;
            },
      )
  row-met L y k d E None h p =
      let b : c.pos < n = test_below t K n (is_kind 20) c.pos h in (
        record { within = p.0.within; depth = p.0.depth; long = p.0.long; kept = p.0.kept; known = p.0.known },
        λ I s at.
            let v = took-any at.given at.pos b in
            let w = p.1 I (tick s) (at_tick at) in
            record {
              state = w.state;
              runs = row-taken I (readers c.depth I) s (tick s) v.0.entry none w.state v.1 (kind-is token.OpenBracket true v.0.row b h) w.runs ∙ ret _ _;
              at = w.at;
              tree = w.tree;
            },
      )

  pub row-none : test_at t K n (is_kind 20) c.pos ≡ false → c.pos ≤ n → Known X t n K → MatrixRow X t n K K c e x x (record { cur = passing n c; end = e; count = 0; close = None })
  unfolding next_matrix_row
  row-none h k kn = (
    record { within = passing-within n c k; depth = passing-depth n c; long = refl; kept = kept_refl K; known = kn },
    λ I s at. go I s at (ltb c.pos n) refl,
  )
    where
      go : (I : Input) (s : State) → At X t n K c.pos c.takes I s → (b : Bool) → ltb c.pos n ≡ b → Fails X t n K (row_at c.depth I) I s e x x (passing n c)
      go I s at true eq =
          let b : c.pos < n = ltb-true c.pos n eq in
          let v = took-any at.given at.pos b in
          rw (passing-in n c b) (record { state = tick s; runs = bind _ _ s (at_here s) ∙ bind _ _ s v.1 ∙ if_false _ _ _ (kind-is token.OpenBracket false v.0.row b h) ∙ ret _ _; at = at_tick at; tree = wrote_none x e })
      go I s at false eq =
          let b : n ≤ c.pos = ltb-false c.pos n eq in
          rw (passing-out n c b) (record { state = s; runs = bind _ _ s (at_here s) ∙ bind _ _ s (end-any at.given at.pos b) ∙ ret _ _; at = at; tree = wrote_none x e })
