-- The loop over a row's cells, and a row.
use Prim.Native.Nat.{ℕ, suc, ◌+◌, ◌-◌, ◌≤◌, ◌<◌}
use mathlib.Core.Path.{◌≡◌, refl, sym, ap, ◌∙◌, subst}
use mathlib.Core.List.{List, [], ◌∷◌}
use mathlib.Core.Option.{Option, none, some}
use mathlib.Core.Bool.{Bool, true, false, cond}
use native.Mathlib.Omega.{arith}
use lib.ListN.{length}
use lib.Dec.{ltb}
use borrow.Author.Tests.{ltb-true, ltb-false, lt-ltb, le-ltb}
use Rattle.tokens.specs.declared.token.Token.TheVariants as token
use Rattle.tree.specs.Tree.{Head, Node, node, Nodes, end, ◌▸◌, ◌⧺◌, count}
use Rattle.reading.specs.Stop.{Stop}
use Rattle.reading.specs.Entries.{Entry}
use Rattle.reading.specs.Reading.{State, intermediates, row_cells, next_matrix_row, prefixes, is_column_line, kept_cols, line_cells}
use Rattle.lookahead.specs.Tests.{test_at, is_kind}
use Rattle.lookahead.proofs.Testing.{test_below}
use Rattle.reading_cursor.specs.declared.Cursor.{Cursor}
use Rattle.std.proofs.Common.{Some, None}
use Rattle.std.specs.Bool.{then_some}
use Rattle.closers_pass.specs.declared.cursor.Items.{Items}
use Rattle.closers_pass.specs.declared.cursor.Cells.{Cells}
use Rattle.records.specs.Record.{record_words, with_closer}
use Rattle.reading_words.specs.Meet.{Input, readers, cells_at, row_at}
use Rattle.closers_pass.specs.Meet.{At, Moves, Each, Intermediates}
use Rattle.reading_cursor.specs.Moves.{onward, passing}
use Rattle.closers_pass.specs.Matrix.{Counts, Fails, RowCells, MatrixRow}
use Rattle.stores.proofs.Stores.{kept_refl, kept_trans, closer-kept}
use Rattle.reading_words.proofs.Kit.{shut, ret-closed, bind, ret, at_here, if_false, tick, kind-is}
use Rattle.closers_pass.proofs.Kit.{at_tick, at_shut}
use Rattle.closers_pass.proofs.Loop.{whole-items}
use Rattle.reading_words.proofs.Steps.{row-taken, turn_end, turn-other, turn-sep, turn-shut, with_one, with_cells, took-any, end-any}

-- one token passed, if there is one
pub passing-in : (n : ℕ) (c : Cursor) → c.pos < n → passing n c ≡ onward c
unfolding passing
passing-in n c h = rw (lt-ltb c.pos n h)

pub passing-out : (n : ℕ) (c : Cursor) → n ≤ c.pos → passing n c ≡ c
unfolding passing
passing-out n c h = rw (le-ltb c.pos n h)

pub passing-depth : (n : ℕ) (c : Cursor) → (passing n c).depth ≡ c.depth
passing-depth n c = go (ltb c.pos n) refl
  where
    go : (b : Bool) → ltb c.pos n ≡ b → (passing n c).depth ≡ c.depth
    go true e = ap (λ (q : Cursor). q.depth) (passing-in n c (ltb-true c.pos n e))
    go false e = ap (λ (q : Cursor). q.depth) (passing-out n c (ltb-false c.pos n e))

pub passing-within : (n : ℕ) (c : Cursor) → c.pos ≤ n → (passing n c).pos ≤ n
passing-within n c h = go (ltb c.pos n) refl
  where
    go : (b : Bool) → ltb c.pos n ≡ b → (passing n c).pos ≤ n
    go true e = omega (arith, ap (λ (q : Cursor). q.pos) (passing-in n c (ltb-true c.pos n e)), ltb-true c.pos n e)
    go false e = omega (arith, ap (λ (q : Cursor). q.pos) (passing-out n c (ltb-false c.pos n e)))

pub passing-on : (n : ℕ) (c : Cursor) → c.pos ≤ (passing n c).pos
passing-on n c = go (ltb c.pos n) refl
  where
    go : (b : Bool) → ltb c.pos n ≡ b → c.pos ≤ (passing n c).pos
    go true e = omega (arith, ap (λ (q : Cursor). q.pos) (passing-in n c (ltb-true c.pos n e)))
    go false e = omega (arith, ap (λ (q : Cursor). q.pos) (passing-out n c (ltb-false c.pos n e)))

-- how many cells are no lines, with one cell more
kept-snoc : (text : List ℕ) (es : List Entry) (acc : Nodes) (x : Node) → kept_cols (line_cells text es (acc ⧺ (x ▸ end))) ≡ cond (is_column_line text es x) (kept_cols (line_cells text es acc)) (kept_cols (line_cells text es acc) + 1)
unfolding line_cells kept_cols
kept-snoc text es end x = go (is_column_line text es x)
  where
    go : (b : Bool) → kept_cols (b ∷ []) ≡ cond b 0 1
    go true = refl
    go false = refl
kept-snoc text es (y ▸ acc) x = go (is_column_line text es y) (is_column_line text es x) (kept-snoc text es acc x)
  where
    go : (a b : Bool) → kept_cols (line_cells text es (acc ⧺ (x ▸ end))) ≡ cond b (kept_cols (line_cells text es acc)) (kept_cols (line_cells text es acc) + 1)
        → kept_cols (a ∷ line_cells text es (acc ⧺ (x ▸ end))) ≡ cond b (kept_cols (a ∷ line_cells text es acc)) (kept_cols (a ∷ line_cells text es acc) + 1)
    go true true h = h
    go true false h = h
    go false true h = ap suc h
    go false false h = omega (arith, h)

count-snoc : (acc : Nodes) (x : Node) → count (acc ⧺ (x ▸ end)) ≡ count acc + 1
count-snoc end x = refl
count-snoc (y ▸ acc) x = let h = count-snoc acc x in omega (arith, h)

counts-more : {I : Input} {k j : ℕ} {acc : Nodes} {b : Bool} (x : Node) → Counts I k j acc → b ≡ is_column_line I.text I.es x → Counts I (k + 1) (cond b j (j + 1)) (acc ⧺ (x ▸ end))
counts-more {I} {k} {j} {acc} {b} x c h = record {
  number = ap (λ (m : ℕ). m + 1) c.number ∙ sym (count-snoc acc x);
  kept' = rw (h, c.kept') (sym (kept-snoc I.text I.es acc x));
}

-- At the loop's head: the cells read so far, and turns enough for the rest.
pub record Along (X t : List ℕ) (n : ℕ) (L : List ℕ) (d : ℕ) (I : Input) (s : State) (cur : Cursor) (num kept : ℕ) : Type 0 where
  pub left : ℕ
  pub acc : Nodes
  pub state : State
  pub whole : cells_at d I s ≡ with_cells acc (row_cells I.text I.es true (readers d I) (suc left) state)
  pub enough : n - cur.pos ≤ left
  pub at : At X t n L cur.pos cur.takes I state
  pub counts : Counts I num kept acc

pub record Inv (X t : List ℕ) (n : ℕ) (K L : List ℕ) (c cur : Cursor) (num kept : ℕ) : Type 0 where
  pub moves : Moves num n K L c cur
  pub few : kept ≤ num
  pub along : Each X t n K c (λ I s. Along X t n L c.depth I s cur num kept)

cond_few : (b : Bool) (j k : ℕ) → j ≤ k → cond b j (j + 1) ≤ k + 1
cond_few true j k h = omega arith
cond_few false j k h = omega arith

module _ {X t : List ℕ} {n : ℕ} {K : List ℕ} (c : Cursor) where
  pub cells-none : c.pos ≤ n → Inv X t n K K c c 0 0
  unfolding line_cells kept_cols
  cells-none k = record {
    moves = record { within = k; on = omega arith; depth = refl; kept = kept_refl K };
    few = omega arith;
    along = λ I s at. record { left = length I.es; acc = end; state = s; whole = none_first (cells_at c.depth I s); enough = omega (arith, at.given.size); at = at; counts = record { number = refl; kept' = refl } };
  }
    where
      none_first : (r : Option (Nodes × Entry) × State) → r ≡ with_cells end r
      none_first (none, u) = refl
      none_first (some m, u) = refl

  module _ {L J : List ℕ} {cur : Cursor} {num kept : ℕ} {g : Items} (i : Inv X t n K L c cur num kept) (p : Intermediates X t n L J n true true true cur g) where
    record Turn (I : Input) (s : State) (a : Along X t n L c.depth I s cur num kept) : Type 0 where
      pub l : Nodes
      pub u : State
      pub run : intermediates I.text I.es true (readers c.depth I) (suc (length I.es)) none Stop.sep none a.state ≡ (l, u)
      pub at : At X t n J g.cur.pos g.cur.takes I u
      pub counts : Counts I (num + 1) (cond g.line kept (kept + 1)) (a.acc ⧺ (node Head.cell l ▸ end))

    turn : (I : Input) (s : State) (a : Along X t n L c.depth I s cur num kept) → Turn I s a
    unfolding prefixes
    turn I s a =
        let q = rw i.moves.depth at (whole-items p (omega arith) I a.state a.at none refl refl) in
        record { l = q.answer; u = q.state; run = q.runs; at = q.at; counts = counts-more (node Head.cell q.answer) a.counts (q.besides.line refl) }

    pub cells-more : test_at t J n (is_kind 3) g.cur.pos ≡ true → Inv X t n K J c (passing n g.cur) (num + 1) (cond g.line kept (kept + 1))
    cells-more h =
        let b : g.cur.pos < n = test_below t J n (is_kind 3) g.cur.pos h in
        rw (passing-in n g.cur b) (record {
          moves = record { within = omega arith; on = omega (arith, i.moves.on, p.moves.on); depth = p.moves.depth ∙ i.moves.depth; kept = kept_trans i.moves.kept p.moves.kept };
          few = cond_few g.line kept num i.few;
          along = λ I s at.
              let a = i.along I s at in
              let q = turn I s a in
              let v = took-any q.at.given q.at.pos b in
              let l1 : a.left ≡ suc (a.left - 1) = omega (arith, a.enough, p.moves.on) in
              let R = readers c.depth I in
              let rest = row_cells I.text I.es true R a.left (tick q.u) in
              record {
                left = a.left - 1;
                acc = a.acc ⧺ (node Head.cell q.l ▸ end);
                state = tick q.u;
                whole = a.whole ∙ ap (with_cells a.acc) (turn-sep I R a.left q.l a.state q.u q.run v.1 (kind-is token.Sep true v.0.row b h))
                    ∙ with_one a.acc q.l rest.0 rest.1
                    ∙ ap (λ (m : ℕ). with_cells (a.acc ⧺ (node Head.cell q.l ▸ end)) (row_cells I.text I.es true R m (tick q.u))) l1;
                enough = omega (arith, l1, a.enough, p.moves.on);
                at = at_tick q.at;
                counts = q.counts;
              };
        })

    module _ (h : test_at t J n (is_kind 3) g.cur.pos ≡ false) where
      shut-cells : test_at t J n (is_kind 21) g.cur.pos ≡ true → RowCells X t n K J c (record { cur = passing n g.cur; count = num + 1; kept = cond g.line kept (kept + 1); close = Some g.cur.pos })
      shut-cells k =
          let b : g.cur.pos < n = test_below t J n (is_kind 21) g.cur.pos k in
          rw (passing-in n g.cur b) (
            record { within = omega arith; on = omega (arith, i.moves.on, p.moves.on); depth = p.moves.depth ∙ i.moves.depth; kept = kept_trans i.moves.kept p.moves.kept },
            (
              record { some = omega arith; inside = b; last = refl },
              λ I s at.
                  let a = i.along I s at in
                  let q = turn I s a in
                  let v = took-any q.at.given q.at.pos b in
                  record {
                    cells = a.acc ⧺ (node Head.cell q.l ▸ end);
                    right = v.0.entry;
                    state = tick q.u;
                    runs = a.whole ∙ ap (with_cells a.acc) (turn-shut I (readers c.depth I) a.left q.l a.state q.u q.run v.1 (kind-is token.Sep false v.0.row b h) (kind-is token.CloseBracket true v.0.row b k));
                    at = at_tick q.at;
                    there = v.0.there;
                    counts = q.counts;
                  },
            ),
          )

      broken-cells : test_at t J n (is_kind 21) g.cur.pos ≡ false → RowCells X t n K J c (record { cur = passing n g.cur; count = num + 1; kept = cond g.line kept (kept + 1); close = None })
      broken-cells k = (
        record { within = passing-within n g.cur p.moves.within; on = omega (arith, i.moves.on, p.moves.on, passing-on n g.cur); depth = passing-depth n g.cur ∙ p.moves.depth ∙ i.moves.depth; kept = kept_trans i.moves.kept p.moves.kept },
        λ I s at.
            let a = i.along I s at in
            let q = turn I s a in
            go I s a q (ltb g.cur.pos n) refl,
      )
        where
          go : (I : Input) (s : State) (a : Along X t n L c.depth I s cur num kept) (q : Turn I s a) → (b : Bool) → ltb g.cur.pos n ≡ b → Fails X t n J (cells_at c.depth I) I s (passing n g.cur)
          go I s a q true eq =
              let b : g.cur.pos < n = ltb-true g.cur.pos n eq in
              let v = took-any q.at.given q.at.pos b in
              rw (passing-in n g.cur b) (record {
                state = tick q.u;
                runs = a.whole ∙ ap (with_cells a.acc) (turn-other I (readers c.depth I) a.left q.l a.state q.u q.run v.1 (kind-is token.Sep false v.0.row b h) (kind-is token.CloseBracket false v.0.row b k));
                at = at_tick q.at;
              })
          go I s a q false eq =
              let b : n ≤ g.cur.pos = ltb-false g.cur.pos n eq in
              rw (passing-out n g.cur b) (record {
                state = q.u;
                runs = a.whole ∙ ap (with_cells a.acc) (turn_end I (readers c.depth I) a.left q.l a.state q.u q.run (end-any q.at.given q.at.pos b));
                at = q.at;
              })

      pub cells-ended : (r : Bool) → r ≡ test_at t J n (is_kind 21) g.cur.pos → RowCells X t n K J c (record { cur = passing n g.cur; count = num + 1; kept = cond g.line kept (kept + 1); close = then_some r g.cur.pos })
      cells-ended true e = shut-cells (sym e)
      cells-ended false e = broken-cells (sym e)

-- a row: its bracket and its cells
module _ (X t : List ℕ) (n : ℕ) (K : List ℕ) (c : Cursor) where
  pub row-shut : {L J : List ℕ} (k j q : ℕ) (d : Cursor) → n ≤ 4096 → record_words n ≤ length K → test_at t K n (is_kind 20) c.pos ≡ true → RowCells X t n K L (onward c) (record { cur = d; count = k; kept = j; close = Some q }) → J ≡ with_closer L c.pos (n - q)
      → MatrixRow X t n K J c (record { cur = d; count = k; kept = j; close = Some q })
  row-shut {L} {J} k j q d few fit h p hj =
      let b : c.pos < n = test_below t K n (is_kind 20) c.pos h in (
        record { within = p.0.within; on = omega (arith, p.0.on); depth = p.0.depth; kept = kept_trans p.0.kept (rw hj (closer-kept L c.pos _)) },
        (
          p.1.0,
          b,
          λ I s at.
              let v = took-any at.given at.pos b in
              let w = p.1.1 I (tick s) (at_tick at) in
              record {
                row = record { left = v.0.entry; right = w.right; cells = w.cells };
                state = shut s.pos w.state;
                runs = row-taken I (readers c.depth I) s (tick s) v.0.entry (some (w.cells, w.right)) w.state v.1 (kind-is token.OpenBracket true v.0.row b h) w.runs ∙ ret-closed _ _ _;
                at = subst (λ (m : ℕ). At X t n J d.pos d.takes I (shut m w.state)) at.pos (at_shut c.pos q w.at (omega (arith, p.0.on)) p.1.0.last p.0.within few (omega (arith, p.0.kept.long)) hj);
                left = v.0.there;
                right = w.there;
                counts = w.counts;
              },
        ),
      )

  pub row-broken : {L : List ℕ} (k j : ℕ) (d : Cursor) → test_at t K n (is_kind 20) c.pos ≡ true → RowCells X t n K L (onward c) (record { cur = d; count = k; kept = j; close = None })
      → MatrixRow X t n K L c (record { cur = d; count = k; kept = j; close = None })
  row-broken k j d h p =
      let b : c.pos < n = test_below t K n (is_kind 20) c.pos h in (
        record { within = p.0.within; on = omega (arith, p.0.on); depth = p.0.depth; kept = p.0.kept },
        λ I s at.
            let v = took-any at.given at.pos b in
            let w = p.1 I (tick s) (at_tick at) in
            record {
              state = w.state;
              runs = row-taken I (readers c.depth I) s (tick s) v.0.entry none w.state v.1 (kind-is token.OpenBracket true v.0.row b h) w.runs ∙ ret _ _;
              at = w.at;
            },
      )

  -- by the flag
  pub row-met : {L J : List ℕ} (g : Cells) {q : ℕ} → n ≤ 4096 → record_words n ≤ length K → test_at t K n (is_kind 20) c.pos ≡ true → RowCells X t n K L (onward c) g → g.close ≡ Some q → J ≡ with_closer L c.pos (n - q) → MatrixRow X t n K J c g
  row-met {L} {J} g {q} few fit h p e hj = rw e (row-shut g.count g.kept q g.cur few fit h (rw e at p) hj)

  pub row-unmet : {L : List ℕ} (g : Cells) → test_at t K n (is_kind 20) c.pos ≡ true → RowCells X t n K L (onward c) g → g.close ≡ None → MatrixRow X t n K L c g
  row-unmet {L} g h p e = rw e (row-broken g.count g.kept g.cur h (rw e at p))

  pub row-none : test_at t K n (is_kind 20) c.pos ≡ false → c.pos ≤ n → MatrixRow X t n K K c (record { cur = passing n c; count = 0; kept = 0; close = None })
  unfolding next_matrix_row
  row-none h k = (
    record { within = passing-within n c k; on = omega (arith, passing-on n c); depth = passing-depth n c; kept = kept_refl K },
    λ I s at. go I s at (ltb c.pos n) refl,
  )
    where
      go : (I : Input) (s : State) → At X t n K c.pos c.takes I s → (b : Bool) → ltb c.pos n ≡ b → Fails X t n K (row_at c.depth I) I s (passing n c)
      go I s at true eq =
          let b : c.pos < n = ltb-true c.pos n eq in
          let v = took-any at.given at.pos b in
          rw (passing-in n c b) (record { state = tick s; runs = bind _ _ s (at_here s) ∙ bind _ _ s v.1 ∙ if_false _ _ _ (kind-is token.OpenBracket false v.0.row b h) ∙ ret _ _; at = at_tick at })
      go I s at false eq =
          let b : n ≤ c.pos = ltb-false c.pos n eq in
          rw (passing-out n c b) (record { state = s; runs = bind _ _ s (at_here s) ∙ bind _ _ s (end-any at.given at.pos b) ∙ ret _ _; at = at })
