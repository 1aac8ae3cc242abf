-- The loop over a matrix's rows.
use Prim.Native.Nat.{ℕ, suc, ◌+◌, ◌-◌, ◌≤◌, ◌<◌}
use mathlib.Core.Path.{◌≡◌, refl, sym, ap, ◌∙◌}
use mathlib.Core.List.{List, [], ◌∷◌, ◌++◌, append-nil}
use mathlib.Core.Option.{Option, none, some}
use mathlib.Core.Bool.{Bool, true, false, cond}
use native.Mathlib.Omega.{arith}
use lib.ListN.{length, get_elem?}
use lib.Dec.{eqb}
use borrow.Author.Tests.{ne_eqb, eq-eqb}
use Rattle.tokens.specs.declared.token.Token.TheVariants as token
use Rattle.tree.specs.Tree.{Nodes, count}
use Rattle.reading.specs.Entries.{is}
use Rattle.reading.specs.Reading.{State, is_at, more_rows, next_matrix_rows, alike}
use Rattle.reading.specs.Reading as reading
use Rattle.lookahead.specs.Tests.{test_at, is_kind}
use Rattle.lookahead.proofs.Testing.{test_below}
use Rattle.rows.specs.Rows.{pair_at, round_at}
use Rattle.reading_cursor.specs.declared.Cursor.{Cursor}
use Rattle.std.proofs.Common.{Some, None}
use Rattle.closers_pass.specs.declared.cursor.Cells.{Cells}
use Rattle.closers_pass.specs.declared.cursor.Others as code
use Rattle.reading_words.specs.Meet.{Input, readers, First, more_at}
use Rattle.closers_pass.specs.Meet.{At, Moves, Each}
use Rattle.reading_cursor.specs.Moves.{onward}
use Rattle.closers_pass.specs.Matrix.{Behind, MatrixRow, MoreRows, MatrixRows}
use Rattle.stores.proofs.Stores.{kept_refl, kept_trans}
use Rattle.reading_words.proofs.Kit.{bind, ret, if_true, if_false, tick}
use Rattle.closers_pass.proofs.Kit.{at_tick}
use Rattle.reading_words.proofs.Steps.{alike-pair, brackets-are, is_at_is, pair_is, turn-broken, turn-differs, turn-done, turn_more, with_row, with_rows, took-any}

behind-snoc : (more : Bool) (acc : List Nodes) (r : Nodes) → Behind more acc → 1 ≤ count r → Behind true (acc ++ (r ∷ []))
behind-snoc more [] r h k = k
behind-snoc true (q ∷ qs) r h k = h
behind-snoc false (q ∷ qs) r h k = absurd h

-- At the loop's head: the rows read so far, and turns enough for the rest.
pub record Along (X t : List ℕ) (n : ℕ) (L : List ℕ) (d : ℕ) (I : Input) (h : reading.Row) (s : State) (cur : Cursor) (more : Bool) : Type 0 where
  pub left : ℕ
  pub acc : List Nodes
  pub state : State
  pub whole : more_at d h I s ≡ with_rows acc (more_rows I.text I.es true (readers d I) (suc left) h state)
  pub enough : n - cur.pos ≤ left
  pub at : At X t n L cur.pos cur.takes I state
  pub behind : Behind more acc

pub record Inv (X t : List ℕ) (n : ℕ) (K L : List ℕ) (cols : ℕ) (round : Bool) (c cur : Cursor) (more : Bool) : Type 0 where
  pub moves : Moves 0 n K L c cur
  pub along : Each X t n K c (λ I s. (h : reading.Row) → First I cols round h → Along X t n L c.depth I h s cur more)

module _ {X t : List ℕ} {n : ℕ} {K : List ℕ} (cols : ℕ) (round : Bool) (c : Cursor) where
  pub rows_none : c.pos ≤ n → Inv X t n K K cols round c c false
  rows_none k = record {
    moves = record { within = k; on = omega arith; depth = refl; kept = kept_refl K };
    along = λ I s at h fst. record { left = length I.es; acc = []; state = s; whole = none_first (more_at c.depth h I s); enough = omega (arith, at.given.size); at = at; behind = tt };
  }
    where
      none_first : (q : Option (List Nodes) × State) → q ≡ with_rows [] q
      none_first (none, u) = refl
      none_first (some m, u) = refl

  module _ {L : List ℕ} {cur : Cursor} {more : Bool} (i : Inv X t n K L cols round c cur more) where
    pub rows-done : test_at t L n (is_kind 3) cur.pos ≡ false → MoreRows X t n K L cols round c (record { cur = cur; done = true; more = more })
    rows-done k = (
      i.moves,
      λ I s at h fst.
          let a = i.along I s at h fst in
          record {
            others = a.acc;
            state = a.state;
            runs = a.whole ∙ ap (with_rows a.acc) (turn-done I (readers c.depth I) a.left h a.state (ap (is_at I.text I.es (is token.Sep)) (sym a.at.pos) ∙ is_at_is token.Sep cur.pos a.at.given ∙ k)) ∙ ap (λ (w : List Nodes). (some w, a.state)) (append-nil a.acc);
            at = a.at;
            behind = a.behind;
          },
    )

    module _ (J : List ℕ) (m j q : ℕ) (d : Cursor) (k : test_at t L n (is_kind 3) cur.pos ≡ true) where
      sep-there : {I : Input} {s : State} → At X t n L cur.pos cur.takes I s → is_at I.text I.es (is token.Sep) s.pos ≡ true
      sep-there {I} {s} a = ap (is_at I.text I.es (is token.Sep)) (sym a.pos) ∙ is_at_is token.Sep cur.pos a.given ∙ k

      inside : cur.pos < n
      inside = test_below t L n (is_kind 3) cur.pos k

      broken : MatrixRow X t n L J (onward cur) (record { cur = d; count = m; kept = j; close = None }) → MoreRows X t n K J cols round c (record { cur = d; done = false; more = more })
      broken p = (
        record { within = p.0.within; on = omega (arith, p.0.on, i.moves.on); depth = p.0.depth ∙ i.moves.depth; kept = kept_trans i.moves.kept p.0.kept },
        λ I s at h fst.
            let a = i.along I s at h fst in
            let u = took-any a.at.given a.at.pos inside in
            let q = rw i.moves.depth at (p.1 I (tick a.state) (at_tick a.at)) in
            record {
              state = q.state;
              runs = a.whole ∙ ap (with_rows a.acc) (turn-broken I (readers c.depth I) a.left h a.state (sep-there a.at) u.1 q.runs);
              at = q.at;
            },
      )

      module _ (p : MatrixRow X t n L J (onward cur) (record { cur = d; count = m; kept = j; close = Some q })) where
        alike-row : {I : Input} {s : State} {h : reading.Row} (row : reading.Row) → At X t n J d.pos d.takes I s → First I cols round h → get_elem? I.es (cur.pos + 1) ≡ some row.left → get_elem? I.es q ≡ some row.right → m ≡ count row.cells
            → alike I.text I.es h row ≡ cond (eqb cols m) (pair_at X t J round (cur.pos + 1) q) false
        alike-row {I} {s} {h} row a fst tl tr hm = alike-pair I round h row fst.pair fst.number hm ∙ ap (λ (b : Bool). cond (eqb cols m) b false) (pair_is round row a.given p.1.1 p.1.0.inside tl tr)

        differ : cond (eqb cols m) (pair_at X t J round (cur.pos + 1) q) false ≡ false → MoreRows X t n K J cols round c (record { cur = d; done = false; more = more })
        differ df = (
          record { within = p.0.within; on = omega (arith, p.0.on, i.moves.on); depth = p.0.depth ∙ i.moves.depth; kept = kept_trans i.moves.kept p.0.kept },
          λ I s at h fst.
              let a = i.along I s at h fst in
              let u = took-any a.at.given a.at.pos inside in
              let w = rw i.moves.depth at (p.1.2 I (tick a.state) (at_tick a.at)) in
              record {
                state = w.state;
                runs = a.whole ∙ ap (with_rows a.acc) (turn-differs I (readers c.depth I) a.left h a.state (sep-there a.at) u.1 w.runs (alike-row w.row w.at fst w.left w.right w.counts.number ∙ df));
                at = w.at;
              },
        )

        same_row : cond (eqb cols m) (pair_at X t J round (cur.pos + 1) q) false ≡ true → Inv X t n K J cols round c d true
        same_row sm = record {
          moves = record { within = p.0.within; on = omega (arith, p.0.on, i.moves.on); depth = p.0.depth ∙ i.moves.depth; kept = kept_trans i.moves.kept p.0.kept };
          along = λ I s at h fst.
              let a = i.along I s at h fst in
              let u = took-any a.at.given a.at.pos inside in
              let w = rw i.moves.depth at (p.1.2 I (tick a.state) (at_tick a.at)) in
              let l1 : a.left ≡ suc (a.left - 1) = omega (arith, a.enough, inside) in
              let R = readers c.depth I in
              let rest = more_rows I.text I.es true R a.left h w.state in
              record {
                left = a.left - 1;
                acc = a.acc ++ (w.row.cells ∷ []);
                state = w.state;
                whole = a.whole ∙ ap (with_rows a.acc) (turn_more I R a.left h a.state (sep-there a.at) u.1 w.runs (alike-row w.row w.at fst w.left w.right w.counts.number ∙ sm))
                    ∙ with_row a.acc w.row.cells rest.0 rest.1
                    ∙ ap (λ (m : ℕ). with_rows (a.acc ++ (w.row.cells ∷ [])) (more_rows I.text I.es true R m h w.state)) l1;
                enough = omega (arith, l1, a.enough, p.0.on);
                at = w.at;
                behind = behind-snoc more a.acc w.row.cells a.behind (omega (arith, p.1.0.some, w.counts.number));
              };
        }

    -- by the flags
    module _ (J : List ℕ) (g : Cells) (k : test_at t L n (is_kind 3) cur.pos ≡ true) (p : MatrixRow X t n L J (onward cur) g) where
      pub rows-broken : g.close ≡ None → MoreRows X t n K J cols round c (record { cur = g.cur; done = false; more = more })
      rows-broken e = broken J g.count g.kept 0 g.cur k (rw e at p)

      pub rows-count : {q : ℕ} → g.close ≡ Some q → (g.count ≡ cols → ⊥) → MoreRows X t n K J cols round c (record { cur = g.cur; done = false; more = more })
      rows-count {q} e h = differ J g.count g.kept q g.cur k (rw e at p) (rw (ne_eqb cols g.count (λ z. h (sym z))))

      module _ {q : ℕ} (e : g.close ≡ Some q) (h : g.count ≡ cols) where
        pub rows-differ : pair_at X t J round (cur.pos + 1) q ≡ false → MoreRows X t n K J cols round c (record { cur = g.cur; done = false; more = more })
        rows-differ df = differ J g.count g.kept q g.cur k (rw e at p) (rw (eq-eqb cols g.count (sym h)) df)

        pub rows_more : pair_at X t J round (cur.pos + 1) q ≡ true → Inv X t n K J cols round c g.cur true
        rows_more df = same_row J g.count g.kept q g.cur k (rw e at p) (rw (eq-eqb cols g.count (sym h)) df)

-- all rows
module _ (X t : List ℕ) (n : ℕ) (K L : List ℕ) (c : Cursor) (m j q : ℕ) (d : Cursor) where
  broken-first : MatrixRow X t n K L c (record { cur = d; count = m; kept = j; close = None }) → MatrixRows X t n K L c (record { cur = d; done = false; more = false; cols = m; kept = j })
  unfolding next_matrix_rows
  broken-first p = (p.0, λ I s at. let w = p.1 I s at in record { state = w.state; runs = bind _ _ s w.runs ∙ ret _ _; at = w.at })

  module _ (p : MatrixRow X t n K L c (record { cur = d; count = m; kept = j; close = Some q })) where
    differs_first : pair_at X t L (round_at X t L c.pos) c.pos q ≡ false → MatrixRows X t n K L c (record { cur = d; done = false; more = false; cols = m; kept = j })
    unfolding next_matrix_rows
    differs_first df = (
      p.0,
      λ I s at.
          let w = p.1.2 I s at in
          record { state = w.state; runs = bind _ _ s w.runs ∙ if_false _ _ _ (brackets-are w.row w.at.given p.1.1 p.1.0.inside w.left w.right ∙ df) ∙ ret _ _; at = w.at },
    )

    module _ (bk : pair_at X t L (round_at X t L c.pos) c.pos q ≡ true) (J : List ℕ) (f : Cursor) (more : Bool) where
      by_done : (b : Bool) → MoreRows X t n L J m (round_at X t L c.pos) d (record { cur = f; done = b; more = more }) → MatrixRows X t n K J c (record { cur = f; done = b; more = more; cols = m; kept = j })
      unfolding next_matrix_rows
      by_done false g = (
        record { within = g.0.within; on = omega (arith, p.0.on, g.0.on); depth = g.0.depth ∙ p.0.depth; kept = kept_trans p.0.kept g.0.kept },
        λ I s at.
            let w = p.1.2 I s at in
            let v = rw p.0.depth at (g.1 I w.state w.at w.row (record { pair = pair_is (round_at X t L c.pos) w.row w.at.given p.1.1 p.1.0.inside w.left w.right ∙ bk; number = w.counts.number })) in
            record { state = v.state; runs = bind _ _ s w.runs ∙ if_true _ _ _ (brackets-are w.row w.at.given p.1.1 p.1.0.inside w.left w.right ∙ bk) ∙ bind _ _ _ v.runs ∙ ret _ _; at = v.at },
      )
      by_done true g = (
        record { within = g.0.within; on = omega (arith, p.0.on, g.0.on); depth = g.0.depth ∙ p.0.depth; kept = kept_trans p.0.kept g.0.kept },
        (
          p.1.0.some,
          p.1.1,
          λ I s at.
              let w = p.1.2 I s at in
              let v = rw p.0.depth at (g.1 I w.state w.at w.row (record { pair = pair_is (round_at X t L c.pos) w.row w.at.given p.1.1 p.1.0.inside w.left w.right ∙ bk; number = w.counts.number })) in
              record {
                rows = record { head = w.row; others = v.others };
                state = v.state;
                runs = bind _ _ s w.runs ∙ if_true _ _ _ (brackets-are w.row w.at.given p.1.1 p.1.0.inside w.left w.right ∙ bk) ∙ bind _ _ _ v.runs ∙ ret _ _;
                at = v.at;
                left = w.left;
                counts = w.counts;
                behind = v.behind;
              },
        ),
      )

module _ (X t : List ℕ) (n : ℕ) (K L : List ℕ) (c : Cursor) (g : Cells) (p : MatrixRow X t n K L c g) where
  pub matrix-broken : g.close ≡ None → MatrixRows X t n K L c (record { cur = g.cur; done = false; more = false; cols = g.count; kept = g.kept })
  matrix-broken e = broken-first X t n K L c g.count g.kept 0 g.cur (rw e at p)

  pub matrix-differs : {q : ℕ} → g.close ≡ Some q → pair_at X t L (round_at X t L c.pos) c.pos q ≡ false → MatrixRows X t n K L c (record { cur = g.cur; done = false; more = false; cols = g.count; kept = g.kept })
  matrix-differs {q} e df = differs_first X t n K L c g.count g.kept q g.cur (rw e at p) df

  pub matrix-more : (J : List ℕ) (h : code.Others) {q : ℕ} → g.close ≡ Some q → pair_at X t L (round_at X t L c.pos) c.pos q ≡ true → MoreRows X t n L J g.count (round_at X t L c.pos) g.cur h → MatrixRows X t n K J c (record { cur = h.cur; done = h.done; more = h.more; cols = g.count; kept = g.kept })
  matrix-more J h {q} e bk p2 = by_done X t n K L c g.count g.kept q g.cur (rw e at p) bk J h.cur h.more h.done p2
