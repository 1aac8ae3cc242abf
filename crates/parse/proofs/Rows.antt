-- The rows of a matrix: the loop over them, and what each way out of it shows.
use Prim.Native.Nat.{ℕ, suc, ◌+◌, ◌*◌, ◌-◌, ◌≤◌, ◌<◌}
use mathlib.Core.Path.{◌≡◌, refl, sym, ap, ◌∙◌, subst}
use mathlib.Core.List.{List, [], ◌∷◌, ◌++◌, append-nil}
use mathlib.Core.Option.{Option, none, some}
use mathlib.Core.Bool.{Bool, true, false, cond}
use native.Mathlib.Omega.{arith}
use lib.ListN.{length, get_elem?}
use lib.Dec.{eqb}
use borrow.Author.Tests.{eq-eqb}
use Rattle.tokens.specs.declared.token.Token.TheVariants as token
use Rattle.tree.specs.Tree.{Nodes, ◌⧺◌, count}
use Rattle.tree.specs.Words.{encodes}
use Rattle.reading.specs.Entries.{Entry, is}
use Rattle.reading.specs.Reading.{State, is_at, any, advance, Rows, join_rows, more_rows, next_matrix_rows, alike}
use Rattle.reading_cursor.specs.declared.Cursor.{Cursor}
use Rattle.parse.specs.Buffer.{Wrote}
use Rattle.lookahead.specs.Tests.{test_at, is_kind}
use Rattle.rows.specs.Rows.{pair_at, round_at}
use Rattle.parse.specs.Meet.{Each}
use Rattle.reading_cursor.specs.Moves.{onward}
use Rattle.parse.proofs.Buffer.{seq, back, wrote_none}
use Rattle.lookahead.proofs.Testing.{test_below}
use Rattle.reading.specs.Reading as reading
use Rattle.std.specs.declared.option.Option.TheVariants.{Some, None}
use Rattle.parse.specs.declared.cursor.Why.{Why}
use Rattle.parse.specs.declared.cursor.Why.TheVariants as why
use Rattle.parse.specs.declared.cursor.Rows as rows
use Rattle.columns.specs.Rows as columns
use Rattle.parse.specs.Matrix.{Broke, Filled, why_more, why_more_at, why_rows_at, Fails, HasRow, MatrixRow, MoreRows, MoreRows', MatrixRows, MatrixRows'}
use Rattle.parse.proofs.Scripting.{encodes-append, count-append}
use Rattle.reading_words.specs.Meet.{Input, At, Known, readers, row_at, First, more_at, rows_at}
use Rattle.stores.proofs.Stores.{kept_refl, kept_trans}
use Rattle.reading_words.proofs.Kit.{bind, ret, at_here, if_true, if_false, tick, at_tick}
use Rattle.reading_words.proofs.Steps.{alike-pair, brackets-are, is_at_is, nodes-assoc, nodes-nil, pair_is, turn-broken, turn-differs, turn-done, turn_more, with_row, with_rows, took-any}

-- rows put together
joined_snoc : (acc : List Nodes) (r : Nodes) → columns.joined (acc ++ (r ∷ [])) ≡ columns.joined acc ⧺ r
unfolding join_rows
joined_snoc [] r = nodes-nil r
joined_snoc (a ∷ acc) r = ap (λ (w : Nodes). a ⧺ w) (joined_snoc acc r) ∙ sym (nodes-assoc a (columns.joined acc) r)

grid_snoc : {cols : ℕ} {acc : List Nodes} {r : Nodes} → columns.Grid cols acc → columns.Cells cols r → columns.Grid cols (acc ++ (r ∷ []))
grid_snoc columns.Grid.none c = columns.Grid.row c columns.Grid.none
grid_snoc (columns.Grid.row d g) c = columns.Grid.row d (grid_snoc g c)

abbrev first : Why × State → Why
first q = q.0

-- one turn of the reasons
module _ (I : Input) (d f : ℕ) (h : reading.Row) (s : State) where
  why_done : is_at I.text I.es (is token.Sep) s.pos ≡ false → (why_more d I (suc f) h s).0 ≡ why.Done
  unfolding why_more
  why_done k = ap first (bind _ _ s (at_here s) ∙ if_false _ _ s k ∙ ret _ _)

  module _ (k : is_at I.text I.es (is token.Sep) s.pos ≡ true) {e : Entry} {v w : State} (adv : advance I.text I.es any s ≡ (some e, v)) where
    why_broken : row_at d I v ≡ (none, w) → (why_more d I (suc f) h s).0 ≡ why.Broken
    unfolding why_more
    why_broken r = ap first (bind _ _ s (at_here s) ∙ if_true _ _ s k ∙ bind _ _ s adv ∙ bind _ _ v r ∙ ret _ _)

    module _ {row : reading.Row} (r : row_at d I v ≡ (some row, w)) where
      why_differs : alike I.text I.es h row ≡ false → (why_more d I (suc f) h s).0 ≡ why.Differs
      unfolding why_more
      why_differs u = ap first (bind _ _ s (at_here s) ∙ if_true _ _ s k ∙ bind _ _ s adv ∙ bind _ _ v r ∙ if_false _ _ w u ∙ ret _ _)

      why_on : alike I.text I.es h row ≡ true → why_more d I (suc f) h s ≡ why_more d I f h w
      unfolding why_more
      why_on u = bind _ _ s (at_here s) ∙ if_true _ _ s k ∙ bind _ _ s adv ∙ bind _ _ v r ∙ if_true _ _ w u

-- At the loop's head: the rows read so far, and turns enough for the rest.
pub record Along (X t : List ℕ) (n : ℕ) (L : List ℕ) (d : ℕ) (I : Input) (h : reading.Row) (cols : ℕ) (s : State) (e : ℕ) (x y : List ℕ) (cur : Cursor) (stp num : ℕ) : Type 0 where
  pub left : ℕ
  pub acc : List Nodes
  pub state : State
  pub whole : more_at d h I s ≡ with_rows acc (more_rows I.text I.es true (readers d I) (suc left) h state)
  pub reason : (why_more_at d h I s).0 ≡ (why_more d I (suc left) h state).0
  pub enough : n - cur.pos ≤ left
  pub at : At X t n L cur.pos cur.takes I state
  pub tree : Wrote x e y stp (encodes (columns.joined acc))
  pub number : num ≡ cols + count (columns.joined acc)
  pub all : columns.Grid cols acc

pub record Inv (X t : List ℕ) (n : ℕ) (K L : List ℕ) (cols : ℕ) (round : Bool) (c : Cursor) (e : ℕ) (x y : List ℕ) (cur : Cursor) (stp num : ℕ) : Type 0 where
  pub moves : Filled X t n K L c e x y (num - cols) cur stp
  pub least : cols ≤ num
  pub along : Each X t n K c (λ I s. (h : reading.Row) → First I cols round h → Along X t n L c.depth I h cols s e x y cur stp num)

module _ {X t : List ℕ} {n : ℕ} {K : List ℕ} (cols l : ℕ) (round : Bool) (c : Cursor) (e : ℕ) (x : List ℕ) where
  pub rows_none : c.pos ≤ n → Known X t n K → Inv X t n K K cols round c e x x c e cols
  unfolding encodes join_rows
  rows_none k kn = record {
    moves = record { within = k; on = omega arith; depth = refl; room = omega arith; long = refl; kept = kept_refl K; known = kn };
    least = omega arith;
    along = λ I s at h fst. record { left = length I.es; acc = []; state = s; whole = none_first (more_at c.depth h I s); reason = refl; enough = omega (arith, at.given.size); at = at; tree = wrote_none x e; number = omega arith; all = columns.Grid.none };
  }
    where
      none_first : (q : Option (List Nodes) × State) → q ≡ with_rows [] q
      none_first (none, u) = refl
      none_first (some m, u) = refl

  module _ {L y : List ℕ} {cur : Cursor} {stp num : ℕ} (i : Inv X t n K L cols round c e x y cur stp num) (room : e + 32 * (n - c.pos) ≤ length x) where
    pub rows-done : test_at t L n (is_kind 3) cur.pos ≡ false → MoreRows X t n K L cols l round c e x y (record { cur = cur; end = stp; cells = num; cols = cols; left = l; why = why.Done })
    rows-done k = (
      record { cols' = refl; left' = refl },
      (
        i.moves,
        i.least,
        λ I s at h fst.
            let a = i.along I s at h fst in
            record {
              others = a.acc;
              state = a.state;
              runs = a.whole ∙ ap (with_rows a.acc) (turn-done I (readers c.depth I) a.left h a.state (ap (is_at I.text I.es (is token.Sep)) (sym a.at.pos) ∙ is_at_is token.Sep cur.pos a.at.given ∙ k)) ∙ ap (λ (w : List Nodes). (some w, a.state)) (append-nil a.acc);
              at = a.at;
              number = a.number;
              all = a.all;
              tree = a.tree;
            },
      ),
      λ I s at h fst.
          let a = i.along I s at h fst in
          a.reason ∙ why_done I c.depth a.left h a.state (ap (is_at I.text I.es (is token.Sep)) (sym a.at.pos) ∙ is_at_is token.Sep cur.pos a.at.given ∙ k),
    )

    module _ (k : test_at t L n (is_kind 3) cur.pos ≡ true) where
      sep-there : {I : Input} {s : State} → At X t n L cur.pos cur.takes I s → is_at I.text I.es (is token.Sep) s.pos ≡ true
      sep-there {I} {s} a = ap (is_at I.text I.es (is token.Sep)) (sym a.pos) ∙ is_at_is token.Sep cur.pos a.given ∙ k

      inside : cur.pos < n
      inside = test_below t L n (is_kind 3) cur.pos k

      -- whatever the cells and the end that a broken row left
      pub rows-broken : {J z : List ℕ} (m : ℕ) (d : Cursor) (E v F : ℕ) → MatrixRow X t n L J (onward cur) stp y z (record { cur = d; end = E; count = m; close = None })
          → MoreRows X t n K J cols l round c e x z (record { cur = d; end = F; cells = v; cols = cols; left = l; why = why.Broken })
      rows-broken m d E v F p = (
        record { cols' = refl; left' = refl },
        (
          record { within = p.0.within; depth = p.0.depth ∙ i.moves.depth; long = p.0.long ∙ i.moves.long; kept = kept_trans i.moves.kept p.0.kept; known = p.0.known },
          λ I s at h fst.
              let a = i.along I s at h fst in
              let u = took-any a.at.given a.at.pos inside in
              let q = rw i.moves.depth at (p.1 I (tick a.state) (at_tick a.at)) in
              record {
                state = q.state;
                runs = a.whole ∙ ap (with_rows a.acc) (turn-broken I (readers c.depth I) a.left h a.state (sep-there a.at) u.1 q.runs);
                at = q.at;
                tree = back e (seq a.tree q.tree) (omega arith) (omega (arith, i.moves.room));
              },
        ),
        λ I s at h fst.
            let a = i.along I s at h fst in
            let u = took-any a.at.given a.at.pos inside in
            let q = rw i.moves.depth at (p.1 I (tick a.state) (at_tick a.at)) in
            a.reason ∙ why_broken I c.depth a.left h a.state (sep-there a.at) u.1 q.runs,
      )

      module _ {J z : List ℕ} {m q E : ℕ} {d : Cursor} (p : MatrixRow X t n L J (onward cur) stp y z (record { cur = d; end = E; count = m; close = Some q })) where
        alike-row : {I : Input} {s : State} {h : reading.Row} (row : reading.Row) → At X t n J d.pos d.takes I s → First I cols round h → get_elem? I.es (cur.pos + 1) ≡ some row.left → get_elem? I.es q ≡ some row.right → m ≡ count row.cells
            → alike I.text I.es h row ≡ cond (eqb cols m) (pair_at X t J round (cur.pos + 1) q) false
        alike-row {I} {s} {h} row a fst tl tr hm = alike-pair I round h row fst.pair fst.number hm ∙ ap (λ (b : Bool). cond (eqb cols m) b false) (pair_is round row a.given p.2 p.3 tl tr)

        pub rows-differ : cond (eqb cols m) (pair_at X t J round (cur.pos + 1) q) false ≡ false → (v : ℕ) → MoreRows X t n K J cols l round c e x z (record { cur = d; end = E; cells = v; cols = cols; left = l; why = why.Differs })
        rows-differ df v = (
          record { cols' = refl; left' = refl },
          (
            record { within = p.0.within; depth = p.0.depth ∙ i.moves.depth; long = p.0.long ∙ i.moves.long; kept = kept_trans i.moves.kept p.0.kept; known = p.0.known },
            λ I s at h fst.
                let a = i.along I s at h fst in
                let u = took-any a.at.given a.at.pos inside in
                let w = rw i.moves.depth at (p.4 I (tick a.state) (at_tick a.at)) in
                record {
                  state = w.state;
                  runs = a.whole ∙ ap (with_rows a.acc) (turn-differs I (readers c.depth I) a.left h a.state (sep-there a.at) u.1 w.runs (alike-row w.row w.at fst w.left w.right w.number ∙ df));
                  at = w.at;
                  tree = back e (seq a.tree w.tree) (omega arith) (omega (arith, i.moves.room, p.0.room));
                },
          ),
          λ I s at h fst.
              let a = i.along I s at h fst in
              let u = took-any a.at.given a.at.pos inside in
              let w = rw i.moves.depth at (p.4 I (tick a.state) (at_tick a.at)) in
              a.reason ∙ why_differs I c.depth a.left h a.state (sep-there a.at) u.1 w.runs (alike-row w.row w.at fst w.left w.right w.number ∙ df),
        )

        pub rows_more : cols ≡ m → pair_at X t J round (cur.pos + 1) q ≡ true → Inv X t n K J cols round c e x z d E (num + m)
        rows_more hm lk = record {
          moves = record { within = p.0.within; on = omega (arith, i.moves.on, p.0.on, i.least); depth = p.0.depth ∙ i.moves.depth; room = omega (arith, i.moves.room, p.0.room, i.least, p.0.on); long = p.0.long ∙ i.moves.long; kept = kept_trans i.moves.kept p.0.kept; known = p.0.known };
          least = omega (arith, i.least);
          along = λ I s at h fst.
              let a = i.along I s at h fst in
              let u = took-any a.at.given a.at.pos inside in
              let w = rw i.moves.depth at (p.4 I (tick a.state) (at_tick a.at)) in
              let R = readers c.depth I in
              let l1 : a.left ≡ suc (a.left - 1) = omega (arith, a.enough, inside) in
              let rest = more_rows I.text I.es true R a.left h w.state in
              let al : alike I.text I.es h w.row ≡ true = alike-row w.row w.at fst w.left w.right w.number ∙ rw (eq-eqb cols m hm, lk) in
              record {
                left = a.left - 1;
                acc = a.acc ++ (w.row.cells ∷ []);
                state = w.state;
                whole = a.whole ∙ ap (with_rows a.acc) (turn_more I R a.left h a.state (sep-there a.at) u.1 w.runs al)
                    ∙ with_row a.acc w.row.cells rest.0 rest.1
                    ∙ ap (λ (j : ℕ). with_rows (a.acc ++ (w.row.cells ∷ [])) (more_rows I.text I.es true R j h w.state)) l1;
                reason = a.reason ∙ ap first (why_on I c.depth a.left h a.state (sep-there a.at) u.1 w.runs al) ∙ ap (λ (j : ℕ). (why_more c.depth I j h w.state).0) l1;
                enough = omega (arith, l1, a.enough, p.0.on, p.1);
                at = w.at;
                tree = rw (joined_snoc a.acc w.row.cells, encodes-append (columns.joined a.acc) w.row.cells) (seq a.tree w.tree);
                number = rw (joined_snoc a.acc w.row.cells) (omega (arith, a.number, w.number, count-append (columns.joined a.acc) w.row.cells));
                all = grid_snoc a.all (subst (λ (j : ℕ). columns.Cells j w.row.cells) (sym hm) w.all);
              };
        }

-- all rows: the first, and the others
module _ (X t : List ℕ) (n : ℕ) (K L : List ℕ) (c : Cursor) (e : ℕ) (x y : List ℕ) where
  pub matrix-broken : (m : ℕ) (d : Cursor) (E v F k l : ℕ) → MatrixRow X t n K L c e x y (record { cur = d; end = E; count = m; close = None })
      → MatrixRows X t n K L c e x y (record { cur = d; end = F; cells = v; cols = k; left = l; why = why.Broken })
  unfolding next_matrix_rows why_rows_at
  matrix-broken m d E v F k l p = (
    (
      p.0,
      λ I s at. let q = p.1 I s at in record { state = q.state; runs = bind _ _ s q.runs ∙ ret _ _; at = q.at; tree = q.tree },
    ),
    λ I s at. let q = p.1 I s at in ap first (bind _ _ s q.runs ∙ ret _ _),
  )

  module _ (m q E : ℕ) (d : Cursor) (p : MatrixRow X t n K L c e x y (record { cur = d; end = E; count = m; close = Some q })) (room : e + 32 * (n - c.pos) ≤ length x) where
    pub matrix-differs : pair_at X t L (round_at X t L c.pos) c.pos q ≡ false → (v F k l : ℕ) → MatrixRows X t n K L c e x y (record { cur = d; end = F; cells = v; cols = k; left = l; why = why.Differs })
    unfolding next_matrix_rows why_rows_at
    matrix-differs df v F k l = (
      (
        record { within = p.0.within; depth = p.0.depth; long = p.0.long; kept = p.0.kept; known = p.0.known },
        λ I s at.
            let w = p.4 I s at in
            record {
              state = w.state;
              runs = bind _ _ s w.runs ∙ if_false _ _ _ (brackets-are w.row w.at.given p.2 p.3 w.left w.right ∙ df) ∙ ret _ _;
              at = w.at;
              tree = back e w.tree (omega arith) (omega (arith, p.0.room));
            },
      ),
      λ I s at.
          let w = p.4 I s at in
          ap first (bind _ _ s w.runs ∙ if_false _ _ _ (brackets-are w.row w.at.given p.2 p.3 w.left w.right ∙ df) ∙ ret _ _),
    )

    module _ (bk : pair_at X t L (round_at X t L c.pos) c.pos q ≡ true) (J z : List ℕ) where
      firstly : {I : Input} {s : State} (w : HasRow X t n L (row_at c.depth I) I s e x y c.pos q m d E) → First I m (round_at X t L c.pos) w.row
      firstly w = record { pair = pair_is (round_at X t L c.pos) w.row w.at.given p.2 p.3 w.left w.right ∙ bk; number = w.number }

      more-fails : {f : Cursor} (g : Each X t n L d (λ I s. (h : reading.Row) → First I m (round_at X t L c.pos) h → Fails X t n J (more_at d.depth h I) I s E y z f)) → Each X t n K c (λ I s. Fails X t n J (rows_at c.depth I) I s e x z f)
      unfolding next_matrix_rows
      more-fails g I s at =
          let w = p.4 I s at in
          let v = rw p.0.depth at (g I w.state w.at w.row (firstly w)) in
          record {
            state = v.state;
            runs = bind _ _ s w.runs ∙ if_true _ _ _ (brackets-are w.row w.at.given p.2 p.3 w.left w.right ∙ bk) ∙ bind _ _ _ v.runs ∙ ret _ _;
            at = v.at;
            tree = back e (seq w.tree v.tree) (omega arith) (omega (arith, p.0.room));
          }

      broke : {f : Cursor} → Broke X t n L J d E y z f → Broke X t n K J c e x z f
      broke b = record { within = b.within; depth = b.depth ∙ p.0.depth; long = b.long ∙ p.0.long; kept = kept_trans p.0.kept b.kept; known = b.known }

      by_reason : (k : ℕ) (f : Cursor) (F : ℕ) (w : Why) → MoreRows' X t n L J m (round_at X t L c.pos) d E y z k f F w → MatrixRows' X t n K J c e x z m c.pos k f F w
      unfolding next_matrix_rows join_rows
      by_reason k f F why.Differs g = (broke g.0, more-fails g.1)
      by_reason k f F why.Broken g = (broke g.0, more-fails g.1)
      by_reason k f F why.Done g = (
        record { within = g.0.within; on = omega (arith, p.0.on, g.0.on, g.1); depth = g.0.depth ∙ p.0.depth; room = omega (arith, p.0.room, g.0.room, g.1); long = g.0.long ∙ p.0.long; kept = kept_trans p.0.kept g.0.kept; known = g.0.known },
        p.1,
        g.1,
        p.2,
        λ I s at.
            let w = p.4 I s at in
            let v = rw p.0.depth at (g.2 I w.state w.at w.row (firstly w)) in
            record {
              rows = record { head = w.row; others = v.others };
              state = v.state;
              runs = bind _ _ s w.runs ∙ if_true _ _ _ (brackets-are w.row w.at.given p.2 p.3 w.left w.right ∙ bk) ∙ bind _ _ _ v.runs ∙ ret _ _;
              at = v.at;
              left = w.left;
              number = omega (arith, v.number, w.number, count-append w.row.cells (columns.joined v.others));
              all = columns.Grid.row w.all v.all;
              tree = rw (encodes-append w.row.cells (columns.joined v.others)) (seq w.tree v.tree);
            },
      )

      more-reason : (r : Why) → Each X t n L d (λ I s. (h : reading.Row) → First I m (round_at X t L c.pos) h → (why_more_at d.depth h I s).0 ≡ r) → Each X t n K c (λ I s. (why_rows_at c.depth I s).0 ≡ r)
      unfolding why_rows_at
      more-reason r g I s at =
          let w = p.4 I s at in
          let v = rw p.0.depth at (g I w.state w.at w.row (firstly w)) in
          ap first (bind _ _ s w.runs ∙ if_true _ _ _ (brackets-are w.row w.at.given p.2 p.3 w.left w.right ∙ bk)) ∙ v

      pub matrix-more : (g : rows.Rows) → MoreRows X t n L J m c.pos (round_at X t L c.pos) d E y z g → MatrixRows X t n K J c e x z g
      matrix-more g p2 = rw (p2.0.cols', p2.0.left') (by_reason g.cells g.cur g.end g.why p2.1, more-reason g.why p2.2)
