-- What each way through the attempt at a matrix shows.
use Prim.Native.Nat.{ℕ, suc, ◌+◌, ◌*◌, ◌-◌, ◌≤◌, ◌<◌}
use mathlib.Core.Path.{◌≡◌, refl, sym, ap, ◌∙◌, subst}
use mathlib.Core.List.{List, [], ◌∷◌, ◌++◌, append_assoc}
use mathlib.Core.Option.{Option, some}
use mathlib.Core.Bool.{true, false}
use native.Mathlib.Omega.{arith}
use lib.ListN.{length, length-append, get_or, get_elem?, take}
use lib.Dec.{ltb}
use lib.Seq.{sets, length-sets, take-take, take_at, length-take-le, get_or-take, get_or-append-add}
use Rattle.tree.specs.Tree.{Head, Node, node, Nodes, end, ◌▸◌, ◌⧺◌, count}
use Rattle.tree.specs.Words.{encode, encodes, encode_items}
use Rattle.reading.specs.Entries.{Entry}
use Rattle.reading.specs.Reading.{State, M, matrix_mark, made, lost, makes_matrix, try_matrix, ends_operand, look, Rows, join_rows, matrix_body, split_column_lines}
use Rattle.reading_cursor.specs.declared.Cursor.{Cursor}
use Rattle.std.specs.Prelude.{Ok, Err}
use Rattle.parse.specs.Buffer.{Wrote}
use Rattle.records.specs.Record.{marks_of, Whole, Kept}
use Rattle.brackets.specs.Brackets.{could_be_matrix_at, makes_at}
use Rattle.marks.specs.Marks.{is_marked}
use Rattle.nodes.specs.Nodes.{matrix_words}
use Rattle.parse.specs.Meet.{Moves, Misses, Each, TryMatrix, missed_at}
use Rattle.reading_cursor.specs.Moves.{onward, rewound}
use Rattle.parse.proofs.Buffer.{fill, back, wrote_none}
use Rattle.columns.specs.declared.Split.{Split}
use Rattle.columns.specs.Columns.{cells_end}
use Rattle.columns.specs.Rows as columns
use Rattle.parse.specs.Columns.{SplitReady, MatrixAt, Splits}
use Rattle.parse.specs.Matrix.{Broke, Filled, Fails, HasMatrix}
use Rattle.parse.proofs.Cells.{cell-words}
use Rattle.parse.proofs.Scripting.{count-append}
use Rattle.reading_words.specs.Meet.{Input, Row, At, Known, readers, rows_at}
use Rattle.stores.proofs.Stores.{kept_refl, kept_trans, marks-kept}
use Rattle.reading_words.proofs.Kit.{shut, ret-closed, at_shut, bind, ret, at_here, if_true, if_false, tick, at_tick, row_of}
use Rattle.reading_words.proofs.Attempts.{mark-is, at_lost, known-lost, attempt-known, attempt-made, attempt-lost, marked}
use Rattle.reading_words.proofs.Matrices.{gate_is, makes_below, makes_is}
use Rattle.reading_words.proofs.Steps.{took-any}

-- the words of the cells chain by their headers
after : {x₀ x v : List ℕ} {e E : ℕ} (u : List ℕ) → Wrote x₀ e x E (u ++ v) → E ≤ length x → Wrote x (e + length u) x E v
after {x₀} {x} {v} {e} {E} u p h =
    let up : E ≡ e + (length u + length v) = p.upto ∙ ap (λ (k : ℕ). e + k) (length-append u v) in
    let le : length (take e x₀) ≡ e = length-take-le e x₀ (omega (arith, p.long)) in
    let lu : length (take e x₀ ++ u) ≡ e + length u = length-append (take e x₀) u ∙ ap (λ (k : ℕ). k + length u) le in
    let b : take E x ≡ (take e x₀ ++ u) ++ v = p.body ∙ sym (append_assoc (take e x₀) u v) in
    let f : take (e + length u) x ≡ take e x₀ ++ u = sym (take-take (e + length u) E x (omega arith)) ∙ ap (take (e + length u)) b ∙ take_at (take e x₀ ++ u) v (e + length u) lu in
    record { upto = omega (arith, up); long = refl; body = b ∙ ap (λ (w : List ℕ). w ++ v) (sym f) }

word_at : {x₀ x w : List ℕ} {e E : ℕ} (k : ℕ) → Wrote x₀ e x E w → E ≤ length x → k < length w → get_or x (e + k) 0 ≡ get_or w k 0
word_at {x₀} {x} {w} {e} {E} k p h l =
    let le : length (take e x₀) ≡ e = length-take-le e x₀ (omega (arith, p.upto, p.long)) in
    sym (get_or-take E x (e + k) 0 (omega (arith, p.upto))) ∙ ap (λ (v : List ℕ). get_or v (e + k) 0) p.body ∙ ap (λ (j : ℕ). get_or (take e x₀ ++ w) (j + k) 0) (sym le) ∙ get_or-append-add (take e x₀) w k 0

encodes_more : (x : Node) (l : Nodes) → encodes (x ▸ l) ≡ encode x ++ encodes l
unfolding encodes
encodes_more x l = refl

encodes-end : encodes end ≡ []
unfolding encodes
encodes-end = refl

abbrev cell_words : Nodes → List ℕ
cell_words l = 17 ∷ 0 ∷ 0 ∷ count l ∷ length (encode_items l) ∷ 0 ∷ encode_items l

pub chain-of : {x₀ x : List ℕ} {e E k : ℕ} {l : Nodes} → columns.Cells k l → Wrote x₀ e x E (encodes l) → E ≤ length x → cells_end x e k ≡ E
unfolding cells_end
chain-of {e = e} columns.Cells.none p h = omega (arith, p.upto, ap length encodes-end)
chain-of {x₀} {x} {e} {E} (columns.Cells.cell {l = l} {m = m} {n = n} c) p h =
    let cw : encodes (node Head.cell l ▸ m) ≡ cell_words l ++ encodes m = encodes_more (node Head.cell l) m ∙ ap (λ (v : List ℕ). v ++ encodes m) (cell-words l refl refl) in
    let p2 : Wrote x₀ e x E (cell_words l ++ encodes m) = subst (λ (v : List ℕ). Wrote x₀ e x E v) cw p in
    let w4 : get_or x (e + 4) 0 ≡ length (encode_items l) = word_at 4 p2 h (omega (arith, length-append (cell_words l) (encodes m))) in
    let q : Wrote x (e + length (cell_words l)) x E (encodes m) = after (cell_words l) p2 h in
    let z : e + length (cell_words l) ≡ e + (6 + get_or x (e + 4) 0) = omega (arith, w4) in
    ap (λ (k : ℕ). cells_end x k n) (sym z) ∙ chain-of {x₀ = x} c q h

cells-append : {j k : ℕ} {l m : Nodes} → columns.Cells j l → columns.Cells k m → columns.Cells (j + k) (l ⧺ m)
cells-append {k = k} {m = m} columns.Cells.none d = let z : k ≡ 0 + k = omega arith in subst (λ (i : ℕ). columns.Cells i m) z d
cells-append {k = k} {m = m} (columns.Cells.cell {l = l} {m = l2} {n = n} c) d =
    let z : suc (n + k) ≡ suc n + k = omega arith in
    subst (λ (i : ℕ). columns.Cells i (node Head.cell l ▸ (l2 ⧺ m))) z (columns.Cells.cell (cells-append c d))

cells_count : {k : ℕ} {l : Nodes} → columns.Cells k l → count l ≡ k
cells_count columns.Cells.none = refl
cells_count (columns.Cells.cell c) = ap suc (cells_count c)

grid_cells : {cols : ℕ} {rs : List Nodes} → columns.Grid cols rs → columns.Cells (count (columns.joined rs)) (columns.joined rs)
unfolding join_rows
grid_cells columns.Grid.none = columns.Cells.none
grid_cells {cols} (columns.Grid.row {r = r} {rs = rs} c g) =
    let z : cols + count (columns.joined rs) ≡ count (r ⧺ columns.joined rs) = omega (arith, cells_count c, count-append r (columns.joined rs)) in
    subst (λ (i : ℕ). columns.Cells i (r ⧺ columns.joined rs)) z (cells-append c (grid_cells g))

pub split-ready : {X t : List ℕ} {n : ℕ} {L x y : List ℕ} {m : M (Option Rows)} {I : Input} {s : State} {e cols l k E : ℕ} {d : Cursor} → HasMatrix X t n L m I s e x y cols l k d E → 1 ≤ cols → cols ≤ k → k ≤ 4096 → E + k ≤ length y
    → SplitReady y e E k cols
split-ready {y = y} {e = e} {k = k} {E = E} w h1 h2 h3 h4 = record {
  chain = ap (λ (j : ℕ). cells_end y e j) w.number ∙ chain-of (grid_cells w.all) w.tree (omega arith);
  some = omega arith;
  few = omega arith;
  room = omega arith;
}

matrix-encoded : {t K : List ℕ} {i j k : ℕ} {a b : Entry} (cols v : ℕ) (lines : List ℕ) (cells : Nodes) → Row t K i a → Row t K j b → count cells ≡ k → length lines ≡ v
    → encode (node (Head.matrix a.span b.span cols lines) cells) ≡ matrix_words t K i j k cols v ++ (encodes cells ++ lines)
unfolding encode
matrix-encoded cols v lines cells r r2 hk hv = rw (← hk, ← hv, r.start, r.len, r2.start, r2.len)

-- the attempt
module _ {X t : List ℕ} {n : ℕ} {K : List ℕ} (i : ℕ) (c : Cursor) (e : ℕ) (x : List ℕ) (inside : i < n) (here-n : c.pos ≤ n) where
  pub try_shut : could_be_matrix_at X t K n i ≡ false → Known X t n K → TryMatrix X t n K K i c e x x (Err (missed_at c))
  unfolding try_matrix
  try_shut h kn = (
    record { within = here-n; on = omega arith; depth = refl; room = omega arith; long = refl; kept = kept_refl K; known = kn },
    λ I s at en there. record { state = s; runs = if_false _ _ s (gate_is at.given inside there ∙ h) ∙ ret _ _; at = at; tree = wrote_none x e },
  )

  module _ (gate : could_be_matrix_at X t K n i ≡ true) where
    pub try_known : is_marked (marks_of K i) 4 ≡ true → Known X t n K → TryMatrix X t n K K i c e x x (Err (missed_at c))
    unfolding try_matrix
    try_known h kn = (
      record { within = here-n; on = omega arith; depth = refl; room = omega arith; long = refl; kept = kept_refl K; known = kn },
      λ I s at en there. record {
        state = s;
        runs = if_true _ _ s (gate_is at.given inside there ∙ gate) ∙ attempt-known I.text I.es matrix_mark i _ s (sym (mark-is matrix_mark i at.marks inside) ∙ h);
        at = at;
        tree = wrote_none x e;
      },
    )

    module _ (new : is_marked (marks_of K i) 4 ≡ false) (L y : List ℕ) (room : e + 20 + 32 * (n - c.pos) ≤ length x) where
      lost-numbers : {N z : List ℕ} (d : Cursor) → d.depth ≡ c.depth → length z ≡ length x → Kept K L → Known X t n L → Whole L i → N ≡ marked L matrix_mark i
          → Moves X t 0 0 0 n K N c e x z (rewound c.pos d) e
      lost-numbers d hd long kp kn fit hn = record { within = here-n; on = omega arith; depth = hd; room = omega arith; long = long; kept = kept_trans kp (rw hn (marks-kept L i _)); known = known-lost matrix_mark i kn inside fit hn }

      lost-runs : {N z : List ℕ} {I : Input} {s u : State} {en : Entry} (d : Cursor) → At X t n K c.pos c.takes I s → get_elem? I.es i ≡ some en → matrix_body I.text I.es true (readers c.depth I) en i s ≡ (lost, u)
          → At X t n L d.pos d.takes I u → Whole L i → N ≡ marked L matrix_mark i → Wrote x e z e []
          → Misses X t n N (try_matrix I.text I.es true (readers c.depth I) en i) I s e x z (rewound c.pos d)
      unfolding try_matrix
      lost-runs {I = I} {s = s} d at there run at2 fit hn wr = record {
        state = _;
        runs = if_true _ _ s (gate_is at.given inside there ∙ gate) ∙ attempt-lost I.text I.es matrix_mark i _ s (sym (mark-is matrix_mark i at.marks inside) ∙ new) run;
        at = at_lost matrix_mark i at2 at inside fit hn;
        tree = wr;
      }

      pub try_broken : {N : List ℕ} {d : Cursor} → Broke X t n K L c (e + 8) x y d → Each X t n K c (λ I s. Fails X t n L (rows_at c.depth I) I s (e + 8) x y d)
          → Whole L i → N ≡ marked L matrix_mark i → TryMatrix X t n K N i c e x y (Err (missed_at (rewound c.pos d)))
      unfolding matrix_body
      try_broken {d = d} b p fit hn = (
        lost-numbers d b.depth b.long b.kept b.known fit hn,
        λ I s at en there.
            let q = p I s at in
            lost-runs d at there (bind _ _ s q.runs ∙ ret _ _) q.at fit hn (back e q.tree (omega arith) (omega arith)),
      )

      module _ {cols l k E : ℕ} {d : Cursor} (z : List ℕ) (sp : Split) (f : Filled X t n K L c (e + 8) x y k d E) (few : cols ≤ k) (hl : l < n) (p : Each X t n K c (λ I s. HasMatrix X t n L (rows_at c.depth I) I s (e + 8) x y cols l k d E))
          (sl : Splits X y (e + 8) E k cols z sp) (lz : length z ≡ length y) where
        record Split-at (I : Input) (s : State) : Type 0 where
          pub has : HasMatrix X t n L (rows_at c.depth I) I s (e + 8) x y cols l k d E
          pub mat : MatrixAt (split_column_lines I.text I.es has.rows) x (e + 8) z sp

        split_at : (I : Input) (s : State) → At X t n K c.pos c.takes I s → Split-at I s
        split_at I s at =
            let q = p I s at in
            record { has = q; mat = subst (λ (w : List ℕ). MatrixAt (split_column_lines w I.es q.rows) x (e + 8) z sp) (sym at.given.text) (sl.gives I.es q.rows x q.all q.tree) }

        pub try_unmade : {N : List ℕ} → makes_at X t L n i l sp.cells d.pos ≡ false → Whole L i → N ≡ marked L matrix_mark i → TryMatrix X t n K N i c e x z (Err (missed_at (rewound c.pos d)))
        unfolding matrix_body
        try_unmade h fit hn = (
          lost-numbers d f.depth (lz ∙ f.long) f.kept f.known fit hn,
          λ I s at en there.
              let w = split_at I s at in
              let q = w.has in
              let m : makes_matrix I.text I.es en i q.rows q.state.pos ≡ false = ap (makes_matrix I.text I.es en i q.rows) (sym q.at.pos) ∙ makes_is q.at.given inside there sp.cells q.rows d.pos hl q.left (ap (ltb 1) w.mat.size) ∙ h in
              lost-runs d at there (bind _ _ s q.runs ∙ bind _ _ _ (at_here q.state) ∙ if_false _ _ _ m ∙ ret _ _) q.at fit hn (back e w.mat.wrote (omega arith) (omega (arith, f.room, sl.within))),
        )

        pub try_made : {w : List ℕ} → makes_at X t L n i l sp.cells d.pos ≡ true → w ≡ sets z e (matrix_words t L i d.pos sp.cells sp.cols sp.lines) → TryMatrix X t n K L i c e x w (Ok (record { cur = onward d; end = sp.end; ends = true }))
        unfolding try_matrix matrix_body ends_operand look
        try_made {w} h hw =
            let b : d.pos < n = makes_below X t L n i l sp.cells d.pos h in (
              record { within = omega arith; on = omega (arith, f.on); depth = f.depth; room = omega (arith, f.room, sl.within); long = ap length hw ∙ length-sets z e (matrix_words t L i d.pos sp.cells sp.cols sp.lines) ∙ lz ∙ f.long; kept = f.kept; known = f.known },
              λ I s at en there.
                  let v = split_at I s at in
                  let q = v.has in
                  let u = took-any q.at.given q.at.pos b in
                  let m : makes_matrix I.text I.es en i q.rows q.state.pos ≡ true = ap (makes_matrix I.text I.es en i q.rows) (sym q.at.pos) ∙ makes_is q.at.given inside there sp.cells q.rows d.pos hl q.left (ap (ltb 1) v.mat.size) ∙ h in
                  let mn : (split_column_lines I.text I.es q.rows).0 en.span u.0.entry.span ≡ node (Head.matrix en.span u.0.entry.span sp.cols v.mat.lines) v.mat.cells = v.mat.made en.span u.0.entry.span in
                  record {
                    node = node (Head.matrix en.span u.0.entry.span sp.cols v.mat.lines) v.mat.cells;
                    state = shut i (tick q.state);
                    runs = if_true _ _ s (gate_is at.given inside there ∙ gate) ∙ attempt-made I.text I.es matrix_mark i _ s (sym (mark-is matrix_mark i at.marks inside) ∙ new) _
                        (bind _ _ s q.runs ∙ bind _ _ _ (at_here q.state) ∙ if_true _ _ _ m ∙ bind _ _ _ u.1 ∙ ret-closed _ _ _ ∙ ap (λ (x : Node). (made x, shut i (tick q.state))) mn);
                    at = at_shut i (at_tick q.at);
                    tree = rw (hw, matrix-encoded sp.cols sp.lines v.mat.lines v.mat.cells (row_of q.at.given inside there) u.0.row v.mat.kept v.mat.bars) (fill e (matrix_words t L i d.pos sp.cells sp.cols sp.lines) v.mat.wrote refl (omega (arith, f.room, sl.within)));
                    besides = refl;
                  },
            )
