-- Brackets: the attempts at a matrix and at a bar's group, and what gives them back.
use Prim.Native.Nat.{ℕ, suc, ◌-◌, ◌≤◌, ◌<◌}
use mathlib.Core.Path.{◌≡◌, refl, sym, ap, ◌∙◌, subst}
use mathlib.Core.List.{List, [], ◌∷◌}
use mathlib.Core.Option.{Option, none, some}
use mathlib.Core.Bool.{Bool, true, false, ◌&&◌, ◌||◌, cond}
use native.Mathlib.Omega.{arith}
use lib.ListN.{length, get_or, get_elem?, set}
use lib.Dec.{eqb, ltb}
use borrow.Author.Tests.{eqb-true, eq-eqb, ne_eqb}
use Rattle.tokens.specs.declared.token.Token.TheVariants as token
use Rattle.tokens.specs.Lexeme.{Span}
use Rattle.tree.specs.Tree.{nowhere, Head, Node, node, Nodes, end, ◌▸◌, count}
use Rattle.reading.specs.Entries.{Entry}
use Rattle.reading.specs.Reading.{State, made, lost, nought, any, open_mark, matrix_mark, slot, is_at, is_bar, makes_matrix, matrix_body, try_matrix, bar_body, next_open_group, next_open_close_group, next_bracket, glyph_of, ends_operand, look, atom_ends, is_bar_symbol, prefixes, Row, Rows, split_column_lines, line_cols, line_cells, kept_cols}
use Rattle.closers_laws.proofs.Nested.{Fit, Pairing, level-good, intermediates-pairs, next_intermediate-pairs, next_matrix_rows-pairs}
use Rattle.closers_laws.proofs.OneCell.{single, many}
use Rattle.lookahead.specs.Tests.{test_at, is_kind}
use Rattle.lookahead.proofs.Testing.{test_below}
use Rattle.brackets.specs.Brackets.{bar_at, could_be_matrix_at, set_at, makes_at}
use Rattle.marks.specs.Marks.{is_marked}
use Rattle.marks.specs.Marks as entry
use Rattle.leaves.specs.Leaves.{leaf_bar}
use Rattle.reading_cursor.specs.declared.Cursor.{Cursor}
use Rattle.closers_pass.specs.declared.cursor.Part.{Part}
use Rattle.closers_pass.specs.declared.cursor.Items.{Items}
use Rattle.closers_pass.specs.declared.cursor.Tried.{Tried}
use Rattle.closers_pass.specs.declared.cursor.Rows as rows
use Rattle.rows.specs.Rows.{cells_left}
use Rattle.records.specs.Record.{record_words, with_closer, marks_of}
use Rattle.closers_notes.specs.Notes.{gave_up}
use Rattle.closers_notes.proofs.Notes.{cleared-kept}
use Rattle.reading_words.specs.Meet.{Input, Given, readers, stop_of, intermediate_at, items_at, items_from, rows_at}
use Rattle.closers_pass.specs.Meet.{At, Moves, Gives, is_some, is_more, Grouped, Bracketed, Intermediates, OpenGroup, Bracket, TryMatrix, Bars, operation_at, leaf_at}
use Rattle.reading_cursor.specs.Moves.{onward, seen, rewound}
use Rattle.closers_pass.specs.Matrix.{Counts, Behind, MatrixRows}
use Rattle.stores.proofs.Stores.{kept_refl, kept_trans, marks-kept, closer-kept}
use Rattle.reading_words.proofs.Kit.{shut, ret-closed, bind, ret, at_here, if_true, if_false, tick, row_of, advance-took, same-is}
use Rattle.closers_pass.proofs.Kit.{at_tick, took, passed, at_shut, at_lost}
use Rattle.reading_words.proofs.Attempts.{mark_number, mark-is, attempt-known, attempt-made, attempt-lost, attempt-nought}
use Rattle.closers_pass.proofs.Simple.{got, lack, runs_as}
use Rattle.closers_pass.proofs.Loop.{whole-items}
use Rattle.reading_words.proofs.Steps.{More, bar-below, bar-body, bar-is, bar_end, byte-at, matrix-runs, number-open, open_known, took-any}
use Rattle.reading_words.proofs.Matrices.{gate_is, makes_below, makes_is}

-- What a reader closes lies behind its start.
fit_of : {X t : List ℕ} {n : ℕ} {K : List ℕ} {p u : ℕ} {I : Input} {s : State} → At X t n K p u I s → p ≤ n → Fit I.text I.es s
fit_of {n = n} {I = I} {s = s} a h = record {
  size = a.closed.size ∙ sym a.given.size;
  within = omega (arith, a.pos, a.given.size);
  free = λ j l. subst (λ (m : ℕ). get_or s.closers j m ≡ m) (sym a.given.size) (a.closed.free j l);
  most = λ j. subst (λ (m : ℕ). get_or s.closers j m ≤ m) (sym a.given.size) (a.closed.few j);
}

abbrev Low : ℕ → State → State → Type 0
Low n v s = (j : ℕ) → j < s.pos → get_or v.closers j n ≡ get_or s.closers j n

module _ {X t : List ℕ} {n : ℕ} {K : List ℕ} {p u : ℕ} {I : Input} {s : State} (d : ℕ) (a : At X t n K p u I s) (h : p ≤ n) where
  at_n : (v : State) → Low (length I.es) v s → Low n v s
  at_n v l j k = subst (λ (m : ℕ). get_or v.closers j m ≡ get_or s.closers j m) a.given.size (l j k)

  rows-low : {A : Option Rows} {v : State} → rows_at d I s ≡ (A, v) → Low n v s
  rows-low {v = v} r = at_n v (subst (λ (w : Option Rows × State). Low (length I.es) w.1 s) r ((next_matrix_rows-pairs I.text I.es (readers d I) (level-good I.text I.es (256 - d))).run s (fit_of a h)).low)

  items-low : (f : ℕ) (until : Option Entry) (stop : Bool) {l : Nodes} {v : State} → items_from d f until stop none I s ≡ (l, v) → Low n v s
  items-low f until stop {l} {v} r = at_n v (go (intermediate_at d stop true I s) refl)
    where
      go : (q : Option Node × State) → intermediate_at d stop true I s ≡ q → Low (length I.es) v s
      go (none, w) k =
          let one = (next_intermediate-pairs I.text I.es (readers d I) (level-good I.text I.es (256 - d)) (stop_of stop) true).run s (fit_of a h) in
          let same : ◌≡◌ {A = Nodes × State} (end, w) (l, v) = sym (bind _ _ s k ∙ ret _ _) ∙ r in
          subst (λ (z : Nodes × State). Low (length I.es) z.1 s) same (subst (λ (z : Option Node × State). Low (length I.es) z.1 s) k one.low)
      go (some x, w) k =
          let one = subst (λ (z : Option Node × State). Pairing I.text I.es s z.1) k ((next_intermediate-pairs I.text I.es (readers d I) (level-good I.text I.es (256 - d)) (stop_of stop) true).run s (fit_of a h)) in
          let two = (intermediates-pairs I.text I.es (readers d I) (level-good I.text I.es (256 - d)) f until (stop_of stop) (some x)).run w one.fit in
          let e = items_at d f until stop (some x) I w in
          let same : ◌≡◌ {A = Nodes × State} (x ▸ e.0, e.1) (l, v) = sym (bind _ _ s k ∙ bind _ _ w refl ∙ ret _ _) ∙ r in
          subst (λ (z : Nodes × State). Low (length I.es) z.1 s) same (λ j b. two.low j (omega (arith, one.on)) ∙ one.low j b)

-- "One cell left after that is no matrix."
one_cell : (k c : ℕ) → (ltb 1 k || (eqb k 0 && ltb 1 c)) ≡ ltb 1 (cond (eqb k 0) c k)
one_cell k c = go (eqb k 0) refl
  where
    or-false : (b : Bool) → (b || false) ≡ b
    or-false true = refl
    or-false false = refl

    go : (b : Bool) → eqb k 0 ≡ b → (ltb 1 k || (b && ltb 1 c)) ≡ ltb 1 (cond b c k)
    go true e = let z : k ≡ 0 = eqb-true k 0 e in ap (λ (m : ℕ). ltb 1 m || ltb 1 c) z
    go false e = or-false (ltb 1 k)

cells_are : (I : Input) (h : Row) (others : List Nodes) (more : Bool) {cols kept : ℕ} → Counts I cols kept h.cells → 1 ≤ cols → Behind more others → ltb 1 (split_column_lines I.text I.es (record { head = h; others = others })).1 ≡ ltb 1 (cells_left true more cols kept)
cells_are I h [] false {cols} {kept} c k b = single I.text I.es h ∙ one_cell (kept_cols (line_cells I.text I.es h.cells)) (count h.cells) ∙ sym (rw (c.number, c.kept'))
cells_are I h [] true c k b = absurd b
cells_are I h (q ∷ qs) false c k b = absurd b
cells_are I h (q ∷ qs) true c k b = many I.text I.es h q qs (omega (arith, c.number)) b

matrix-grouped : (X t : List ℕ) (n : ℕ) (I : Input) (r : Rows) (a b : Span) → Grouped X t n I ((split_column_lines I.text I.es r).0 a b)
unfolding split_column_lines ends_operand look is_bar_symbol
matrix-grouped X t n I r a b = go (eqb (kept_cols (line_cols I.text I.es r.head.cells r.others)) 0) refl (eqb (kept_cols (line_cols I.text I.es r.head.cells r.others)) (count r.head.cells)) refl
  where
    go : (x : Bool) → eqb (kept_cols (line_cols I.text I.es r.head.cells r.others)) 0 ≡ x → (y : Bool) → eqb (kept_cols (line_cols I.text I.es r.head.cells r.others)) (count r.head.cells) ≡ y → Grouped X t n I ((split_column_lines I.text I.es r).0 a b)
    go true e y e' = record { ends = rw (split_column_lines, e); bar = rw (split_column_lines, e) }
    go false e true e' = record { ends = rw (split_column_lines, e, e'); bar = rw (split_column_lines, e, e') }
    go false e false e' = record { ends = rw (split_column_lines, e, e'); bar = rw (split_column_lines, e, e') }

makes_none : (X t K : List ℕ) (n i l p : ℕ) → makes_at X t K n i l 0 p ≡ true → ⊥
unfolding makes_at
makes_none X t K n i l p h = go (ltb p n) (set_at X t K l p) h
  where
    go : (a b : Bool) → cond a (cond b false false) false ≡ true → ⊥
    go true true k = let z : ◌≡◌ {A = ℕ} 0 1 = cc in omega arith
    go true false k = let z : ◌≡◌ {A = ℕ} 0 1 = cc in omega arith
    go false b k = let z : ◌≡◌ {A = ℕ} 0 1 = cc in omega arith

lost-moves : {n : ℕ} {K L N : List ℕ} {c d : Cursor} (i : ℕ) → c.pos ≤ n → Moves 0 n K L c d → N ≡ gave_up i 4 c.pos d.pos L → Moves 0 n K N c (rewound c.pos d)
lost-moves {L = L} i h mv g = record { within = h; on = omega arith; depth = mv.depth; kept = kept_trans mv.kept (rw g (kept_trans (marks-kept L i _) (cleared-kept _ _ _))) }

-- the attempt at a matrix
no_some : {X t : List ℕ} {n : ℕ} {I : Input} (x : Node) → ◌≡◌ {A = Option Node} none (some x) → Grouped X t n I x
no_some x h = let z : ◌≡◌ {A = ℕ} 0 1 = cc in absurd (omega arith)

same-node : {x y : Node} → ◌≡◌ {A = Option Node} (some x) (some y) → x ≡ y
same-node h = cc

module _ {X t : List ℕ} {n : ℕ} {K : List ℕ} (i : ℕ) (c : Cursor) (inside : i < n) (before : i < c.pos) (here-n : c.pos ≤ n) (few : n ≤ 4096) (fit : record_words n ≤ length K) where
  pub try_shut : could_be_matrix_at X t K n i ≡ false → TryMatrix X t n K K i c (record { cur = c; made = false })
  unfolding try_matrix
  try_shut h = record {
    moves = record { within = here-n; on = omega arith; depth = refl; kept = kept_refl K };
    means = λ I s at en there. record { answer = none; state = s; runs = if_false _ _ s (gate_is at.given inside there ∙ h) ∙ ret _ _; at = at; besides = (refl, λ x z. no_some x z) };
  }

  module _ (gate : could_be_matrix_at X t K n i ≡ true) where
    pub try_known : is_marked (marks_of K i) 4 ≡ true → TryMatrix X t n K K i c (record { cur = c; made = false })
    unfolding try_matrix
    try_known h = record {
      moves = record { within = here-n; on = omega arith; depth = refl; kept = kept_refl K };
      means = λ I s at en there. record { answer = none; state = s; runs = if_true _ _ s (gate_is at.given inside there ∙ gate) ∙ attempt-known I.text I.es matrix_mark i _ s (sym (mark-is matrix_mark i at.marks inside) ∙ h); at = at; besides = (refl, λ x z. no_some x z) };
    }

    module _ (new : is_marked (marks_of K i) 4 ≡ false) (L : List ℕ) (d : Cursor) (mv : Moves 0 n K L c d) where
      lost-runs : {N : List ℕ} {I : Input} {s u : State} {en : Entry} → At X t n K c.pos c.takes I s → get_elem? I.es i ≡ some en → matrix_body I.text I.es true (readers c.depth I) en i s ≡ (lost, u)
          → At X t n L d.pos d.takes I u → Low n u s → N ≡ gave_up i 4 c.pos d.pos L
          → Gives X t n N (try_matrix I.text I.es true (readers c.depth I) en i) (λ a. (false ≡ is_some a) × ((x : Node) → a ≡ some x → Grouped X t n I x)) I s (rewound c.pos d)
      unfolding try_matrix
      lost-runs {I = I} {s = s} at there run at2 low g = record {
        answer = none;
        state = _;
        runs = if_true _ _ s (gate_is at.given inside there ∙ gate) ∙ attempt-lost I.text I.es matrix_mark i _ s (sym (mark-is matrix_mark i at.marks inside) ∙ new) run;
        at = at_lost matrix_mark i at2 at inside (omega (arith, mv.kept.long)) low g;
        besides = (refl, λ x z. no_some x z);
      }

    module _ (new : is_marked (marks_of K i) 4 ≡ false) (L : List ℕ) (g : rows.Rows) (p : MatrixRows X t n K L c g) where
      pub try_broken : {N : List ℕ} → g.done ≡ false → N ≡ gave_up i 4 c.pos g.cur.pos L → TryMatrix X t n K N i c (record { cur = rewound c.pos g.cur; made = false })
      unfolding matrix_body
      try_broken h gu = record {
        moves = lost-moves i here-n p.0 gu;
        means = λ I s at en there.
            let q = (rw h at p.1) I s at in
            lost-runs new L g.cur p.0 at there (bind _ _ s q.runs ∙ ret _ _) q.at (rows-low c.depth at here-n q.runs) gu;
      }

      module _ (h : g.done ≡ true) where
        pub try_unmade : {N : List ℕ} → makes_at X t L n i c.pos (cells_left true g.more g.cols g.kept) g.cur.pos ≡ false → N ≡ gave_up i 4 c.pos g.cur.pos L → TryMatrix X t n K N i c (record { cur = rewound c.pos g.cur; made = false })
        unfolding matrix_body
        try_unmade k gu = record {
          moves = lost-moves i here-n p.0 gu;
          means = λ I s at en there.
              let b = rw h at p.1 in
              let q = b.2 I s at in
              let m : makes_matrix I.text I.es en i q.rows q.state.pos ≡ false = ap (makes_matrix I.text I.es en i q.rows) (sym q.at.pos) ∙ makes_is q.at.given inside there (cells_left true g.more g.cols g.kept) q.rows g.cur.pos b.1 q.left (cells_are I q.rows.head q.rows.others g.more q.counts b.0 q.behind) ∙ k in
              lost-runs new L g.cur p.0 at there (bind _ _ s q.runs ∙ bind _ _ _ (at_here q.state) ∙ if_false _ _ _ m ∙ ret _ _) q.at (rows-low c.depth at here-n q.runs) gu;
        }

        pub try_made : {J : List ℕ} → makes_at X t L n i c.pos (cells_left true g.more g.cols g.kept) g.cur.pos ≡ true → J ≡ with_closer L i (n - g.cur.pos) → TryMatrix X t n K J i c (record { cur = onward g.cur; made = true })
        unfolding try_matrix matrix_body
        try_made {J} k hj =
            let l : g.cur.pos < n = makes_below X t L n i c.pos (cells_left true g.more g.cols g.kept) g.cur.pos k in
            record {
              moves = record { within = omega arith; on = omega (arith, p.0.on); depth = p.0.depth; kept = kept_trans p.0.kept (rw hj (closer-kept L i _)) };
              means = λ I s at en there.
                  let b = rw h at p.1 in
                  let q = b.2 I s at in
                  let u = took-any q.at.given q.at.pos l in
                  let m : makes_matrix I.text I.es en i q.rows q.state.pos ≡ true = ap (makes_matrix I.text I.es en i q.rows) (sym q.at.pos) ∙ makes_is q.at.given inside there (cells_left true g.more g.cols g.kept) q.rows g.cur.pos b.1 q.left (cells_are I q.rows.head q.rows.others g.more q.counts b.0 q.behind) ∙ k in
                  record {
                    answer = some ((split_column_lines I.text I.es q.rows).0 en.span u.0.entry.span);
                    state = shut i (tick q.state);
                    runs = if_true _ _ s (gate_is at.given inside there ∙ gate) ∙ attempt-made I.text I.es matrix_mark i _ s (sym (mark-is matrix_mark i at.marks inside) ∙ new) _
                        (bind _ _ s q.runs ∙ bind _ _ _ (at_here q.state) ∙ if_true _ _ _ m ∙ bind _ _ _ u.1 ∙ ret-closed _ _ _);
                    at = at_shut i g.cur.pos (at_tick q.at) (omega (arith, p.0.on)) refl (omega arith) few (omega (arith, p.0.kept.long)) hj;
                    besides = (refl, λ x z. subst (λ (y : Node). Grouped X t n I y) (same-node z) (matrix-grouped X t n I q.rows en.span u.0.entry.span));
                  };
            }

    -- by the flag
    module _ (new : is_marked (marks_of K i) 4 ≡ false) (L : List ℕ) (g : rows.Rows) (p : MatrixRows X t n K L c g) where
      pub try_lost : {N : List ℕ} → makes_at X t L n i c.pos (cells_left g.done g.more g.cols g.kept) g.cur.pos ≡ false → N ≡ gave_up i 4 c.pos g.cur.pos L → TryMatrix X t n K N i c (record { cur = rewound c.pos g.cur; made = false })
      try_lost {N} k gu = go g.done refl
        where
          go : (b : Bool) → g.done ≡ b → TryMatrix X t n K N i c (record { cur = rewound c.pos g.cur; made = false })
          go true e = try_unmade new L g p e (rw e at k) gu
          go false e = try_broken new L g p e gu

      pub try_found : {J : List ℕ} → makes_at X t L n i c.pos (cells_left g.done g.more g.cols g.kept) g.cur.pos ≡ true → J ≡ with_closer L i (n - g.cur.pos) → TryMatrix X t n K J i c (record { cur = onward g.cur; made = true })
      try_found {J} k hj = go g.done refl
        where
          go : (b : Bool) → g.done ≡ b → TryMatrix X t n K J i c (record { cur = onward g.cur; made = true })
          go true e = try_made new L g p e (rw e at k) hj
          go false e = absurd (makes_none X t L n i c.pos g.cur.pos (rw e at k))

-- a group
module _ {X t : List ℕ} {n : ℕ} {K L : List ℕ} (i : ℕ) {c : Cursor} {g : Items} (inside : i < n) (before : i < c.pos) (few : n ≤ 4096) (fit : record_words n ≤ length K) (p : Intermediates X t n K L n false true true c g) where
  pub group-shut : {J : List ℕ} → test_at t L n (is_kind 21) g.cur.pos ≡ true → J ≡ with_closer L i (n - g.cur.pos) → OpenGroup X t n K J i c (onward g.cur)
  unfolding next_open_group ends_operand look is_bar_symbol prefixes
  group-shut {J} h hj =
      let b : g.cur.pos < n = test_below t L n (is_kind 21) g.cur.pos h in
      record {
        moves = record { within = omega arith; on = omega (arith, p.moves.on); depth = p.moves.depth; kept = kept_trans p.moves.kept (rw hj (closer-kept L i _)) };
        means = λ I s at en there.
            let q = whole-items p (omega arith) I s at none refl refl in
            let u = took (is_kind 21) q.at (same-is token.CloseBracket) h in
            record {
              answer = node (Head.group en.span u.0.entry.span) q.answer;
              state = shut i (tick q.state);
              runs = bind _ _ s q.runs ∙ bind _ _ _ u.1 ∙ ret-closed _ _ _;
              at = at_shut i g.cur.pos (at_tick q.at) (omega (arith, p.moves.on)) refl (omega arith) few (omega (arith, p.moves.kept.long)) hj;
              besides = record { ends = refl; bar = refl };
            };
      }

  pub group-open : test_at t L n (is_kind 21) g.cur.pos ≡ false → OpenGroup X t n K L i c (seen n g.cur)
  unfolding next_open_group ends_operand look is_bar_symbol prefixes
  group-open h = record {
    moves = record { within = p.moves.within; on = p.moves.on; depth = p.moves.depth; kept = p.moves.kept };
    means = λ I s at en there.
        let q = whole-items p (omega arith) I s at none refl refl in
        let u = passed (is_kind 21) q.at (same-is token.CloseBracket) h in
        record { answer = node (Head.group en.span nowhere) q.answer; state = u.state; runs = bind _ _ s q.runs ∙ bind _ _ _ u.runs ∙ ret _ _; at = u.at; besides = record { ends = refl; bar = refl } };
  }

-- a bar alone
alone : {X t : List ℕ} {n : ℕ} {J : List ℕ} {I : Input} {i : ℕ} {en : Entry} (d : Cursor) → i < n → Given X t n J I → get_elem? I.es i ≡ some en → Bracketed X t n I (leaf_at X t J i 22 d) (glyph_of en)
unfolding ends_operand look atom_ends is_bar_symbol leaf_bar
alone {I = I} {en = en} d inside g there = record { ends = refl; bar = sym (byte-at I.text I.es 124 en g.text (row_of g inside there)) }

-- a bar
more-none : (l : Nodes) → false ≡ is_more l → l ≡ end
more-none end h = refl
more-none (x ▸ l) h = let z : ◌≡◌ {A = ℕ} 0 1 = cc in absurd (omega arith)

more-some : (l : Nodes) → true ≡ is_more l → More l
more-some end h = let z : ◌≡◌ {A = ℕ} 0 1 = cc in absurd (omega arith)
more-some (x ▸ l) h = record { head = x; rest = l; is = refl }

module _ {X t : List ℕ} {n : ℕ} {K : List ℕ} (i : ℕ) (stop : Bool) {c : Cursor} (inside : i < n) (before : i < c.pos) (here-n : c.pos ≤ n) (few : n ≤ 4096) (fit : record_words n ≤ length K) where
  pub bars-known : is_marked (marks_of K i) (entry.open_mark stop) ≡ true → Bars X t n K K i stop c (leaf_at X t K i 22 c)
  bars-known h = (
    refl,
    record {
      moves = record { within = here-n; on = omega arith; depth = refl; kept = kept_refl K };
      means = λ I s at en there. record { answer = glyph_of en; state = s; runs = bind _ _ s (attempt-known I.text I.es (open_mark (stop_of stop)) i _ s (open_known i stop true at.marks inside h)) ∙ ret _ _; at = at; besides = alone c inside at.given there };
    },
  )

  module _ {J : List ℕ} {g : Items} (h : is_marked (marks_of K i) (entry.open_mark stop) ≡ false) (p : Intermediates X t n K J i stop true true c g) where
    pub bars-nought : g.some ≡ false → Bars X t n K J i stop c (leaf_at X t J i 22 (g.cur))
    unfolding prefixes
    bars-nought hc = (
      refl,
      record {
        moves = p.moves;
        means = λ I s at en there.
            let q = p.means I s at (suc (length I.es)) (omega (arith, at.given.size)) (some en) (inside, there) none refl refl in
            let body : bar_body I.text I.es true (readers c.depth I) en i (stop_of stop) s ≡ (nought, q.state) = bar-body I c.depth i en stop s q.runs ∙ ap (λ (l : Nodes). bar_end I i en l q.state) (more-none q.answer (sym hc ∙ q.besides.some)) ∙ ret _ _ in
            record { answer = glyph_of en; state = q.state; runs = bind _ _ s (attempt-nought I.text I.es (open_mark (stop_of stop)) i _ s (open_known i stop false at.marks inside h) body) ∙ ret _ _; at = q.at; besides = alone g.cur inside q.at.given there };
      },
    )

    module _ (hc : g.some ≡ true) where
      pub bars-made : {N : List ℕ} → bar_at X t J n i g.cur.pos ≡ true → N ≡ with_closer J i (n - g.cur.pos) → Bars X t n K N i stop c (operation_at (onward g.cur))
      unfolding ends_operand look is_bar_symbol prefixes any
      bars-made {N} hm hn =
          let l : g.cur.pos < n = bar-below X t J n i g.cur.pos hm in (
            refl,
            record {
              moves = record { within = omega arith; on = omega (arith, p.moves.on); depth = p.moves.depth; kept = kept_trans p.moves.kept (rw hn (closer-kept J i _)) };
              means = λ I s at en there.
                  let q = p.means I s at (suc (length I.es)) (omega (arith, at.given.size)) (some en) (inside, there) none refl refl in
                  let k = more-some q.answer (sym hc ∙ q.besides.some) in
                  let st = q.at.given.stands g.cur.pos l in
                  let m : is_at I.text I.es (is_bar I.text I.es en) q.state.pos ≡ true = ap (is_at I.text I.es (is_bar I.text I.es en)) (sym q.at.pos) ∙ bar-is i g.cur.pos en q.at.given inside there ∙ hm in
                  let adv = advance-took I.text I.es any q.state st.entry (ap (λ (k : ℕ). get_elem? I.es k) (sym q.at.pos) ∙ st.there) refl in
                  let body : bar_body I.text I.es true (readers c.depth I) en i (stop_of stop) s ≡ (made (node (Head.group en.span st.entry.span) (k.head ▸ k.rest)), shut i (tick q.state)) =
                  bar-body I c.depth i en stop s q.runs ∙ ap (λ (l : Nodes). bar_end I i en l q.state) k.is ∙ bind _ _ _ (at_here q.state) ∙ if_true _ _ _ m ∙ bind _ _ _ adv ∙ ret-closed _ _ _ in
                  record {
                    answer = node (Head.group en.span st.entry.span) (k.head ▸ k.rest);
                    state = shut i (tick q.state);
                    runs = bind _ _ s (attempt-made I.text I.es (open_mark (stop_of stop)) i _ s (open_known i stop false at.marks inside h) (node (Head.group en.span st.entry.span) (k.head ▸ k.rest)) body) ∙ ret _ _;
                    at = at_shut i g.cur.pos (at_tick q.at) (omega (arith, p.moves.on)) refl (omega arith) few (omega (arith, p.moves.kept.long)) hn;
                    besides = record { ends = refl; bar = refl };
                  };
            },
          )

      pub bars-lost : {N : List ℕ} → bar_at X t J n i g.cur.pos ≡ false → N ≡ gave_up i (entry.open_mark stop) c.pos g.cur.pos J → Bars X t n K N i stop c (leaf_at X t N i 22 (rewound c.pos g.cur))
      unfolding prefixes
      bars-lost {N} hm gu₀ =
          let gu : N ≡ gave_up i (mark_number (open_mark (stop_of stop))) c.pos g.cur.pos J = subst (λ (m : ℕ). N ≡ gave_up i m c.pos g.cur.pos J) (sym (number-open stop)) gu₀ in (
            refl,
            record {
              moves = record { within = here-n; on = omega arith; depth = p.moves.depth; kept = kept_trans p.moves.kept (rw gu (kept_trans (marks-kept J i _) (cleared-kept _ _ _))) };
              means = λ I s at en there.
                  let q = p.means I s at (suc (length I.es)) (omega (arith, at.given.size)) (some en) (inside, there) none refl refl in
                  let k = more-some q.answer (sym hc ∙ q.besides.some) in
                  let m : is_at I.text I.es (is_bar I.text I.es en) q.state.pos ≡ false = ap (is_at I.text I.es (is_bar I.text I.es en)) (sym q.at.pos) ∙ bar-is i g.cur.pos en q.at.given inside there ∙ hm in
                  let at2 = at_lost (open_mark (stop_of stop)) i q.at at inside (omega (arith, p.moves.kept.long)) (items-low c.depth at here-n (suc (length I.es)) (some en) stop q.runs) gu in
                  let body : bar_body I.text I.es true (readers c.depth I) en i (stop_of stop) s ≡ (lost, q.state) =
                  bar-body I c.depth i en stop s q.runs ∙ ap (λ (l : Nodes). bar_end I i en l q.state) k.is ∙ bind _ _ _ (at_here q.state) ∙ if_false _ _ _ m ∙ ret _ _ in
                  record {
                    answer = glyph_of en;
                    state = record { pos = s.pos; takes = q.state.takes; marks = set q.state.marks (slot (open_mark (stop_of stop)) i) true; closers = s.closers };
                    runs = bind _ _ s (attempt-lost I.text I.es (open_mark (stop_of stop)) i _ s (open_known i stop false at.marks inside h) body) ∙ ret _ _;
                    at = at2;
                    besides = alone (rewound c.pos g.cur) inside at2.given there;
                  };
            },
          )

module _ {X t : List ℕ} {n : ℕ} {K L : List ℕ} (i k : ℕ) (stop : Bool) {c : Cursor} {g : Tried} (p : TryMatrix X t n K L i c g) where
  pub bracket-matrix : g.made ≡ true → Bracket X t n K L i k stop c (operation_at g.cur)
  bracket-matrix h = (
    refl,
    record {
      moves = p.moves;
      means = λ I s at en there.
          let q = p.means I s at en there in
          let z = got q.answer (sym h ∙ q.besides.0) in
          let w = q.besides.1 z.node z.is in
          record { answer = z.node; state = q.state; runs = matrix-runs (eqb k 20) c.depth stop i I en s q.state z.node (runs_as q.runs z.is); at = q.at; besides = record { ends = w.ends; bar = w.bar } };
    },
  )

  module _ {J : List ℕ} (h : g.made ≡ false) where
    pub bracket-group : {d : Cursor} → k ≡ 20 → OpenGroup X t n L J i g.cur d → Bracket X t n K J i k stop c (operation_at d)
    unfolding next_bracket
    bracket-group {d} e p2 = rw (eq-eqb k 20 e) (
      refl,
      record {
        moves = record { within = p2.moves.within; on = omega (arith, p.moves.on, p2.moves.on); depth = p2.moves.depth ∙ p.moves.depth; kept = kept_trans p.moves.kept p2.moves.kept };
        means = λ I s at en there.
            let q = p.means I s at en there in
            let z = lack q.answer (sym h ∙ q.besides.0) in
            let q2 = rw p.moves.depth at (p2.means I q.state q.at en there) in
            record { answer = q2.answer; state = q2.state; runs = bind _ _ s (runs_as q.runs z) ∙ q2.runs; at = q2.at; besides = record { ends = q2.besides.ends; bar = q2.besides.bar } };
      },
    )

    pub bracket-bars : {j : Part} → (k ≡ 20 → ⊥) → Bars X t n L J i stop g.cur j → Bracket X t n K J i k stop c j
    unfolding next_open_close_group
    bracket-bars {j} e p2 = rw (ne_eqb k 20 e) (
      p2.0,
      record {
        moves = record { within = p2.1.moves.within; on = omega (arith, p.moves.on, p2.1.moves.on); depth = p2.1.moves.depth ∙ p.moves.depth; kept = kept_trans p.moves.kept p2.1.moves.kept };
        means = λ I s at en there.
            let q = p.means I s at en there in
            let z = lack q.answer (sym h ∙ q.besides.0) in
            let q2 = rw p.moves.depth at (p2.1.means I q.state q.at en there) in
            record { answer = q2.answer; state = q2.state; runs = bind _ _ s (runs_as q.runs z) ∙ q2.runs; at = q2.at; besides = record { ends = q2.besides.ends; bar = q2.besides.bar } };
      },
    )
