-- What each way through the group of a bar shows.
use Prim.Native.Nat.{ℕ, suc, ◌+◌, ◌*◌, ◌-◌, ◌≤◌, ◌<◌}
use mathlib.Core.Path.{◌≡◌, refl, sym, ap, ◌∙◌, subst}
use mathlib.Core.List.{List}
use mathlib.Core.Option.{none, some}
use mathlib.Core.Bool.{Bool, true, false}
use native.Mathlib.Omega.{arith}
use lib.ListN.{length, get_elem?, set}
use lib.Dec.{eqb}
use borrow.Author.Tests.{ne_eqb}
use lib.Seq.{sets, length-sets}
use Rattle.tree.specs.Tree.{Head, node, Nodes, end, ◌▸◌, count}
use Rattle.tree.specs.Words.{encode, encode_items}
use Rattle.reading.specs.Entries.{Entry}
use Rattle.reading.specs.Reading.{made, lost, nought, any, open_mark, slot, is_at, is_bar, bar_body, next_open_close_group, next_bracket, glyph_of, ends_operand, look, atom_ends, prefixes}
use Rattle.reading_cursor.specs.declared.Cursor.{Cursor}
use Rattle.std.specs.Prelude.{Ok, Err}
use Rattle.parse.specs.declared.cursor.Part.{Part}
use Rattle.parse.specs.declared.cursor.Items.{Items}
use Rattle.parse.specs.Buffer.{Wrote}
use Rattle.records.specs.Record.{marks_of, Whole, with_marks, Kept}
use Rattle.brackets.specs.Brackets.{bar_at}
use Rattle.marks.specs.Marks.{is_marked, with_mark}
use Rattle.leaves.specs.Leaves.{leaf_ends, leaf_words}
use Rattle.nodes.specs.Nodes.{group_words}
use Rattle.marks.specs.Marks as entry
use Rattle.parse.specs.Meet.{Intermediates, OpenGroup, Bracket, TryMatrix, Bars, missed_at}
use Rattle.reading_cursor.specs.Moves.{onward, rewound}
use Rattle.parse.proofs.Buffer.{push, fill, seq, back}
use Rattle.parse.proofs.Scripting.{closed-words, group-size}
use Rattle.reading_words.specs.Meet.{Row, Known, readers, stop_of}
use Rattle.stores.proofs.Stores.{kept_refl, kept_trans, marks-kept}
use Rattle.reading_words.proofs.Kit.{shut, ret-closed, at_shut, bind, ret, at_here, if_true, if_false, tick, at_tick, row_of, advance-took}
use Rattle.reading_words.proofs.Attempts.{at_lost, known-lost, attempt-known, attempt-made, attempt-lost, attempt-nought, marked}
use Rattle.reading_words.proofs.Steps.{More, bar-below, bar-body, bar-is, bar_end, matrix-runs, number-open, open_known}

pub open_small : (stop : Bool) → (0 < entry.open_mark stop) × (entry.open_mark stop < 8)
open_small true = (omega arith, omega arith)
open_small false = (omega arith, omega arith)

glyph-words : {t K : List ℕ} {i : ℕ} {en : Entry} → Row t K i en → encode (glyph_of en) ≡ leaf_words t K i 22
unfolding encode
glyph-words r = rw (r.start, r.len)

glyph-ends : (en : Entry) → true ≡ ends_operand (glyph_of en)
unfolding ends_operand look atom_ends
glyph-ends en = refl

count_none : (l : Nodes) → count l ≡ 0 → l ≡ end
count_none end h = refl
count_none (x ▸ l) h = absurd (omega arith)

count-some : (l : Nodes) → (count l ≡ 0 → ⊥) → More l
count-some end h = absurd (h refl)
count-some (x ▸ l) h = record { head = x; rest = l; is = refl }

module _ {X t : List ℕ} {n : ℕ} {K : List ℕ} (i : ℕ) (stop : Bool) {c : Cursor} {e : ℕ} {x : List ℕ} (inside : i < n) (here-n : c.pos ≤ n) (room : e + 20 + 32 * (n - c.pos) ≤ length x) where
  pub bars-known : {y : List ℕ} {g : Part} → is_marked (marks_of K i) (entry.open_mark stop) ≡ true → Known X t n K → y ≡ sets x e (leaf_words t K i 22) → g ≡ record { cur = c; end = e + 6; ends = leaf_ends 22 } → Bars X t n K K i stop c e x y g
  bars-known {y} {g} h kn hy hg = rw (hg, hy) (record {
    moves = record { within = here-n; on = omega arith; depth = refl; room = omega arith; long = length-sets x e (leaf_words t K i 22); kept = kept_refl K; known = kn };
    means = λ I s at en there.
        let r = row_of at.given inside there in
        record {
          answer = glyph_of en;
          state = s;
          runs = bind _ _ s (attempt-known I.text I.es (open_mark (stop_of stop)) i _ s (open_known i stop true at.marks inside h)) ∙ ret _ _;
          at = at;
          tree = rw (glyph-words r) (push x e (leaf_words t K i 22) (e + 6) refl (omega arith));
          besides = glyph-ends en;
        };
  })

  module _ {J z : List ℕ} {g : Items} (h : is_marked (marks_of K i) (entry.open_mark stop) ≡ false) (p : Intermediates X t n K J i stop true true c (e + 6) x z g) where
    pub bars-nought : {w : List ℕ} {j : Part} → g.count ≡ 0 → w ≡ sets z e (leaf_words t J i 22) → j ≡ record { cur = g.cur; end = e + 6; ends = leaf_ends 22 } → Bars X t n K J i stop c e x w j
    unfolding prefixes
    bars-nought {w} {j} hc hw hj = rw (hj, hw) (record {
      moves = record { within = p.moves.within; on = p.moves.on; depth = p.moves.depth; room = omega (arith, p.moves.on); long = length-sets z e (leaf_words t J i 22) ∙ p.moves.long; kept = p.moves.kept; known = p.moves.known };
      means = λ I s at en there.
          let q = p.means I s at (suc (length I.es)) (omega (arith, at.given.size)) (some en) (inside, there) none refl refl in
          let r = row_of q.at.given inside there in
          let body : bar_body I.text I.es true (readers c.depth I) en i (stop_of stop) s ≡ (nought, q.state) = bar-body I c.depth i en stop s q.runs ∙ ap (λ (l : Nodes). bar_end I i en l q.state) (count_none q.answer (sym q.besides.0 ∙ hc)) ∙ ret _ _ in
          record {
            answer = glyph_of en;
            state = q.state;
            runs = bind _ _ s (attempt-nought I.text I.es (open_mark (stop_of stop)) i _ s (open_known i stop false at.marks inside h) body) ∙ ret _ _;
            at = q.at;
            tree = rw (glyph-words r) (seq (back e q.tree (omega arith) (omega (arith, p.moves.room))) (push z e (leaf_words t J i 22) (e + 6) refl (omega (arith, p.moves.long))));
            besides = glyph-ends en;
          };
    })

    module _ (hc : g.count ≡ 0 → ⊥) where
      pub bars-made : {w : List ℕ} → bar_at X t J n i g.cur.pos ≡ true → w ≡ sets z e (group_words t J n i g.cur.pos g.count)
          → Bars X t n K J i stop c e x w (record { cur = onward g.cur; end = g.end; ends = true })
      unfolding ends_operand look prefixes any
      bars-made {w} hm hw =
          let l : g.cur.pos < n = bar-below X t J n i g.cur.pos hm in
          let size = group-size t J n i g.cur.pos g.count in
          record {
            moves = record { within = omega arith; on = omega (arith, p.moves.on); depth = p.moves.depth; room = omega (arith, p.moves.room); long = ap length hw ∙ length-sets z e (group_words t J n i g.cur.pos g.count) ∙ p.moves.long; kept = p.moves.kept; known = p.moves.known };
            means = λ I s at en there.
                let q = p.means I s at (suc (length I.es)) (omega (arith, at.given.size)) (some en) (inside, there) none refl refl in
                let k = count-some q.answer (λ w0. hc (q.besides.0 ∙ w0)) in
                let st = q.at.given.stands g.cur.pos l in
                let m : is_at I.text I.es (is_bar I.text I.es en) q.state.pos ≡ true = ap (is_at I.text I.es (is_bar I.text I.es en)) (sym q.at.pos) ∙ bar-is i g.cur.pos en q.at.given inside there ∙ hm in
                let adv = advance-took I.text I.es any q.state st.entry (ap (λ (k : ℕ). get_elem? I.es k) (sym q.at.pos) ∙ st.there) refl in
                let body : bar_body I.text I.es true (readers c.depth I) en i (stop_of stop) s ≡ (made (node (Head.group en.span st.entry.span) (k.head ▸ k.rest)), shut i (tick q.state)) =
                bar-body I c.depth i en stop s q.runs ∙ ap (λ (l : Nodes). bar_end I i en l q.state) k.is ∙ bind _ _ _ (at_here q.state) ∙ if_true _ _ _ m ∙ bind _ _ _ adv ∙ ret-closed _ _ _ in
                record {
                  answer = node (Head.group en.span st.entry.span) (k.head ▸ k.rest);
                  state = shut i (tick q.state);
                  runs = bind _ _ s (attempt-made I.text I.es (open_mark (stop_of stop)) i _ s (open_known i stop false at.marks inside h) (node (Head.group en.span st.entry.span) (k.head ▸ k.rest)) body) ∙ ret _ _;
                  at = at_shut i (at_tick q.at);
                  tree = rw hw (subst (λ (ws : List ℕ). Wrote x e (sets z e (group_words t J n i g.cur.pos g.count)) g.end ws) (sym (closed-words (k.head ▸ k.rest) (row_of q.at.given inside there) st.row l (q.besides.0 ∙ ap count k.is))) (fill e (group_words t J n i g.cur.pos g.count) (subst (λ (m : Nodes). Wrote x (e + 6) z g.end (encode_items m)) k.is q.tree) (omega (arith, size)) (omega (arith, p.moves.room))));
                  besides = refl;
                };
          }

      pub bars-lost : {N w : List ℕ} {j : Part} → bar_at X t J n i g.cur.pos ≡ false → Whole J i → N ≡ with_marks J i (with_mark (marks_of J i) (entry.open_mark stop)) → w ≡ sets z e (leaf_words t N i 22)
          → j ≡ record { cur = rewound c.pos g.cur; end = e + 6; ends = leaf_ends 22 } → Bars X t n K N i stop c e x w j
      unfolding prefixes
      bars-lost {N} {w} {j} hm fit hn hw hj =
          let hn2 : N ≡ marked J (open_mark (stop_of stop)) i = hn ∙ ap (λ (k : ℕ). with_marks J i (with_mark (marks_of J i) k)) (sym (number-open stop)) in
          let kp : Kept J N = rw hn2 (marks-kept J i _) in
          rw (hj, hw) (record {
            moves = record { within = here-n; on = omega arith; depth = p.moves.depth; room = omega arith; long = length-sets z e (leaf_words t N i 22) ∙ p.moves.long; kept = kept_trans p.moves.kept kp; known = known-lost (open_mark (stop_of stop)) i p.moves.known inside fit hn2 };
            means = λ I s at en there.
                let q = p.means I s at (suc (length I.es)) (omega (arith, at.given.size)) (some en) (inside, there) none refl refl in
                let k = count-some q.answer (λ w0. hc (q.besides.0 ∙ w0)) in
                let m : is_at I.text I.es (is_bar I.text I.es en) q.state.pos ≡ false = ap (is_at I.text I.es (is_bar I.text I.es en)) (sym q.at.pos) ∙ bar-is i g.cur.pos en q.at.given inside there ∙ hm in
                let at2 = at_lost (open_mark (stop_of stop)) i q.at at inside fit hn2 in
                let body : bar_body I.text I.es true (readers c.depth I) en i (stop_of stop) s ≡ (lost, q.state) =
                bar-body I c.depth i en stop s q.runs ∙ ap (λ (l : Nodes). bar_end I i en l q.state) k.is ∙ bind _ _ _ (at_here q.state) ∙ if_false _ _ _ m ∙ ret _ _ in
                record {
                  answer = glyph_of en;
                  state = record { pos = s.pos; takes = q.state.takes; marks = set q.state.marks (slot (open_mark (stop_of stop)) i) true; closers = s.closers };
                  runs = bind _ _ s (attempt-lost I.text I.es (open_mark (stop_of stop)) i _ s (open_known i stop false at.marks inside h) body) ∙ ret _ _;
                  at = at2;
                  tree = rw (glyph-words (row_of at2.given inside there)) (seq (back e q.tree (omega arith) (omega (arith, p.moves.room))) (push z e (leaf_words t N i 22) (e + 6) refl (omega (arith, p.moves.long))));
                  besides = glyph-ends en;
                };
          })

module _ {X t : List ℕ} {n : ℕ} {K L : List ℕ} (i : ℕ) (stop : Bool) {c : Cursor} {e : ℕ} {x y : List ℕ} where
  pub bracket-matrix : (k : ℕ) {g : Part} → TryMatrix X t n K L i c e x y (Ok g) → Bracket X t n K L i k stop c e x y g
  bracket-matrix k p = record {
    moves = record { within = p.0.within; on = omega (arith, p.0.on); depth = p.0.depth; room = p.0.room; long = p.0.long; kept = p.0.kept; known = p.0.known };
    means = λ I s at en there. let q = p.1 I s at en there in record { answer = q.node; state = q.state; runs = matrix-runs (eqb k 20) c.depth stop i I en s q.state q.node q.runs; at = q.at; tree = q.tree; besides = q.besides };
  }

  module _ {b : Cursor} (p : TryMatrix X t n K L i c e x y (Err (missed_at b))) {J z : List ℕ} {g : Part} where
    by_group : OpenGroup X t n L J i b e y z g → Bracket X t n K J i 20 stop c e x z g
    unfolding next_bracket
    by_group p2 = record {
      moves = record { within = p2.moves.within; on = omega (arith, p.0.on, p2.moves.on); depth = p2.moves.depth ∙ p.0.depth; room = omega (arith, p.0.room, p2.moves.room); long = p2.moves.long ∙ p.0.long; kept = kept_trans p.0.kept p2.moves.kept; known = p2.moves.known };
      means = λ I s at en there.
          let q = p.1 I s at en there in
          let q2 = rw p.0.depth at (p2.means I q.state q.at en there) in
          record { answer = q2.answer; state = q2.state; runs = bind _ _ s q.runs ∙ q2.runs; at = q2.at; tree = seq q.tree q2.tree; besides = q2.besides };
    }

    by_bars : Bars X t n L J i stop b e y z g → Bracket X t n K J i 22 stop c e x z g
    unfolding next_open_close_group
    by_bars p2 = record {
      moves = record { within = p2.moves.within; on = omega (arith, p.0.on, p2.moves.on); depth = p2.moves.depth ∙ p.0.depth; room = omega (arith, p.0.room, p2.moves.room); long = p2.moves.long ∙ p.0.long; kept = kept_trans p.0.kept p2.moves.kept; known = p2.moves.known };
      means = λ I s at en there.
          let q = p.1 I s at en there in
          let q2 = rw p.0.depth at (p2.means I q.state q.at en there) in
          record { answer = q2.answer; state = q2.state; runs = bind _ _ s q.runs ∙ q2.runs; at = q2.at; tree = seq q.tree q2.tree; besides = q2.besides };
    }

    pub bracket-group : (k : ℕ) → k ≡ 20 → OpenGroup X t n L J i b e y z g → Bracket X t n K J i k stop c e x z g
    bracket-group k h p2 = rw h (by_group p2)

    pub bracket-bars : (k : ℕ) → (k ≡ 20 → ⊥) → Bars X t n L J i stop b e y z g → Bracket X t n K J i k stop c e x z g
    bracket-bars k h p2 = rw (ne_eqb k 20 h) (by_bars p2)
