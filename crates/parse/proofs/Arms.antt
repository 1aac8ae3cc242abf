-- What each way through an argument, an operand and the scripts shows.
use Prim.Native.Nat.{ℕ, ◌+◌, ◌*◌, ◌-◌, ◌≤◌, ◌<◌}
use mathlib.Core.Path.{◌≡◌, refl, ap, ◌∙◌}
use mathlib.Core.List.{List, [], ◌∷◌, append-nil}
use mathlib.Core.Option.{none, some}
use mathlib.Core.Bool.{Bool, true, false}
use native.Mathlib.Omega.{arith}
use lib.ListN.{length}
use lib.Seq.{sets, length-sets}
use Rattle.tokens.specs.declared.token.Token.TheVariants as token
use Rattle.tree.specs.Tree.{Script, Head, Prefix, node, end, ◌▸◌}
use Rattle.tree.specs.Words.{encode, encodes, prefix_kind}
use Rattle.reading.specs.Reading.{argument, next_script, or_missing, ends_operand, look}
use Rattle.reading_cursor.specs.declared.Cursor.{Cursor}
use Rattle.std.specs.Prelude.{Ok, Err}
use Rattle.parse.specs.declared.cursor.Part.{Part}
use Rattle.parse.specs.Buffer.{Wrote}
use Rattle.lookahead.specs.Tests.{test_at, is_kind, marks_kind}
use Rattle.leaves.specs.Leaves.{node_words}
use Rattle.parse.specs.Meet.{Simple, ScriptFunc, Argument, Operand, Scripts, Unary, Binary, prefix_of, missed_at}
use Rattle.reading_cursor.specs.Moves.{onward, seen}
use Rattle.parse.proofs.Buffer.{push, fill, seq, wrote_none}
use Rattle.lookahead.proofs.Testing.{test_below}
use Rattle.reading_words.specs.Meet.{Known}
use Rattle.stores.proofs.Stores.{kept_refl, kept_trans}
use Rattle.reading_words.proofs.Kit.{bind, ret, if_true, if_false, tick, at_tick, row_of, took, passed, same-is, same-marks, kind-is}

abbrev zeros : List ℕ
zeros = 0 ∷ 0 ∷ 0 ∷ 0 ∷ 0 ∷ 0 ∷ []

abbrev bare_part : List ℕ
bare_part = 13 ∷ 0 ∷ 0 ∷ 0 ∷ 0 ∷ 0 ∷ zeros

module _ {X t : List ℕ} {n : ℕ} {K L : List ℕ} (stop : Bool) {c : Cursor} {e : ℕ} {x y : List ℕ} where
  pub argument-found : {g : Part} → Simple X t n K L stop true c e x y (Ok g) → Argument X t n K L stop c e x y g
  argument-found p = record {
    moves = record { within = p.0.within; on = omega (arith, p.0.on); depth = p.0.depth; room = omega (arith, p.0.room); long = p.0.long; kept = p.0.kept; known = p.0.known };
    means = λ I s at. let q = p.1 I s at in record { answer = some q.node; state = q.state; runs = q.runs; at = q.at; tree = q.tree; besides = q.besides };
  }

  pub argument-missing : {b : Cursor} {z : List ℕ} → Simple X t n K L stop true c e x y (Err (missed_at b)) → z ≡ sets y e zeros → e + 6 ≤ length x
      → Argument X t n K L stop c e x z (record { cur = b; end = e + 6; ends = false })
  unfolding encode ends_operand look
  argument-missing {b} {z} p hz h = record {
    moves = record { within = p.0.within; on = omega (arith, p.0.on); depth = p.0.depth; room = omega (arith, p.0.room); long = ap length hz ∙ length-sets y e zeros ∙ p.0.long; kept = p.0.kept; known = p.0.known };
    means = λ I s at. let q = p.1 I s at in record {
      answer = none;
      state = q.state;
      runs = q.runs;
      at = q.at;
      tree = rw hz (seq q.tree (push y e zeros (e + 6) refl (omega (arith, p.0.long))));
      besides = refl;
    };
  }

  pub operand_found : {g : Part} → ScriptFunc X t n K L stop true c e x y (Ok g) → Operand X t n K L stop c e x y g
  operand_found p = record {
    moves = record { within = p.0.within; on = omega (arith, p.0.on); depth = p.0.depth; room = omega (arith, p.0.room); long = p.0.long; kept = p.0.kept; known = p.0.known };
    means = λ I s at. let q = p.1 I s at in record { answer = some q.node; state = q.state; runs = q.runs; at = q.at; tree = q.tree; besides = q.besides.0 };
  }

  pub operand_missing : {b : Cursor} {z : List ℕ} → ScriptFunc X t n K L stop true c e x y (Err (missed_at b)) → z ≡ sets y e bare_part → e + 12 ≤ length x
      → Operand X t n K L stop c e x z (record { cur = b; end = e + 12; ends = false })
  unfolding encode ends_operand look
  operand_missing {b} {z} p hz h =
      let one : Wrote y e z (e + 12) bare_part = rw hz (push y e _ (e + 12) refl (omega (arith, p.0.long))) in
      record {
        moves = record { within = p.0.within; on = omega (arith, p.0.on); depth = p.0.depth; room = omega (arith, p.0.room); long = one.long ∙ p.0.long; kept = p.0.kept; known = p.0.known };
        means = λ I s at. let q = p.1 I s at in record {
          answer = none;
          state = q.state;
          runs = q.runs;
          at = q.at;
          tree = seq q.tree one;
          besides = refl;
        };
      }

-- scripts
module _ {X t : List ℕ} {n : ℕ} {K : List ℕ} {c : Cursor} {e : ℕ} {x : List ℕ} where
  pub scripts-none : test_at t K n marks_kind c.pos ≡ false → c.pos ≤ n → Known X t n K → Scripts X t n K K c e x x (record { cur = seen n c; end = e; script = 0 })
  unfolding encodes next_script
  scripts-none h k kn = record {
    moves = record { within = k; on = omega arith; depth = refl; room = omega arith; long = refl; kept = kept_refl K; known = kn };
    means = λ I s at. let r = passed marks_kind at same-marks h in record {
      answer = (Script.none, end);
      state = r.state;
      runs = bind _ _ s r.runs ∙ ret _ _;
      at = r.at;
      tree = wrote_none x e;
      besides = refl;
    };
  }

  pub scripts-super : {L y : List ℕ} {g : Part} → test_at t K n marks_kind c.pos ≡ true → test_at t K n (is_kind 1) c.pos ≡ true → Argument X t n K L false (onward c) e x y g
      → Scripts X t n K L c e x y (record { cur = g.cur; end = g.end; script = 2 })
  unfolding encodes next_script argument
  scripts-super {L} {y} {g} h k p =
      let b : c.pos < n = test_below t K n marks_kind c.pos h in
      record {
        moves = record { within = p.moves.within; on = omega (arith, p.moves.on); depth = p.moves.depth; room = omega (arith, p.moves.room); long = p.moves.long; kept = p.moves.kept; known = p.moves.known };
        means = λ I s at.
            let r = took marks_kind at same-marks h in
            let q = p.means I (tick s) (at_tick at) in
            record {
              answer = (Script.super, or_missing q.answer ▸ end);
              state = q.state;
              runs = bind _ _ s r.1 ∙ if_true _ _ _ (kind-is token.Super true r.0.row b k) ∙ bind _ _ _ (bind _ _ _ q.runs ∙ ret _ _) ∙ ret _ _;
              at = q.at;
              tree = rw append-nil q.tree;
              besides = refl;
            };
      }

  module _ {L y : List ℕ} {g : Part} (h : test_at t K n marks_kind c.pos ≡ true) (k : test_at t K n (is_kind 1) c.pos ≡ false) (p : Argument X t n K L false (onward c) e x y g) where
    pub scripts-sub : test_at t L n (is_kind 1) g.cur.pos ≡ false → Scripts X t n K L c e x y (record { cur = seen n g.cur; end = g.end; script = 1 })
    unfolding encodes next_script argument
    scripts-sub v =
        let b : c.pos < n = test_below t K n marks_kind c.pos h in
        record {
          moves = record { within = p.moves.within; on = omega (arith, p.moves.on); depth = p.moves.depth; room = omega (arith, p.moves.room); long = p.moves.long; kept = p.moves.kept; known = p.moves.known };
          means = λ I s at.
              let r = took marks_kind at same-marks h in
              let q = p.means I (tick s) (at_tick at) in
              let u = passed (is_kind 1) q.at (same-is token.Super) v in
              record {
                answer = (Script.sub, or_missing q.answer ▸ end);
                state = u.state;
                runs = bind _ _ s r.1 ∙ if_false _ _ _ (kind-is token.Super false r.0.row b k) ∙ bind _ _ _ (bind _ _ _ q.runs ∙ ret _ _) ∙ bind _ _ _ u.runs ∙ ret _ _;
                at = u.at;
                tree = rw append-nil q.tree;
                besides = refl;
              };
        }

    pub scripts-both : {J z : List ℕ} {j : Part} → test_at t L n (is_kind 1) g.cur.pos ≡ true → Argument X t n L J false (onward g.cur) g.end y z j
        → Scripts X t n K J c e x z (record { cur = j.cur; end = j.end; script = 3 })
    unfolding encodes next_script argument
    scripts-both {J} {z} {j} v p2 =
        let b : c.pos < n = test_below t K n marks_kind c.pos h in
        let b2 : g.cur.pos < n = test_below t L n (is_kind 1) g.cur.pos v in
        record {
          moves = record { within = p2.moves.within; on = omega (arith, p.moves.on, p2.moves.on); depth = p2.moves.depth ∙ p.moves.depth; room = omega (arith, p.moves.room, p2.moves.room, p.moves.on); long = p2.moves.long ∙ p.moves.long; kept = kept_trans p.moves.kept p2.moves.kept; known = p2.moves.known };
          means = λ I s at.
              let r = took marks_kind at same-marks h in
              let q = p.means I (tick s) (at_tick at) in
              let u = took (is_kind 1) q.at (same-is token.Super) v in
              let q2 = rw p.moves.depth at (p2.means I (tick q.state) (at_tick q.at)) in
              record {
                answer = (Script.subsuper, or_missing q.answer ▸ or_missing q2.answer ▸ end);
                state = q2.state;
                runs = bind _ _ s r.1 ∙ if_false _ _ _ (kind-is token.Super false r.0.row b k) ∙ bind _ _ _ (bind _ _ _ q.runs ∙ ret _ _)
                    ∙ bind _ _ _ u.1 ∙ bind _ _ _ (bind _ _ _ q2.runs ∙ ret _ _) ∙ ret _ _;
                at = q2.at;
                tree = rw append-nil (seq q.tree q2.tree);
                besides = refl;
              };
        }

-- a prefix with its argument, or two
module _ {X t : List ℕ} {n : ℕ} {K L : List ℕ} (i : ℕ) {c : Cursor} {e : ℕ} {x y : List ℕ} (inside : i < n) where
  pub unary-met : (kind : ℕ) (stop : Bool) {z : List ℕ} {g : Part} → Argument X t n K L stop c (e + 6) x y g → prefix_kind (prefix_of kind) ≡ kind
      → z ≡ sets y e (node_words t L i kind 0) → e + 12 + 32 * (n - c.pos) ≤ length x → Unary X t n K L i kind stop c e x z (record { cur = g.cur; end = g.end; ends = true })
  unfolding encode encodes
  unary-met kind stop {z} {g} q hp hz h = record {
    moves = record { within = q.moves.within; on = q.moves.on; depth = q.moves.depth; room = omega (arith, q.moves.room); long = ap length hz ∙ length-sets y e (node_words t L i kind 0) ∙ q.moves.long; kept = q.moves.kept; known = q.moves.known };
    means = λ I s at en there.
        let w = q.means I s at in
        let r = row_of w.at.given inside there in
        record {
          answer = w.answer;
          state = w.state;
          runs = w.runs;
          at = w.at;
          tree = rw (hz, append-nil, append-nil, hp, ← r.start, ← r.len) (fill e (node_words t L i kind 0) w.tree refl (omega (arith, q.moves.room)));
          besides = refl;
        };
  }

  pub binary-met : {J z w : List ℕ} {g j : Part} → Argument X t n K L false c (e + 6) x y g → Argument X t n L J false g.cur g.end y z j
      → w ≡ sets z e (node_words t J i 12 0) → e + 18 + 32 * (n - c.pos) ≤ length x → Binary X t n K J i c e x w (record { cur = j.cur; end = j.end; ends = true })
  unfolding encode encodes argument ends_operand look
  binary-met {J} {z} {w} {g} {j} q q2 hw h = record {
    moves = record { within = q2.moves.within; on = omega (arith, q.moves.on, q2.moves.on); depth = q2.moves.depth ∙ q.moves.depth; room = omega (arith, q.moves.room, q2.moves.room); long = ap length hw ∙ length-sets z e (node_words t J i 12 0) ∙ q2.moves.long ∙ q.moves.long; kept = kept_trans q.moves.kept q2.moves.kept; known = q2.moves.known };
    means = λ I s at en there.
        let v = q.means I s at in
        let v2 = rw q.moves.depth at (q2.means I v.state v.at) in
        let r = row_of v2.at.given inside there in
        record {
          answer = some (node (Head.prefix Prefix.binary en.span) (or_missing v.answer ▸ or_missing v2.answer ▸ end));
          state = v2.state;
          runs = bind _ _ s (bind _ _ s v.runs ∙ ret _ _) ∙ bind _ _ _ (bind _ _ _ v2.runs ∙ ret _ _) ∙ ret _ _;
          at = v2.at;
          tree = rw (hw, append-nil, append-nil, ← r.start, ← r.len) (fill e (node_words t J i 12 0) (seq v.tree v2.tree) refl (omega (arith, q.moves.room, q2.moves.room)));
          besides = refl;
        };
  }
