-- The loop over all items.
use Prim.Native.Nat.{ℕ, zero, suc, ◌+◌, ◌*◌, ◌-◌, ◌≤◌, ◌<◌}
use mathlib.Core.Path.{◌≡◌, refl, sym, ap, ◌∙◌, subst}
use mathlib.Core.List.{List}
use mathlib.Core.Option.{Option, none}
use mathlib.Core.Bool.{Bool, true, false}
use native.Mathlib.Omega.{arith}
use lib.ListN.{length, get_or, replicate, length-replicate}
use Rattle.tokens.specs.declared.token.Token.TheVariants as token
use Rattle.tree.specs.Tree.{nowhere, Head, Node, node, Nodes, end, ◌▸◌, ◌⧺◌}
use Rattle.reading.specs.Stop.{Stop}
use Rattle.reading.specs.Reading.{State, intermediates, level, parse, parse_entries, last_of, unscripted, prefixes}
use Rattle.lookahead.specs.Tests.{test_at, is_kind}
use Rattle.lookahead.proofs.Testing.{test_below}
use Rattle.reading_cursor.specs.declared.Cursor.{Cursor}
use Rattle.closers_pass.specs.declared.cursor.Items.{Items}
use Rattle.records.specs.Record.{Kept}
use Rattle.reading_words.specs.Meet.{Input, Given, is_none}
use Rattle.closers_pass.specs.Meet.{At, Intermediates}
use Rattle.reading_cursor.specs.Moves.{onward, seen}
use Rattle.closers_pass.specs.Top.{Blank, Passed, Paired}
use Rattle.stores.proofs.Stores.{kept_refl, kept_trans}
use Rattle.reading_words.proofs.Kit.{tick, same-is}
use Rattle.closers_pass.proofs.Kit.{at_tick, took, passed}
use Rattle.closers_pass.proofs.Loop.{whole-items}
use Rattle.reading_words.proofs.Steps.{absurd_bool, last-join, no_first, no_sign, parse-drop, parse-open, parse-wrap, some_after}

all_none : (k m j : ℕ) → get_or (replicate k m) j m ≡ m
all_none zero m j = refl
all_none (suc k) m zero = refl
all_none (suc k) m (suc j) = all_none k m j

-- At the loop's head.
pub record Topping (X t : List ℕ) (n : ℕ) (K : List ℕ) (I : Input) (cur : Cursor) (first sign : Bool) (wraps : ℕ) : Type 0 where
  pub left : ℕ
  pub acc : Nodes
  pub state : State
  pub whole : parse_entries I.text I.es true ≡ parse I.text I.es true (suc left) (256 - wraps) acc state
  pub enough : n - cur.pos ≤ left
  pub at : At X t n K cur.pos cur.takes I state
  pub is_first : first ≡ is_none (last_of acc)
  pub is_sign : sign ≡ prefixes (last_of acc)

pub record Round (X t : List ℕ) (n : ℕ) (K₀ K : List ℕ) (cur : Cursor) (first sign : Bool) (wraps : ℕ) : Type 0 where
  pub within : cur.pos ≤ n
  pub depth : cur.depth ≡ 0
  pub kept : Kept K₀ K
  pub started : first ≡ true → wraps ≡ 0
  pub along : (I : Input) → Given X t n K₀ I → Blank n K₀ → Topping X t n K I cur first sign wraps

pub round_none : (X t : List ℕ) (n : ℕ) (K : List ℕ) → Round X t n K K (record { pos = 0; depth = 0; takes = 0 }) true true 0
unfolding last_of prefixes parse_entries
round_none X t n K = record {
  within = omega arith;
  depth = refl;
  kept = kept_refl K;
  started = λ h. refl;
  along = λ I g mk. record {
    left = length I.es;
    acc = end;
    state = record { pos = zero; takes = zero; marks = replicate (3 * n) false; closers = replicate n n };
    whole = ap (λ (m : ℕ). parse I.text I.es true (suc (length I.es)) 256 end (record { pos = zero; takes = zero; marks = replicate (3 * m) false; closers = replicate m m })) g.size;
    enough = omega (arith, g.size);
    at = record {
      given = g;
      marks = mk.marks;
      noted = mk.noted;
      closed = record { size = length-replicate n n; few = λ i. omega (arith, all_none n n i); free = λ j h. all_none n n j };
      pos = refl;
      takes = refl;
    };
    is_first = refl;
    is_sign = refl;
  };
}

module _ {X t : List ℕ} {n : ℕ} {K₀ K L : List ℕ} {cur : Cursor} {first sign : Bool} {wraps : ℕ} {g : Items} (i : Round X t n K₀ K cur first sign wraps) (p : Intermediates X t n K L n false first sign cur g) where
  record Turn (I : Input) (a : Topping X t n K I cur first sign wraps) : Type 0 where
    pub l : Nodes
    pub u : State
    pub run : intermediates I.text I.es true (level I.text I.es true 256) (suc (length I.es)) none Stop.none (last_of a.acc) a.state ≡ (l, u)
    pub at : At X t n L g.cur.pos g.cur.takes I u
    pub is_sign : g.sign ≡ prefixes (last_of (a.acc ⧺ l))

  turn : (I : Input) (a : Topping X t n K I cur first sign wraps) → Turn I a
  turn I a =
      let q = rw i.depth at (whole-items p (omega arith) I a.state a.at (last_of a.acc) a.is_first a.is_sign) in
      record { l = q.answer; u = q.state; run = q.runs; at = q.at; is_sign = q.besides.sign ∙ ap prefixes (sym (last-join a.acc q.answer)) }

  pub round_open : test_at t L n (is_kind 21) g.cur.pos ≡ false → Paired X t n K₀ L (seen n g.cur).takes
  round_open h = record {
    kept = kept_trans i.kept p.moves.kept;
    means = λ I g₀ mk.
        let a = i.along I g₀ mk in
        let q = turn I a in
        let v = passed (is_kind 21) q.at (same-is token.CloseBracket) h in
        let w : parse_entries I.text I.es true ≡ (a.acc ⧺ q.l, v.state) = a.whole ∙ parse-open I.text I.es a.left a.acc q.l a.state q.u v.state q.run (256 - wraps) v.runs in
        subst (λ (r : Nodes × State). Passed n L (seen n g.cur).takes r.1) (sym w) (record { marks = v.at.marks; noted = v.at.noted; count = v.at.takes });
  }

  module _ (h : test_at t L n (is_kind 21) g.cur.pos ≡ true) where
    inside : g.cur.pos < n
    inside = test_below t L n (is_kind 21) g.cur.pos h

    pub round_drop : 256 ≤ wraps → Round X t n K₀ L (onward g.cur) false g.sign wraps
    round_drop hw =
        let b = inside in
        record {
          within = omega arith;
          depth = p.moves.depth ∙ i.depth;
          kept = kept_trans i.kept p.moves.kept;
          started = λ z. absurd_bool (sym z);
          along = λ I g₀ mk.
              let a = i.along I g₀ mk in
              let q = turn I a in
              let v = took (is_kind 21) q.at (same-is token.CloseBracket) h in
              let z : 256 - wraps ≡ zero = omega arith in
              let l1 : a.left ≡ suc (a.left - 1) = omega (arith, a.enough, p.moves.on) in
              record {
                left = a.left - 1;
                acc = a.acc ⧺ q.l;
                state = tick q.u;
                whole = a.whole ∙ ap (λ (k : ℕ). parse I.text I.es true (suc a.left) k a.acc a.state) z ∙ parse-drop I.text I.es a.left a.acc q.l a.state q.u (tick q.u) q.run v.0.entry v.1
                    ∙ ap (λ (k : ℕ). parse I.text I.es true k zero (a.acc ⧺ q.l) (tick q.u)) l1 ∙ ap (λ (k : ℕ). parse I.text I.es true (suc (a.left - 1)) k (a.acc ⧺ q.l) (tick q.u)) (sym z);
                enough = omega (arith, l1, a.enough, p.moves.on);
                at = at_tick q.at;
                is_first = sym (ap is_none (last-join a.acc q.l) ∙ some_after (last_of a.acc) q.l (not_first first refl (last_of a.acc) a.is_first));
                is_sign = q.is_sign;
              };
        }
      where
        not_first : (b : Bool) → first ≡ b → (o : Option Node) → first ≡ is_none o → is_none o ≡ false
        not_first false e o k = sym k ∙ e
        not_first true e o k = absurd (omega (arith, i.started e))

    pub round_wrap : wraps < 256 → Round X t n K₀ L (onward g.cur) false false (wraps + 1)
    round_wrap hw =
        let b = inside in
        record {
          within = omega arith;
          depth = p.moves.depth ∙ i.depth;
          kept = kept_trans i.kept p.moves.kept;
          started = λ z. absurd_bool (sym z);
          along = λ I g₀ mk.
              let a = i.along I g₀ mk in
              let q = turn I a in
              let v = took (is_kind 21) q.at (same-is token.CloseBracket) h in
              let z : 256 - wraps ≡ suc (256 - (wraps + 1)) = omega arith in
              let l1 : a.left ≡ suc (a.left - 1) = omega (arith, a.enough, p.moves.on) in
              let new : Nodes = unscripted (node (Head.group nowhere v.0.entry.span) (a.acc ⧺ q.l)) ▸ end in
              record {
                left = a.left - 1;
                acc = new;
                state = tick q.u;
                whole = a.whole ∙ ap (λ (k : ℕ). parse I.text I.es true (suc a.left) k a.acc a.state) z
                    ∙ parse-wrap I.text I.es a.left a.acc q.l a.state q.u (tick q.u) q.run (256 - (wraps + 1)) v.0.entry v.1
                    ∙ ap (λ (k : ℕ). parse I.text I.es true k (256 - (wraps + 1)) new (tick q.u)) l1;
                enough = omega (arith, l1, a.enough, p.moves.on);
                at = at_tick q.at;
                is_first = no_first (unscripted (node (Head.group nowhere v.0.entry.span) (a.acc ⧺ q.l)));
                is_sign = no_sign v.0.entry.span (a.acc ⧺ q.l);
              };
        }
