-- What each way through the readers of simple expressions, scripted parts and items shows.
use Prim.Native.Nat.{ℕ, ◌+◌, ◌≤◌, ◌<◌}
use mathlib.Core.Path.{◌≡◌, refl, sym, ap, ◌∙◌}
use mathlib.Core.List.{List}
use mathlib.Core.Option.{Option, none, some}
use mathlib.Core.Bool.{Bool, true, false, cond, ◌&&◌}
use native.Mathlib.Omega.{arith}
use Rattle.tokens.specs.declared.token.Token.TheVariants as token
use Rattle.tree.specs.Tree.{Script, Head, Prefix, Node, node, Nodes, end, ◌▸◌, ◌⧺◌, one}
use Rattle.reading.specs.Stop.{Stop}
use Rattle.reading.specs.Entries.{Entry}
use Rattle.reading.specs.Reading.{State, M, argument, begun, next_simple, next_script, next_script_func, next_intermediate, or_missing, or_missing_part, ends_operand, ends_first, ends_second, look, is_unscripted}
use Rattle.lookahead.specs.Tests.{test_at, is_kind, marks_kind, heads_kind, begins_kind}
use Rattle.lookahead.proofs.Testing.{test_below}
use Rattle.reading_cursor.specs.declared.Cursor.{Cursor}
use Rattle.closers_pass.specs.declared.cursor.Part.{Part}
use Rattle.closers_pass.specs.declared.cursor.Node as part
use Rattle.closers_pass.specs.declared.cursor.Scripted as code
use Rattle.tokens.specs.Refusals.{bit}
use Rattle.reading_words.specs.Meet.{Input, readers, stop_of}
use Rattle.std.specs.declared.option.Option as rust
use Rattle.std.proofs.Common.{Some, None, not}
use Rattle.std.specs.Option as option
use Rattle.closers_pass.specs.Meet.{has, ends_in, bar_in, is_some, ends_of, bar_of, line_of, line_part, scripts, Simple, ScriptFunc, Term, Intermediate, Scripts, Headed, Begun, nothing_at, operation_at, part_at}
use Rattle.reading_cursor.specs.Moves.{onward, seen, inner, at_depth}
use Rattle.stores.proofs.Stores.{kept_refl, kept_trans}
use Rattle.reading_words.proofs.Kit.{bind, ret, at_here, if_true, if_false, tick, row_of, same-is, same-marks, same-heads, same-begins, kind-is, level-simple, deep-simple, deep-script_func}
use Rattle.closers_pass.proofs.Kit.{at_tick, took, passed}
use Rattle.reading_words.proofs.Steps.{script-runs}

-- A node, or none, by the flag.
pub record Got (a : Option Node) : Type 0 where
  pub node : Node
  pub is : a ≡ some node

pub got : (a : Option Node) → true ≡ is_some a → Got a
got none h = let z : ◌≡◌ {A = ℕ} 0 1 = cc in absurd (omega arith)
got (some x) h = record { node = x; is = refl }

pub lack : (a : Option Node) → false ≡ is_some a → a ≡ none
lack none h = refl
lack (some x) h = let z : ◌≡◌ {A = ℕ} 0 1 = cc in absurd (omega arith)

-- a flag is not both
pub no_false : {A : Type 0} → true ≡ false → A
no_false h = let z : ◌≡◌ {A = ℕ} 0 1 = cc in absurd (omega arith)

pub runs_as : {A : Type 0} {r : A × State} {u : State} {a b : A} → r ≡ (a, u) → a ≡ b → r ≡ (b, u)
runs_as {u = u} h k = h ∙ ap (λ x. (x, u)) k

-- no node, or one, by the library's test
module _ (o : rust.Option part.Node) where
  by_test : has o ≡ option.is_some o
  by_test = elim o as (λ o. has o ≡ option.is_some o) [ None ↦ refl | Some x ↦ refl ]

  pub absent : {r : Bool} → option.is_some o ≡ not r → r ≡ true → has o ≡ false
  absent e h = by_test ∙ e ∙ ap not h

  pub present : {r : Bool} → option.is_some o ≡ not r → r ≡ false → has o ≡ true
  present e h = by_test ∙ e ∙ ap not h

-- too deep
module _ {X t : List ℕ} {n : ℕ} {K : List ℕ} (stop sg : Bool) {c : Cursor} (h : 256 ≤ c.depth) (k : c.pos ≤ n) where
  pub simple-deep : Simple X t n K K stop sg c (nothing_at c)
  simple-deep = record {
    moves = record { within = k; on = omega arith; depth = refl; kept = kept_refl K };
    stays = λ h. refl;
    means = λ I s at. record { answer = none; state = s; runs = ap (λ (f : Stop → Bool → M (Option Node)). f (stop_of stop) sg s) (deep-simple I c.depth h) ∙ ret _ _; at = at; besides = record { some = refl; ends = refl; bar = refl } };
  }

  pub script-deep : ScriptFunc X t n K K stop sg c (nothing_at c)
  script-deep = record {
    moves = record { within = k; on = omega arith; depth = refl; kept = kept_refl K };
    stays = λ h. refl;
    means = λ I s at. record { answer = none; state = s; runs = ap (λ (f : Stop → Bool → M (Option Node)). f (stop_of stop) sg s) (deep-script_func I c.depth h) ∙ ret _ _; at = at; besides = record { some = refl; ends = refl; bar = refl } };
  }

-- a simple expression
module _ {X t : List ℕ} {n : ℕ} {K : List ℕ} (stop sg : Bool) {c : Cursor} (deep : c.depth < 256) where
  pub simple-nothing : test_at t K n (begins_kind stop) c.pos ≡ false → c.pos ≤ n → Simple X t n K K stop sg c (nothing_at (seen n c))
  unfolding next_simple
  simple-nothing h k = record {
    moves = record { within = k; on = omega arith; depth = refl; kept = kept_refl K };
    stays = λ h. refl;
    means = λ I s at.
        let r = passed (begins_kind stop) at (same-begins stop) h in
        record { answer = none; state = r.state; runs = ap (λ (f : Stop → Bool → M (Option Node)). f (stop_of stop) sg s) (level-simple I c.depth deep) ∙ bind _ _ s (at_here s) ∙ bind _ _ _ r.runs ∙ ret _ _; at = r.at; besides = record { some = refl; ends = refl; bar = refl } };
  }

  pub simple-begun : {L : List ℕ} {g : Part} → test_at t K n (begins_kind stop) c.pos ≡ true → Begun X t n K L c.pos stop sg (inner (onward c)) g → Simple X t n K L stop sg c (part_at c.depth g)
  unfolding next_simple
  simple-begun {L} {g} h p =
      let z : bit (has g.node) ≡ 1 = ap bit p.0 in
      record {
        moves = record { within = p.1.moves.within; on = omega (arith, p.1.moves.on); depth = refl; kept = p.1.moves.kept };
        stays = λ f. no_false (sym p.0 ∙ f);
        means = λ I s at.
            let r = took (begins_kind stop) at (same-begins stop) h in
            let q = p.1.means I (tick s) (at_tick at) r.0.entry r.0.there in
            record {
              answer = q.answer;
              state = q.state;
              runs = ap (λ (f : Stop → Bool → M (Option Node)). f (stop_of stop) sg s) (level-simple I c.depth deep) ∙ bind _ _ s (at_here s) ∙ bind _ _ _ r.1
                  ∙ ap (λ (i : ℕ). begun I.text I.es true (readers (c.depth + 1) I) r.0.entry.token r.0.entry i (stop_of stop) sg (tick s)) (sym at.pos) ∙ q.runs;
              at = q.at;
              besides = record { some = q.besides.some; ends = q.besides.ends; bar = q.besides.bar };
            };
      }

-- the scripts
module _ {X t : List ℕ} {n : ℕ} {K : List ℕ} {c : Cursor} where
  pub scripts-none : test_at t K n marks_kind c.pos ≡ false → c.pos ≤ n → Scripts X t n K K c (record { cur = seen n c; some = false })
  unfolding next_script
  scripts-none h k = record {
    moves = record { within = k; on = omega arith; depth = refl; kept = kept_refl K };
    means = λ I s at. let r = passed marks_kind at same-marks h in record { answer = (Script.none, end); state = r.state; runs = bind _ _ s r.runs ∙ ret _ _; at = r.at; besides = refl };
  }

  module _ {L : List ℕ} {g : Part} (h : test_at t K n marks_kind c.pos ≡ true) (p : Simple X t n K L false true (onward c) g) where
    pub scripts-super : test_at t K n (is_kind 1) c.pos ≡ true → Scripts X t n K L c (record { cur = g.cur; some = true })
    unfolding next_script argument
    scripts-super k =
        let b : c.pos < n = test_below t K n marks_kind c.pos h in
        record {
          moves = record { within = p.moves.within; on = omega (arith, p.moves.on); depth = p.moves.depth; kept = p.moves.kept };
          means = λ I s at.
              let r = took marks_kind at same-marks h in
              let q = p.means I (tick s) (at_tick at) in
              record { answer = (Script.super, or_missing q.answer ▸ end); state = q.state; runs = bind _ _ s r.1 ∙ if_true _ _ _ (kind-is token.Super true r.0.row b k) ∙ bind _ _ _ (bind _ _ _ q.runs ∙ ret _ _) ∙ ret _ _; at = q.at; besides = refl };
        }

    module _ (k : test_at t K n (is_kind 1) c.pos ≡ false) where
      pub scripts-sub : test_at t L n (is_kind 1) g.cur.pos ≡ false → Scripts X t n K L c (record { cur = seen n g.cur; some = true })
      unfolding next_script argument
      scripts-sub k2 =
          let b : c.pos < n = test_below t K n marks_kind c.pos h in
          record {
            moves = record { within = p.moves.within; on = omega (arith, p.moves.on); depth = p.moves.depth; kept = p.moves.kept };
            means = λ I s at.
                let r = took marks_kind at same-marks h in
                let q = p.means I (tick s) (at_tick at) in
                let u = passed (is_kind 1) q.at (same-is token.Super) k2 in
                record { answer = (Script.sub, or_missing q.answer ▸ end); state = u.state; runs = bind _ _ s r.1 ∙ if_false _ _ _ (kind-is token.Super false r.0.row b k) ∙ bind _ _ _ (bind _ _ _ q.runs ∙ ret _ _) ∙ bind _ _ _ u.runs ∙ ret _ _; at = u.at; besides = refl };
          }

      pub scripts-both : {J : List ℕ} {j : Part} → test_at t L n (is_kind 1) g.cur.pos ≡ true → Simple X t n L J false true (onward g.cur) j → Scripts X t n K J c (record { cur = j.cur; some = true })
      unfolding next_script argument
      scripts-both {J} {j} k2 p2 =
          let b : c.pos < n = test_below t K n marks_kind c.pos h in
          let b2 : g.cur.pos < n = test_below t L n (is_kind 1) g.cur.pos k2 in
          record {
            moves = record { within = p2.moves.within; on = omega (arith, p.moves.on, p2.moves.on); depth = p2.moves.depth ∙ p.moves.depth; kept = kept_trans p.moves.kept p2.moves.kept };
            means = λ I s at.
                let r = took marks_kind at same-marks h in
                let q = p.means I (tick s) (at_tick at) in
                let u = took (is_kind 1) q.at (same-is token.Super) k2 in
                let q2 = rw p.moves.depth at (p2.means I (tick q.state) (at_tick q.at)) in
                record {
                  answer = (Script.subsuper, or_missing q.answer ▸ or_missing q2.answer ▸ end);
                  state = q2.state;
                  runs = bind _ _ s r.1 ∙ if_false _ _ _ (kind-is token.Super false r.0.row b k) ∙ bind _ _ _ (bind _ _ _ q.runs ∙ ret _ _) ∙ bind _ _ _ u.1 ∙ bind _ _ _ (bind _ _ _ q2.runs ∙ ret _ _) ∙ ret _ _;
                  at = q2.at;
                  besides = refl;
                };
          }

-- a simple expression and its scripts
unscripted-is : (sc : Script) (b : Bool) → cond (scripts sc) false b ≡ (is_unscripted (Head.simple sc) && b)
unfolding is_unscripted
unscripted-is Script.none b = refl
unscripted-is Script.sub b = refl
unscripted-is Script.super b = refl
unscripted-is Script.subsuper b = refl

module _ {X t : List ℕ} {n : ℕ} {K L : List ℕ} (stop sg : Bool) {c : Cursor} {g : Part} (p : Simple X t n K L stop sg c g) where
  pub term_nothing : g.node ≡ None → Term X t n K L stop sg c g
  term_nothing e = record {
    moves = p.moves;
    stays = p.stays;
    means = λ I s at.
        let q = p.means I s at in
        let z = lack q.answer (sym (ap has e) ∙ q.besides.some) in
        record { answer = none; state = q.state; runs = bind _ _ s (runs_as q.runs z) ∙ ret _ _; at = q.at; besides = record { some = ap has e; ends = q.besides.ends ∙ ap ends_of z; bar = q.besides.bar ∙ ap (bar_of I) z } };
  }

  pub term_scripted : {J : List ℕ} {m : code.Scripted} {x : part.Node} → g.node ≡ Some x → Scripts X t n L J g.cur m
      → Term X t n K J stop sg c (record { cur = m.cur; node = Some (record { ends = x.ends; bar = cond m.some false x.bar }) })
  unfolding ends_operand look ends_first
  term_scripted {J} {m} {x} e p2 =
      let h : has g.node ≡ true = ap has e in
      let w : bit (has g.node) ≡ 1 = ap bit h in
      record {
        moves = record { within = p2.moves.within; on = omega (arith, p.moves.on, p2.moves.on); depth = p2.moves.depth ∙ p.moves.depth; kept = kept_trans p.moves.kept p2.moves.kept };
        stays = λ f. no_false f;
        means = λ I s at.
            let q = p.means I s at in
            let z = got q.answer (sym h ∙ q.besides.some) in
            let q2 = rw p.moves.depth at (p2.means I q.state q.at) in
            record {
              answer = some (node (Head.simple q2.answer.0) (z.node ▸ q2.answer.1));
              state = q2.state;
              runs = bind _ _ s (runs_as q.runs z.is) ∙ bind _ _ _ q2.runs ∙ ret _ _;
              at = q2.at;
              besides = record { some = refl; ends = sym (ap ends_in e) ∙ q.besides.ends ∙ ap ends_of z.is; bar = ap (λ (b : Bool). cond b false x.bar) q2.besides ∙ ap (cond (scripts q2.answer.0) false) (sym (ap bar_in e) ∙ q.besides.bar ∙ ap (bar_of I) z.is) ∙ unscripted-is q2.answer.0 _ };
            };
      }

module _ {X t : List ℕ} {n : ℕ} {K L : List ℕ} (stop sg : Bool) {c : Cursor} (deep : c.depth < 256) where
  pub script-term : {g : Part} → test_at t K n (heads_kind sg) c.pos ≡ false → Term X t n K L stop sg (inner (seen n c)) g → ScriptFunc X t n K L stop sg c (part_at c.depth g)
  unfolding next_script_func
  script-term {g} h p = record {
    moves = record { within = p.moves.within; on = p.moves.on; depth = refl; kept = p.moves.kept };
    stays = p.stays;
    means = λ I s at.
        let r = passed (heads_kind sg) at (same-heads sg) h in
        let q = p.means I r.state r.at in
        record { answer = q.answer; state = q.state; runs = script-runs c.depth stop sg deep I s (bind _ _ s r.runs ∙ q.runs); at = q.at; besides = record { some = q.besides.some; ends = q.besides.ends; bar = q.besides.bar } };
  }

  pub script-headed : {d : Cursor} → test_at t K n (heads_kind sg) c.pos ≡ true → Headed X t n K L c.pos stop (inner (onward c)) d → ScriptFunc X t n K L stop sg c (operation_at (at_depth c.depth d))
  unfolding next_script_func
  script-headed {d} h p = record {
    moves = record { within = p.moves.within; on = omega (arith, p.moves.on); depth = refl; kept = p.moves.kept };
    stays = λ f. no_false f;
    means = λ I s at.
        let r = took (heads_kind sg) at (same-heads sg) h in
        let q = p.means I (tick s) (at_tick at) r.0.entry r.0.there in
        record { answer = q.answer; state = q.state; runs = script-runs c.depth stop sg deep I s (bind _ _ s r.1 ∙ q.runs); at = q.at; besides = record { some = q.besides.0; ends = q.besides.1; bar = q.besides.2 } };
  }

-- what a head has behind it
line-func : (I : Input) (en : Entry) (sc : Script) (l : Nodes) → false ≡ line_part I (node (Head.func en.span sc) l)
unfolding is_unscripted
line-func I en sc end = refl
line-func I en sc (x ▸ l) = refl

module _ {X t : List ℕ} {n : ℕ} {K L : List ℕ} (i : ℕ) (stop : Bool) {c : Cursor} (inside : i < n) where
  pub headed-func : {J : List ℕ} {g : code.Scripted} {j : Part} → test_at t K n (is_kind 17) i ≡ true → Scripts X t n K L c g → ScriptFunc X t n L J false true g.cur j → Headed X t n K J i stop c j.cur
  unfolding ends_operand look
  headed-func {J} {g} {j} h p p2 = record {
    moves = record { within = p2.moves.within; on = omega (arith, p.moves.on, p2.moves.on); depth = p2.moves.depth ∙ p.moves.depth; kept = kept_trans p.moves.kept p2.moves.kept };
    means = λ I s at en there.
        let q = p.means I s at in
        let q2 = rw p.moves.depth at (p2.means I q.state q.at) in
        record {
          answer = some (node (Head.func en.span q.answer.0) (q.answer.1 ⧺ (or_missing_part q2.answer ▸ end)));
          state = q2.state;
          runs = if_true _ _ _ (kind-is token.Function true (row_of at.given inside there) inside h) ∙ bind _ _ s q.runs ∙ bind _ _ _ q2.runs ∙ ret _ _;
          at = q2.at;
          besides = (refl, refl, line-func I en q.answer.0 (q.answer.1 ⧺ (or_missing_part q2.answer ▸ end)));
        };
  }

  pub headed-sign : {j : Part} → test_at t K n (is_kind 17) i ≡ false → ScriptFunc X t n K L stop true c j → Headed X t n K L i stop c j.cur
  unfolding ends_operand look is_unscripted
  headed-sign {j} h p = record {
    moves = record { within = p.moves.within; on = omega (arith, p.moves.on); depth = p.moves.depth; kept = p.moves.kept };
    means = λ I s at en there.
        let q = p.means I s at in
        record {
          answer = some (one (Head.prefix Prefix.signed en.span) (or_missing_part q.answer));
          state = q.state;
          runs = if_false _ _ _ (kind-is token.Function false (row_of at.given inside there) inside h) ∙ bind _ _ s q.runs ∙ ret _ _;
          at = q.at;
          besides = (refl, refl, refl);
        };
  }

-- items
ends-part : (a : Option Node) → ends_of a ≡ ends_operand (or_missing_part a)
unfolding ends_operand look ends_first
ends-part none = refl
ends-part (some x) = refl

module _ {X t : List ℕ} {n : ℕ} {K L : List ℕ} (stop sg : Bool) {c : Cursor} {g : Part} (p : ScriptFunc X t n K L stop sg c g) where
  pub item-nothing : has g.node ≡ false → Intermediate X t n K L stop sg c g
  unfolding next_intermediate
  item-nothing h = record {
    moves = p.moves;
    stays = p.stays;
    means = λ I s at.
        let q = p.means I s at in
        let z = lack q.answer (sym h ∙ q.besides.some) in
        record { answer = none; state = q.state; runs = bind _ _ s (runs_as q.runs z) ∙ ret _ _; at = q.at; besides = record { some = h; ends = q.besides.ends ∙ ap ends_of z; bar = q.besides.bar ∙ ap (line_of I) z } };
  }

  module _ (h : has g.node ≡ true) where
    pub item-plain : test_at t L n (is_kind 0) g.cur.pos ≡ false → Intermediate X t n K L stop sg c (record { cur = seen n g.cur; node = g.node })
    unfolding next_intermediate
    item-plain k =
        let w : bit (has g.node) ≡ 1 = ap bit h in
        record {
          moves = record { within = p.moves.within; on = omega (arith, p.moves.on); depth = p.moves.depth; kept = p.moves.kept };
          stays = λ f. no_false (sym h ∙ f);
          means = λ I s at.
              let q = p.means I s at in
              let z = got q.answer (sym h ∙ q.besides.some) in
              let r = passed (is_kind 0) q.at (same-is token.Frac) k in
              record { answer = some z.node; state = r.state; runs = bind _ _ s (runs_as q.runs z.is) ∙ bind _ _ _ r.runs ∙ ret _ _; at = r.at; besides = record { some = h; ends = q.besides.ends ∙ ap ends_of z.is; bar = q.besides.bar ∙ ap (line_of I) z.is } };
        }

    pub item-over : {J : List ℕ} {j : Part} → test_at t L n (is_kind 0) g.cur.pos ≡ true → ScriptFunc X t n L J false true (onward g.cur) j → Intermediate X t n K J stop sg c (record { cur = j.cur; node = Some (record { ends = ends_in j.node; bar = false }) })
    unfolding next_intermediate ends_operand look ends_first ends_second is_unscripted
    item-over {J} {j} k p2 =
        let w : bit (has g.node) ≡ 1 = ap bit h in
        record {
          moves = record { within = p2.moves.within; on = omega (arith, p.moves.on, p2.moves.on); depth = p2.moves.depth ∙ p.moves.depth; kept = kept_trans p.moves.kept p2.moves.kept };
          stays = λ f. no_false f;
          means = λ I s at.
              let q = p.means I s at in
              let z = got q.answer (sym h ∙ q.besides.some) in
              let r = took (is_kind 0) q.at (same-is token.Frac) k in
              let q2 = rw p.moves.depth at (p2.means I (tick q.state) (at_tick q.at)) in
              record {
                answer = some (node Head.frac (z.node ▸ or_missing_part q2.answer ▸ end));
                state = q2.state;
                runs = bind _ _ s (runs_as q.runs z.is) ∙ bind _ _ _ r.1 ∙ bind _ _ _ q2.runs ∙ ret _ _;
                at = q2.at;
                besides = record { some = refl; ends = q2.besides.ends ∙ ends-part q2.answer; bar = refl };
              };
        }
