-- What each way through a scripted part, a head, an item and a group shows.
use Prim.Native.Nat.{ℕ, ◌+◌, ◌*◌, ◌-◌, ◌≤◌, ◌<◌}
use mathlib.Core.Path.{◌≡◌, refl, sym, ap, ◌∙◌, subst}
use mathlib.Core.List.{List, [], ◌∷◌, ◌++◌, append-nil, append_assoc}
use mathlib.Core.Option.{Option, none, some}
use mathlib.Core.Bool.{Bool, true, false}
use native.Mathlib.Omega.{arith}
use lib.ListN.{length}
use lib.Seq.{sets, length-sets}
use borrow.Author.Tests.{lt-ltb, le-ltb}
use Rattle.tokens.specs.declared.token.Token.TheVariants as token
use Rattle.tokens.specs.Lexeme.{Span}
use Rattle.tree.specs.Tree.{nowhere, Script, Head, Prefix, Node, node, Nodes, end, ◌▸◌, ◌⧺◌, count, one}
use Rattle.tree.specs.Words.{encode, encodes, encode_item, encode_items}
use Rattle.reading.specs.Stop.{Stop}
use Rattle.reading.specs.Entries.{Entry}
use Rattle.reading.specs.Reading.{State, M, next_script_func, next_intermediate, next_open_group, or_missing_part, ends_operand, ends_first, ends_second, look, prefixes}
use Rattle.reading_cursor.specs.declared.Cursor.{Cursor}
use Rattle.parse.specs.Meet.{Step}
use Rattle.std.specs.Prelude.{Ok, Err}
use Rattle.parse.specs.declared.cursor.Part.{Part}
use Rattle.parse.specs.declared.cursor.Scripted as code
use Rattle.parse.specs.declared.cursor.Items.{Items}
use Rattle.parse.specs.Buffer.{Wrote}
use Rattle.records.specs.Record.{start_of, len_of}
use Rattle.lookahead.specs.Tests.{test_at, is_kind, heads_kind}
use Rattle.leaves.specs.Leaves.{node_words}
use Rattle.nodes.specs.Nodes.{group_words}
use Rattle.parse.specs.Meet.{Finds, Simple, ScriptFunc, Term, Intermediate, Operand, Scripts, Intermediates, Headed, OpenGroup, With, words_of, part_at, missed_at, step_at}
use Rattle.reading_cursor.specs.Moves.{onward, seen, inner, at_depth}
use Rattle.parse.proofs.Buffer.{fill, seq, back, wrote_none}
use Rattle.parse.proofs.Whole.{whole-items}
use Rattle.lookahead.proofs.Testing.{test_below}
use Rattle.reading_words.specs.Meet.{Input, Row, At, Known, stop_of}
use Rattle.stores.proofs.Stores.{kept_refl, kept_trans}
use Rattle.reading_words.proofs.Kit.{shut, ret-closed, at_shut, bind, ret, if_true, if_false, tick, at_tick, row_of, took, passed, same-is, same-heads, kind-is, deep-simple, deep-script_func}
use Rattle.reading_words.proofs.Steps.{script-runs}

pub encodes-append : (l m : Nodes) → encodes (l ⧺ m) ≡ encodes l ++ encodes m
unfolding encodes
encodes-append end m = refl
encodes-append (x ▸ l) m = ap (λ (w : List ℕ). encode x ++ w) (encodes-append l m) ∙ sym (append_assoc (encode x) (encodes l) (encodes m))

pub count-append : (l m : Nodes) → count (l ⧺ m) ≡ count l + count m
count-append end m = omega arith
count-append (x ▸ l) m = omega (arith, count-append l m)

-- too deep
module _ {X t : List ℕ} {n : ℕ} {K : List ℕ} (stop sg : Bool) {c : Cursor} {e : ℕ} {x : List ℕ} (h : 256 ≤ c.depth) (k : c.pos ≤ n) (kn : Known X t n K) where
  pub simple-deep : Simple X t n K K stop sg c e x x (Err (missed_at c))
  simple-deep = (
    record { within = k; on = omega arith; depth = refl; room = omega arith; long = refl; kept = kept_refl K; known = kn },
    λ I s at. record { state = s; runs = ap (λ (f : Stop → Bool → M (Option Node)). f (stop_of stop) sg s) (deep-simple I c.depth h) ∙ ret _ _; at = at; tree = wrote_none x e },
  )

  pub script-deep : ScriptFunc X t n K K stop sg c e x x (Err (missed_at c))
  script-deep = (
    record { within = k; on = omega arith; depth = refl; room = omega arith; long = refl; kept = kept_refl K; known = kn },
    λ I s at. record { state = s; runs = ap (λ (f : Stop → Bool → M (Option Node)). f (stop_of stop) sg s) (deep-script_func I c.depth h) ∙ ret _ _; at = at; tree = wrote_none x e },
  )

-- what a node's own words are, in an item
pub bare-simple : (sc : Script) (l : Nodes) → encode_item (node (Head.simple sc) l) ≡ 0 ∷ encode (node (Head.simple sc) l)
unfolding encode encode_item
bare-simple sc l = refl

pub bare-func : (sp : Span) (sc : Script) (l : Nodes) → encode_item (node (Head.func sp sc) l) ≡ 0 ∷ encode (node (Head.func sp sc) l)
unfolding encode encode_item
bare-func sp sc l = refl

pub bare-prefix : (p : Prefix) (sp : Span) (l : Nodes) → encode_item (node (Head.prefix p sp) l) ≡ 0 ∷ encode (node (Head.prefix p sp) l)
unfolding encode encode_item
bare-prefix p sp l = refl

-- some node, found
pub found_of : {X t : List ℕ} {n : ℕ} {L : List ℕ} {m : M (Option Node)} {also : Bool → Node → Type 0} {I : Input} {s u : State} {e : ℕ} {x y : List ℕ} {E : ℕ} {b : Cursor} {f : Bool} (a : Option Node)
    → m s ≡ (a, u) → At X t n L b.pos b.takes I u → Wrote x e y E (words_of a) → With also f a → Finds X t n L m encode also I s e x y b E f
found_of none r at w bs = absurd bs
found_of {u = u} (some a) r at w bs = record { node = a; state = u; runs = r; at = at; tree = w; besides = bs }

-- a simple expression and its scripts
module _ {X t : List ℕ} {n : ℕ} {K : List ℕ} (stop sg : Bool) {c : Cursor} {e : ℕ} {x : List ℕ} where
  pub term_nothing : {L y : List ℕ} {b : Cursor} → e + 6 + 32 * (n - c.pos) ≤ length x → Simple X t n K L stop sg c (e + 6) x y (Err (missed_at b)) → Term X t n K L stop sg c e x y (Err (missed_at b))
  term_nothing k p = (
    record { within = p.0.within; on = p.0.on; depth = p.0.depth; room = omega (arith, p.0.on); long = p.0.long; kept = p.0.kept; known = p.0.known },
    λ I s at. let q = p.1 I s at in record { state = q.state; runs = bind _ _ s q.runs ∙ ret _ _; at = q.at; tree = back e q.tree (omega arith) (omega arith) },
  )

  pub term_scripted : {L J y z w : List ℕ} {b : Cursor} {E : ℕ} {f : Bool} {g : code.Scripted} → e + 6 + 32 * (n - c.pos) ≤ length x
      → Simple X t n K L stop sg c (e + 6) x y (Ok (record { cur = b; end = E; ends = f })) → Scripts X t n L J b E y z g → w ≡ sets z e (13 ∷ 0 ∷ 0 ∷ g.script ∷ 0 ∷ 0 ∷ []) → Term X t n K J stop sg c e x w (Ok (record { cur = g.cur; end = g.end; ends = f }))
  unfolding encode encodes ends_operand look ends_first encode_item
  term_scripted {L} {J} {y} {z} {w} {b} {E} {f} {g} k p p2 hw = (
    record { within = p2.moves.within; on = omega (arith, p.0.on, p2.moves.on); depth = p2.moves.depth ∙ p.0.depth; room = omega (arith, p.0.room, p2.moves.room); long = ap length hw ∙ length-sets z e (13 ∷ 0 ∷ 0 ∷ g.script ∷ 0 ∷ 0 ∷ []) ∙ p2.moves.long ∙ p.0.long; kept = kept_trans p.0.kept p2.moves.kept; known = p2.moves.known },
    λ I s at.
        let q = p.1 I s at in
        let q2 = rw p.0.depth at (p2.means I q.state q.at) in
        record {
          node = node (Head.simple q2.answer.0) (q.node ▸ q2.answer.1);
          state = q2.state;
          runs = bind _ _ s q.runs ∙ bind _ _ _ q2.runs ∙ ret _ _;
          at = q2.at;
          tree = rw (hw, append-nil, ← q2.besides) (fill e (13 ∷ 0 ∷ 0 ∷ g.script ∷ 0 ∷ 0 ∷ []) (seq q.tree q2.tree) refl (omega (arith, p.0.room, p2.moves.room)));
          besides = (q.besides, refl);
        },
  )

module _ {X t : List ℕ} {n : ℕ} {K : List ℕ} (stop sg : Bool) {c : Cursor} {e : ℕ} {x : List ℕ} (deep : c.depth < 256) where
  pub script-nothing : {L y : List ℕ} {a b : Cursor} → a ≡ inner (seen n c) → test_at t K n (heads_kind sg) c.pos ≡ false → Term X t n K L stop sg a e x y (Err (missed_at b)) → ScriptFunc X t n K L stop sg c e x y (Err (missed_at (at_depth c.depth b)))
  unfolding next_script_func
  script-nothing {L} {y} {a} {b} ha h p₀ = let p = subst (λ (w : Cursor). Term X t n K L stop sg w e x y (Err (missed_at b))) ha p₀ in (
    record { within = p.0.within; on = p.0.on; depth = refl; room = omega (arith, p.0.room); long = p.0.long; kept = p.0.kept; known = p.0.known },
    λ I s at.
        let r = passed (heads_kind sg) at (same-heads sg) h in
        let q = p.1 I r.state r.at in
        record { state = q.state; runs = script-runs c.depth stop sg deep I s (bind _ _ s r.runs ∙ q.runs); at = q.at; tree = q.tree },
  )

  pub script-term : {L y : List ℕ} {a b : Cursor} {E : ℕ} {f : Bool} → a ≡ inner (seen n c) → test_at t K n (heads_kind sg) c.pos ≡ false → Term X t n K L stop sg a e x y (Ok (record { cur = b; end = E; ends = f })) → ScriptFunc X t n K L stop sg c e x y (Ok (record { cur = at_depth c.depth b; end = E; ends = f }))
  unfolding next_script_func
  script-term {L} {y} {a} {b} {E} {f} ha h p₀ = let p = subst (λ (w : Cursor). Term X t n K L stop sg w e x y (Ok (record { cur = b; end = E; ends = f }))) ha p₀ in (
    record { within = p.0.within; on = p.0.on; depth = refl; room = p.0.room; long = p.0.long; kept = p.0.kept; known = p.0.known },
    λ I s at.
        let r = passed (heads_kind sg) at (same-heads sg) h in
        let q = p.1 I r.state r.at in
        record { node = q.node; state = q.state; runs = script-runs c.depth stop sg deep I s (bind _ _ s r.runs ∙ q.runs); at = q.at; tree = q.tree; besides = q.besides },
  )

  pub script-headed : {L y : List ℕ} {g : Part} → test_at t K n (heads_kind sg) c.pos ≡ true
      → Headed X t n K L c.pos stop (inner (onward c)) e x y g → ScriptFunc X t n K L stop sg c e x y (Ok (part_at c.depth g))
  unfolding next_script_func
  script-headed {L} {y} {g} h p =
      let b : c.pos < n = test_below t K n (heads_kind sg) c.pos h in (
        record { within = p.moves.within; on = omega (arith, p.moves.on); depth = refl; room = omega (arith, p.moves.room); long = p.moves.long; kept = p.moves.kept; known = p.moves.known },
        λ I s at.
            let r = took (heads_kind sg) at (same-heads sg) h in
            let q = p.means I (tick s) (at_tick at) r.0.entry r.0.there in
            found_of q.answer (script-runs c.depth stop sg deep I s (bind _ _ s r.1 ∙ q.runs)) q.at q.tree q.besides,
      )

pub script-back : (X t : List ℕ) (n : ℕ) (K L : List ℕ) (stop sg : Bool) (a c : Cursor) (e : ℕ) (x y : List ℕ) (r : Step) → c.depth < 256 → a ≡ inner (seen n c) → test_at t K n (heads_kind sg) c.pos ≡ false
    → Term X t n K L stop sg a e x y r → ScriptFunc X t n K L stop sg c e x y (step_at c.depth r)
script-back X t n K L stop sg a c e x y (Err b) deep ha h p = script-nothing stop sg deep ha h p
script-back X t n K L stop sg a c e x y (Ok g) deep ha h p = script-term stop sg deep ha h p

-- a function with its scripts and its argument; a sign with its argument
module _ {X t : List ℕ} {n : ℕ} {K : List ℕ} (i : ℕ) (stop : Bool) {c : Cursor} {e : ℕ} {x : List ℕ} (inside : i < n) (room : e + 18 + 32 * (n - c.pos) ≤ length x) where
  pub headed-func : {L J y z w : List ℕ} {g : code.Scripted} {j : Part} → test_at t K n (is_kind 17) i ≡ true → Scripts X t n K L c (e + 6) x y g → Operand X t n L J false g.cur g.end y z j
      → w ≡ sets z e (node_words t J i 14 g.script)
      → Headed X t n K J i stop c e x w (record { cur = j.cur; end = j.end; ends = true })
  unfolding encode encodes ends_operand look encode_item
  headed-func {L} {J} {y} {z} {w} {g} {j} h p p2 hw = record {
    moves = record { within = p2.moves.within; on = omega (arith, p.moves.on, p2.moves.on); depth = p2.moves.depth ∙ p.moves.depth; room = omega (arith, p.moves.room, p2.moves.room); long = ap length hw ∙ length-sets z e (node_words t J i 14 g.script) ∙ p2.moves.long ∙ p.moves.long; kept = kept_trans p.moves.kept p2.moves.kept; known = p2.moves.known };
    means = λ I s at en there.
        let q = p.means I s at in
        let q2 = rw p.moves.depth at (p2.means I q.state q.at) in
        let r0 = row_of at.given inside there in
        let r = row_of q2.at.given inside there in
        record {
          answer = some (node (Head.func en.span q.answer.0) (q.answer.1 ⧺ (or_missing_part q2.answer ▸ end)));
          state = q2.state;
          runs = if_true _ _ _ (kind-is token.Function true r0 inside h) ∙ bind _ _ s q.runs ∙ bind _ _ _ q2.runs ∙ ret _ _;
          at = q2.at;
          tree = rw (hw, encodes-append, append-nil, append-nil, ← r.start, ← r.len, ← q.besides) (fill e (node_words t J i 14 g.script) (seq q.tree q2.tree) refl (omega (arith, p.moves.room, p2.moves.room)));
          besides = (refl, refl);
        };
  }

  pub headed-sign : {L y z : List ℕ} {j : Part} → test_at t K n (is_kind 17) i ≡ false → Operand X t n K L stop c (e + 6) x y j
      → z ≡ sets y e (node_words t L i 8 0)
      → Headed X t n K L i stop c e x z (record { cur = j.cur; end = j.end; ends = true })
  unfolding encode encodes ends_operand look encode_item
  headed-sign {L} {y} {z} {j} h p hz = record {
    moves = record { within = p.moves.within; on = p.moves.on; depth = p.moves.depth; room = omega (arith, p.moves.room); long = ap length hz ∙ length-sets y e (node_words t L i 8 0) ∙ p.moves.long; kept = p.moves.kept; known = p.moves.known };
    means = λ I s at en there.
        let q = p.means I s at in
        let r0 = row_of at.given inside there in
        let r = row_of q.at.given inside there in
        record {
          answer = some (one (Head.prefix Prefix.signed en.span) (or_missing_part q.answer));
          state = q.state;
          runs = if_false _ _ _ (kind-is token.Function false r0 inside h) ∙ bind _ _ s q.runs ∙ ret _ _;
          at = q.at;
          tree = rw (hz, append-nil, append-nil, ← r.start, ← r.len) (fill e (node_words t L i 8 0) q.tree refl (omega (arith, p.moves.room)));
          besides = (refl, refl);
        };
  }

-- items
module _ {X t : List ℕ} {n : ℕ} {K : List ℕ} (stop sg : Bool) {c : Cursor} {e : ℕ} {x : List ℕ} (room : e + 7 + 32 * (n - c.pos) ≤ length x) where
  pub item-nothing : {L y : List ℕ} {b : Cursor} → ScriptFunc X t n K L stop sg c (e + 1) x y (Err (missed_at b)) → Intermediate X t n K L stop sg c e x y (Err (missed_at b))
  unfolding next_intermediate
  item-nothing p = (
    record { within = p.0.within; on = p.0.on; depth = p.0.depth; room = omega (arith, p.0.on); long = p.0.long; kept = p.0.kept; known = p.0.known },
    λ I s at. let q = p.1 I s at in record { state = q.state; runs = bind _ _ s q.runs ∙ ret _ _; at = q.at; tree = back e q.tree (omega arith) (omega arith) },
  )

  pub item-plain : {L y z : List ℕ} {b : Cursor} {E : ℕ} {f : Bool} → ScriptFunc X t n K L stop sg c (e + 1) x y (Ok (record { cur = b; end = E; ends = f })) → test_at t L n (is_kind 0) b.pos ≡ false → z ≡ sets y e (0 ∷ [])
      → Intermediate X t n K L stop sg c e x z (Ok (record { cur = seen n b; end = E; ends = f }))
  unfolding next_intermediate
  item-plain {L} {y} {z} {b} {E} {f} p h hz = (
    record { within = p.0.within; on = p.0.on; depth = p.0.depth; room = omega (arith, p.0.room); long = ap length hz ∙ length-sets y e (0 ∷ []) ∙ p.0.long; kept = p.0.kept; known = p.0.known },
    λ I s at.
        let q = p.1 I s at in
        let r = passed (is_kind 0) q.at (same-is token.Frac) h in
        record {
          node = q.node;
          state = r.state;
          runs = bind _ _ s q.runs ∙ bind _ _ _ r.runs ∙ ret _ _;
          at = r.at;
          tree = rw (hz, q.besides.1) (fill e (0 ∷ []) q.tree refl (omega (arith, p.0.room)));
          besides = q.besides.0;
        },
  )

  pub item-over : {L J y z w : List ℕ} {b : Cursor} {E : ℕ} {f : Bool} {g : Part} → ScriptFunc X t n K L stop sg c (e + 1) x y (Ok (record { cur = b; end = E; ends = f })) → test_at t L n (is_kind 0) b.pos ≡ true → z ≡ sets y e (1 ∷ [])
      → Operand X t n L J false (onward b) E z w g → Intermediate X t n K J stop sg c e x w (Ok g)
  unfolding next_intermediate encode_item encodes ends_operand look ends_first ends_second
  item-over {L} {J} {y} {z} {w} {b} {E} {f} {g} p h hz p2 =
      let l : b.pos < n = test_below t L n (is_kind 0) b.pos h in (
        record { within = p2.moves.within; on = omega (arith, p.0.on, p2.moves.on); depth = p2.moves.depth ∙ p.0.depth; room = omega (arith, p.0.room, p2.moves.room); long = p2.moves.long ∙ ap length hz ∙ length-sets y e (1 ∷ []) ∙ p.0.long; kept = kept_trans p.0.kept p2.moves.kept; known = p2.moves.known },
        λ I s at.
            let q = p.1 I s at in
            let r = took (is_kind 0) q.at (same-is token.Frac) h in
            let q2 = rw p.0.depth at (p2.means I (tick q.state) (at_tick q.at)) in
            let v : Wrote x e z E (1 ∷ encode q.node) = rw hz (fill e (1 ∷ []) q.tree refl (omega (arith, p.0.room))) in
            record {
              node = node Head.frac (q.node ▸ or_missing_part q2.answer ▸ end);
              state = q2.state;
              runs = bind _ _ s q.runs ∙ bind _ _ _ r.1 ∙ bind _ _ _ q2.runs ∙ ret _ _;
              at = q2.at;
              tree = rw append-nil (seq v q2.tree);
              besides = q2.besides;
            },
      )

-- groups
group-in : (t K : List ℕ) (n i j k : ℕ) → j < n → group_words t K n i j k ≡ 15 ∷ start_of t K i ∷ len_of t K i ∷ k ∷ start_of t K j ∷ len_of t K j ∷ []
unfolding group_words
group-in t K n i j k h = rw (lt-ltb j n h)

group-out : (t K : List ℕ) (n i k : ℕ) → group_words t K n i n k ≡ 15 ∷ start_of t K i ∷ len_of t K i ∷ k ∷ 0 ∷ 0 ∷ []
unfolding group_words
group-out t K n i k = let z : n ≤ n = omega arith in rw (le-ltb n n z)

pub closed-words : {t K : List ℕ} {n i j k : ℕ} {a b : Entry} (l : Nodes) → Row t K i a → Row t K j b → j < n → k ≡ count l → encode (node (Head.group a.span b.span) l) ≡ group_words t K n i j k ++ encode_items l
unfolding encode
closed-words {t} {K} {n} {i} {j} {k} l r r2 h hk = rw (group-in t K n i j k h, append-nil, hk, r.start, r.len, r2.start, r2.len)

open_words : {t K : List ℕ} (n : ℕ) {i k : ℕ} {a : Entry} (l : Nodes) → Row t K i a → k ≡ count l → encode (node (Head.group a.span nowhere) l) ≡ group_words t K n i n k ++ encode_items l
unfolding encode
open_words {t} {K} n {i} {k} l r hk = rw (group-out t K n i k, append-nil, hk, r.start, r.len)

pub group-size : (t K : List ℕ) (n i j k : ℕ) → length (group_words t K n i j k) ≡ 6
unfolding group_words
group-size t K n i j k = refl

module _ {X t : List ℕ} {n : ℕ} {K L : List ℕ} (i : ℕ) {c : Cursor} {e : ℕ} {x y : List ℕ} {g : Items} (inside : i < n) (p : Intermediates X t n K L n false true true c (e + 6) x y g) (room : e + 20 + 32 * (n - c.pos) ≤ length x) where
  pub group-shut : {z : List ℕ} → test_at t L n (is_kind 21) g.cur.pos ≡ true → z ≡ sets y e (group_words t L n i g.cur.pos g.count)
      → OpenGroup X t n K L i c e x z (record { cur = onward g.cur; end = g.end; ends = true })
  unfolding next_open_group ends_operand look prefixes
  group-shut {z} h hz =
      let b : g.cur.pos < n = test_below t L n (is_kind 21) g.cur.pos h in
      let size = group-size t L n i g.cur.pos g.count in
      record {
        moves = record { within = omega arith; on = omega (arith, p.moves.on); depth = p.moves.depth; room = omega (arith, p.moves.room); long = ap length hz ∙ length-sets y e (group_words t L n i g.cur.pos g.count) ∙ p.moves.long; kept = p.moves.kept; known = p.moves.known };
        means = λ I s at en there.
            let q = whole-items p (omega arith) I s at none refl refl in
            let u = took (is_kind 21) q.at (same-is token.CloseBracket) h in
            let r = row_of q.at.given inside there in
            record {
              answer = node (Head.group en.span u.0.entry.span) q.answer;
              state = shut i (tick q.state);
              runs = bind _ _ s q.runs ∙ bind _ _ _ u.1 ∙ ret-closed _ _ _;
              at = at_shut i (at_tick q.at);
              tree = rw (hz, closed-words q.answer r u.0.row b q.besides.0) (fill e (group_words t L n i g.cur.pos g.count) q.tree (omega (arith, size)) (omega (arith, p.moves.room)));
              besides = refl;
            };
      }

  pub group-open : {z : List ℕ} → test_at t L n (is_kind 21) g.cur.pos ≡ false → z ≡ sets y e (group_words t L n i n g.count)
      → OpenGroup X t n K L i c e x z (record { cur = seen n g.cur; end = g.end; ends = true })
  unfolding next_open_group ends_operand look prefixes
  group-open {z} h hz =
      let size = group-size t L n i n g.count in
      record {
        moves = record { within = p.moves.within; on = p.moves.on; depth = p.moves.depth; room = omega (arith, p.moves.room); long = ap length hz ∙ length-sets y e (group_words t L n i n g.count) ∙ p.moves.long; kept = p.moves.kept; known = p.moves.known };
        means = λ I s at en there.
            let q = whole-items p (omega arith) I s at none refl refl in
            let u = passed (is_kind 21) q.at (same-is token.CloseBracket) h in
            let r = row_of q.at.given inside there in
            record {
              answer = node (Head.group en.span nowhere) q.answer;
              state = u.state;
              runs = bind _ _ s q.runs ∙ bind _ _ _ u.runs ∙ ret _ _;
              at = u.at;
              tree = rw (hz, open_words n q.answer r q.besides.0) (fill e (group_words t L n i n g.count) q.tree (omega (arith, size)) (omega (arith, p.moves.room)));
              besides = refl;
            };
      }
