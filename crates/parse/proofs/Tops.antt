-- The loop over all items and unmatched closing brackets: what it keeps, and what it gives.
use Prim.Native.Nat.{ℕ, zero, suc, ◌+◌, ◌*◌, ◌-◌, ◌≤◌, ◌<◌}
use mathlib.Core.Path.{◌≡◌, refl, sym, ap, ◌∙◌, subst}
use mathlib.Core.List.{List, [], ◌∷◌, ◌++◌, append-nil, append_assoc}
use mathlib.Core.Option.{Option, none}
use mathlib.Core.Bool.{Bool, true, false}
use native.Mathlib.Omega.{arith}
use lib.ListN.{length, take, replicate}
use borrow.Author.Tests.{eqb-true}
use Rattle.tokens.specs.declared.token.Token.TheVariants as token
use Rattle.tree.specs.Tree.{nowhere, Head, Node, node, Nodes, end, ◌▸◌, ◌⧺◌, count}
use Rattle.tree.specs.Words.{encode, encodes, encode_item, encode_items}
use Rattle.reading.specs.Stop.{Stop}
use Rattle.reading.specs.Entries.{Entry}
use Rattle.reading.specs.Reading.{State, level, intermediates, unscripted, prefixes, parse, last_of}
use Rattle.reading_cursor.specs.declared.Cursor.{Cursor}
use Rattle.parse.specs.declared.cursor.Items.{Items}
use Rattle.records.specs.Record.{after_close, sep_of, marks_of, kind_of, start_of, len_of, InHalf, Whole, with_close, with_sep, Kept}
use Rattle.lookahead.specs.Tests.{test_at, is_kind}
use Rattle.parse.specs.Meet.{Intermediates}
use Rattle.reading_cursor.specs.Moves.{onward, seen}
use Rattle.lookahead.proofs.Testing.{test_below}
use Rattle.stores.proofs.Stores.{close-length, close-same, close_other, place-of_close, sep-of_close, marks-of_close, sep-length, sep-same, sep-other, place-of_sep, close-of_sep, marks-of_sep}
use Rattle.parse.proofs.Whole.{whole-items}
use Rattle.parse.specs.Top.{Wrap, Chained, wrap_words, wraps_words, read_from, TopReady, Topped}
use Rattle.parse.proofs.Scripting.{count-append}
use Rattle.parse.proofs.Loop.{encode_items-append}
use Rattle.reading_words.specs.Entry.{Safe}
use Rattle.reading_words.specs.Meet.{Input, Row, Given, Marks, At, Known, is_none}
use Rattle.reading_words.proofs.Kit.{tick, at_tick, same_kind, same_start, same_len, same_row, Places, safe-same, safe-kept, took, passed, test-kind, same-is}
use Rattle.reading_words.proofs.Steps.{absurd_bool, last-join, no_first, no_sign, parse-drop, parse-open, parse-wrap, some_after}

-- A wrap noted: only two fields of its closing bracket change.
module _ (K : List ℕ) (i a k : ℕ) where
  abbrev closed : List ℕ
  closed = with_close K i a

  abbrev noted : List ℕ
  noted = with_sep closed i k

  pub noted-places : Places K noted
  noted-places = record { long = sep-length closed i k ∙ close-length K i a; place = λ j. place-of_sep closed i k j ∙ place-of_close K i a j }

  noted-marks : (j : ℕ) → marks_of noted j ≡ marks_of K j
  noted-marks j = marks-of_sep closed i k j ∙ marks-of_close K i a j

  noted-close : (j : ℕ) → (j ≡ i → ⊥) → after_close noted j ≡ after_close K j
  noted-close j h = close-of_sep closed i k j ∙ close_other K i a j h

  noted-sep : (j : ℕ) → (j ≡ i → ⊥) → sep_of noted j ≡ sep_of K j
  noted-sep j h = sep-other closed i k j h ∙ sep-of_close K i a j

  pub given-noted : {X t : List ℕ} {n : ℕ} {I : Input} → kind_of t K i ≡ 21 → Given X t n K I → Given X t n noted I
  given-noted {X} {t} kd q = record {
    text = q.text;
    size = q.size;
    stands = λ j h. let w = q.stands j h in record { entry = w.entry; there = w.there; row = same_row t noted-places j w.row };
    linked = λ j h l.
        let kj : kind_of t K j ≡ 20 = sym (same_kind t noted-places j) ∙ l in
        let d : (j ≡ i → ⊥) = λ z. not_both j z kj in
        let w = q.linked j h kj in
        record { close = noted-close j d ∙ w.close; sep = noted-sep j d ∙ w.sep };
  }
    where
      not_both : (j : ℕ) → j ≡ i → kind_of t K j ≡ 20 → ⊥
      not_both j z l = let y : kind_of t K i ≡ 20 = sym (ap (λ (p : ℕ). kind_of t K p) z) ∙ l in omega (arith, kd)

  pub marks-noted : {n : ℕ} {l : List Bool} → Marks n K l → Marks n noted l
  marks-noted m = record { held = m.held; words = λ j h. noted-marks j ∙ m.words j h }

  chained_below : (b last : ℕ) (ws : List Wrap) → b ≤ i → Chained K b last ws → Chained noted b last ws
  chained_below b last [] h c = tt
  chained_below b last (w ∷ ws) h c =
      let d : (last ≡ i → ⊥) = λ z. omega (arith, c.1) in
      (c.0, c.1, noted-sep last d ∙ c.2, subst (λ (p : ℕ). Chained noted last p ws) (sym (noted-close last d)) (chained_below last (after_close K last) ws (omega (arith, c.1)) c.3))

  -- both numbers fit in their halves
  module _ (fit : Whole K i) (small : InHalf a) (few : InHalf k) where
    own-close : after_close noted i ≡ a
    own-close = close-of_sep closed i k i ∙ close-same K i a fit small

    own-sep : sep_of noted i ≡ k
    own-sep = sep-same closed i k (omega (arith, close-length K i a, fit)) few

    pub chained_more : (b : ℕ) (ws : List Wrap) → b ≤ i → Chained K b a ws → Chained noted (i + 1) i (record { closer = i; items = k } ∷ ws)
    chained_more b ws h c = (refl, omega arith, own-sep, subst (λ (p : ℕ). Chained noted i p ws) (sym own-close) (weaken b i a ws h (chained_below b a ws h c)))
      where
        weaken : (b b2 last : ℕ) (ws : List Wrap) → b ≤ b2 → Chained noted b last ws → Chained noted b2 last ws
        weaken b b2 last [] h c = tt
        weaken b b2 last (w ∷ ws) h c = (c.0, omega (arith, c.1), c.2, c.3)

chained_kept : {K L : List ℕ} (b last : ℕ) (ws : List Wrap) → Kept K L → Chained K b last ws → Chained L b last ws
chained_kept b last [] p c = tt
chained_kept {K} {L} b last (w ∷ ws) p c = (c.0, c.1, p.sep last ∙ c.2, subst (λ (q : ℕ). Chained L last q ws) (sym (p.close last)) (chained_kept last (after_close K last) ws p c.3))

chained_wider : (K : List ℕ) (b b2 last : ℕ) (ws : List Wrap) → b ≤ b2 → Chained K b last ws → Chained K b2 last ws
chained_wider K b b2 last [] h c = tt
chained_wider K b b2 last (w ∷ ws) h c = (c.0, omega (arith, c.1), c.2, c.3)

wraps_same : (t : List ℕ) {K L : List ℕ} (ws : List Wrap) → Places K L → wraps_words t L ws ≡ wraps_words t K ws
unfolding wraps_words
wraps_same t [] p = refl
wraps_same t (w ∷ ws) p = rw (same_start t p w.closer, same_len t p w.closer, wraps_same t ws p)

-- the words of a wrap
one-item : (x : Node) → encode_items (x ▸ end) ≡ encode_item x
unfolding encode_items
one-item x = append-nil (encode_item x)

unscripted-words : (a : Node) → encode_item (unscripted a) ≡ 0 ∷ 13 ∷ 0 ∷ 0 ∷ 0 ∷ 0 ∷ 0 ∷ encode a
unfolding encode_item encodes
unscripted-words a = ap (λ (w : List ℕ). 0 ∷ 13 ∷ 0 ∷ 0 ∷ 0 ∷ 0 ∷ 0 ∷ w) (append-nil (encode a ++ []) ∙ append-nil (encode a))

group-words : {t K : List ℕ} {i k : ℕ} (c : Entry) (m : Nodes) → Row t K i c → k ≡ count m → encode (node (Head.group nowhere c.span) m) ≡ 15 ∷ 0 ∷ 0 ∷ k ∷ start_of t K i ∷ len_of t K i ∷ encode_items m
unfolding encode
group-words c m r hk = rw (hk, r.start, r.len, append-nil)

wrap-words : {t K : List ℕ} {i k : ℕ} (c : Entry) (m : Nodes) → Row t K i c → k ≡ count m
    → encode_items (unscripted (node (Head.group nowhere c.span) m) ▸ end) ≡ wrap_words k (start_of t K i) (len_of t K i) ++ encode_items m
wrap-words c m r hk = one-item (unscripted (node (Head.group nowhere c.span) m)) ∙ unscripted-words (node (Head.group nowhere c.span) m) ∙ ap (λ (w : List ℕ). 0 ∷ 13 ∷ 0 ∷ 0 ∷ 0 ∷ 0 ∷ 0 ∷ w) (group-words c m r hk)

-- At the loop's head.
pub record Topping (X t : List ℕ) (n : ℕ) (K : List ℕ) (ws : List Wrap) (I : Input) (m : List Bool) (y : List ℕ) (cur : Cursor) (stp num : ℕ) (first sign : Bool) (wraps : ℕ) : Type 0 where
  pub left : ℕ
  pub acc : Nodes
  pub state : State
  pub whole : read_from I m ≡ parse I.text I.es true (suc left) (256 - wraps) acc state
  pub enough : n - cur.pos ≤ left
  pub at : At X t n K cur.pos cur.takes I state
  pub words : encode_items acc ≡ wraps_words t K ws ++ take stp y
  pub number : num ≡ count acc
  pub is_first : first ≡ is_none (last_of acc)
  pub is_sign : sign ≡ prefixes (last_of acc)

pub record Round (X t : List ℕ) (n : ℕ) (K₀ K x y : List ℕ) (cur : Cursor) (stp num : ℕ) (first sign : Bool) (wraps last : ℕ) : Type 0 where
  pub within : cur.pos ≤ n
  pub depth : cur.depth ≡ 0
  pub room : stp + 13 * wraps + 32 * (n - cur.pos) ≤ 32 * n
  pub few : num ≤ 2 * cur.pos
  pub long : length y ≡ length x
  pub held : length K ≡ length K₀
  pub most : wraps ≤ 256
  pub small : last ≤ n
  pub started : first ≡ true → wraps ≡ 0
  pub safe : Safe n X t K
  pub known : Known X t n K
  pub list : List Wrap
  pub size : length list ≡ wraps
  pub chain : Chained K cur.pos last list
  pub along : (I : Input) → Given X t n K₀ I → (m : List Bool) → Marks n K₀ m → Topping X t n K list I m y cur stp num first sign wraps

module _ (X t : List ℕ) (n : ℕ) {K : List ℕ} (x : List ℕ) (r : TopReady n X t K x) where
  pub round_none : Round X t n K K x x (record { pos = 0; depth = 0; takes = 0 }) 0 0 true true 0 0
  unfolding encode_items prefixes last_of wraps_words
  round_none = record {
    within = omega arith;
    depth = refl;
    room = omega arith;
    few = omega arith;
    long = refl;
    held = refl;
    most = omega arith;
    small = omega arith;
    started = λ z. refl;
    safe = r.safe;
    known = record { input = r.input; marked = r.marked; given = r.given; marks = r.marks };
    list = [];
    size = refl;
    chain = tt;
    along = λ I g m mk. record {
      left = length I.es;
      acc = end;
      state = record { pos = zero; takes = zero; marks = m; closers = replicate (length I.es) (length I.es) };
      whole = refl;
      enough = omega (arith, g.size);
      at = record { given = g; marks = mk; pos = refl; takes = refl };
      words = refl;
      number = refl;
      is_first = refl;
      is_sign = refl;
    };
  }

module _ {X t : List ℕ} {n : ℕ} {K₀ K L x y y2 : List ℕ} {cur : Cursor} {stp num : ℕ} {first sign : Bool} {wraps last : ℕ} {g : Items}
    (i : Round X t n K₀ K x y cur stp num first sign wraps last) (p : Intermediates X t n K L n false first sign cur stp y y2 g) (space : 32 * (n + 1) ≤ length x) where
  record Turn (I : Input) {m : List Bool} (a : Topping X t n K i.list I m y cur stp num first sign wraps) : Type 0 where
    pub l : Nodes
    pub u : State
    pub run : intermediates I.text I.es true (level I.text I.es true 256) (suc (length I.es)) none Stop.none (last_of a.acc) a.state ≡ (l, u)
    pub at : At X t n L g.cur.pos g.cur.takes I u
    pub words : encode_items (a.acc ⧺ l) ≡ wraps_words t L i.list ++ take g.end y2
    pub number : num + g.count ≡ count (a.acc ⧺ l)
    pub is_sign : g.sign ≡ prefixes (last_of (a.acc ⧺ l))

  turn : (I : Input) {m : List Bool} (a : Topping X t n K i.list I m y cur stp num first sign wraps) → Turn I a
  turn I a =
      let q = rw i.depth at (whole-items p (omega arith) I a.state a.at (last_of a.acc) a.is_first a.is_sign) in
      record {
        l = q.answer;
        u = q.state;
        run = q.runs;
        at = q.at;
        words = encode_items-append a.acc q.answer ∙ ap (λ (w : List ℕ). w ++ encode_items q.answer) a.words ∙ append_assoc (wraps_words t K i.list) (take stp y) (encode_items q.answer)
            ∙ ap (λ (w : List ℕ). wraps_words t K i.list ++ w) (sym q.tree.body) ∙ ap (λ (w : List ℕ). w ++ take g.end y2) (sym (wraps_same t i.list (record { long = p.moves.kept.long; place = p.moves.kept.place })));
        number = omega (arith, a.number, q.besides.0, count-append a.acc q.answer);
        is_sign = q.besides.1 ∙ ap prefixes (sym (last-join a.acc q.answer));
      }

  pub round_open : test_at t L n (is_kind 21) g.cur.pos ≡ false → Topped X t n K₀ L y2 (record { cur = seen n g.cur; end = g.end; count = num + g.count; wraps = wraps; last = last })
  round_open h = record {
    noted = record { list = i.list; number = i.size; chain = chained_wider L cur.pos n last i.list i.within (chained_kept cur.pos last i.list p.moves.kept i.chain); placed = (safe-kept p.moves.kept i.safe).placed };
    few = i.most;
    fits = omega (arith, p.moves.room, p.moves.on, p.moves.long, i.room, i.long);
    means = λ I g₀ m mk.
        let a = i.along I g₀ m mk in
        let q = turn I a in
        let v = passed (is_kind 21) q.at (same-is token.CloseBracket) h in
        let w : read_from I m ≡ (a.acc ⧺ q.l, v.state) = a.whole ∙ parse-open I.text I.es a.left a.acc q.l a.state q.u v.state q.run (256 - wraps) v.runs in
        record { words = rw w q.words; number = rw w q.number; takes = rw w v.at.takes; marks = rw w v.at.marks };
  }

  module _ (h : test_at t L n (is_kind 21) g.cur.pos ≡ true) where
    inside : g.cur.pos < n
    inside = test_below t L n (is_kind 21) g.cur.pos h

    pub round_drop : 256 ≤ wraps → Round X t n K₀ L x y2 (onward g.cur) g.end (num + g.count) false g.sign wraps last
    round_drop hw =
        let b = inside in
        record {
          within = omega arith;
          depth = p.moves.depth ∙ i.depth;
          room = omega (arith, p.moves.room, p.moves.on, i.room);
          few = omega (arith, i.few, p.few);
          long = p.moves.long ∙ i.long;
          held = p.moves.kept.long ∙ i.held;
          most = i.most;
          small = i.small;
          started = λ z. absurd_bool (sym z);
          safe = safe-kept p.moves.kept i.safe;
          known = p.moves.known;
          list = i.list;
          size = i.size;
          chain = chained_wider L cur.pos (g.cur.pos + 1) last i.list (omega (arith, p.moves.on)) (chained_kept cur.pos last i.list p.moves.kept i.chain);
          along = λ I g₀ m mk.
              let a = i.along I g₀ m mk in
              let q = turn I a in
              let v = took (is_kind 21) q.at (same-is token.CloseBracket) h in
              let z : 256 - wraps ≡ zero = omega arith in
              let l1 : a.left ≡ suc (a.left - 1) = omega (arith, a.enough, p.moves.on) in
              record {
                left = a.left - 1;
                acc = a.acc ⧺ q.l;
                state = tick q.u;
                whole = a.whole ∙ ap (λ (k : ℕ). parse I.text I.es true (suc a.left) k a.acc a.state) z ∙ parse-drop I.text I.es a.left a.acc q.l a.state q.u (tick q.u) q.run v.0.entry v.1
                    ∙ ap (λ (k : ℕ). parse I.text I.es true k zero (a.acc ⧺ q.l) (tick q.u)) l1 ∙ ap (λ (k : ℕ). parse I.text I.es true (suc (a.left - 1)) k (a.acc ⧺ q.l) (tick q.u)) (sym z);
                enough = omega (arith, l1, a.enough, p.moves.on);
                at = at_tick q.at;
                words = q.words;
                number = q.number;
                is_first = sym (ap is_none (last-join a.acc q.l) ∙ some_after (last_of a.acc) q.l (not_first first refl (last_of a.acc) a.is_first));
                is_sign = q.is_sign;
              };
        }
      where
        not_first : (b : Bool) → first ≡ b → (o : Option Node) → first ≡ is_none o → is_none o ≡ false
        not_first false e o k = sym k ∙ e
        not_first true e o k = absurd (omega (arith, i.started e))

    pub round_wrap : {J : List ℕ} → wraps < 256 → J ≡ with_sep (with_close L g.cur.pos last) g.cur.pos (num + g.count) → Round X t n K₀ J x y2 (onward g.cur) g.end 1 false false (wraps + 1) g.cur.pos
    unfolding wraps_words
    round_wrap hw hj = rw hj (
        let b = inside in
        let at₀ = g.cur.pos in
        let c₀ = num + g.count in
        let sl = safe-kept p.moves.kept i.safe in
        let kd : kind_of t L at₀ ≡ 21 = eqb-true (kind_of t L at₀) 21 (test-kind t L n (is_kind 21) at₀ true b h) in
        let pl = noted-places L at₀ last c₀ in
        let kn = p.moves.known in
        record {
          within = omega arith;
          depth = p.moves.depth ∙ i.depth;
          room = omega (arith, p.moves.room, p.moves.on, i.room);
          few = omega arith;
          long = p.moves.long ∙ i.long;
          held = pl.long ∙ p.moves.kept.long ∙ i.held;
          most = omega arith;
          small = omega arith;
          started = λ z. absurd_bool (sym z);
          safe = safe-same pl sl;
          known = record { input = kn.input; marked = kn.marked; given = given-noted L at₀ last c₀ kd kn.given; marks = marks-noted L at₀ last c₀ kn.marks };
          list = record { closer = at₀; items = c₀ } ∷ i.list;
          size = omega (arith, i.size);
          chain = chained_more L at₀ last c₀ (sl.placed at₀ b).fit (omega (arith, i.small, i.safe.few)) (omega (arith, i.few, p.few, i.safe.few)) cur.pos i.list (omega (arith, p.moves.on)) (chained_kept cur.pos last i.list p.moves.kept i.chain);
          along = λ I g₀ m mk.
              let a = i.along I g₀ m mk in
              let q = turn I a in
              let v = took (is_kind 21) q.at (same-is token.CloseBracket) h in
              let z : 256 - wraps ≡ suc (256 - (wraps + 1)) = omega arith in
              let l1 : a.left ≡ suc (a.left - 1) = omega (arith, a.enough, p.moves.on) in
              let new : Nodes = unscripted (node (Head.group nowhere v.0.entry.span) (a.acc ⧺ q.l)) ▸ end in
              record {
                left = a.left - 1;
                acc = new;
                state = tick q.u;
                whole = a.whole ∙ ap (λ (k : ℕ). parse I.text I.es true (suc a.left) k a.acc a.state) z
                    ∙ parse-wrap I.text I.es a.left a.acc q.l a.state q.u (tick q.u) q.run (256 - (wraps + 1)) v.0.entry v.1
                    ∙ ap (λ (k : ℕ). parse I.text I.es true k (256 - (wraps + 1)) new (tick q.u)) l1;
                enough = omega (arith, l1, a.enough, p.moves.on);
                at = let t2 = at_tick q.at in record { given = given-noted L at₀ last c₀ kd t2.given; marks = marks-noted L at₀ last c₀ t2.marks; pos = t2.pos; takes = t2.takes };
                words = wrap-words v.0.entry (a.acc ⧺ q.l) v.0.row q.number ∙ ap (λ (w : List ℕ). wrap_words c₀ (start_of t L at₀) (len_of t L at₀) ++ w) q.words
                    ∙ sym (append_assoc (wrap_words c₀ (start_of t L at₀) (len_of t L at₀)) (wraps_words t L i.list) (take g.end y2))
                    ∙ ap (λ (w : List ℕ). w ++ take g.end y2) (sym (wraps_same t (record { closer = at₀; items = c₀ } ∷ i.list) pl));
                number = refl;
                is_first = no_first (unscripted (node (Head.group nowhere v.0.entry.span) (a.acc ⧺ q.l)));
                is_sign = no_sign v.0.entry.span (a.acc ⧺ q.l);
              };
        })
