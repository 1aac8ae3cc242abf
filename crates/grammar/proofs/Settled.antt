-- A list that the grammar derives is read as the derivation says, Space items aside; so its derivations all have one tree.
use Prim.Native.Nat.{ℕ, zero, suc, ◌+◌, ◌*◌, ◌≤◌, ◌<◌}
use mathlib.Core.Path.{◌≡◌, refl, sym, ap, ◌∙◌, subst}
use mathlib.Core.List.{List, [], ◌∷◌, map}
use mathlib.Core.Option.{Option, none, some}
use mathlib.Core.Bool.{Bool, true, false, ◌||◌}
use native.Mathlib.Omega.{arith}
use lib.ListN.{length, replicate, get_elem?, length-map}
use Rattle.tokens.specs.declared.token.Token.{Token}
use Rattle.tokens.specs.declared.token.Token.TheVariants as token
use Rattle.tokens.specs.Lexeme.{Span, Lexeme}
use Rattle.tokens.specs.Table.{count_others}
use Rattle.tree.specs.Tree.{nowhere, Script, Head, Atom, Prefix, Node, node, Nodes, end, ◌▸◌, leaf, one}
use Rattle.reading.specs.Stop.{Stop}
use Rattle.reading.specs.Entries.{Entry, is, entries}
use Rattle.grammar.specs.Grammar.{Constant, tok, S, const, bracketed, unary, binary, I, bare, sub, super, subsuper}
use Rattle.grammar.specs.Grammar.{E, more, fraction, alone, tree_s, tree_i, tree_e, of_kind, others, Short, Settled}
use Rattle.grammar.specs.Strip.{is_space_item, strip}
use Rattle.reading.specs.Reading.{State, M, Readers, marks_script, heads, begins, prefixes, is_at, advance, argument}
use Rattle.reading.specs.Reading.{next_script, next_script_func, next_intermediate, at_open_close, intermediates, try_matrix}
use Rattle.reading.specs.Reading.{next_open_group, next_bracket, begun, next_simple, step, level, last_of, parse}
use Rattle.reading.specs.Reading.{parse_entries, reading_by, read_tokens}
use Rattle.grammar.proofs.Derived.{lexeme_of, entry_of, entries-others, Tok, Stand, tok-inside, stand-head, stand-end}
use Rattle.grammar.proofs.Derived.{stand-cut, stand-up, stand-all, Plain, bearing, plain-as, constant_plain, open_plain}
use Rattle.grammar.proofs.Derived.{close-plain, unary-plain, binary-plain, First, S-first, I-first, E-first, NoSep}
use Rattle.grammar.proofs.Derived.{E-sep, gate_shut}
use Rattle.grammar.proofs.Steps.{Comes, Is, Marks, comes, strip-one, strip-two, strip-spaced, From, answer, give, note}
use Rattle.grammar.proofs.Steps.{to, on_true, on_false, call, given, call-node, at_here}

past_end : (es : List Entry) → get_elem? es (length es) ≡ none
past_end [] = refl
past_end (e ∷ es) = past_end es

or-false : (x y : Bool) → (x || y) ≡ false → x ≡ false
or-false true y h = h
or-false false y h = refl

module _ (text : List ℕ) (es : List Entry) (remember : Bool) where
  -- advance over a token that is wanted, and at one that is not, or at the end
  takes : {i : ℕ} {t : Lexeme} (ok : Entry → Bool) (h : Tok es i t) → ok h.entry ≡ true →
      From i (advance text es ok) (suc i) (λ x. x ≡ some h.entry)
  unfolding advance
  takes ok h k = record {
    run = λ s p.
        let e : get_elem? es s.pos ≡ some h.entry = ap (get_elem? es) p ∙ h.there in
        let t : State = record { pos = suc s.pos; takes = suc s.takes; marks = s.marks; closers = s.closers } in
        (some h.entry, t, rw (e, advance, k), ap suc p, refl);
  }

  passes : {i : ℕ} (ok : Entry → Bool) → is_at text es ok i ≡ false → From i (advance text es ok) i (λ x. x ≡ none)
  unfolding advance is_at
  passes {i} ok h = record { run = λ s p. go s p _ refl }
    where
      go : (s : State) → s.pos ≡ i → (x : Option Entry) → get_elem? es s.pos ≡ x →
          (y : Option Entry) × (t : State) × (advance text es ok s ≡ (y, t)) × (t.pos ≡ i) × (y ≡ none)
      go s p none e = (none, s, rw (e, advance), p, refl)
      go s p (some y) e =
          let k : ok y ≡ false = rw (← p, e, is_at) at h in
          let t : State = record { pos = s.pos; takes = suc s.takes; marks = s.marks; closers = s.closers } in
          (none, t, rw (e, advance, k), p, refl)

  -- What does not stand at a position: marks and heads; at a CloseBracket and at the end also the beginning of an item.
  at_tok : {i : ℕ} {t : Lexeme} (ok : Entry → Bool) (h : Tok es i t) → ok h.entry ≡ false → is_at text es ok i ≡ false
  unfolding is_at
  at_tok ok h k = rw (h.there, is_at, k)

  record Unmarked (i : ℕ) : Type 0 where
    script : is_at text es marks_script i ≡ false
    frac : is_at text es (is token.Frac) i ≡ false
    head : (sg : Bool) → is_at text es (heads sg) i ≡ false

  unmarked : {b : Bool} {i : ℕ} {t : Lexeme} → Tok es i t → Plain b (bearing t.token) → Unmarked i
  unmarked h p =
      let q = plain-as h.entry h.kind p in
      record {
        script = at_tok marks_script h q.0;
        frac = at_tok (is token.Frac) h q.1;
        head = λ sg. at_tok (heads sg) h (q.2 sg);
      }

  record Closed (j : ℕ) : Type 0 where
    clear : Unmarked j
    begin : is_at text es (begins Stop.none) j ≡ false

  at_end : (ok : Entry → Bool) → is_at text es ok (length es) ≡ false
  unfolding is_at
  at_end ok = rw (past_end es, is_at)

  closed-end : Closed (length es)
  closed-end = record {
    clear = record { script = at_end marks_script; frac = at_end (is token.Frac); head = λ sg. at_end (heads sg) };
    begin = at_end (begins Stop.none);
  }

  closed-tok : {j : ℕ} {sp : Span} → Tok es j (tok token.CloseBracket sp) → Closed j
  closed-tok h = record {
    clear = unmarked h close-plain;
    begin = at_tok (begins Stop.none) h (plain-as h.entry h.kind close-plain).4;
  }

  -- The readers of one depth, from what those one deeper come to.
  module _ (R : Readers) where
    argument_is : {i j : ℕ} {a : Node} → From i (R.simple Stop.none true) j (Is a) →
        From i (argument text es remember R) j (Comes a)
    unfolding argument
    argument_is g = call-node _ g λ n c. give n c

    module _ (sg : Bool) where
      simple-took : {i j : ℕ} {t : Lexeme} {P : Option Node → Type 0} (h : Tok es i t) → Plain true (bearing t.token) →
          From (suc i) (begun text es remember R t.token h.entry i Stop.none sg) j P →
          From i (next_simple text es remember R Stop.none sg) j P
      unfolding next_simple
      simple-took {i} {j} {P} h p g =
          given _ at_here
          (given _ (takes (begins Stop.none) h (plain-as h.entry h.kind p).4)
          (subst (λ k. From (suc i) (begun text es remember R k h.entry i Stop.none sg) j P) (sym h.kind) g))

      constant_is : {i : ℕ} {k : Token} {a : Atom} {sp : Span} → Constant k a → Tok es i (tok k sp) →
          From i (next_simple text es remember R Stop.none sg) (suc i) (Is (leaf (Head.atom a sp)))
      unfolding begun strip is_space_item
      constant_is {i} {sp} c h = simple-took h (constant_plain c) (begun-is c)
        where
          atom : {a : Atom} → is_space_item (Head.atom a sp) ≡ false →
              Is (leaf (Head.atom a sp)) (some (leaf (Head.atom a h.entry.span)))
          atom {a} b = (_, refl, comes (ap (Head.atom a) h.place) b refl)

          begun-is : {k : Token} {a : Atom} → Constant k a →
              From (suc i) (begun text es remember R k h.entry i Stop.none sg) (suc i) (Is (leaf (Head.atom a sp)))
          begun-is Constant.number = give _ (atom refl)
          begun-is Constant.text = give _ (atom refl)
          begun-is Constant.ident = give _ (atom refl)
          begun-is Constant.operator = give _ (atom refl)
          begun-is (Constant.symbol c) = give _ (atom refl)

      unary-is : {i j : ℕ} {a : Node} {sp : Span} → Tok es i (tok token.Unary sp) →
          From (suc i) (R.simple Stop.none true) j (Is a) →
          From i (next_simple text es remember R Stop.none sg) j (Is (one (Head.prefix Prefix.unary sp) a))
      unfolding begun is_space_item
      unary-is h g =
          simple-took h unary-plain
          (call (argument_is g) λ n c.
          give _ (_, refl, comes (ap (Head.prefix Prefix.unary) h.place) refl (strip-one c)))

      binary-is : {i j k : ℕ} {a b : Node} {sp : Span} → Tok es i (tok token.Binary sp) →
          From (suc i) (R.simple Stop.none true) j (Is a) → From j (R.simple Stop.none true) k (Is b) →
          From i (next_simple text es remember R Stop.none sg) k (Is (node (Head.prefix Prefix.binary sp) (a ▸ b ▸ end)))
      unfolding begun is_space_item
      binary-is h f g =
          simple-took h binary-plain
          (call (argument_is f) λ n c. call (argument_is g) λ m d.
          give _ (_, refl, comes (ap (Head.prefix Prefix.binary) h.place) refl (strip-two c d)))

      bracket-is : {i j : ℕ} {l r : Span} {m : Nodes} → NoSep (map lexeme_of es) →
          Tok es i (tok token.OpenBracket l) → Tok es j (tok token.CloseBracket r) →
          From (suc i) (intermediates text es remember R (suc (length es)) none Stop.none none) j (λ x. strip x ≡ m) →
          From i (next_simple text es remember R Stop.none sg) (suc j) (Is (node (Head.group l r) m))
      unfolding begun next_bracket try_matrix next_open_group is_space_item is
      bracket-is {i} {j} {l} {r} {m} free o c g =
          simple-took o open_plain
          (call (given _ (on_false _ (gate_shut text es free o.entry i) (give none refl)) group) λ n d.
          give _ (n, refl, d))
        where
          group : From (suc i) (next_open_group text es remember R o.entry i) (suc j) (Comes (node (Head.group l r) m))
          group =
              call g λ x e. given _ (takes (is token.CloseBracket) c (rw c.kind))
              (note i _ (comes (rw (o.place, c.place)) refl e))

      -- a scripted part
      scripted : {i j k : ℕ} {a : Node} {sc : Script} {l : Nodes} → Unmarked i → From i (R.simple Stop.none sg) j (Is a) →
          From j (next_script text es remember R) k (Marks sc l) →
          From i (next_script_func text es remember R Stop.none sg) k (Is (node (Head.simple sc) (a ▸ l)))
      unfolding next_script_func is_space_item
      scripted {a} u g h =
          given _ (passes (heads sg) (u.head sg))
          (call-node _ g λ n c. call h λ q m.
          give _ (_, refl, comes (ap Head.simple m.0) refl (c.before q.1 ∙ ap (λ y. a ▸ y) m.1)))

      item-alone : {i j : ℕ} {a : Node} → is_at text es (is token.Frac) j ≡ false →
          From i (R.script_func Stop.none sg) j (Is a) →
          From i (next_intermediate text es remember R Stop.none sg) j (Is a)
      unfolding next_intermediate
      item-alone h g = call-node _ g λ n c. given _ (passes (is token.Frac) h) (give _ (n, refl, c))

      item-fraction : {i j k : ℕ} {a b : Node} {sp : Span} → From i (R.script_func Stop.none sg) j (Is a) →
          Tok es j (tok token.Frac sp) → From (suc j) (R.script_func Stop.none true) k (Is b) →
          From i (next_intermediate text es remember R Stop.none sg) k (Is (node Head.frac (a ▸ b ▸ end)))
      unfolding next_intermediate is_space_item is
      item-fraction f h g =
          call-node _ f λ n c. given _ (takes (is token.Frac) h (rw h.kind))
          (call-node _ g λ m d. give _ (_, refl, comes refl refl (strip-two c d)))

    -- scripts
    script-none : {i : ℕ} → is_at text es marks_script i ≡ false →
        From i (next_script text es remember R) i (Marks Script.none end)
    unfolding next_script strip
    script-none h = given _ (passes marks_script h) (give _ (refl, refl))

    script-super : {i j : ℕ} {a : Node} {sp : Span} → Tok es i (tok token.Super sp) →
        From (suc i) (R.simple Stop.none true) j (Is a) →
        From i (next_script text es remember R) j (Marks Script.super (a ▸ end))
    unfolding next_script marks_script is
    script-super h g =
        given _ (takes marks_script h (rw h.kind))
        (on_true _ (rw h.kind) (call (argument_is g) λ n c. give _ (refl, strip-one c)))

    script-sub : {i j : ℕ} {a : Node} {sp : Span} → Tok es i (tok token.Sub sp) →
        From (suc i) (R.simple Stop.none true) j (Is a) → is_at text es (is token.Super) j ≡ false →
        From i (next_script text es remember R) j (Marks Script.sub (a ▸ end))
    unfolding next_script marks_script is
    script-sub h g k =
        given _ (takes marks_script h (rw h.kind))
        (on_false _ (rw h.kind) (call (argument_is g) λ n c.
        given _ (passes (is token.Super) k) (give _ (refl, strip-one c))))

    script-both : {i j k : ℕ} {a b : Node} {sp sq : Span} → Tok es i (tok token.Sub sp) →
        From (suc i) (R.simple Stop.none true) j (Is a) → Tok es j (tok token.Super sq) →
        From (suc j) (R.simple Stop.none true) k (Is b) →
        From i (next_script text es remember R) k (Marks Script.subsuper (a ▸ b ▸ end))
    unfolding next_script marks_script is
    script-both h f k g =
        given _ (takes marks_script h (rw h.kind))
        (on_false _ (rw h.kind) (call (argument_is f) λ n c.
        given _ (takes (is token.Super) k (rw k.kind))
        (call (argument_is g) λ m d. give _ (refl, strip-two c d))))

    -- items
    items_more : {i j k : ℕ} {a : Node} {l : Nodes} (f : ℕ) (before : Option Node) →
        From i (next_intermediate text es remember R Stop.none (prefixes before)) j (Is a) →
        ((n : Node) → From j (intermediates text es remember R f none Stop.none (some n)) k (λ x. strip x ≡ l)) →
        From i (intermediates text es remember R (suc f) none Stop.none before) k (λ x. strip x ≡ a ▸ l)
    unfolding intermediates at_open_close
    items_more {a} f before g h =
        given _ at_here (on_false _ refl (call-node _ g λ n c. call (h n) λ l e.
        give _ (strip-spaced before _ l c ∙ ap (λ y. a ▸ y) e)))

  abbrev at_level : ℕ → Readers
  at_level r = level text es remember r

  -- Nothing is read where a CloseBracket or the end is.
  no_simple : {j : ℕ} (r : ℕ) (sg : Bool) → Closed j → From j ((at_level r).simple Stop.none sg) j (λ x. x ≡ none)
  unfolding level step next_simple
  no_simple zero sg c = give none refl
  no_simple (suc r) sg c = given _ at_here (given _ (passes (begins Stop.none) c.begin) (give none refl))

  no_script : {j : ℕ} (r : ℕ) (sg : Bool) → Closed j → From j ((at_level r).script_func Stop.none sg) j (λ x. x ≡ none)
  unfolding level step next_script_func
  no_script zero sg c = give none refl
  no_script (suc r) sg c =
      given _ (passes (heads sg) (c.clear.head sg)) (given _ (no_simple r sg c) (give none refl))

  no_item : {j : ℕ} (r : ℕ) (sg : Bool) → Closed j →
      From j (next_intermediate text es remember (at_level r) Stop.none sg) j (λ x. x ≡ none)
  unfolding next_intermediate
  no_item r sg c = given _ (no_script r sg c) (give none refl)

  no_items : {j : ℕ} (r f : ℕ) (before : Option Node) → Closed j →
      From j (intermediates text es remember (at_level r) f none Stop.none before) j (λ x. strip x ≡ end)
  unfolding intermediates at_open_close strip
  no_items r zero before c = give _ refl
  no_items r (suc f) before c =
      given _ at_here (on_false _ refl (given _ (no_item r (prefixes before) c) (give _ refl)))

  -- A level and fuel that are not used up.
  simple-below : {i j : ℕ} {P : Option Node → Type 0} (r : ℕ) (sg : Bool) → 0 < r →
      ((q : ℕ) → suc q ≡ r → From i (next_simple text es remember (at_level q) Stop.none sg) j P) →
      From i ((at_level r).simple Stop.none sg) j P
  unfolding level step
  simple-below zero sg h g = absurd (omega arith)
  simple-below (suc r) sg h g = g r refl

  script-below : {i j : ℕ} {P : Option Node → Type 0} (r : ℕ) (sg : Bool) → 0 < r →
      ((q : ℕ) → suc q ≡ r → From i (next_script_func text es remember (at_level q) Stop.none sg) j P) →
      From i ((at_level r).script_func Stop.none sg) j P
  unfolding level step
  script-below zero sg h g = absurd (omega arith)
  script-below (suc r) sg h g = g r refl

  fuelled : {i j : ℕ} {P : Nodes → Type 0} (R : Readers) (f : ℕ) (before : Option Node) → 0 < f →
      ((g : ℕ) → suc g ≡ f → From i (intermediates text es remember R (suc g) none Stop.none before) j P) →
      From i (intermediates text es remember R f none Stop.none before) j P
  fuelled R zero before h g = absurd (omega arith)
  fuelled R (suc f) before h g = g f refl

  first-there : {ts : List Lexeme} {i j : ℕ} → First ts → Stand es i ts j → Unmarked i × (i < j)
  first-there f st =
      let h = stand-head (rw f.2 at st) in
      let u = stand-up h.1 in
      (unmarked h.0 f.3, u)

  no_super : (j : ℕ) → is_at text es marks_script j ≡ false → is_at text es (is token.Super) j ≡ false
  unfolding is_at marks_script
  no_super j h = go _ refl
    where
      go : (x : Option Entry) → get_elem? es j ≡ x → is_at text es (is token.Super) j ≡ false
      go none e = rw (e, is_at)
      go (some y) e = rw (e, is_at) (or-false _ _ (rw (e, is_at) at h))

  frac-unmarked : {i : ℕ} {sp : Span} → Tok es i (tok token.Frac sp) → is_at text es marks_script i ≡ false
  unfolding marks_script is
  frac-unmarked h = at_tok marks_script h (rw h.kind)

  -- By induction on the derivation: an S needs as many levels as it has tokens, an I or an E one more, and an E fuel for each
  -- item.
  module _ (free : NoSep (map lexeme_of es)) where
    mutual
      unfolding tree_s

      simple-S : {ts : List Lexeme} (d : S ts) {i j : ℕ} → Stand es i ts j → (r : ℕ) → j ≤ r + i → (sg : Bool) →
          From i ((at_level r).simple Stop.none sg) j (Is (tree_s d))
      simple-S (const sp c p) st r en sg =
          let h = stand-head (rw p at st) in
          let e = stand-end h.1 in
          simple-below r sg (omega arith) λ q w. to e (constant_is (at_level q) sg c h.0)
      simple-S (bracketed {us} l d u p) st r en sg =
          let h = stand-head (rw p at st) in
          let k = stand-cut us h.1 in
          let c = stand-head k.2 in
          let e = stand-end c.1 in
          let v = stand-up k.1 in
          let x = tok-inside c.0 in
          simple-below r sg (omega arith) λ q w. to e (bracket-is (at_level q) sg free h.0 c.0
          (items-E d k.1 q (suc (length es)) (omega arith) (omega arith) (closed-tok c.0) none))
      simple-S (unary sp d p) st r en sg =
          let h = stand-head (rw p at st) in
          let v = stand-up h.1 in
          simple-below r sg (omega arith) λ q w. unary-is (at_level q) sg h.0 (simple-S d h.1 q (omega arith) true)
      simple-S (binary {us} sp d e p) st r en sg =
          let h = stand-head (rw p at st) in
          let k = stand-cut us h.1 in
          let v = stand-up k.1 in
          let x = stand-up k.2 in
          simple-below r sg (omega arith) λ q w. binary-is (at_level q) sg h.0
          (simple-S d k.1 q (omega arith) true) (simple-S e k.2 q (omega arith) true)

      script-I : {ts : List Lexeme} (d : I ts) {i j : ℕ} → Stand es i ts j → (r : ℕ) → suc j ≤ r + i →
          is_at text es marks_script j ≡ false → (sg : Bool) → From i ((at_level r).script_func Stop.none sg) j (Is (tree_i d))
      script-I (bare d) st r en n sg =
          let u = first-there (S-first d) st in
          let v = u.1 in
          script-below r sg (omega arith) λ q w. scripted (at_level q) sg u.0 (simple-S d st q (omega arith) sg)
          (script-none (at_level q) n)
      script-I (sub {us} d sp e p) {j} st r en n sg =
          let k = stand-cut us (rw p at st) in
          let u = first-there (S-first d) k.1 in
          let h = stand-head k.2 in
          let v = u.1 in
          let x = stand-up h.1 in
          script-below r sg (omega arith) λ q w. scripted (at_level q) sg u.0 (simple-S d k.1 q (omega arith) sg)
          (script-sub (at_level q) h.0 (simple-S e h.1 q (omega arith) true) (no_super j n))
      script-I (super {us} d sp e p) st r en n sg =
          let k = stand-cut us (rw p at st) in
          let u = first-there (S-first d) k.1 in
          let h = stand-head k.2 in
          let v = u.1 in
          let x = stand-up h.1 in
          script-below r sg (omega arith) λ q w. scripted (at_level q) sg u.0 (simple-S d k.1 q (omega arith) sg)
          (script-super (at_level q) h.0 (simple-S e h.1 q (omega arith) true))
      script-I (subsuper {us} {vs} d sp e sq f p) st r en n sg =
          let k = stand-cut us (rw p at st) in
          let u = first-there (S-first d) k.1 in
          let h = stand-head k.2 in
          let l = stand-cut vs h.1 in
          let o = stand-head l.2 in
          let v = u.1 in
          let x = stand-up l.1 in
          let y = stand-up o.1 in
          script-below r sg (omega arith) λ q w. scripted (at_level q) sg u.0 (simple-S d k.1 q (omega arith) sg)
          (script-both (at_level q) h.0 (simple-S e l.1 q (omega arith) true) o.0
          (simple-S f o.1 q (omega arith) true))

      items-E : {ts : List Lexeme} (d : E ts) {i j : ℕ} → Stand es i ts j → (r f : ℕ) → suc j ≤ r + i → suc j ≤ f + i →
          Closed j → (before : Option Node) →
          From i (intermediates text es remember (at_level r) f none Stop.none before) j (λ x. strip x ≡ tree_e d)
      items-E (more {us} d e p) st r f en fu c before =
          let k = stand-cut us (rw p at st) in
          let u = first-there (I-first d) k.1 in
          let v = first-there (E-first e) k.2 in
          let x = u.1 in
          let y = v.1 in
          fuelled (at_level r) f before (omega arith) λ g w. items_more (at_level r) g before
          (item-alone (at_level r) _ v.0.frac (script-I d k.1 r (omega arith) v.0.script _))
          λ n. items-E e k.2 r g (omega arith) (omega arith) c (some n)
      items-E (fraction {us} d sp e p) st r f en fu c before =
          let k = stand-cut us (rw p at st) in
          let u = first-there (I-first d) k.1 in
          let h = stand-head k.2 in
          let x = u.1 in
          let y = stand-up h.1 in
          fuelled (at_level r) f before (omega arith) λ g w. items_more (at_level r) g before
          (item-fraction (at_level r) _ (script-I d k.1 r (omega arith) (frac-unmarked h.0) _) h.0
          (script-I e h.1 r (omega arith) c.clear.script true))
          λ n. no_items r g (some n) c
      items-E (alone d) st r f en fu c before =
          let u = first-there (I-first d) st in
          let x = u.1 in
          fuelled (at_level r) f before (omega arith) λ g w. items_more (at_level r) g before
          (item-alone (at_level r) _ c.clear.frac (script-I d st r en c.clear.script _))
          λ n. no_items r g (some n) c

    -- With 256 tokens, 255 of them Unary, the last would be too deep.
    parse-E : {ts : List Lexeme} (d : E ts) → Stand es 0 ts (length es) → length es ≤ 255 →
        From 0 (parse text es remember (suc (length es)) 256 end) (length es) (λ x. strip x ≡ tree_e d)
    unfolding parse last_of
    parse-E d st short =
        call (items-E d st 256 (suc (length es)) (omega arith) (omega arith) closed-end none) λ x e.
        given _ (passes (is token.CloseBracket) (at_end (is token.CloseBracket))) (give _ e)

-- The entries es are of a derived list.
module _ {ts : List Lexeme} (es : List Entry) (of : map lexeme_of es ≡ ts) where
  stands : Stand es 0 ts (length es)
  stands = subst (λ l. Stand es 0 l (length es)) of (stand-all es)

  sep-free : E ts → NoSep (map lexeme_of es)
  sep-free d = rw of (E-sep d)

-- n is the length of the list without its Space tokens.
pub others-count : (ts : List Lexeme) → length (others ts) ≡ count_others ts
unfolding others of_kind count_others
others-count [] = refl
others-count (t ∷ ts) = go (of_kind token.Space t) refl (others-count ts)
  where
    go : (b : Bool) → of_kind token.Space t ≡ b → length (others ts) ≡ count_others ts → length (others (t ∷ ts)) ≡ count_others (t ∷ ts)
    go true e rest = rw (e, others, count_others) rest
    go false e rest = rw (e, others, count_others) (ap suc rest)

-- A list that the grammar derives is read as derived. Document 01 asks besides that no OpenBracket directly precedes
-- another; that is not needed: a bracket is read as a matrix only where there is a Sep.
pub settled-tree : (text : List ℕ) (ts : List Lexeme) (d : E (others ts)) → Short ts →
    strip (read_tokens text ts).tree ≡ tree_e d
unfolding reading_by parse_entries
settled-tree text ts d short =
    let es = entries nowhere ts in
    let of = entries-others nowhere ts in
    let len = length-map es lexeme_of in
    let s : State = record { pos = zero; takes = zero; marks = replicate (3 * length es) false; closers = replicate (length es) (length es) } in
    answer (parse-E text es true (sep-free es of d) d (stands es of) (omega (arith, ap length of, others-count ts))) s refl

-- What document 01 says of the lists that it settles.
pub settled : (text : List ℕ) (ts : List Lexeme) (s : Settled ts) →
    strip (read_tokens text ts).tree ≡ tree_e s.derivation
settled text ts s = settled-tree text ts s.derivation s.short

-- Two derivations of one list, of any length, have one tree: that of the reading with levels and fuel enough.
pub one-tree : {ts : List Lexeme} (d e : E ts) → tree_e d ≡ tree_e e
one-tree {ts} d e = sym (read d) ∙ read e
  where
    es : List Entry
    es = map entry_of ts

    again : (us : List Lexeme) → map lexeme_of (map entry_of us) ≡ us
    again [] = refl
    again (t ∷ us) = ap (λ l. t ∷ l) (again us)

    items : M Nodes
    items = intermediates [] es true (level [] es true (suc (length es))) (suc (length es)) none Stop.none none

    start : State
    start = record { pos = 0; takes = 0; marks = []; closers = [] }

    read : (d : E ts) → strip (items start).0 ≡ tree_e d
    read d =
        answer
        (items-E [] es true (sep-free es (again ts) d) d (stands es (again ts)) (suc (length es)) (suc (length es))
        (omega arith) (omega arith) (closed-end [] es true) none)
        start refl
