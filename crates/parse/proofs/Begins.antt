-- What each way through a simple expression shows.
use Prim.Native.Nat.{ℕ, ◌+◌, ◌≤◌, ◌<◌}
use mathlib.Core.Path.{◌≡◌, refl, sym, ap, ◌∙◌, subst}
use mathlib.Core.List.{List}
use mathlib.Core.Option.{Option, some}
use mathlib.Core.Bool.{Bool, true, false}
use native.Mathlib.Omega.{arith}
use lib.ListN.{length}
use lib.Dec.{eqb}
use lib.Seq.{sets, length-sets}
use borrow.Author.Tests.{eqb-true}
use Rattle.tokens.specs.declared.token.Token.{Token}
use Rattle.tokens.specs.declared.token.Token.TheVariants as token
use Rattle.tokens.specs.Kinds.{number_of}
use Rattle.tree.specs.Tree.{Head, Prefix, Node, leaf, one}
use Rattle.tree.specs.Words.{encode, atom_kind, class_word}
use Rattle.reading.specs.Stop.{Stop}
use Rattle.reading.specs.Entries.{Entry}
use Rattle.reading.specs.Reading.{State, M, argument, begun, next_simple, or_missing, ends_operand, look}
use Rattle.tokens.specs.Bytes.{same}
use Rattle.reading_cursor.specs.declared.Cursor.{Cursor}
use Rattle.std.specs.Prelude.{Ok, Err}
use Rattle.parse.specs.declared.cursor.Part.{Part}
use Rattle.parse.specs.Buffer.{Wrote}
use Rattle.records.specs.Record.{kind_of}
use Rattle.lookahead.specs.Tests.{test_at, begins_kind, opening}
use Rattle.leaves.specs.Leaves.{leaf_kind, leaf_class, leaf_ends, leaf_words}
use Rattle.parse.specs.Meet.{Began, Simple, Begun, Bracket, Unary, Binary}
use Rattle.parse.specs.Meet.{part_at, missed_at}
use Rattle.reading_cursor.specs.Moves.{onward, seen, inner}
use Rattle.parse.proofs.Buffer.{push, wrote_none}
use Rattle.lookahead.proofs.Testing.{test_below}
use Rattle.parse.proofs.Scripting.{found_of}
use Rattle.reading_words.specs.Meet.{Input, Known, readers, stop_of}
use Rattle.stores.proofs.Stores.{kept_refl}
use Rattle.reading_words.proofs.Kit.{bind, ret, at_here, tick, at_tick, row_of, took, passed, test-kind, same-begins, level-simple}
use Rattle.reading_words.proofs.Sorts.{is-Sign, is-Function, is-Unary, is-Binary, is-Open_bracket, is-Open_close_bracket, leaf-of}
use Rattle.reading_words.proofs.Steps.{by_kind, never21, never23}

module _ {X t : List ℕ} {n : ℕ} {K : List ℕ} (stop sg : Bool) {c : Cursor} {e : ℕ} {x : List ℕ} (deep : c.depth < 256) where
  pub simple-nothing : test_at t K n (begins_kind stop) c.pos ≡ false → c.pos ≤ n → Known X t n K → Simple X t n K K stop sg c e x x (Err (missed_at (seen n c)))
  unfolding next_simple
  simple-nothing h k kn = (
    record { within = k; on = omega arith; depth = refl; room = omega arith; long = refl; kept = kept_refl K; known = kn },
    λ I s at.
        let r = passed (begins_kind stop) at (same-begins stop) h in
        record { state = r.state; runs = ap (λ (f : Stop → Bool → M (Option Node)). f (stop_of stop) sg s) (level-simple I c.depth deep) ∙ bind _ _ s (at_here s) ∙ bind _ _ _ r.runs ∙ ret _ _; at = r.at; tree = wrote_none x e },
  )

  pub simple-begun : {L y : List ℕ} {g : Part} → test_at t K n (begins_kind stop) c.pos ≡ true
      → Begun X t n K L c.pos stop sg (inner (onward c)) e x y g → Simple X t n K L stop sg c e x y (Ok (part_at c.depth g))
  unfolding next_simple
  simple-begun {L} {y} {g} h p =
      let b : c.pos < n = test_below t K n (begins_kind stop) c.pos h in (
        record { within = p.moves.within; on = omega (arith, p.moves.on); depth = refl; room = omega (arith, p.moves.room); long = p.moves.long; kept = p.moves.kept; known = p.moves.known },
        λ I s at.
            let r = took (begins_kind stop) at (same-begins stop) h in
            let q = p.means I (tick s) (at_tick at) r.0.entry r.0.there in
            found_of q.answer (ap (λ (f : Stop → Bool → M (Option Node)). f (stop_of stop) sg s) (level-simple I c.depth deep) ∙ bind _ _ s (at_here s) ∙ bind _ _ _ r.1
            ∙ ap (λ (i : ℕ). begun I.text I.es true (readers (c.depth + 1) I) r.0.entry.token r.0.entry i (stop_of stop) sg (tick s)) (sym at.pos) ∙ q.runs) q.at q.tree q.besides,
      )

module _ {X t : List ℕ} {n : ℕ} {K L : List ℕ} (i : ℕ) (stop sg : Bool) {c : Cursor} {e : ℕ} {x y : List ℕ} {g : Part} (inside : i < n) where
  -- a reader m of what the entry begins, whose answer is made a node by f
  begun-by : {A : Type 0} {more : ℕ} (k : Token) (m : Input → Entry → M A) (words : Entry → A → List ℕ) (also : Entry → A → Type 0) (f : Entry → A → Node) → more ≤ 18
      → ((en : Entry) → kind_of t K i ≡ number_of en.token → en.token ≡ k)
      → ((I : Input) (en : Entry) (s u : State) (a : A) → m I en s ≡ (a, u) → begun I.text I.es true (readers c.depth I) k en i (stop_of stop) sg s ≡ (some (f en a), u))
      → ((en : Entry) (a : A) → also en a → g.ends ≡ ends_operand (f en a))
      → ((en : Entry) (a : A) → words en a ≡ encode (f en a))
      → Began X t n K L more i m words also c e x y g.cur g.end → Begun X t n K L i stop sg c e x y g
  begun-by k m words also f le kind run flag same p = record {
    moves = record { within = p.moves.within; on = p.moves.on; depth = p.moves.depth; room = omega (arith, p.moves.room); long = p.moves.long; kept = p.moves.kept; known = p.moves.known };
    means = λ I s at en there.
        let q = p.means I s at en there in
        let r = row_of at.given inside there in
        record {
          answer = some (f en q.answer);
          state = q.state;
          runs = by_kind c.depth i stop sg I s en (kind en r.kind) (run I en s q.state q.answer q.runs);
          at = q.at;
          tree = subst (λ (w : List ℕ). Wrote x e y g.end w) (same en q.answer) q.tree;
          besides = flag en q.answer q.besides;
        };
  }

  by_bracket : kind_of t K i ≡ 20 → Bracket X t n K L i 20 stop c e x y g → Begun X t n K L i stop sg c e x y g
  unfolding begun
  by_bracket h p = begun-by token.OpenBracket _ _ _ (λ en a. a) (omega arith) (λ en k. is-Open_bracket en.token (sym k ∙ h)) (λ I en s u a q. bind _ _ s q ∙ ret _ _) (λ en a b. b) (λ en a. refl) p

  by_bar : kind_of t K i ≡ 22 → Bracket X t n K L i 22 stop c e x y g → Begun X t n K L i stop sg c e x y g
  unfolding begun
  by_bar h p = begun-by token.OpenCloseBracket _ _ _ (λ en a. a) (omega arith) (λ en k. is-Open_close_bracket en.token (sym k ∙ h)) (λ I en s u a q. bind _ _ s q ∙ ret _ _) (λ en a b. b) (λ en a. refl) p

  pub begun-bracket : {k : ℕ} → k ≡ kind_of t K i → opening k ≡ true → Bracket X t n K L i k stop c e x y g → Begun X t n K L i stop sg c e x y g
  begun-bracket {k} hk ho p = go (eqb k 20) refl
    where
      go : (b : Bool) → eqb k 20 ≡ b → Begun X t n K L i stop sg c e x y g
      go true h = let z : k ≡ 20 = eqb-true k 20 h in by_bracket (sym hk ∙ z) (subst (λ (m : ℕ). Bracket X t n K L i m stop c e x y g) z p)
      go false h = let z : k ≡ 22 = eqb-true k 22 (rw h at ho) in by_bar (sym hk ∙ z) (subst (λ (m : ℕ). Bracket X t n K L i m stop c e x y g) z p)

  pub begun-unary : kind_of t K i ≡ 18 → Unary X t n K L i 10 false c e x y g → Begun X t n K L i stop sg c e x y g
  unfolding begun argument ends_operand look
  begun-unary h p = begun-by token.Unary _ _ _ (λ en a. one (Head.prefix Prefix.unary en.span) (or_missing a)) (omega arith) (λ en k. is-Unary en.token (sym k ∙ h)) (λ I en s u a q. bind _ _ s (bind _ _ s q ∙ ret _ _) ∙ ret _ _) (λ en a b. b) (λ en a. refl) p

  pub begun-function : kind_of t K i ≡ 17 → Unary X t n K L i 11 false c e x y g → Begun X t n K L i stop sg c e x y g
  unfolding begun argument ends_operand look
  begun-function h p = begun-by token.Function _ _ _ (λ en a. one (Head.prefix Prefix.sfunc en.span) (or_missing a)) (omega arith) (λ en k. is-Function en.token (sym k ∙ h)) (λ I en s u a q. bind _ _ s (bind _ _ s q ∙ ret _ _) ∙ ret _ _) (λ en a b. b) (λ en a. refl) p

  pub begun-binary : kind_of t K i ≡ 19 → Binary X t n K L i c e x y g → Begun X t n K L i stop sg c e x y g
  unfolding begun
  begun-binary h p = record {
    moves = p.moves;
    means = λ I s at en there.
        let q = p.means I s at en there in
        let r = row_of at.given inside there in
        record {
          answer = q.answer;
          state = q.state;
          runs = by_kind c.depth i stop sg I s en (is-Binary en.token (sym r.kind ∙ h)) q.runs;
          at = q.at;
          tree = q.tree;
          besides = q.besides;
        };
  }

module _ {X t : List ℕ} {n : ℕ} {K L : List ℕ} (i : ℕ) (stop : Bool) {c : Cursor} {e : ℕ} {x y : List ℕ} {g : Part} (inside : i < n) where
  pub begun-sign : {sg : Bool} → kind_of t K i ≡ 16 → sg ≡ true → Unary X t n K L i 9 stop c e x y g → Begun X t n K L i stop sg c e x y g
  unfolding begun ends_operand look
  begun-sign h hs p = rw hs (begun-by i stop true inside token.Sign _ _ _ (λ en a. one (Head.prefix Prefix.ssigned en.span) (or_missing a)) (omega arith) (λ en k. is-Sign en.token (sym k ∙ h)) (λ I en s u a q. bind _ _ s q ∙ ret _ _) (λ en a b. b) (λ en a. refl) p)

module _ {X t : List ℕ} {n : ℕ} {K : List ℕ} (i : ℕ) (stop sg : Bool) {c : Cursor} {e : ℕ} {x y : List ℕ} {g : Part} (inside : i < n) where
  pub begun-leaf : {k : ℕ} → k ≡ kind_of t K i → (k ≡ 20 → ⊥) → (k ≡ 18 → ⊥) → (k ≡ 17 → ⊥) → (k ≡ 19 → ⊥) → (k ≡ 22 → ⊥)
      → (k ≡ 16 → sg ≡ false) → test_at t K n (begins_kind stop) i ≡ true
      → c.pos ≤ n → Known X t n K → e + 6 ≤ length x → y ≡ sets x e (leaf_words t K i k) → g ≡ record { cur = c; end = e + 6; ends = leaf_ends k } → Begun X t n K K i stop sg c e x y g
  unfolding encode ends_operand look
  begun-leaf {k} hk h1 h2 h3 h4 h6 h5 hb hn kn hr hy hg = rw (hg, hy) (record {
    moves = record { within = hn; on = omega arith; depth = refl; room = omega arith; long = length-sets x e (leaf_words t K i k); kept = kept_refl K; known = kn };
    means = λ I s at en there.
        let r = row_of at.given inside there in
        let e1 : number_of en.token ≡ k = sym r.kind ∙ sym hk in
        let w : begins_kind stop k ≡ true = ap (begins_kind stop) hk ∙ test-kind t K n (begins_kind stop) i true inside hb in
        let q = leaf-of I (readers c.depth I) en.token en i stop sg s (λ z. h1 (sym e1 ∙ z)) (λ z. h2 (sym e1 ∙ z)) (λ z. h3 (sym e1 ∙ z)) (λ z. h4 (sym e1 ∙ z)) (λ z. h6 (sym e1 ∙ z)) (λ z. h5 (sym e1 ∙ z))
        (λ z. never21 stop k (sym e1 ∙ z) w) (λ z. never23 stop k (sym e1 ∙ z) w) in
        let a1 : leaf_kind k ≡ atom_kind q.atom = ap leaf_kind (sym e1) ∙ q.kind in
        let a2 : leaf_class k ≡ class_word q.atom = ap leaf_class (sym e1) ∙ q.class in
        record {
          answer = some (leaf (Head.atom q.atom en.span));
          state = s;
          runs = q.runs;
          at = at;
          tree = rw (← a1, ← a2, ← r.start, ← r.len) (push x e (leaf_words t K i k) (e + 6) refl hr);
          besides = ap leaf_ends (sym e1) ∙ q.flag;
        };
  })

-- a kind that opens nothing
pub opens-nothing : (k : ℕ) → opening k ≡ false → (k ≡ 20 → ⊥) × (k ≡ 22 → ⊥)
opens-nothing k h = (
  (λ z. let u : ◌≡◌ {A = Bool} true false = ap opening (sym z) ∙ h in let w : ◌≡◌ {A = ℕ} 0 1 = cc in omega arith),
  λ z. let u : ◌≡◌ {A = Bool} true false = ap opening (sym z) ∙ h in let w : ◌≡◌ {A = ℕ} 0 1 = cc in omega arith,
)
