-- What the entry i, just taken, begins.
use Prim.Native.Nat.{ℕ, ◌≤◌, ◌<◌}
use mathlib.Core.Path.{◌≡◌, refl, sym, ap, ◌∙◌, subst}
use mathlib.Core.List.{List}
use mathlib.Core.Option.{Option, some}
use mathlib.Core.Bool.{Bool, true, false, cond}
use native.Mathlib.Omega.{arith}
use lib.Dec.{eqb}
use borrow.Author.Tests.{eqb-true}
use Rattle.tokens.specs.declared.token.Token.{Token}
use Rattle.tokens.specs.declared.token.Token.TheVariants as token
use Rattle.tokens.specs.Kinds.{number_of}
use Rattle.tree.specs.Tree.{Atom, Head, Prefix, Node, node, end, ◌▸◌, leaf, one}
use Rattle.reading.specs.Entries.{Entry}
use Rattle.reading.specs.Reading.{State, argument, begun, or_missing, ends_operand, look, is_bar_symbol, is_byte}
use Rattle.records.specs.Record.{kind_of}
use Rattle.lookahead.specs.Tests.{test_at, begins_kind, opening, prefix_stop, takes_one}
use Rattle.tree.specs.Words.{atom_kind}
use Rattle.tokens.specs.Lexeme.{Span}
use Rattle.leaves.specs.Leaves.{leaf_kind, leaf_ends, leaf_bar}
use Rattle.reading_cursor.specs.declared.Cursor.{Cursor}
use Rattle.closers_pass.specs.declared.cursor.Part.{Part}
use Rattle.reading_words.specs.Meet.{Input, readers, stop_of, simple_at}
use Rattle.closers_pass.specs.Meet.{Simple, Begun, Bracket, operation_at, leaf_at}
use Rattle.stores.proofs.Stores.{kept_refl, kept_trans}
use Rattle.reading_words.proofs.Kit.{bind, ret, row_of, test-kind}
use Rattle.reading_words.proofs.Sorts.{is-Sign, is-Function, is-Unary, is-Binary, is-Open_bracket, is-Open_close_bracket, leaf-of}
use Rattle.reading_words.proofs.Steps.{by_kind, byte-at, never21, never23}

module _ {X t : List ℕ} {n : ℕ} {K L : List ℕ} (i : ℕ) (stop sg : Bool) {c : Cursor} (inside : i < n) where
  by_bracket : {g : Part} → kind_of t K i ≡ 20 → Bracket X t n K L i 20 stop c g → Begun X t n K L i stop sg c g
  unfolding begun
  by_bracket h p = (
    p.0,
    record {
      moves = p.1.moves;
      means = λ I s at en there.
          let q = p.1.means I s at en there in
          let r = row_of at.given inside there in
          record { answer = some q.answer; state = q.state; runs = by_kind c.depth i stop sg I s en (is-Open_bracket en.token (sym r.kind ∙ h)) (bind _ _ s q.runs ∙ ret _ _); at = q.at; besides = record { some = p.0; ends = q.besides.ends; bar = q.besides.bar } };
    },
  )

  by_bar : {g : Part} → kind_of t K i ≡ 22 → Bracket X t n K L i 22 stop c g → Begun X t n K L i stop sg c g
  unfolding begun
  by_bar h p = (
    p.0,
    record {
      moves = p.1.moves;
      means = λ I s at en there.
          let q = p.1.means I s at en there in
          let r = row_of at.given inside there in
          record { answer = some q.answer; state = q.state; runs = by_kind c.depth i stop sg I s en (is-Open_close_bracket en.token (sym r.kind ∙ h)) (bind _ _ s q.runs ∙ ret _ _); at = q.at; besides = record { some = p.0; ends = q.besides.ends; bar = q.besides.bar } };
    },
  )

  pub begun-bracket : {k : ℕ} {g : Part} → k ≡ kind_of t K i → opening k ≡ true → Bracket X t n K L i k stop c g → Begun X t n K L i stop sg c g
  begun-bracket {k} {g} hk ho p = go (eqb k 20) refl
    where
      go : (b : Bool) → eqb k 20 ≡ b → Begun X t n K L i stop sg c g
      go true h = let z : k ≡ 20 = eqb-true k 20 h in by_bracket (sym hk ∙ z) (subst (λ (m : ℕ). Bracket X t n K L i m stop c g) z p)
      go false h = let z : k ≡ 22 = eqb-true k 22 (rw h at ho) in by_bar (sym hk ∙ z) (subst (λ (m : ℕ). Bracket X t n K L i m stop c g) z p)

  -- one argument
  by_one : {g : Part} (st : Bool) (k : Token) (pr : Prefix) → ((en : Entry) → kind_of t K i ≡ number_of en.token → en.token ≡ k)
      → ((I : Input) (en : Entry) (s u : State) (a : Option Node) → simple_at c.depth st true I s ≡ (a, u) → begun I.text I.es true (readers c.depth I) k en i (stop_of stop) sg s ≡ (some (one (Head.prefix pr en.span) (or_missing a)), u))
      → Simple X t n K L st true c g → Begun X t n K L i stop sg c (operation_at g.cur)
  unfolding ends_operand look is_bar_symbol
  by_one {g} st k pr kind run p = (
    refl,
    record {
      moves = record { within = p.moves.within; on = omega (arith, p.moves.on); depth = p.moves.depth; kept = p.moves.kept };
      means = λ I s at en there.
          let q = p.means I s at in
          let r = row_of at.given inside there in
          record { answer = some (one (Head.prefix pr en.span) (or_missing q.answer)); state = q.state; runs = by_kind c.depth i stop sg I s en (kind en r.kind) (run I en s q.state q.answer q.runs); at = q.at; besides = record { some = refl; ends = refl; bar = refl } };
    },
  )

  begun-unary : {g : Part} → kind_of t K i ≡ 18 → Simple X t n K L false true c g → Begun X t n K L i stop sg c (operation_at g.cur)
  unfolding begun argument
  begun-unary h p = by_one false token.Unary Prefix.unary (λ en k. is-Unary en.token (sym k ∙ h)) (λ I en s u a q. bind _ _ s (bind _ _ s q ∙ ret _ _) ∙ ret _ _) p

  begun-function : {g : Part} → kind_of t K i ≡ 17 → Simple X t n K L false true c g → Begun X t n K L i stop sg c (operation_at g.cur)
  unfolding begun argument
  begun-function h p = by_one false token.Function Prefix.sfunc (λ en k. is-Function en.token (sym k ∙ h)) (λ I en s u a q. bind _ _ s (bind _ _ s q ∙ ret _ _) ∙ ret _ _) p

  pub begun-binary : {J : List ℕ} {g j : Part} → kind_of t K i ≡ 19 → Simple X t n K J false true c g → Simple X t n J L false true g.cur j → Begun X t n K L i stop sg c (operation_at j.cur)
  unfolding begun argument ends_operand look is_bar_symbol
  begun-binary {J} {g} {j} h p p2 = (
    refl,
    record {
      moves = record { within = p2.moves.within; on = omega (arith, p.moves.on, p2.moves.on); depth = p2.moves.depth ∙ p.moves.depth; kept = kept_trans p.moves.kept p2.moves.kept };
      means = λ I s at en there.
          let q = p.means I s at in
          let q2 = rw p.moves.depth at (p2.means I q.state q.at) in
          let r = row_of at.given inside there in
          record {
            answer = some (node (Head.prefix Prefix.binary en.span) (or_missing q.answer ▸ or_missing q2.answer ▸ end));
            state = q2.state;
            runs = by_kind c.depth i stop sg I s en (is-Binary en.token (sym r.kind ∙ h)) (bind _ _ s (bind _ _ s q.runs ∙ ret _ _) ∙ bind _ _ _ (bind _ _ _ q2.runs ∙ ret _ _) ∙ ret _ _);
            at = q2.at;
            besides = record { some = refl; ends = refl; bar = refl };
          };
    },
  )

module _ {X t : List ℕ} {n : ℕ} {K L : List ℕ} (i : ℕ) (stop : Bool) {c : Cursor} (inside : i < n) where
  begun-sign : {g : Part} (sg : Bool) → kind_of t K i ≡ 16 → sg ≡ true → Simple X t n K L stop true c g → Begun X t n K L i stop sg c (operation_at g.cur)
  unfolding begun
  begun-sign sg h hs p = rw hs (by_one i stop true inside stop token.Sign Prefix.ssigned (λ en k. is-Sign en.token (sym k ∙ h)) (λ I en s u a q. bind _ _ s q ∙ ret _ _) p)

  pub begun-prefix : {g : Part} {k : ℕ} (sg : Bool) {st : Bool} → k ≡ kind_of t K i → takes_one k sg ≡ true → st ≡ prefix_stop k stop → Simple X t n K L st true c g → Begun X t n K L i stop sg c (operation_at g.cur)
  begun-prefix {g} {k} sg {st} hk h1 h2 p = go (eqb k 18) refl (eqb k 17) refl (eqb k 16) refl (subst (λ (b : Bool). Simple X t n K L b true c g) h2 p) h1
    where
      at_stop : (m : ℕ) → k ≡ m → Simple X t n K L (prefix_stop k stop) true c g → Simple X t n K L (prefix_stop m stop) true c g
      at_stop m z q = subst (λ (m : ℕ). Simple X t n K L (prefix_stop m stop) true c g) z q

      go : (a : Bool) → eqb k 18 ≡ a → (b : Bool) → eqb k 17 ≡ b → (d : Bool) → eqb k 16 ≡ d → Simple X t n K L (prefix_stop k stop) true c g → cond (eqb k 18) true (cond (eqb k 17) true (cond (eqb k 16) sg false)) ≡ true → Begun X t n K L i stop sg c (operation_at g.cur)
      go true ha b hb d hd q w = let z : k ≡ 18 = eqb-true k 18 ha in begun-unary i stop sg inside (sym hk ∙ z) (at_stop 18 z q)
      go false ha true hb d hd q w = let z : k ≡ 17 = eqb-true k 17 hb in begun-function i stop sg inside (sym hk ∙ z) (at_stop 17 z q)
      go false ha false hb true hd q w = let z : k ≡ 16 = eqb-true k 16 hd in begun-sign sg (sym hk ∙ z) (rw (ha, hb, hd) at w) (at_stop 16 z q)
      go false ha false hb false hd q w = let y : false ≡ true = rw (ha, hb, hd) at w in let z : ◌≡◌ {A = ℕ} 0 1 = cc in absurd (omega arith)

-- a leaf that is a bar, by the kind of its node
bar-kind : (text : List ℕ) (es : List Entry) (sp : Span) (a : Atom) → is_bar_symbol text es (leaf (Head.atom a sp)) ≡ cond (eqb (atom_kind a) 7) (is_byte text es 124 sp) false
unfolding is_bar_symbol
bar-kind text es sp Atom.number = refl
bar-kind text es sp Atom.text = refl
bar-kind text es sp Atom.ident = refl
bar-kind text es sp Atom.operator = refl
bar-kind text es sp Atom.sign = refl
bar-kind text es sp Atom.space = refl
bar-kind text es sp (Atom.symbol c) = refl

-- a leaf
no_true : (b : Bool) → b ≡ true → b ≡ false → ⊥
no_true b h k = let z : ◌≡◌ {A = ℕ} 0 1 = cc in omega arith

module _ {X t : List ℕ} {n : ℕ} {K : List ℕ} (i : ℕ) (stop sg : Bool) {c : Cursor} (inside : i < n) where
  pub begun-leaf : {k : ℕ} → k ≡ kind_of t K i → opening k ≡ false → (k ≡ 19 → ⊥) → takes_one k sg ≡ false → test_at t K n (begins_kind stop) i ≡ true → c.pos ≤ n
      → Begun X t n K K i stop sg c (leaf_at X t K i k c)
  unfolding ends_operand look leaf_bar
  begun-leaf {k} hk ho h4 ht hb hn = (
    refl,
    record {
      moves = record { within = hn; on = omega arith; depth = refl; kept = kept_refl K };
      means = λ I s at en there.
          let r = row_of at.given inside there in
          let e1 : number_of en.token ≡ k = sym r.kind ∙ sym hk in
          let w : begins_kind stop k ≡ true = ap (begins_kind stop) hk ∙ test-kind t K n (begins_kind stop) i true inside hb in
          let q = leaf-of I (readers c.depth I) en.token en i stop sg s (λ z. open20 (sym e1 ∙ z)) (λ z. one18 (sym e1 ∙ z)) (λ z. one17 (sym e1 ∙ z)) (λ z. h4 (sym e1 ∙ z)) (λ z. open22 (sym e1 ∙ z)) (λ z. one16 (sym e1 ∙ z))
          (λ z. never21 stop k (sym e1 ∙ z) w) (λ z. never23 stop k (sym e1 ∙ z) w) in
          record {
            answer = some (leaf (Head.atom q.atom en.span));
            state = s;
            runs = q.runs;
            at = at;
            besides = record {
              some = refl;
              ends = ap leaf_ends (sym e1) ∙ q.flag;
              bar = ap (λ (b : Bool). cond (eqb (leaf_kind k) 7) b false) (sym (byte-at I.text I.es 124 en at.given.text r)) ∙ ap (λ (m : ℕ). cond (eqb m 7) (is_byte I.text I.es 124 en.span) false) (ap leaf_kind (sym e1) ∙ q.kind) ∙ sym (bar-kind I.text I.es en.span q.atom);
            };
          };
    },
  )
    where
      open20 : k ≡ 20 → ⊥
      open20 z = no_true (opening k) (ap opening z) ho

      open22 : k ≡ 22 → ⊥
      open22 z = no_true (opening k) (ap opening z) ho

      one18 : k ≡ 18 → ⊥
      one18 z = no_true (takes_one k sg) (ap (λ (m : ℕ). takes_one m sg) z) ht

      one17 : k ≡ 17 → ⊥
      one17 z = no_true (takes_one k sg) (ap (λ (m : ℕ). takes_one m sg) z) ht

      one16 : k ≡ 16 → sg ≡ false
      one16 z = sym (ap (λ (m : ℕ). takes_one m sg) z) ∙ ht
