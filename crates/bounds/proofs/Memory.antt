use Prim.Native.Nat.{ℕ, zero, suc, ◌+◌, ◌*◌, ◌-◌, ◌≤◌}
use mathlib.Core.Path.{◌≡◌, refl, sym, ap, ◌∙◌}
use mathlib.Core.List.{List, [], ◌∷◌}
use mathlib.Core.Option.{Option, none, some}
use mathlib.Core.Bool.{Bool, true, false, true≢false}
use native.Mathlib.Omega.{arith}
use native.Mathlib.Decide.{ℕ_discrete, dec_le}
use lib.ListN.{length, get_or, set, replicate, get_elem?}
use lib.Seq.{get_or-set_other}
use Rattle.tokens.specs.declared.token.SymbolClass.TheVariants as class
use Rattle.tokens.specs.declared.token.Token.{Token}
use Rattle.tokens.specs.declared.token.Token.TheVariants as token
use Rattle.tokens.specs.Lexeme.{Lexeme}
use Rattle.tree.specs.Tree.{nowhere, Head, Prefix, Node, node, Nodes, end, ◌▸◌, ◌⧺◌, one}
use Rattle.reading.specs.Stop.{Stop}
use Rattle.reading.specs.Entries.{Entry, is, entries}
use Rattle.reading.specs.Reading.{State, M, return, ◌>>=◌, here, current, closed, Mark, open_mark, matrix_mark, slot, Try, made, lost, nought, Readers, is_at, is_bar, advance, failed, give_up, attempt, argument, next_script, next_script_func, next_intermediate, intermediates, at_open_close, Row, next_matrix_row, row_cells, more_rows, next_matrix_rows, matrix_body, try_matrix, next_open_group, bar_body, next_open_close_group, next_bracket, begun, next_simple, step, level, parse, start, parse_entries, or_glyph, could_be_matrix, prefixes, spaced, or_missing_part, any, marks_script, heads, begins, when◌then◌else◌, reading_by, unscripted}

-- For at most 127 entries the reading with its memory and the one without give the same tree. Nothing is assumed.

no_some : {A X : Type 0} (x : X) → none ≡ some x → A
no_some x e = let z : ◌≡◌ {A = ℕ} 0 1 = cc in absurd (omega arith)

unset : (n j : ℕ) → get_or (replicate n false) j false ≡ false
unset zero j = refl
unset (suc n) zero = refl
unset (suc n) (suc j) = unset n j

outside : (es : List Entry) (i : ℕ) → length es ≤ i → get_elem? es i ≡ none
outside [] i h = refl
outside (x ∷ es) zero h = absurd (omega arith)
outside (x ∷ es) (suc i) h = outside es i (omega arith)

module _ (text : List ℕ) (es : List Entry) where
  -- What an attempt with this mark is, with no memory.
  abbrev body_of : Mark → Entry → ℕ → ℕ → M Try
  body_of (open_mark stop) o i r = bar_body text es false (level text es false r) o i stop
  body_of matrix_mark o i r = matrix_body text es false (level text es false r) o i

  -- A mark is sound if the attempt fails without memory too, at every level deep enough.
  abbrev Sound : List Bool → Type 0
  Sound l = (m : Mark) (i : ℕ) → get_or l (slot m i) false ≡ true → (o : Entry) → get_elem? es i ≡ some o →
      (r : ℕ) → 2 * length es + 1 ≤ r + 2 * suc i → (t : State) → t.pos ≡ suc i → (body_of m o i r t).0 ≡ lost

  pub record Same {A : Type 0} (b : ℕ) (x y : A × State) : Type 0 where
    pub value : x.0 ≡ y.0
    pub place : x.1.pos ≡ y.1.pos
    pub base : b ≤ x.1.pos
    pub sound : Sound x.1.marks

  -- From b on, m does as p does without memory at every level r that is deep enough.
  pub record Agree {A : Type 0} (e b : ℕ) (m : M A) (p : ℕ → M A) : Type 0 where
    pub run : (r : ℕ) → 2 * length es + e ≤ r + 2 * b → (s t : State) → s.pos ≡ t.pos → b ≤ s.pos → Sound s.marks → Same b (m s) (p r t)

  ret : {A : Type 0} {e b : ℕ} (x : A) → Agree e b (return x) (λ r. return x)
  unfolding return
  ret x = record { run = λ r en s t eq base sound. record { value = refl; place = eq; base = base; sound = sound } }

  noted : {A : Type 0} {e b : ℕ} (i : ℕ) (x : A) → Agree e b (closed i x) (λ r. closed i x)
  unfolding closed
  noted i x = record { run = λ r en s t eq base sound. record { value = refl; place = eq; base = base; sound = sound } }

  bind : {A B : Type 0} {e b : ℕ} {m : M A} {p : ℕ → M A} {f : A → M B} {g : ℕ → A → M B} → Agree e b m p → ((x : A) → Agree e b (f x) (λ r. g r x)) → Agree e b (m >>= f) (λ r. p r >>= g r)
  unfolding ◌>>=◌
  bind {m} {p} {f} {g} h k = record {
    run = λ r en s t eq base sound.
        let q = h.run r en s t eq base sound in
        let w = (k (m s).0).run r en (m s).1 (p r t).1 q.place q.base q.sound in
        rw (← q.value) w;
  }

  both_ways : {A : Type 0} {e b : ℕ} (x : Bool) {m n : M A} {p q : ℕ → M A} → Agree e b m p → Agree e b n q → Agree e b (when x then m else n) (λ r. when x then p r else q r)
  unfolding when◌then◌else◌
  both_ways true h k = h
  both_ways false h k = k

  here-agree : {e b : ℕ} → Agree e b here (λ r. here)
  unfolding here
  here-agree = record { run = λ r en s t eq base sound. record { value = eq; place = eq; base = base; sound = sound } }

  advance-same : {b : ℕ} (ok : Entry → Bool) (s t : State) → s.pos ≡ t.pos → b ≤ s.pos → Sound s.marks → Same b (advance text es ok s) (advance text es ok t)
  unfolding advance
  advance-same {b} ok s t eq base sound = go (get_elem? es s.pos) refl
    where
      go' : (y : Entry) → get_elem? es s.pos ≡ some y → get_elem? es t.pos ≡ some y → (x : Bool) → ok y ≡ x → Same b (advance text es ok s) (advance text es ok t)
      go' y e e' true k = rw (e, e', advance, k) (record { value = refl; place = ap suc eq; base = omega arith; sound = sound })
      go' y e e' false k = rw (e, e', advance, k) (record { value = refl; place = eq; base = base; sound = sound })

      go : (x : Option Entry) → get_elem? es s.pos ≡ x → Same b (advance text es ok s) (advance text es ok t)
      go none e = let e' : get_elem? es t.pos ≡ none = rw (← eq) e in rw (e, e', advance) (record { value = refl; place = eq; base = base; sound = sound })
      go (some y) e = let e' : get_elem? es t.pos ≡ some y = rw (← eq) e in go' y e e' (ok y) refl

  advance-agree : {e b : ℕ} (ok : Entry → Bool) → Agree e b (advance text es ok) (λ r. advance text es ok)
  advance-agree ok = record { run = λ r en s t eq base sound. advance-same ok s t eq base sound }

  -- The readers of one level deeper, from b on.
  record Like (b : ℕ) (R : Readers) : Type 0 where
    next_simple-agree : (stop : Stop) (sg : Bool) → Agree 1 b (R.simple stop sg) (λ r. (level text es false r).simple stop sg)
    next_script_func-agree : (stop : Stop) (sg : Bool) → Agree 1 b (R.script_func stop sg) (λ r. (level text es false r).script_func stop sg)

  module _ (b : ℕ) (R : Readers) (like : Like b R) where
    argument-agree : Agree 1 b (argument text es true R) (λ r. argument text es false (level text es false r))
    unfolding argument
    argument-agree = bind (like.next_simple-agree Stop.none true) λ a. ret _

    next_script-agree : Agree 1 b (next_script text es true R) (λ r. next_script text es false (level text es false r))
    unfolding next_script
    next_script-agree =
        bind (advance-agree marks_script) (elim [
          | none ↦ ret _
          | some e ↦ both_ways _ (bind argument-agree λ a. ret _)
              (bind argument-agree λ a. bind (advance-agree (is token.Super)) (elim [
                | none ↦ ret _
                | some e' ↦ bind argument-agree λ y. ret _
              ]))
        ])

    next_intermediate-agree : (stop : Stop) (sg : Bool) → Agree 1 b (next_intermediate text es true R stop sg) (λ r. next_intermediate text es false (level text es false r) stop sg)
    unfolding next_intermediate
    next_intermediate-agree stop sg =
        bind (like.next_script_func-agree stop sg) (elim [
          | none ↦ ret _
          | some x ↦ bind (advance-agree (is token.Frac)) (elim [
            | none ↦ ret _
            | some e ↦ bind (like.next_script_func-agree Stop.none true) λ y. ret _
          ])
        ])

    intermediates-agree : (f : ℕ) (until : Option Entry) (stop : Stop) (before : Option Node) → Agree 1 b (intermediates text es true R f until stop before) (λ r. intermediates text es false (level text es false r) f until stop before)
    unfolding intermediates at_open_close is_at is_bar spaced
    intermediates-agree zero until stop before = ret _
    intermediates-agree (suc f) until stop before =
        bind here-agree λ p.
        both_ways _ (ret _)
        (bind (next_intermediate-agree stop (prefixes before)) (elim [
          | none ↦ ret _
          | some x ↦ bind (intermediates-agree f until stop (some x)) λ l. ret _
        ]))

    row_cells-agree : (f : ℕ) → Agree 1 b (row_cells text es true R f) (λ r. row_cells text es false (level text es false r) f)
    unfolding row_cells
    row_cells-agree zero = ret _
    row_cells-agree (suc f) =
        bind (intermediates-agree _ none Stop.sep none) λ l.
        bind (advance-agree any) (elim [
          | none ↦ ret _
          | some e ↦ both_ways _
              (bind (row_cells-agree f) (elim [ none ↦ ret _ | some m ↦ ret _ ]))
              (both_ways _ (ret _) (ret _))
        ])

    next_matrix_row-agree : Agree 1 b (next_matrix_row text es true R) (λ r. next_matrix_row text es false (level text es false r))
    unfolding next_matrix_row
    next_matrix_row-agree =
        bind here-agree λ i. bind (advance-agree any) (elim [
          | none ↦ ret _
          | some o ↦ both_ways _ (bind (row_cells-agree _) (elim [ none ↦ ret _ | some m ↦ noted i _ ])) (ret _)
        ])

    more_rows-agree : (f : ℕ) (h : Row) → Agree 1 b (more_rows text es true R f h) (λ r. more_rows text es false (level text es false r) f h)
    unfolding more_rows
    more_rows-agree zero h = ret _
    more_rows-agree (suc f) h =
        bind here-agree λ p.
        both_ways _
        (bind (advance-agree any) λ t. bind next_matrix_row-agree (elim [
          | none ↦ ret _
          | some r ↦ both_ways _ (bind (more_rows-agree f h) (elim [ none ↦ ret _ | some m ↦ ret _ ])) (ret _)
        ]))
        (ret _)

    next_matrix_rows-agree : Agree 1 b (next_matrix_rows text es true R) (λ r. next_matrix_rows text es false (level text es false r))
    unfolding next_matrix_rows
    next_matrix_rows-agree =
        bind next_matrix_row-agree (elim [
          | none ↦ ret _
          | some h ↦ both_ways _ (bind (more_rows-agree _ h) (elim [ none ↦ ret _ | some m ↦ ret _ ])) (ret _)
        ])

    matrix_body-agree : (o : Entry) (i : ℕ) → Agree 1 b (matrix_body text es true R o i) (λ r. matrix_body text es false (level text es false r) o i)
    unfolding matrix_body
    matrix_body-agree o i =
        bind next_matrix_rows-agree (elim [
          | none ↦ ret _
          | some r ↦ bind here-agree λ p.
              both_ways _ (bind (advance-agree any) (elim [ none ↦ ret _ | some c ↦ noted i _ ])) (ret _)
        ])

    bar_body-agree : (o : Entry) (i : ℕ) (stop : Stop) → Agree 1 b (bar_body text es true R o i stop) (λ r. bar_body text es false (level text es false r) o i stop)
    unfolding bar_body
    bar_body-agree o i stop =
        bind (next_intermediate-agree stop true) (elim [
          | none ↦ ret _
          | some x ↦ bind (intermediates-agree _ (some o) stop (some x)) λ l. bind here-agree λ p.
              both_ways _ (bind (advance-agree any) (elim [ none ↦ ret _ | some c ↦ noted i _ ])) (ret _)
        ])

    next_open_group-agree : (o : Entry) (i : ℕ) → Agree 1 b (next_open_group text es true R o i) (λ r. next_open_group text es false (level text es false r) o i)
    unfolding next_open_group
    next_open_group-agree o i =
        bind (intermediates-agree _ none Stop.none none) λ l.
        bind (advance-agree (is token.CloseBracket)) (elim [ none ↦ ret _ | some c ↦ noted i _ ])

  -- A matrix is made or lost.
  record Never (m : M Try) : Type 0 where
    never : (s : State) → (m s).0 ≡ nought → ⊥

  never-bind : {A : Type 0} (m : M A) {f : A → M Try} → ((x : A) → Never (f x)) → Never (m >>= f)
  unfolding ◌>>=◌
  never-bind m k = record { never = λ s. (k (m s).0).never (m s).1 }

  never-if : (x : Bool) {m n : M Try} → Never m → Never n → Never (when x then m else n)
  unfolding when◌then◌else◌
  never-if true h k = h
  never-if false h k = k

  never-lost : Never (return lost)
  unfolding return
  never-lost = record { never = λ s e. let z : ◌≡◌ {A = ℕ} 0 1 = cc in omega arith }

  never-made : (i : ℕ) (x : Node) → Never (closed i (made x))
  unfolding closed
  never-made i x = record { never = λ s e. let z : ◌≡◌ {A = ℕ} 0 1 = cc in omega arith }

  matrix-never : (R : Readers) (o : Entry) (i : ℕ) → Never (matrix_body text es true R o i)
  unfolding matrix_body
  matrix-never R o i =
      never-bind _ (elim [
        | none ↦ never-lost
        | some r ↦ never-bind _ λ p. never-if _ (never-bind _ (elim [ none ↦ never-lost | some c ↦ never-made i _ ])) never-lost
      ])

  -- A new mark is sound.
  slot-one : (m n : Mark) (i j : ℕ) → slot m i ≡ slot n j → (m ≡ n) × (i ≡ j)
  unfolding slot
  slot-one (open_mark Stop.none) (open_mark Stop.none) i j e = (refl, omega arith)
  slot-one (open_mark Stop.none) (open_mark Stop.sep) i j e = absurd (omega arith)
  slot-one (open_mark Stop.none) matrix_mark i j e = absurd (omega arith)
  slot-one (open_mark Stop.sep) (open_mark Stop.none) i j e = absurd (omega arith)
  slot-one (open_mark Stop.sep) (open_mark Stop.sep) i j e = (refl, omega arith)
  slot-one (open_mark Stop.sep) matrix_mark i j e = absurd (omega arith)
  slot-one matrix_mark (open_mark Stop.none) i j e = absurd (omega arith)
  slot-one matrix_mark (open_mark Stop.sep) i j e = absurd (omega arith)
  slot-one matrix_mark matrix_mark i j e = (refl, omega arith)

  sound-set : (l : List Bool) (n : Mark) (j : ℕ) (u : Entry) → get_elem? es j ≡ some u → Sound l →
      ((r : ℕ) → 2 * length es + 1 ≤ r + 2 * suc j → (t : State) → t.pos ≡ suc j → (body_of n u j r t).0 ≡ lost) → Sound (set l (slot n j) true)
  sound-set l n j u at sound new m i set o has r en t place = go (ℕ_discrete (slot m i) (slot n j))
    where
      go : Dec (slot m i ≡ slot n j) → (body_of m o i r t).0 ≡ lost
      go (yes e) =
          let q = slot-one m n i j e in
          let w : some o ≡ some u = sym has ∙ ap (λ x. get_elem? es x) q.1 ∙ at in
          let v : o ≡ u = cc in
          rw (q.0, q.1, v) (new r (omega (arith, q.1)) t (place ∙ ap suc q.1))
      go (no d) = sound m i (sym (get_or-set_other l (slot n j) (slot m i) true false d) ∙ set) o has r en t place

  -- The same from behind the bracket at i alone.
  pub record AgreeAt {A : Type 0} (i : ℕ) (m : M A) (p : ℕ → M A) : Type 0 where
    pub run : (r : ℕ) → 2 * length es + 1 ≤ r + 2 * suc i → (s t : State) → s.pos ≡ suc i → t.pos ≡ suc i → Sound s.marks → Same (suc i) (m s) (p r t)

  at_once : {A : Type 0} {i : ℕ} {m : M A} {p : ℕ → M A} → Agree 1 (suc i) m p → AgreeAt i m p
  at_once h = record { run = λ r en s t a c sound. h.run r en s t (a ∙ sym c) (omega arith) sound }

  abbrev settle : Bool → Mark → ℕ → State → Try → M (Option Node)
  settle rem m i p t = elim t [ made x ↦ return (some x) | lost ↦ give_up text es rem m i p | nought ↦ return none ]

  module _ (m : Mark) (i : ℕ) (o : Entry) (has : get_elem? es i ≡ some o) (body : M Try) (agree : Agree 1 (suc i) body (body_of m o i))
      (r : ℕ) (en : 2 * length es + 1 ≤ r + 2 * suc i) (s t : State) (a : s.pos ≡ suc i) (c : t.pos ≡ suc i) (sound : Sound s.marks) where
    settled : (x y : Try) → (body s).0 ≡ x → x ≡ y → Same (suc i) (settle true m i s x (body s).1) (settle false m i t y (body_of m o i r t).1)
    unfolding return give_up
    settled x y e f = rw (← f) (go x e)
      where
        q : Same (suc i) (body s) (body_of m o i r t)
        q = agree.run r en s t (a ∙ sym c) (omega arith) sound

        go : (x : Try) → (body s).0 ≡ x → Same (suc i) (settle true m i s x (body s).1) (settle false m i t x (body_of m o i r t).1)
        go (made x) e = record { value = refl; place = q.place; base = q.base; sound = q.sound }
        go nought e = record { value = refl; place = q.place; base = q.base; sound = q.sound }
        go lost e = record {
          value = refl;
          place = a ∙ sym c;
          base = omega arith;
          sound = sound-set (body s).1.marks m i o has q.sound (λ r' en' t' c'. sym (agree.run r' en' s t' (a ∙ sym c') (omega arith) sound).value ∙ e);
        }

    known : (x : Bool) → get_or s.marks (slot m i) false ≡ x → Same (suc i) ((when x then return none else (body >>= settle true m i s)) s) ((body_of m o i r >>= settle false m i t) t)
    unfolding when◌then◌else◌ ◌>>=◌ return give_up
    known true e = rw (sound m i e o has r en t c) (record { value = refl; place = a ∙ sym c; base = omega arith; sound = sound })
    known false e = settled (body s).0 (body_of m o i r t).0 refl (agree.run r en s t (a ∙ sym c) (omega arith) sound).value

  attempt-at : (m : Mark) (i : ℕ) (o : Entry) → get_elem? es i ≡ some o → (body : M Try) → Agree 1 (suc i) body (body_of m o i) → AgreeAt i (attempt text es true m i body) (λ r. attempt text es false m i (body_of m o i r))
  unfolding attempt failed ◌>>=◌ when◌then◌else◌ current
  attempt-at m i o has body agree = record { run = λ r en s t a c sound. known m i o has body agree r en s t a c sound (get_or s.marks (slot m i) false) refl }

  then_at : {A B : Type 0} {i : ℕ} {m : M A} {p : ℕ → M A} {f : A → M B} {g : ℕ → A → M B} → AgreeAt i m p → ((x : A) → Agree 1 (suc i) (f x) (λ r. g r x)) → AgreeAt i (m >>= f) (λ r. p r >>= g r)
  unfolding ◌>>=◌
  then_at {m} {p} {f} {g} h k = record {
    run = λ r en s t a c sound.
        let q = h.run r en s t a c sound in
        let w = (k (m s).0).run r en (m s).1 (p r t).1 q.place q.base q.sound in
        rw (← q.value) w;
  }

  either-at : {A : Type 0} {i : ℕ} (x : Bool) {m n : M A} {p q : ℕ → M A} → AgreeAt i m p → AgreeAt i n q → AgreeAt i (when x then m else n) (λ r. when x then p r else q r)
  unfolding when◌then◌else◌
  either-at true h k = h
  either-at false h k = k

  module _ (R : Readers) (i : ℕ) (like : Like (suc i) R) (o : Entry) (has : get_elem? es i ≡ some o) where
    try_matrix-at : AgreeAt i (try_matrix text es true R o i) (λ r. try_matrix text es false (level text es false r) o i)
    unfolding try_matrix
    try_matrix-at = either-at _ (attempt-at matrix_mark i o has _ (matrix_body-agree (suc i) R like o i)) (at_once (ret _))

    -- A matrix that is not made leaves the reading where it was.
    back_at : (s : State) → s.pos ≡ suc i → (x : Bool) → ((when x then attempt text es true matrix_mark i (matrix_body text es true R o i) else return none) s).0 ≡ none →
        ((when x then attempt text es true matrix_mark i (matrix_body text es true R o i) else return none) s).1.pos ≡ suc i
    unfolding when◌then◌else◌ return attempt failed ◌>>=◌ give_up current
    back_at s a false e = a
    back_at s a true e = go (get_or s.marks (slot matrix_mark i) false) e
      where
        body : M Try
        body = matrix_body text es true R o i

        end-at : (t : Try) → (body s).0 ≡ t → ((settle true matrix_mark i s t (body s).1).0 ≡ none) → (settle true matrix_mark i s t (body s).1).1.pos ≡ suc i
        end-at (made x) f e = let z : ◌≡◌ {A = ℕ} 0 1 = cc in omega arith
        end-at lost f e = a
        end-at nought f e = absurd ((matrix-never R o i).never s f)

        go : (x : Bool) → ((when x then return none else (body >>= settle true matrix_mark i s)) s).0 ≡ none → ((when x then return none else (body >>= settle true matrix_mark i s)) s).1.pos ≡ suc i
        go true e = a
        go false e = end-at (body s).0 refl e

    try_matrix-back : (s : State) → s.pos ≡ suc i → (try_matrix text es true R o i s).0 ≡ none → (try_matrix text es true R o i s).1.pos ≡ suc i
    unfolding try_matrix
    try_matrix-back s a e = back_at s a (could_be_matrix text es o i) e

    next_bracket-at : AgreeAt i (next_bracket text es true R o i) (λ r. next_bracket text es false (level text es false r) o i)
    unfolding next_bracket
    next_bracket-at = then_at try_matrix-at (elim [ some x ↦ ret _ | none ↦ next_open_group-agree (suc i) R like o i ])

    bar-at : (stop : Stop) → AgreeAt i (attempt text es true (open_mark stop) i (bar_body text es true R o i stop) >>= λ g. return (or_glyph o g))
        (λ r. attempt text es false (open_mark stop) i (bar_body text es false (level text es false r) o i stop) >>= λ g. return (or_glyph o g))
    bar-at stop = then_at (attempt-at (open_mark stop) i o has _ (bar_body-agree (suc i) R like o i stop)) λ g. ret _

    abbrev after_matrix : Bool → Readers → Stop → Option Node → M Node
    after_matrix rem Q stop m = elim m [ some x ↦ return x | none ↦ (attempt text es rem (open_mark stop) i (bar_body text es rem Q o i stop) >>= λ g. return (or_glyph o g)) ]

    next_open_close_group-at : (stop : Stop) → AgreeAt i (next_open_close_group text es true R o i stop) (λ r. next_open_close_group text es false (level text es false r) o i stop)
    unfolding next_open_close_group ◌>>=◌
    next_open_close_group-at stop = record {
      run = λ r en s t a c sound.
          let q = try_matrix-at.run r en s t a c sound in
          go r en s t a q (try_matrix text es true R o i s).0 (try_matrix text es false (level text es false r) o i t).0 refl q.value;
    }
      where
        go : (r : ℕ) → 2 * length es + 1 ≤ r + 2 * suc i → (s t : State) → s.pos ≡ suc i → Same (suc i) (try_matrix text es true R o i s) (try_matrix text es false (level text es false r) o i t) →
            (x y : Option Node) → (try_matrix text es true R o i s).0 ≡ x → x ≡ y →
            Same (suc i) (after_matrix true R stop x (try_matrix text es true R o i s).1) (after_matrix false (level text es false r) stop y (try_matrix text es false (level text es false r) o i t).1)
        go r en s t a q x y e f = rw (← f) (go' x e)
          where
            go' : (x : Option Node) → (try_matrix text es true R o i s).0 ≡ x → Same (suc i) (after_matrix true R stop x (try_matrix text es true R o i s).1) (after_matrix false (level text es false r) stop x (try_matrix text es false (level text es false r) o i t).1)
            go' (some v) e = unfold return in (record { value = refl; place = q.place; base = q.base; sound = q.sound })
            go' none e = let k = try_matrix-back s a e in (bar-at stop).run r en _ _ k (sym q.place ∙ k) q.sound

  module _ (R : Readers) (i : ℕ) (like : Like (suc i) R) where
    begun-at : (k : Token) (e : Entry) → get_elem? es i ≡ some e → (stop : Stop) (sg : Bool) → AgreeAt i (begun text es true R k e i stop sg) (λ r. begun text es false (level text es false r) k e i stop sg)
    unfolding begun
    begun-at token.Number e has stop sg = at_once (ret _)
    begun-at token.Text e has stop sg = at_once (ret _)
    begun-at token.Ident e has stop sg = at_once (ret _)
    begun-at token.Operator e has stop sg = at_once (ret _)
    begun-at (token.Symbol c) e has stop sg = at_once (ret _)
    begun-at token.Sign e has stop true = at_once (bind (like.next_simple-agree stop true) λ a. ret _)
    begun-at token.Sign e has stop false = at_once (ret _)
    begun-at token.Unary e has stop sg = at_once (bind (argument-agree (suc i) R like) λ a. ret _)
    begun-at token.Function e has stop sg = at_once (bind (argument-agree (suc i) R like) λ a. ret _)
    begun-at token.Binary e has stop sg = at_once (bind (argument-agree (suc i) R like) λ a. bind (argument-agree (suc i) R like) λ y. ret _)
    begun-at token.OpenBracket e has stop sg = then_at (next_bracket-at R i like e has) λ a. ret _
    begun-at token.OpenCloseBracket e has stop sg = then_at (next_open_close_group-at R i like e has stop) λ a. ret _
    begun-at token.Sep e has stop sg = at_once (ret _)
    begun-at token.Frac e has stop sg = at_once (ret _)
    begun-at token.Super e has stop sg = at_once (ret _)
    begun-at token.Sub e has stop sg = at_once (ret _)
    begun-at token.CloseBracket e has stop sg = at_once (ret _)
    begun-at token.Space e has stop sg = at_once (ret _)

  advance-some : (ok : Entry → Bool) (s : State) (y : Entry) → (advance text es ok s).0 ≡ some y → ((advance text es ok s).1.pos ≡ suc s.pos) × (get_elem? es s.pos ≡ some y)
  unfolding advance
  advance-some ok s y = go (get_elem? es s.pos) refl
    where
      go' : (z : Entry) → (x : Bool) → ok z ≡ x → get_elem? es s.pos ≡ some z → (advance text es ok s).0 ≡ some y → ((advance text es ok s).1.pos ≡ suc s.pos) × (get_elem? es s.pos ≡ some y)
      go' z true k e = rw (e, advance, k) λ h. (refl, h)
      go' z false k e = rw (e, advance, k) λ h. no_some y h

      go : (x : Option Entry) → get_elem? es s.pos ≡ x → (advance text es ok s).0 ≡ some y → ((advance text es ok s).1.pos ≡ suc s.pos) × (get_elem? es s.pos ≡ some y)
      go none e = rw (e, advance) λ h. no_some y h
      go (some z) e = go' z (ok z) refl e

  -- A reader that answers a node has moved on.
  pub record Moved (q : ℕ) (x y : Option Node × State) : Type 0 where
    pub same : Same q x y
    pub moved : (v : Node) → x.0 ≡ some v → suc q ≤ x.1.pos

  module _ (R : Readers) (s t : State) (eq : s.pos ≡ t.pos) (sound : Sound s.marks) (like : Like (suc s.pos) R) (r : ℕ) (en : 2 * length es ≤ suc r + 2 * s.pos) (stop : Stop) (sg : Bool) where
    abbrev going : Bool → Readers → ℕ → Option Entry → M (Option Node)
    going rem Q i x = elim x [ none ↦ return none | some e ↦ begun text es rem Q e.token e i stop sg ]

    went : (x y : Option Entry) → (advance text es (begins stop) s).0 ≡ x → x ≡ y → (j : ℕ) → s.pos ≡ j →
        Moved s.pos (going true R s.pos x (advance text es (begins stop) s).1) (going false (level text es false r) j y (advance text es (begins stop) t).1)
    went x y e f j g = rw (← f, ← g) (go x e)
      where
        q : Same s.pos (advance text es (begins stop) s) (advance text es (begins stop) t)
        q = advance-same (begins stop) s t eq (omega arith) sound

        go : (x : Option Entry) → (advance text es (begins stop) s).0 ≡ x →
            Moved s.pos (going true R s.pos x (advance text es (begins stop) s).1) (going false (level text es false r) s.pos x (advance text es (begins stop) t).1)
        go none e = unfold return in (record { same = record { value = refl; place = q.place; base = q.base; sound = q.sound }; moved = λ v h. let z : ◌≡◌ {A = ℕ} 0 1 = cc in omega arith })
        go (some y) e =
            let h = advance-some (begins stop) s y e in
            let w = (begun-at R s.pos like y.token y h.1 stop sg).run r (omega arith) _ _ h.0 (sym q.place ∙ h.0) q.sound in
            record { same = record { value = w.value; place = w.place; base = omega (arith, w.base); sound = w.sound }; moved = λ v k. w.base }

    next_simple-step : Moved s.pos (next_simple text es true R stop sg s) (next_simple text es false (level text es false r) stop sg t)
    unfolding next_simple ◌>>=◌ here
    next_simple-step = went (advance text es (begins stop) s).0 (advance text es (begins stop) t).0 refl (advance-same {b = 0} (begins stop) s t eq (omega arith) sound).value t.pos eq

  advance-none : (ok : Entry → Bool) (s : State) → (advance text es ok s).0 ≡ none → (advance text es ok s).1.pos ≡ s.pos
  unfolding advance
  advance-none ok s = go (get_elem? es s.pos) refl
    where
      go' : (z : Entry) → (x : Bool) → ok z ≡ x → get_elem? es s.pos ≡ some z → (advance text es ok s).0 ≡ none → (advance text es ok s).1.pos ≡ s.pos
      go' z true k e = rw (e, advance, k) λ h. no_some z (sym h)
      go' z false k e = rw (e, advance, k) λ h. refl

      go : (x : Option Entry) → get_elem? es s.pos ≡ x → (advance text es ok s).0 ≡ none → (advance text es ok s).1.pos ≡ s.pos
      go none e = rw (e, advance) λ h. refl
      go (some z) e = go' z (ok z) refl e

  lower : {A : Type 0} {a b : ℕ} {x y : A × State} → b ≤ a → Same a x y → Same b x y
  lower h q = record { value = q.value; place = q.place; base = omega (arith, q.base); sound = q.sound }

  module _ (R : Readers) (s t : State) (eq : s.pos ≡ t.pos) (sound : Sound s.marks) (like : Like (suc s.pos) R) (r : ℕ) (en : 2 * length es + 1 ≤ suc r + 2 * s.pos) (stop : Stop) (sg : Bool)
      (near : (s₁ t₁ : State) → s₁.pos ≡ s.pos → s₁.pos ≡ t₁.pos → Sound s₁.marks → Moved s₁.pos (R.simple stop sg s₁) ((level text es false r).simple stop sg t₁)) where
    abbrev scripted : Bool → Readers → Option Node → M (Option Node)
    scripted rem Q a = elim a [ none ↦ return none | some x ↦ (next_script text es rem Q >>= λ q. return (some (node (Head.simple q.0) (x ▸ q.1)))) ]

    abbrev headed : Bool → Readers → Entry → M (Option Node)
    headed rem Q e = when is token.Function e
        then (next_script text es rem Q >>= λ q. Q.script_func Stop.none true >>= λ a. return (some (node (Head.func e.span q.0) (q.1 ⧺ (or_missing_part a ▸ end)))))
        else (Q.script_func stop true >>= λ a. return (some (one (Head.prefix Prefix.signed e.span) (or_missing_part a))))

    abbrev goes : Bool → Readers → Option Entry → M (Option Node)
    goes rem Q x = elim x [ none ↦ (Q.simple stop sg >>= scripted rem Q) | some e ↦ headed rem Q e ]

    scripted-agree : (x : Node) → Agree 1 (suc s.pos) (scripted true R (some x)) (λ r. scripted false (level text es false r) (some x))
    scripted-agree x = bind (next_script-agree (suc s.pos) R like) λ q. ret _

    headed-agree : (e : Entry) → Agree 1 (suc s.pos) (headed true R e) (λ r. headed false (level text es false r) e)
    headed-agree e = both_ways _ (bind (next_script-agree (suc s.pos) R like) λ q. bind (like.next_script_func-agree Stop.none true) λ a. ret _) (bind (like.next_script_func-agree stop true) λ a. ret _)

    -- No function and no prefixing sign: a simple one, and its script.
    plainly : (s₁ t₁ : State) → s₁.pos ≡ s.pos → s₁.pos ≡ t₁.pos → Sound s₁.marks → Same s.pos ((R.simple stop sg >>= scripted true R) s₁) (((level text es false r).simple stop sg >>= scripted false (level text es false r)) t₁)
    unfolding ◌>>=◌
    plainly s₁ t₁ p d so = go (R.simple stop sg s₁).0 ((level text es false r).simple stop sg t₁).0 refl w.same.value
      where
        w : Moved s₁.pos (R.simple stop sg s₁) ((level text es false r).simple stop sg t₁)
        w = near s₁ t₁ p d so

        go' : (x : Option Node) → (R.simple stop sg s₁).0 ≡ x → Same s.pos (scripted true R x (R.simple stop sg s₁).1) (scripted false (level text es false r) x ((level text es false r).simple stop sg t₁).1)
        go' none e = unfold return in (record { value = refl; place = w.same.place; base = omega (arith, w.same.base); sound = w.same.sound })
        go' (some v) e = lower (omega arith) ((scripted-agree v).run r (omega arith) _ _ w.same.place (omega (arith, w.moved v e)) w.same.sound)

        go : (x y : Option Node) → (R.simple stop sg s₁).0 ≡ x → x ≡ y → Same s.pos (scripted true R x (R.simple stop sg s₁).1) (scripted false (level text es false r) y ((level text es false r).simple stop sg t₁).1)
        go x y e f = rw (← f) (go' x e)

    gone : (x y : Option Entry) → (advance text es (heads sg) s).0 ≡ x → x ≡ y → Same s.pos (goes true R x (advance text es (heads sg) s).1) (goes false (level text es false r) y (advance text es (heads sg) t).1)
    gone x y e f = rw (← f) (go x e)
      where
        q : Same s.pos (advance text es (heads sg) s) (advance text es (heads sg) t)
        q = advance-same (heads sg) s t eq (omega arith) sound

        go : (x : Option Entry) → (advance text es (heads sg) s).0 ≡ x → Same s.pos (goes true R x (advance text es (heads sg) s).1) (goes false (level text es false r) x (advance text es (heads sg) t).1)
        go none e = plainly _ _ (advance-none (heads sg) s e) q.place q.sound
        go (some y) e = lower (omega arith) ((headed-agree y).run r (omega arith) _ _ q.place (omega (arith, (advance-some (heads sg) s y e).0)) q.sound)

    next_script_func-step : Same s.pos (next_script_func text es true R stop sg s) (next_script_func text es false (level text es false r) stop sg t)
    unfolding next_script_func ◌>>=◌
    next_script_func-step = gone (advance text es (heads sg) s).0 (advance text es (heads sg) t).0 refl (advance-same {b = 0} (heads sg) s t eq (omega arith) sound).value

  -- Behind the last entry there is nothing, at any level.
  advance-end : (ok : Entry → Bool) (s : State) → length es ≤ s.pos → advance text es ok s ≡ (none, s)
  unfolding advance
  advance-end ok s h = rw (outside es s.pos h, advance)

  next_simple-end : (rem : Bool) (k : ℕ) (stop : Stop) (sg : Bool) (s : State) → length es ≤ s.pos → (level text es rem k).simple stop sg s ≡ (none, s)
  unfolding level step next_simple ◌>>=◌ here return
  next_simple-end rem zero stop sg s h = refl
  next_simple-end rem (suc k) stop sg s h = ap (λ x. going_on x.0 x.1) (advance-end (begins stop) s h)
    where
      going_on : Option Entry → M (Option Node)
      going_on x = elim x [ none ↦ return none | some e ↦ begun text es rem (level text es rem k) e.token e s.pos stop sg ]

  next_script_func-end : (rem : Bool) (k : ℕ) (stop : Stop) (sg : Bool) (s : State) → length es ≤ s.pos → (level text es rem k).script_func stop sg s ≡ (none, s)
  unfolding level step next_script_func ◌>>=◌ here return
  next_script_func-end rem zero stop sg s h = refl
  next_script_func-end rem (suc k) stop sg s h = ap (λ x. goes_on x.0 x.1) (advance-end (heads sg) s h) ∙ ap (λ x. then_on x.0 x.1) (next_simple-end rem k stop sg s h)
    where
      Q : Readers
      Q = level text es rem k

      then_on : Option Node → M (Option Node)
      then_on a = elim a [ none ↦ return none | some x ↦ (next_script text es rem Q >>= λ q. return (some (node (Head.simple q.0) (x ▸ q.1)))) ]

      goes_on : Option Entry → M (Option Node)
      goes_on x = elim x [
        | none ↦ (Q.simple stop sg >>= then_on)
        | some e ↦ (when is token.Function e
            then (next_script text es rem Q >>= λ q. Q.script_func Stop.none true >>= λ a. return (some (node (Head.func e.span q.0) (q.1 ⧺ (or_missing_part a ▸ end)))))
            else (Q.script_func stop true >>= λ a. return (some (one (Head.prefix Prefix.signed e.span) (or_missing_part a)))))
      ]

  abbrev SimpleAt : ℕ → Type 0
  SimpleAt k = (stop : Stop) (sg : Bool) (s t : State) (r : ℕ) → s.pos ≡ t.pos → Sound s.marks → 2 * length es ≤ k + 2 * s.pos → 2 * length es ≤ r + 2 * s.pos →
      Moved s.pos ((level text es true k).simple stop sg s) ((level text es false r).simple stop sg t)

  abbrev ScriptAt : ℕ → Type 0
  ScriptAt k = (stop : Stop) (sg : Bool) (s t : State) (r : ℕ) → s.pos ≡ t.pos → Sound s.marks → 2 * length es + 1 ≤ k + 2 * s.pos → 2 * length es + 1 ≤ r + 2 * s.pos →
      Same s.pos ((level text es true k).script_func stop sg s) ((level text es false r).script_func stop sg t)

  like_at : (k b : ℕ) → SimpleAt k → ScriptAt k → 2 * length es + 1 ≤ k + 2 * b → Like b (level text es true k)
  like_at k b f g h = record {
    next_simple-agree = λ stop sg. record { run = λ r en s t eq base sound. lower base (f stop sg s t r eq sound (omega arith) (omega arith)).same };
    next_script_func-agree = λ stop sg. record { run = λ r en s t eq base sound. lower base (g stop sg s t r eq sound (omega arith) (omega arith)) };
  }

  ended-simple : (k r : ℕ) (stop : Stop) (sg : Bool) (s t : State) → s.pos ≡ t.pos → Sound s.marks → length es ≤ s.pos → Moved s.pos ((level text es true k).simple stop sg s) ((level text es false r).simple stop sg t)
  ended-simple k r stop sg s t eq sound h = rw (next_simple-end true k stop sg s h, next_simple-end false r stop sg t (omega arith))
      (record { same = record { value = refl; place = eq; base = omega arith; sound = sound }; moved = λ v e. no_some v e })

  ended-script : (k r : ℕ) (stop : Stop) (sg : Bool) (s t : State) → s.pos ≡ t.pos → Sound s.marks → length es ≤ s.pos → Same s.pos ((level text es true k).script_func stop sg s) ((level text es false r).script_func stop sg t)
  ended-script k r stop sg s t eq sound h = rw (next_script_func-end true k stop sg s h, next_script_func-end false r stop sg t (omega arith))
      (record { value = refl; place = eq; base = omega arith; sound = sound })

  simply : (k : ℕ) → SimpleAt k → ScriptAt k → SimpleAt (suc k)
  unfolding level step
  simply k f g stop sg s t r eq sound h en = go r en (dec_le (length es) s.pos)
    where
      go : (r : ℕ) → 2 * length es ≤ r + 2 * s.pos → Dec (length es ≤ s.pos) → Moved s.pos ((level text es true (suc k)).simple stop sg s) ((level text es false r).simple stop sg t)
      go r en (yes l) = ended-simple (suc k) r stop sg s t eq sound l
      go zero en (no l) = absurd (omega arith)
      go (suc r) en (no l) = next_simple-step (level text es true k) s t eq sound (like_at k (suc s.pos) f g (omega arith)) r en stop sg

  scriptly : (k : ℕ) → SimpleAt k → ScriptAt k → ScriptAt (suc k)
  unfolding level step
  scriptly k f g stop sg s t r eq sound h en = go r en (dec_le (length es) s.pos)
    where
      go : (r : ℕ) → 2 * length es + 1 ≤ r + 2 * s.pos → Dec (length es ≤ s.pos) → Same s.pos ((level text es true (suc k)).script_func stop sg s) ((level text es false r).script_func stop sg t)
      go r en (yes l) = ended-script (suc k) r stop sg s t eq sound l
      go zero en (no l) = absurd (omega arith)
      go (suc r) en (no l) = next_script_func-step (level text es true k) s t eq sound (like_at k (suc s.pos) f g (omega arith)) r en stop sg
          (λ s₁ t₁ p d so. f stop sg s₁ t₁ r d so (omega arith) (omega arith))

  levels : (k : ℕ) → SimpleAt k × ScriptAt k
  levels zero = ((λ stop sg s t r eq sound h g. ended-simple zero r stop sg s t eq sound (omega arith)), (λ stop sg s t r eq sound h g. ended-script zero r stop sg s t eq sound (omega arith)))
  levels (suc k) = (simply k (levels k).0 (levels k).1, scriptly k (levels k).0 (levels k).1)

  -- The parse, at level 256 on both sides, for at most 127 entries.
  module _ (short : length es ≤ 127) where
    parse-like : Like 0 (level text es true 256)
    parse-like = like_at 256 0 (levels 256).0 (levels 256).1 (omega arith)

    abbrev top_tail : Bool → ℕ → ℕ → Nodes → Nodes → Option Entry → M Nodes
    top_tail rem f wraps acc l t = elim t [ none ↦ return (acc ⧺ l) | some c ↦ elim wraps [ zero ↦ parse text es rem f zero (acc ⧺ l) | suc w ↦ parse text es rem f w (unscripted (node (Head.group nowhere c.span) (acc ⧺ l)) ▸ end) ] ]

    -- With r fixed at 256.
    fixed : {A : Type 0} {m : M A} {p : ℕ → M A} → Agree 1 0 m p → Agree 1 0 m (λ r. p 256)
    fixed h = record { run = λ r en s t eq base sound. h.run 256 (omega arith) s t eq base sound }

    parse-agree : (f wraps : ℕ) (acc : Nodes) → Agree 1 0 (parse text es true f wraps acc) (λ r. parse text es false f wraps acc)
    unfolding parse
    parse-agree zero wraps acc = ret _
    parse-agree (suc f) zero acc =
        bind (fixed (intermediates-agree 0 (level text es true 256) parse-like _ none Stop.none _)) λ l.
        bind (advance-agree (is token.CloseBracket)) (elim [
          | none ↦ ret _
          | some c ↦ parse-agree f zero _
        ])
    parse-agree (suc f) (suc w) acc =
        bind (fixed (intermediates-agree 0 (level text es true 256) parse-like _ none Stop.none _)) λ l.
        bind (advance-agree (is token.CloseBracket)) (elim [
          | none ↦ ret _
          | some c ↦ parse-agree f w _
        ])

    abbrev begin : State
    begin = start text es true

    pub trees_same : (parse_entries text es true).0 ≡ (parse_entries text es false).0
    unfolding parse_entries
    trees_same = ((parse-agree (suc (length es)) 256 end).run 256 (omega arith) begin begin refl (omega arith) (λ m i h. absurd (true≢false (sym h ∙ unset (3 * length es) (slot m i))))).value

-- For at most 127 tokens other than Space, the tree is that of the reading without memory.
pub same-tree : (text : List ℕ) (ts : List Lexeme) → length (entries nowhere ts) ≤ 127 → (reading_by true text ts).tree ≡ (reading_by false text ts).tree
unfolding reading_by
same-tree text ts h = trees_same text (entries nowhere ts) h
