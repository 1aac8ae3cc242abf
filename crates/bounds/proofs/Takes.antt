use Prim.Native.Nat.{ℕ, zero, suc, ◌+◌, ◌*◌, ◌-◌, ◌≤◌, ◌<◌}
use mathlib.Core.Path.{◌≡◌, refl, ap, ◌∙◌}
use mathlib.Core.List.{List, [], ◌∷◌}
use mathlib.Core.Option.{Option, none, some}
use mathlib.Core.Bool.{Bool, true, false, true≢false, false≢true}
use native.Mathlib.Omega.{arith}
use native.Mathlib.Nat.{suc-mul, mul_assoc, zero-mul}
use lib.ListN.{length, get_or, set, replicate, get_elem?, length-set, length-replicate}
use lib.Seq.{get_or-set_other}
use lib.Dec.{T, leb, leb→le}
use Rattle.tokens.specs.declared.token.SymbolClass.TheVariants as class
use Rattle.tokens.specs.declared.token.Token.{Token}
use Rattle.tokens.specs.declared.token.Token.TheVariants as token
use Rattle.tree.specs.Tree.{Node, Nodes, end}
use Rattle.reading.specs.Stop.{Stop}
use Rattle.reading.specs.Entries.{Entry, is}
use Rattle.reading.specs.Reading.{State, M, return, ◌>>=◌, here, current, closed, Mark, open_mark, matrix_mark, slot, Try, made, lost, nought, Readers, is_at, advance, failed, give_up, attempt, argument, next_script, next_script_func, next_intermediate, intermediates, Row, next_matrix_row, row_cells, more_rows, next_matrix_rows, matrix_body, try_matrix, next_open_group, bar_body, next_open_close_group, next_bracket, begun, next_simple, step, level, parse, start, parse_entries, could_be_matrix, prefixes, any, marks_script, heads, begins, when◌then◌else◌}

-- The takes are bounded: every reader pays for what it takes. Nothing is assumed.

-- What is left of the marks, each unset one worth the price.
unfoldable pub bank : ℕ → List Bool → ℕ
bank price [] = zero
bank price (true ∷ l) = bank price l
bank price (false ∷ l) = price + bank price l

bank-set : (price : ℕ) (l : List Bool) (i : ℕ) → i < length l → get_or l i false ≡ false → bank price (set l i true) + price ≡ bank price l
unfolding bank
bank-set price [] i h e = omega arith
bank-set price (false ∷ l) zero h e = omega arith
bank-set price (true ∷ l) zero h e = absurd (true≢false e)
bank-set price (false ∷ l) (suc i) h e = let k : i < length l = omega arith in omega (arith, bank-set price l i k e)
bank-set price (true ∷ l) (suc i) h e = let k : i < length l = omega arith in bank-set price l i k e

abbrev pub opt : {A : Type 0} → ℕ → Option A → ℕ
opt k none = 0
opt k (some a) = k

slot-below : (m : Mark) (i : ℕ) → slot m i < 3 * suc i
unfolding slot
slot-below (open_mark Stop.none) i = omega arith
slot-below (open_mark Stop.sep) i = omega arith
slot-below matrix_mark i = omega arith

slot-above : (m : Mark) (i b : ℕ) → b ≤ i → 3 * b ≤ slot m i
unfolding slot
slot-above (open_mark Stop.none) i b h = omega arith
slot-above (open_mark Stop.sep) i b h = omega arith
slot-above matrix_mark i b h = omega arith

no_some : {A X : Type 0} (x : X) → none ≡ some x → A
no_some x e = let z : ◌≡◌ {A = ℕ} 0 1 = cc in absurd (omega arith)

next-opens : (text : List ℕ) (es : List Entry) (o : Entry) (i : ℕ) → could_be_matrix text es o i ≡ true → (f : Entry) × (get_elem? es (suc i) ≡ some f) × (is token.OpenBracket f ≡ true)
unfolding could_be_matrix is_at
next-opens text es o i c = go (get_elem? es (suc i)) refl
  where
    go : (x : Option Entry) → get_elem? es (suc i) ≡ x → (f : Entry) × (get_elem? es (suc i) ≡ some f) × (is token.OpenBracket f ≡ true)
    go none e = absurd (false≢true (rw (e, could_be_matrix, is_at) at c))
    go (some f) e = go' (is token.OpenBracket f) refl
      where
        go' : (x : Bool) → is token.OpenBracket f ≡ x → (f : Entry) × (get_elem? es (suc i) ≡ some f) × (is token.OpenBracket f ≡ true)
        go' true k = (f, e, k)
        go' false k = absurd (false≢true (rw (e, could_be_matrix, is_at, k) at c))

pub entry-inside : (es : List Entry) (i : ℕ) (e : Entry) → get_elem? es i ≡ some e → i < length es
entry-inside [] i e h = let z : ◌≡◌ {A = ℕ} 0 1 = cc in omega arith
entry-inside (x ∷ es) zero e h = omega arith
entry-inside (x ∷ es) (suc i) e h = omega (arith, entry-inside es i e h)

pub data Opener (e : Entry) : Type 0 where
  opens : e.token ≡ token.OpenBracket → Opener e
  bars : e.token ≡ token.OpenCloseBracket → Opener e

-- Where an attempt can be made at all.
abbrev Opens : List Entry → Mark → ℕ → Type 0
Opens es (open_mark stop) i = (e : Entry) × (get_elem? es i ≡ some e) × (e.token ≡ token.OpenCloseBracket)
Opens es matrix_mark i = (e f : Entry) × (get_elem? es i ≡ some e) × Opener e × (get_elem? es (suc i) ≡ some f) × (is token.OpenBracket f ≡ true)

module _ (text : List ℕ) (es : List Entry) (price : ℕ) (fee : (m : Mark) (i : ℕ) → Opens es m i → 7 * length es + 7 ≤ price) where
  pub record Ok (s : State) : Type 0 where
    pub inside : s.pos ≤ length es
    pub long : length s.marks ≡ 3 * length es

  -- From s to t, whatever stood before b untouched: what t leaves, with d, is no more than what s had, with c.
  pub record Paid (a b c d : ℕ) (s t : State) : Type 0 where
    pub ok : Ok t
    pub base : a ≤ t.pos
    pub kept : (j : ℕ) → j < 3 * b → get_or t.marks j false ≡ get_or s.marks j false
    pub cost : t.takes + bank price t.marks + 7 * s.pos + d ≤ s.takes + bank price s.marks + 7 * t.pos + c

  -- A reader that is given c leaves d, beside 7 for each token that it moves over.
  pub record Pays {A : Type 0} (a b c : ℕ) (m : M A) (d : A → ℕ) : Type 0 where
    pub run : (s : State) → Ok s → a ≤ s.pos → Paid a b c (d (m s).0) s (m s).1

  ret : {A : Type 0} {a b c : ℕ} {d : A → ℕ} (x : A) → T (leb (d x) c) → Pays a b c (return x) d
  unfolding return
  ret {c} {d} x h = record { run = λ s ok base. record { ok = ok; base = base; kept = λ j l. refl; cost = omega (arith, leb→le (d x) c h) } }

  noted : {A : Type 0} {a b c : ℕ} {d : A → ℕ} (i : ℕ) (x : A) → T (leb (d x) c) → Pays a b c (closed i x) d
  unfolding closed
  noted {c} {d} i x h = record { run = λ s ok base. record { ok = record { inside = ok.inside; long = ok.long }; base = base; kept = λ j l. refl; cost = omega (arith, leb→le (d x) c h) } }

  bind : {A B : Type 0} {a b c c₀ : ℕ} {m : M A} {f : A → M B} {d : A → ℕ} {e : B → ℕ} → Pays a b c₀ m d → T (leb c₀ c) → ((x : A) → Pays a b (d x + (c - c₀)) (f x) e) → Pays a b c (m >>= f) e
  unfolding ◌>>=◌
  bind {c} {c₀} {m} {f} {d} {e} h le k = record {
    run = λ s ok base.
        let p = h.run s ok base in
        let q = (k (m s).0).run (m s).1 p.ok p.base in
        record { ok = q.ok; base = q.base; kept = λ j l. q.kept j l ∙ p.kept j l; cost = omega (arith, p.cost, q.cost, leb→le c₀ c le) };
  }

  where_true : {A : Type 0} {a b c : ℕ} (x : Bool) {m n : M A} {d : A → ℕ} → (x ≡ true → Pays a b c m d) → Pays a b c n d → Pays a b c (when x then m else n) d
  unfolding when◌then◌else◌
  where_true true p q = p refl
  where_true false p q = q

  spare : {A : Type 0} {a b c c₀ : ℕ} {m : M A} {d : A → ℕ} → Pays a b c₀ m d → T (leb c₀ c) → Pays a b c m d
  spare {c} {c₀} {m} {d} h le = record { run = λ s o base. let p = h.run s o base in record { ok = p.ok; base = p.base; kept = p.kept; cost = omega (arith, p.cost, leb→le c₀ c le) } }

  both_ways : {A : Type 0} {a b c : ℕ} (x : Bool) {m n : M A} {d : A → ℕ} → Pays a b c m d → Pays a b c n d → Pays a b c (when x then m else n) d
  unfolding when◌then◌else◌
  both_ways true p q = p
  both_ways false p q = q

  here-pays : {a b : ℕ} → Pays a b 0 here (λ p. 0)
  unfolding here
  here-pays = record { run = λ s ok base. record { ok = ok; base = base; kept = λ j l. refl; cost = omega arith } }

  advance-pays : {a b : ℕ} (ok : Entry → Bool) → Pays a b 1 (advance text es ok) (opt 7)
  unfolding advance
  advance-pays {a} {b} ok = record { run = λ s o base. go s o base (get_elem? es s.pos) refl }
    where
      go' : (s : State) → Ok s → a ≤ s.pos → (y : Entry) → s.pos < length es → (x : Bool) → ok y ≡ x → get_elem? es s.pos ≡ some y → Paid a b 1 (opt 7 (advance text es ok s).0) s (advance text es ok s).1
      go' s o base y l false k e = rw (e, advance, k) (record { ok = record { inside = o.inside; long = o.long }; base = base; kept = λ j l. refl; cost = omega arith })
      go' s o base y l true k e = rw (e, advance, k) (record { ok = record { inside = l; long = o.long }; base = omega arith; kept = λ j l. refl; cost = omega arith })

      go : (s : State) → Ok s → a ≤ s.pos → (x : Option Entry) → get_elem? es s.pos ≡ x → Paid a b 1 (opt 7 (advance text es ok s).0) s (advance text es ok s).1
      go s o base none e = rw (e, advance) (record { ok = o; base = base; kept = λ j l. refl; cost = omega arith })
      go s o base (some y) e = go' s o base y (entry-inside es s.pos y e) (ok y) refl e

  advance-some : (ok : Entry → Bool) (s : State) (y : Entry) → (advance text es ok s).0 ≡ some y → ((advance text es ok s).1.pos ≡ suc s.pos) × (s.pos < length es) × (get_elem? es s.pos ≡ some y)
  unfolding advance
  advance-some ok s y = go (get_elem? es s.pos) refl
    where
      go' : (z : Entry) → s.pos < length es → (x : Bool) → ok z ≡ x → get_elem? es s.pos ≡ some z → (advance text es ok s).0 ≡ some y → ((advance text es ok s).1.pos ≡ suc s.pos) × (s.pos < length es) × (get_elem? es s.pos ≡ some y)
      go' z l true k e = rw (e, advance, k) λ h. (refl, l, h)
      go' z l false k e = rw (e, advance, k) λ h. no_some y h

      go : (x : Option Entry) → get_elem? es s.pos ≡ x → (advance text es ok s).0 ≡ some y → ((advance text es ok s).1.pos ≡ suc s.pos) × (s.pos < length es) × (get_elem? es s.pos ≡ some y)
      go none e = rw (e, advance) λ h. no_some y h
      go (some z) e = go' z (entry-inside es s.pos z e) (ok z) refl e

  lower : {A : Type 0} {a b c : ℕ} {m : M A} {d : A → ℕ} → b ≤ a → Pays a a c m d → Pays a b c m d
  lower h p = record { run = λ s o base. let q = p.run s o base in record { ok = q.ok; base = q.base; kept = λ j l. q.kept j (omega arith); cost = q.cost } }

  -- An attempt costs nothing: what a failed one took is paid by its mark.
  abbrev tries : ℕ → Try → ℕ
  tries z (made x) = z
  tries z lost = 0
  tries z nought = z

  abbrev settle : Mark → ℕ → State → Try → M (Option Node)
  settle m i p t = elim t [ made x ↦ return (some x) | lost ↦ give_up text es true m i p | nought ↦ return none ]

  module _ (m : Mark) (i b z : ℕ) (below : b ≤ i) (within : i < length es) (small : z ≤ 7) (dear : 7 * length es + 7 ≤ price) (body : M Try) (pays : Pays (suc i) (suc i) 7 body (tries z)) (s : State) (o : Ok s) (base : suc i ≤ s.pos) where
    settled : (t : Try) → (body s).0 ≡ t → get_or s.marks (slot m i) false ≡ false → Paid (suc i) b 7 z s (settle m i s t (body s).1).1
    unfolding return give_up
    settled (made x) e u =
        let p = pays.run s o base in
        record { ok = p.ok; base = p.base; kept = λ j l. p.kept j (omega arith); cost = omega (arith, p.cost, ap (tries z) e) }
    settled nought e u =
        let p = pays.run s o base in
        record { ok = p.ok; base = p.base; kept = λ j l. p.kept j (omega arith); cost = omega (arith, p.cost, ap (tries z) e) }
    settled lost e u =
        let p = pays.run s o base in
        let short : slot m i < length (body s).1.marks = omega (arith, p.ok.long, slot-below m i) in
        record {
          ok = record { inside = o.inside; long = length-set (body s).1.marks (slot m i) true ∙ p.ok.long };
          base = base;
          kept = λ j l. get_or-set_other (body s).1.marks (slot m i) j true false (omega (arith, slot-above m i b below)) ∙ p.kept j (omega arith);
          cost = omega (arith, p.cost, p.ok.inside, bank-set price (body s).1.marks (slot m i) short (p.kept (slot m i) (slot-below m i) ∙ u));
        }

    known : (x : Bool) → get_or s.marks (slot m i) false ≡ x → Paid (suc i) b 7 z s ((when x then return none else (body >>= settle m i s)) s).1
    unfolding when◌then◌else◌ ◌>>=◌ return
    known true e = record { ok = o; base = base; kept = λ j l. refl; cost = omega arith }
    known false e = settled (body s).0 refl e

  attempt-pays : {b z : ℕ} (m : Mark) (i : ℕ) {body : M Try} → b ≤ i → i < length es → z ≤ 7 → 7 * length es + 7 ≤ price → Pays (suc i) (suc i) 7 body (tries z) → Pays (suc i) b 7 (attempt text es true m i body) (λ x. z)
  unfolding attempt failed ◌>>=◌ current
  attempt-pays {b} {z} m i {body} below within small dear pays = record { run = λ s o base. known m i b z below within small dear body pays s o base (get_or s.marks (slot m i) false) refl }

  record Good (R : Readers) : Type 0 where
    next_simple-pays : {b : ℕ} (stop : Stop) (sg : Bool) → Pays b b 1 (R.simple stop sg) (opt 4)
    next_script_func-pays : {b : ℕ} (stop : Stop) (sg : Bool) → Pays b b 2 (R.script_func stop sg) (opt 3)

  module _ (R : Readers) (good : Good R) where
    argument-pays : {b : ℕ} → Pays b b 1 (argument text es true R) (λ a. 0)
    unfolding argument
    argument-pays = bind (good.next_simple-pays Stop.none true) tt (elim [ none ↦ ret _ tt | some x ↦ ret _ tt ])

    next_script-pays : {b : ℕ} → Pays b b 1 (next_script text es true R) (λ a. 0)
    unfolding next_script
    next_script-pays =
        bind (advance-pays marks_script) tt (elim [
          | none ↦ ret _ tt
          | some e ↦ both_ways _ (bind argument-pays tt λ a. ret _ tt)
              (bind argument-pays tt λ a. bind (advance-pays (is token.Super)) tt (elim [
                | none ↦ ret _ tt
                | some e' ↦ bind argument-pays tt λ y. ret _ tt
              ]))
        ])

    next_script_func-pays' : {b : ℕ} (stop : Stop) (sg : Bool) → Pays b b 2 (next_script_func text es true R stop sg) (opt 3)
    unfolding next_script_func
    next_script_func-pays' stop sg =
        bind (advance-pays (heads sg)) tt (elim [
          | none ↦ bind (good.next_simple-pays stop sg) tt (elim [
            | none ↦ ret _ tt
            | some x ↦ bind next_script-pays tt λ q. ret _ tt
          ])
          | some e ↦ both_ways _ (bind next_script-pays tt λ q. bind (good.next_script_func-pays Stop.none true) tt (elim [ none ↦ ret _ tt | some x ↦ ret _ tt ]))
              (bind (good.next_script_func-pays stop true) tt (elim [ none ↦ ret _ tt | some x ↦ ret _ tt ]))
        ])

    next_intermediate-pays : {b : ℕ} (stop : Stop) (sg : Bool) → Pays b b 2 (next_intermediate text es true R stop sg) (opt 2)
    unfolding next_intermediate
    next_intermediate-pays stop sg =
        bind (good.next_script_func-pays stop sg) tt (elim [
          | none ↦ ret _ tt
          | some x ↦ bind (advance-pays (is token.Frac)) tt (elim [
            | none ↦ ret _ tt
            | some e ↦ bind (good.next_script_func-pays Stop.none true) tt (elim [ none ↦ ret _ tt | some z ↦ ret _ tt ])
          ])
        ])

    intermediates-pays : {b : ℕ} (f : ℕ) (until : Option Entry) (stop : Stop) (before : Option Node) → Pays b b 2 (intermediates text es true R f until stop before) (λ l. 0)
    unfolding intermediates
    intermediates-pays zero until stop before = ret _ tt
    intermediates-pays (suc f) until stop before =
        bind here-pays tt λ p.
        both_ways _ (ret _ tt)
        (bind (next_intermediate-pays stop (prefixes before)) tt (elim [
          | none ↦ ret _ tt
          | some x ↦ bind (intermediates-pays f until stop (some x)) tt λ l. ret _ tt
        ]))

    row_cells-pays : {b : ℕ} (f : ℕ) → Pays b b 3 (row_cells text es true R f) (opt 7)
    unfolding row_cells
    row_cells-pays zero = ret _ tt
    row_cells-pays (suc f) =
        bind (intermediates-pays _ none Stop.sep none) tt λ l.
        bind (advance-pays any) tt (elim [
          | none ↦ ret _ tt
          | some e ↦ both_ways _
              (bind (row_cells-pays f) tt (elim [ none ↦ ret _ tt | some m ↦ ret _ tt ]))
              (both_ways _ (ret _ tt) (ret _ tt))
        ])

    next_matrix_row-pays : {b : ℕ} → Pays b b 1 (next_matrix_row text es true R) (opt 7)
    unfolding next_matrix_row
    next_matrix_row-pays =
        bind here-pays tt λ i. bind (advance-pays any) tt (elim [
          | none ↦ ret _ tt
          | some o ↦ both_ways _ (bind (row_cells-pays _) tt (elim [ none ↦ ret _ tt | some m ↦ noted i _ tt ])) (ret _ tt)
        ])

    more_rows-pays : {b : ℕ} (f : ℕ) (h : Row) → Pays b b 2 (more_rows text es true R f h) (opt 2)
    unfolding more_rows
    more_rows-pays zero h = ret _ tt
    more_rows-pays (suc f) h =
        bind here-pays tt λ p.
        both_ways _
        (bind (advance-pays any) tt (elim [
          | none ↦ bind next_matrix_row-pays tt (elim [ none ↦ ret _ tt | some r ↦ both_ways _ (bind (more_rows-pays f h) tt (elim [ none ↦ ret _ tt | some m ↦ ret _ tt ])) (ret _ tt) ])
          | some e ↦ bind next_matrix_row-pays tt (elim [ none ↦ ret _ tt | some r ↦ both_ways _ (bind (more_rows-pays f h) tt (elim [ none ↦ ret _ tt | some m ↦ ret _ tt ])) (ret _ tt) ])
        ]))
        (ret _ tt)

    next_matrix_rows-pays : {b : ℕ} → Pays b b 1 (next_matrix_rows text es true R) (opt 2)
    unfolding next_matrix_rows
    next_matrix_rows-pays =
        bind next_matrix_row-pays tt (elim [
          | none ↦ ret _ tt
          | some h ↦ both_ways _ (bind (more_rows-pays _ h) tt (elim [ none ↦ ret _ tt | some m ↦ ret _ tt ])) (ret _ tt)
        ])

    matrix_body-pays : {b : ℕ} (o : Entry) (i : ℕ) → Pays b b 7 (matrix_body text es true R o i) (tries 7)
    unfolding matrix_body
    matrix_body-pays o i =
        bind next_matrix_rows-pays tt (elim [
          | none ↦ ret _ tt
          | some r ↦ bind here-pays tt λ p.
              both_ways _ (bind (advance-pays any) tt (elim [ none ↦ ret _ tt | some c ↦ noted i _ tt ])) (ret _ tt)
        ])

    bar_body-pays : {b : ℕ} (o : Entry) (i : ℕ) (stop : Stop) → Pays b b 7 (bar_body text es true R o i stop) (tries 4)
    unfolding bar_body
    bar_body-pays o i stop =
        bind (next_intermediate-pays stop true) tt (elim [
          | none ↦ ret _ tt
          | some x ↦ bind (intermediates-pays _ (some o) stop (some x)) tt λ l. bind here-pays tt λ p.
              both_ways _ (bind (advance-pays any) tt (elim [ none ↦ ret _ tt | some c ↦ noted i _ tt ])) (ret _ tt)
        ])

    next_open_group-pays : {b : ℕ} (o : Entry) (i : ℕ) → Pays b b 7 (next_open_group text es true R o i) (λ x. 4)
    unfolding next_open_group
    next_open_group-pays o i =
        bind (intermediates-pays _ none Stop.none none) tt λ l.
        bind (advance-pays (is token.CloseBracket)) tt (elim [ none ↦ ret _ tt | some c ↦ noted i _ tt ])

    module _ (i b : ℕ) (below : b ≤ i) (within : i < length es) (o : Entry) (has : get_elem? es i ≡ some o) where
      try_matrix-pays : Opener o → Pays (suc i) b 7 (try_matrix text es true R o i) (λ x. 7)
      unfolding try_matrix
      try_matrix-pays w = where_true _ (λ c. attempt-pays matrix_mark i below within (omega arith) (fee matrix_mark i (let q = next-opens text es o i c in (o, q.0, has, w, q.1, q.2))) (matrix_body-pays o i)) (ret _ tt)

      next_bracket-pays : o.token ≡ token.OpenBracket → Pays (suc i) b 7 (next_bracket text es true R o i) (λ x. 4)
      unfolding next_bracket
      next_bracket-pays k =
          bind (try_matrix-pays (opens k)) tt (elim [
            | some x ↦ ret _ tt
            | none ↦ lower (omega arith) (next_open_group-pays o i)
          ])

      next_open_close_group-pays : (stop : Stop) → o.token ≡ token.OpenCloseBracket → Pays (suc i) b 7 (next_open_close_group text es true R o i stop) (λ x. 4)
      unfolding next_open_close_group
      next_open_close_group-pays stop bar =
          bind (try_matrix-pays (bars bar)) tt (elim [
            | some x ↦ ret _ tt
            | none ↦ bind (attempt-pays (open_mark stop) i below within (omega arith) (fee (open_mark stop) i (o, has, bar)) (bar_body-pays o i stop)) tt λ g. ret _ tt
          ])

      begun-pays : (k : Token) → o.token ≡ k → (stop : Stop) (sg : Bool) → Pays (suc i) b 7 (begun text es true R k o i stop sg) (opt 4)
      unfolding begun
      begun-pays token.Number e stop sg = ret _ tt
      begun-pays token.Text e stop sg = ret _ tt
      begun-pays token.Ident e stop sg = ret _ tt
      begun-pays token.Operator e stop sg = ret _ tt
      begun-pays (token.Symbol c) e stop sg = ret _ tt
      begun-pays token.Sign e stop true = lower (omega arith) (bind (good.next_simple-pays stop true) tt (elim [ none ↦ ret _ tt | some x ↦ ret _ tt ]))
      begun-pays token.Sign e stop false = ret _ tt
      begun-pays token.Unary e stop sg = lower (omega arith) (bind argument-pays tt λ a. ret _ tt)
      begun-pays token.Function e stop sg = lower (omega arith) (bind argument-pays tt λ a. ret _ tt)
      begun-pays token.Binary e stop sg = lower (omega arith) (bind argument-pays tt λ a. bind argument-pays tt λ y. ret _ tt)
      begun-pays token.OpenBracket e stop sg = bind (next_bracket-pays e) tt λ a. ret _ tt
      begun-pays token.OpenCloseBracket e stop sg = bind (next_open_close_group-pays stop e) tt λ a. ret _ tt
      begun-pays token.Sep e stop sg = ret _ tt
      begun-pays token.Frac e stop sg = ret _ tt
      begun-pays token.Super e stop sg = ret _ tt
      begun-pays token.Sub e stop sg = ret _ tt
      begun-pays token.CloseBracket e stop sg = ret _ tt
      begun-pays token.Space e stop sg = ret _ tt

    module _ (b : ℕ) (stop : Stop) (sg : Bool) (s : State) (o : Ok s) (base : b ≤ s.pos) where
      abbrev taken : Option Entry × State
      taken = advance text es (begins stop) s

      abbrev going : Option Entry → M (Option Node)
      going t = elim t [ none ↦ return none | some e ↦ begun text es true R e.token e s.pos stop sg ]

      went : (t : Option Entry) → taken.0 ≡ t → Paid b b 1 (opt 4 (going t taken.1).0) s (going t taken.1).1
      unfolding return
      went none e =
          let p = (advance-pays {a = b} {b = b} (begins stop)).run s o base in
          record { ok = p.ok; base = p.base; kept = p.kept; cost = omega (arith, p.cost, ap (opt 7) e) }
      went (some y) e =
          let p = (advance-pays {a = b} {b = b} (begins stop)).run s o base in
          let f = advance-some (begins stop) s y e in
          let q = (begun-pays s.pos b base f.1 y f.2 y.token refl stop sg).run taken.1 p.ok (omega (arith, f.0)) in
          record { ok = q.ok; base = omega (arith, q.base); kept = λ j l. q.kept j l ∙ p.kept j l; cost = omega (arith, p.cost, q.cost, ap (opt 7) e) }

    next_simple-pays' : {b : ℕ} (stop : Stop) (sg : Bool) → Pays b b 1 (next_simple text es true R stop sg) (opt 4)
    unfolding next_simple ◌>>=◌ here
    next_simple-pays' {b} stop sg = record { run = λ s o base. went b stop sg s o base (taken b stop sg s o base).0 refl }

    step-good : Good (step text es true R)
    unfolding step
    step-good = record { next_simple-pays = next_simple-pays'; next_script_func-pays = next_script_func-pays' }

  level-good : (r : ℕ) → Good (level text es true r)
  unfolding level
  level-good zero = record { next_simple-pays = λ stop sg. ret _ tt; next_script_func-pays = λ stop sg. ret _ tt }
  level-good (suc r) = step-good (level text es true r) (level-good r)

  parse-pays : {b : ℕ} (f wraps : ℕ) (acc : Nodes) → Pays b b 3 (parse text es true f wraps acc) (λ l. 0)
  unfolding parse
  parse-pays zero wraps acc = ret _ tt
  parse-pays (suc f) zero acc =
      bind (intermediates-pays (level text es true 256) (level-good 256) _ none Stop.none _) tt λ l.
      bind (advance-pays (is token.CloseBracket)) tt (elim [
        | none ↦ ret _ tt
        | some c ↦ spare (parse-pays f zero _) tt
      ])
  parse-pays (suc f) (suc w) acc =
      bind (intermediates-pays (level text es true 256) (level-good 256) _ none Stop.none _) tt λ l.
      bind (advance-pays (is token.CloseBracket)) tt (elim [
        | none ↦ ret _ tt
        | some c ↦ spare (parse-pays f w _) tt
      ])

bank-full : (n k : ℕ) → bank (7 * n + 7) (replicate k false) ≡ 7 * (k * suc n)
unfolding bank
bank-full n zero = rw zero-mul refl
bank-full n (suc k) = omega (arith, bank-full n k, suc-mul k (suc n))

-- The takes of any reading.
pub takes-bound : (text : List ℕ) (es : List Entry) →
    (parse_entries text es true).1.takes ≤ 21 * (length es * suc (length es)) + 7 * length es + 3
unfolding parse_entries
takes-bound text es =
    let n = length es in
    let p = (parse-pays text es (7 * n + 7) (omega arith) {b = 0} (suc n) 256 end).run (start text es true)
    (record { inside = omega arith; long = length-replicate (3 * n) false }) (omega arith) in
    omega (arith, p.cost, p.ok.inside, bank-full n (3 * n), mul_assoc 3 n (suc n))

-- With no bar, and no opening bracket right before another, the reading is linear: no attempt is made, and no mark is worth anything.
pub plain-bound : (text : List ℕ) (es : List Entry) → ((i : ℕ) (e : Entry) → get_elem? es i ≡ some e → e.token ≡ token.OpenCloseBracket → ⊥) →
    ((i : ℕ) (e f : Entry) → get_elem? es i ≡ some e → get_elem? es (suc i) ≡ some f → e.token ≡ token.OpenBracket → is token.OpenBracket f ≡ true → ⊥) →
    (parse_entries text es true).1.takes ≤ 10 * length es + 10
unfolding parse_entries bank
plain-bound text es nobar noadj =
    let n = length es in
    let p = (parse-pays text es 0 never {b = 0} (suc n) 256 end).run (start text es true)
    (record { inside = omega arith; long = length-replicate (3 * n) false }) (omega arith) in
    omega (arith, p.cost, p.ok.inside, bank-none (3 * n))
  where
    bank-none : (k : ℕ) → bank 0 (replicate k false) ≡ 0
    bank-none zero = refl
    bank-none (suc k) = omega (arith, bank-none k)

    never : (m : Mark) (i : ℕ) → Opens es m i → 7 * length es + 7 ≤ 0
    never (open_mark stop) i o = absurd (nobar i o.0 o.1 o.2)
    never matrix_mark i o = go o.3
      where
        go : Opener o.0 → 7 * length es + 7 ≤ 0
        go (opens k) = absurd (noadj i o.0 o.1 o.2 o.4 k o.5)
        go (bars k) = absurd (nobar i o.0 o.2 k)
