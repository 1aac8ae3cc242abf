-- The whole reading, run again from the marks that it left, gives the same tree and sets no mark: no attempt is given back. For any
-- number of entries.
use Prim.Native.Nat.{ℕ, zero, suc, ◌*◌, ◌-◌, ◌≤◌, ◌<◌}
use mathlib.Core.Path.{◌≡◌, refl, sym, ap, ◌∙◌, subst}
use mathlib.Core.List.{List, [], ◌∷◌}
use mathlib.Core.Option.{Option, none, some}
use mathlib.Core.Bool.{Bool, true, false}
use native.Mathlib.Omega.{arith}
use lib.ListN.{length, get_or, replicate, get_elem?, length-set}
use lib.Seq.{get_or-set_same, get_or-set_other}
use Rattle.tokens.specs.declared.token.Token.{Token}
use Rattle.tokens.specs.declared.token.Token.TheVariants as token
use Rattle.tree.specs.Tree.{Node, Nodes, end}
use Rattle.reading.specs.Stop.{Stop}
use Rattle.reading.specs.Entries.{Entry, is}
use Rattle.reading.specs.Reading.{State, M, return, ◌>>=◌, here, current, closed, Mark, open_mark, matrix_mark, slot, Try, made, lost, nought, Readers, advance, failed, give_up, attempt, argument, next_script, next_script_func, next_intermediate, intermediates, Row, next_matrix_row, row_cells, more_rows, next_matrix_rows, matrix_body, try_matrix, next_open_group, bar_body, next_open_close_group, next_bracket, begun, next_simple, step, level, parse, parse_entries, start, or_glyph, could_be_matrix, prefixes, any, marks_script, heads, begins, when◌then◌else◌}

inside_of : {A : Type 0} (l : List A) (i : ℕ) (x : A) → get_elem? l i ≡ some x → i < length l
inside_of [] i x e = let z : ◌≡◌ {A = ℕ} 0 1 = cc in absurd (omega arith)
inside_of (y ∷ l) zero x e = omega arith
inside_of (y ∷ l) (suc i) x e = omega (arith, inside_of l i x e)

slot-low : (k : Mark) (i : ℕ) → slot k i < 3 * suc i
unfolding slot
slot-low (open_mark Stop.none) i = omega arith
slot-low (open_mark Stop.sep) i = omega arith
slot-low matrix_mark i = omega arith

slot-high : (k : Mark) (i : ℕ) → 3 * i ≤ slot k i
unfolding slot
slot-high (open_mark Stop.none) i = omega arith
slot-high (open_mark Stop.sep) i = omega arith
slot-high matrix_mark i = omega arith

open_apart : (stop : Stop) (i : ℕ) → slot matrix_mark i ≡ slot (open_mark stop) i → ⊥
unfolding slot
open_apart Stop.none i e = omega arith
open_apart Stop.sep i e = omega arith

-- From the slot a up to b the marks are the same.
abbrev pub Alike : ℕ → ℕ → List Bool → List Bool → Type 0
Alike a b l m = (q : ℕ) → a ≤ q → q < b → get_or l q false ≡ get_or m q false

-- The same answer at the same place; the marks are those of before.
pub record Again {A : Type 0} (t : State) (r y : A × State) : Type 0 where
  pub value : y.0 ≡ r.0
  pub place : y.1.pos ≡ r.1.pos
  pub marks : y.1.marks ≡ t.marks

module _ (text : List ℕ) (es : List Entry) where
  abbrev Long : State → Type 0
  Long s = length s.marks ≡ 3 * length es

  -- What a run from s, with the result r, leaves; and that it can be repeated from any marks that are its own from its start up to
  -- its end.
  pub record Played {A : Type 0} (m : M A) (s : State) (r : A × State) : Type 0 where
    pub long : Long r.1
    pub on : s.pos ≤ r.1.pos
    pub kept : Alike 0 (3 * s.pos) r.1.marks s.marks
    pub again : (t : State) → t.pos ≡ s.pos → Alike (3 * s.pos) (3 * r.1.pos) t.marks r.1.marks → Again t r (m t)

  pub record Plays {A : Type 0} (m : M A) : Type 0 where
    pub run : (s : State) → Long s → Played m s (m s)

  -- A step that neither asks for marks nor changes them.
  record Quiet {A : Type 0} (m : M A) : Type 0 where
    silent : (s : State) → (m s).1.marks ≡ s.marks
    onward : (s : State) → s.pos ≤ (m s).1.pos
    same : (s t : State) → t.pos ≡ s.pos → ((m t).0 ≡ (m s).0) × ((m t).1.pos ≡ (m s).1.pos)

  quiet : {A : Type 0} {m : M A} → Quiet m → Plays m
  quiet {m} q = record {
    run = λ s l. record {
      long = ap length (q.silent s) ∙ l;
      on = q.onward s;
      kept = λ j a b. ap (λ (x : List Bool). get_or x j false) (q.silent s);
      again = λ t e h. record { value = (q.same s t e).0; place = (q.same s t e).1; marks = q.silent t };
    };
  }

  ret : {A : Type 0} (x : A) → Plays (return x)
  unfolding return
  ret x = quiet (record { silent = λ s. refl; onward = λ s. omega arith; same = λ s t e. (refl, e) })

  noted : {A : Type 0} (i : ℕ) (x : A) → Plays (closed i x)
  unfolding closed
  noted i x = quiet (record { silent = λ s. refl; onward = λ s. omega arith; same = λ s t e. (refl, e) })

  at_here : Plays here
  unfolding here
  at_here = quiet (record { silent = λ s. refl; onward = λ s. omega arith; same = λ s t e. (e, e) })

  advance-quiet : (ok : Entry → Bool) → Quiet (advance text es ok)
  unfolding advance
  advance-quiet ok = record { silent = silent; onward = onward; same = same }
    where
      silent : (s : State) → (advance text es ok s).1.marks ≡ s.marks
      silent s = go (get_elem? es s.pos) refl
        where
          go' : (y : Entry) → get_elem? es s.pos ≡ some y → (x : Bool) → ok y ≡ x → (advance text es ok s).1.marks ≡ s.marks
          go' y e true k = rw (e, advance, k) refl
          go' y e false k = rw (e, advance, k) refl

          go : (x : Option Entry) → get_elem? es s.pos ≡ x → (advance text es ok s).1.marks ≡ s.marks
          go none e = rw (e, advance) refl
          go (some y) e = go' y e (ok y) refl

      onward : (s : State) → s.pos ≤ (advance text es ok s).1.pos
      onward s = go (get_elem? es s.pos) refl
        where
          go' : (y : Entry) → get_elem? es s.pos ≡ some y → (x : Bool) → ok y ≡ x → s.pos ≤ (advance text es ok s).1.pos
          go' y e true k = rw (e, advance, k) (omega arith)
          go' y e false k = rw (e, advance, k) (omega arith)

          go : (x : Option Entry) → get_elem? es s.pos ≡ x → s.pos ≤ (advance text es ok s).1.pos
          go none e = rw (e, advance) (omega arith)
          go (some y) e = go' y e (ok y) refl

      same : (s t : State) → t.pos ≡ s.pos → ((advance text es ok t).0 ≡ (advance text es ok s).0) × ((advance text es ok t).1.pos ≡ (advance text es ok s).1.pos)
      same s t p = go (get_elem? es s.pos) refl
        where
          go' : (y : Entry) → get_elem? es s.pos ≡ some y → get_elem? es t.pos ≡ some y → (x : Bool) → ok y ≡ x → ((advance text es ok t).0 ≡ (advance text es ok s).0) × ((advance text es ok t).1.pos ≡ (advance text es ok s).1.pos)
          go' y e e' true k = rw (e, e', advance, k) (refl, ap suc p)
          go' y e e' false k = rw (e, e', advance, k) (refl, p)

          go : (x : Option Entry) → get_elem? es s.pos ≡ x → ((advance text es ok t).0 ≡ (advance text es ok s).0) × ((advance text es ok t).1.pos ≡ (advance text es ok s).1.pos)
          go none e = let e' : get_elem? es t.pos ≡ none = rw p e in rw (e, e', advance) (refl, p)
          go (some y) e = let e' : get_elem? es t.pos ≡ some y = rw p e in go' y e e' (ok y) refl

  taking : (ok : Entry → Bool) → Plays (advance text es ok)
  taking ok = quiet (advance-quiet ok)

  advance-some : (ok : Entry → Bool) (s : State) (y : Entry) → (advance text es ok s).0 ≡ some y → ((advance text es ok s).1.pos ≡ suc s.pos) × (get_elem? es s.pos ≡ some y)
  unfolding advance
  advance-some ok s y = go (get_elem? es s.pos) refl
    where
      no_some : none ≡ some y → {X : Type 0} → X
      no_some e = let z : ◌≡◌ {A = ℕ} 0 1 = cc in absurd (omega arith)

      go' : (z : Entry) → (x : Bool) → ok z ≡ x → get_elem? es s.pos ≡ some z → (advance text es ok s).0 ≡ some y → ((advance text es ok s).1.pos ≡ suc s.pos) × (get_elem? es s.pos ≡ some y)
      go' z true k e = rw (e, advance, k) λ h. (refl, h)
      go' z false k e = rw (e, advance, k) λ h. no_some h

      go : (x : Option Entry) → get_elem? es s.pos ≡ x → (advance text es ok s).0 ≡ some y → ((advance text es ok s).1.pos ≡ suc s.pos) × (get_elem? es s.pos ≡ some y)
      go none e = rw (e, advance) λ h. no_some h
      go (some z) e = go' z (ok z) refl e

  bind : {A B : Type 0} {m : M A} {f : A → M B} → Plays m → ((x : A) → Plays (f x)) → Plays (m >>= f)
  unfolding ◌>>=◌
  bind {m} {f} h k = record {
    run = λ s l.
        let p = h.run s l in
        let q = (k (m s).0).run (m s).1 p.long in
        record {
          long = q.long;
          on = omega (arith, p.on, q.on);
          kept = λ j a b. q.kept j a (omega (arith, p.on)) ∙ p.kept j a b;
          again = λ t e same.
              let u = p.again t e (λ j a b. same j a (omega (arith, q.on)) ∙ q.kept j (omega arith) b) in
              let v = q.again (m t).1 u.place (λ j a b. ap (λ (x : List Bool). get_or x j false) u.marks ∙ same j (omega (arith, p.on)) b) in
              rw u.value (record { value = v.value; place = v.place; marks = v.marks ∙ u.marks });
        };
  }

  both_ways : {A : Type 0} (x : Bool) {m n : M A} → Plays m → Plays n → Plays (when x then m else n)
  unfolding when◌then◌else◌
  both_ways true h k = h
  both_ways false h k = k

  -- The same behind the token at i, which may set marks of its own.
  pub record PlayedAt {A : Type 0} (i : ℕ) (m : M A) (s : State) (r : A × State) : Type 0 where
    pub long : Long r.1
    pub on : suc i ≤ r.1.pos
    pub kept : Alike 0 (3 * i) r.1.marks s.marks
    pub again : (t : State) → t.pos ≡ suc i → Alike (3 * i) (3 * r.1.pos) t.marks r.1.marks → Again t r (m t)

  pub record PlaysAt {A : Type 0} (i : ℕ) (m : M A) : Type 0 where
    pub run : (s : State) → Long s → s.pos ≡ suc i → PlayedAt i m s (m s)

  -- The same of an attempt, which sets the mark k at most.
  pub record PlayedBy {A : Type 0} (k : Mark) (i : ℕ) (m : M A) (s : State) (r : A × State) : Type 0 where
    pub long : Long r.1
    pub on : suc i ≤ r.1.pos
    pub kept : (q : ℕ) → q < 3 * suc i → (q ≡ slot k i → ⊥) → get_or r.1.marks q false ≡ get_or s.marks q false
    pub again : (t : State) → t.pos ≡ suc i → get_or t.marks (slot k i) false ≡ get_or r.1.marks (slot k i) false → Alike (3 * suc i) (3 * r.1.pos) t.marks r.1.marks → Again t r (m t)

  pub record PlaysBy {A : Type 0} (k : Mark) (i : ℕ) (m : M A) : Type 0 where
    pub run : (s : State) → Long s → s.pos ≡ suc i → PlayedBy k i m s (m s)

  at_once : {A : Type 0} {i : ℕ} {m : M A} → Plays m → PlaysAt i m
  at_once {i = i} h = record {
    run = λ s l a. let p = h.run s l in record {
      long = p.long;
      on = omega (arith, p.on);
      kept = λ j x y. p.kept j x (omega arith);
      again = λ t e same. p.again t (e ∙ sym a) (λ j x y. same j (omega arith) y);
    };
  }

  by_once : {A : Type 0} (k : Mark) (i : ℕ) {m : M A} → Plays m → PlaysBy k i m
  by_once k i h = record {
    run = λ s l a. let p = h.run s l in record {
      long = p.long;
      on = omega (arith, p.on);
      kept = λ j x y. p.kept j (omega arith) (omega arith);
      again = λ t e own same. p.again t (e ∙ sym a) (λ j x y. same j (omega arith) y);
    };
  }

  abbrev settle : Mark → ℕ → State → Try → M (Option Node)
  settle k i o t = elim t [ made x ↦ return (some x) | lost ↦ give_up text es true k i o | nought ↦ return none ]

  abbrev tried : Mark → ℕ → M Try → State → Bool → Option Node × State
  tried k i body s x = (when x then return none else (body >>= settle k i s)) s

  module _ (k : Mark) (i : ℕ) (within : i < length es) (body : M Try) (plays : Plays body) where
    attempt-is : (t : State) (b : Bool) → get_or t.marks (slot k i) false ≡ b → attempt text es true k i body t ≡ tried k i body t b
    unfolding attempt failed ◌>>=◌ current
    attempt-is t b e = ap (λ (x : Bool). tried k i body t x) e

    attempt-known : (t : State) → get_or t.marks (slot k i) false ≡ true → attempt text es true k i body t ≡ (none, t)
    unfolding when◌then◌else◌ return
    attempt-known t e = attempt-is t true e

    attempt-new : (t : State) → get_or t.marks (slot k i) false ≡ false → (x : Try) → (body t).0 ≡ x → attempt text es true k i body t ≡ settle k i t x (body t).1
    unfolding when◌then◌else◌ ◌>>=◌
    attempt-new t e x h = attempt-is t false e ∙ ap (λ (y : Try). settle k i t y (body t).1) h

    module _ (s : State) (l : Long s) (a : s.pos ≡ suc i) where
      new : get_or s.marks (slot k i) false ≡ false → (x : Try) → (body s).0 ≡ x → PlayedBy k i (attempt text es true k i body) s (settle k i s x (body s).1)
      unfolding return give_up
      new u (made x) e =
          let p = plays.run s l in
          let own : get_or (body s).1.marks (slot k i) false ≡ false = p.kept (slot k i) (omega arith) (omega (arith, slot-low k i)) ∙ u in
          record {
            long = p.long;
            on = omega (arith, p.on);
            kept = λ q b d. p.kept q (omega arith) (omega arith);
            again = λ t c h same.
                let v = p.again t (c ∙ sym a) (λ j b d. same j (omega arith) d) in
                rw (attempt-new t (h ∙ own) (made x) (v.value ∙ e)) (record { value = refl; place = v.place; marks = v.marks });
          }
      new u nought e =
          let p = plays.run s l in
          let own : get_or (body s).1.marks (slot k i) false ≡ false = p.kept (slot k i) (omega arith) (omega (arith, slot-low k i)) ∙ u in
          record {
            long = p.long;
            on = omega (arith, p.on);
            kept = λ q b d. p.kept q (omega arith) (omega arith);
            again = λ t c h same.
                let v = p.again t (c ∙ sym a) (λ j b d. same j (omega arith) d) in
                rw (attempt-new t (h ∙ own) nought (v.value ∙ e)) (record { value = refl; place = v.place; marks = v.marks });
          }
      new u lost e =
          let p = plays.run s l in
          let short : slot k i < length (body s).1.marks = omega (arith, p.long, slot-low k i) in
          record {
            long = length-set (body s).1.marks (slot k i) true ∙ p.long;
            on = omega arith;
            kept = λ q b d. get_or-set_other (body s).1.marks (slot k i) q true false d ∙ p.kept q (omega arith) (omega arith);
            again = λ t c h same.
                rw (attempt-known t (h ∙ get_or-set_same (body s).1.marks (slot k i) true false short)) (record { value = refl; place = c ∙ sym a; marks = refl });
          }

      go : (x : Bool) → get_or s.marks (slot k i) false ≡ x → PlayedBy k i (attempt text es true k i body) s (attempt text es true k i body s)
      go true e = rw (attempt-known s e) (record {
        long = l;
        on = omega arith;
        kept = λ q b d. refl;
        again = λ t c h same. rw (attempt-known t (h ∙ e)) (record { value = refl; place = c ∙ sym a; marks = refl });
      })
      go false e = rw (attempt-new s e (body s).0 refl) (new e (body s).0 refl)

    attempt-plays : PlaysBy k i (attempt text es true k i body)
    attempt-plays = record { run = λ s l a. go s l a (get_or s.marks (slot k i) false) refl }

  record Good (R : Readers) : Type 0 where
    simple : (stop : Stop) (sg : Bool) → Plays (R.simple stop sg)
    script_func : (stop : Stop) (sg : Bool) → Plays (R.script_func stop sg)

  module _ (R : Readers) (good : Good R) where
    argument-plays : Plays (argument text es true R)
    unfolding argument
    argument-plays = bind (good.simple Stop.none true) λ a. ret _

    next_script-plays : Plays (next_script text es true R)
    unfolding next_script
    next_script-plays =
        bind (taking marks_script) (elim [
          | none ↦ ret _
          | some e ↦ both_ways _ (bind argument-plays λ a. ret _)
              (bind argument-plays λ a. bind (taking (is token.Super)) (elim [
                | none ↦ ret _
                | some e' ↦ bind argument-plays λ b. ret _
              ]))
        ])

    next_script_func-plays : (stop : Stop) (sg : Bool) → Plays (next_script_func text es true R stop sg)
    unfolding next_script_func
    next_script_func-plays stop sg =
        bind (taking (heads sg)) (elim [
          | none ↦ bind (good.simple stop sg) (elim [
            | none ↦ ret _
            | some x ↦ bind next_script-plays λ q. ret _
          ])
          | some e ↦ both_ways _ (bind next_script-plays λ q. bind (good.script_func Stop.none true) λ a. ret _)
              (bind (good.script_func stop true) λ a. ret _)
        ])

    next_intermediate-plays : (stop : Stop) (sg : Bool) → Plays (next_intermediate text es true R stop sg)
    unfolding next_intermediate
    next_intermediate-plays stop sg =
        bind (good.script_func stop sg) (elim [
          | none ↦ ret _
          | some x ↦ bind (taking (is token.Frac)) (elim [
            | none ↦ ret _
            | some e ↦ bind (good.script_func Stop.none true) λ b. ret _
          ])
        ])

    intermediates-plays : (f : ℕ) (until : Option Entry) (stop : Stop) (before : Option Node) → Plays (intermediates text es true R f until stop before)
    unfolding intermediates
    intermediates-plays zero until stop before = ret _
    intermediates-plays (suc f) until stop before =
        bind at_here λ p.
        both_ways _ (ret _)
        (bind (next_intermediate-plays stop (prefixes before)) (elim [
          | none ↦ ret _
          | some x ↦ bind (intermediates-plays f until stop (some x)) λ l. ret _
        ]))

    row_cells-plays : (f : ℕ) → Plays (row_cells text es true R f)
    unfolding row_cells
    row_cells-plays zero = ret _
    row_cells-plays (suc f) =
        bind (intermediates-plays _ none Stop.sep none) λ l.
        bind (taking any) (elim [
          | none ↦ ret _
          | some e ↦ both_ways _
              (bind (row_cells-plays f) (elim [ none ↦ ret _ | some m ↦ ret _ ]))
              (both_ways _ (ret _) (ret _))
        ])

    next_matrix_row-plays : Plays (next_matrix_row text es true R)
    unfolding next_matrix_row
    next_matrix_row-plays =
        bind at_here λ i. bind (taking any) (elim [
          | none ↦ ret _
          | some o ↦ both_ways _ (bind (row_cells-plays _) (elim [ none ↦ ret _ | some m ↦ noted i _ ])) (ret _)
        ])

    more_rows-plays : (f : ℕ) (h : Row) → Plays (more_rows text es true R f h)
    unfolding more_rows
    more_rows-plays zero h = ret _
    more_rows-plays (suc f) h =
        bind at_here λ p.
        both_ways _
        (bind (taking any) λ t. bind next_matrix_row-plays (elim [
          | none ↦ ret _
          | some r ↦ both_ways _ (bind (more_rows-plays f h) (elim [ none ↦ ret _ | some m ↦ ret _ ])) (ret _)
        ]))
        (ret _)

    next_matrix_rows-plays : Plays (next_matrix_rows text es true R)
    unfolding next_matrix_rows
    next_matrix_rows-plays =
        bind next_matrix_row-plays (elim [
          | none ↦ ret _
          | some h ↦ both_ways _ (bind (more_rows-plays _ h) (elim [ none ↦ ret _ | some m ↦ ret _ ])) (ret _)
        ])

    matrix_body-plays : (o : Entry) (i : ℕ) → Plays (matrix_body text es true R o i)
    unfolding matrix_body
    matrix_body-plays o i =
        bind next_matrix_rows-plays (elim [
          | none ↦ ret _
          | some r ↦ bind at_here λ p.
              both_ways _ (bind (taking any) (elim [ none ↦ ret _ | some c ↦ noted i _ ])) (ret _)
        ])

    bar_body-plays : (o : Entry) (i : ℕ) (stop : Stop) → Plays (bar_body text es true R o i stop)
    unfolding bar_body
    bar_body-plays o i stop =
        bind (next_intermediate-plays stop true) (elim [
          | none ↦ ret _
          | some x ↦ bind (intermediates-plays _ (some o) stop (some x)) λ l. bind at_here λ p.
              both_ways _ (bind (taking any) (elim [ none ↦ ret _ | some c ↦ noted i _ ])) (ret _)
        ])

    next_open_group-plays : (o : Entry) (i : ℕ) → Plays (next_open_group text es true R o i)
    unfolding next_open_group
    next_open_group-plays o i =
        bind (intermediates-plays _ none Stop.none none) λ l.
        bind (taking (is token.CloseBracket)) (elim [ none ↦ ret _ | some c ↦ noted i _ ])

  -- A matrix is made or lost, and one that is lost leaves the reading where it was.
  record Never (m : M Try) : Type 0 where
    never : (s : State) → (m s).0 ≡ nought → ⊥

  never-bind : {A : Type 0} (m : M A) {f : A → M Try} → ((x : A) → Never (f x)) → Never (m >>= f)
  unfolding ◌>>=◌
  never-bind m k = record { never = λ s. (k (m s).0).never (m s).1 }

  never-if : (x : Bool) {m n : M Try} → Never m → Never n → Never (when x then m else n)
  unfolding when◌then◌else◌
  never-if true h k = h
  never-if false h k = k

  never-lost : Never (return lost)
  unfolding return
  never-lost = record { never = λ s e. let z : ◌≡◌ {A = ℕ} 0 1 = cc in omega arith }

  never-made : (i : ℕ) (x : Node) → Never (closed i (made x))
  unfolding closed
  never-made i x = record { never = λ s e. let z : ◌≡◌ {A = ℕ} 0 1 = cc in omega arith }

  matrix-never : (R : Readers) (o : Entry) (i : ℕ) → Never (matrix_body text es true R o i)
  unfolding matrix_body
  matrix-never R o i =
      never-bind _ (elim [
        | none ↦ never-lost
        | some r ↦ never-bind _ λ p. never-if _ (never-bind _ (elim [ none ↦ never-lost | some c ↦ never-made i _ ])) never-lost
      ])

  module _ (R : Readers) (good : Good R) (i : ℕ) (o : Entry) (within : i < length es) where
    try_matrix-plays : PlaysBy matrix_mark i (try_matrix text es true R o i)
    unfolding try_matrix when◌then◌else◌
    try_matrix-plays = go (could_be_matrix text es o i)
      where
        go : (x : Bool) → PlaysBy matrix_mark i (when x then attempt text es true matrix_mark i (matrix_body text es true R o i) else return none)
        go true = attempt-plays matrix_mark i within _ (matrix_body-plays R good o i)
        go false = by_once matrix_mark i (ret _)

    back_at : (s : State) → s.pos ≡ suc i → (x : Bool) → ((when x then attempt text es true matrix_mark i (matrix_body text es true R o i) else return none) s).0 ≡ none →
        ((when x then attempt text es true matrix_mark i (matrix_body text es true R o i) else return none) s).1.pos ≡ suc i
    unfolding when◌then◌else◌ return attempt failed ◌>>=◌ give_up current
    back_at s a false e = a
    back_at s a true e = go (get_or s.marks (slot matrix_mark i) false) e
      where
        end-at : (t : Try) → (matrix_body text es true R o i s).0 ≡ t → ((settle matrix_mark i s t (matrix_body text es true R o i s).1).0 ≡ none) → (settle matrix_mark i s t (matrix_body text es true R o i s).1).1.pos ≡ suc i
        end-at (made x) f e = let z : ◌≡◌ {A = ℕ} 0 1 = cc in omega arith
        end-at lost f e = a
        end-at nought f e = absurd ((matrix-never R o i).never s f)

        go : (x : Bool) → ((when x then return none else (matrix_body text es true R o i >>= settle matrix_mark i s)) s).0 ≡ none → ((when x then return none else (matrix_body text es true R o i >>= settle matrix_mark i s)) s).1.pos ≡ suc i
        go true e = a
        go false e = end-at (matrix_body text es true R o i s).0 refl e

    try_matrix-back : (s : State) → s.pos ≡ suc i → (try_matrix text es true R o i s).0 ≡ none → (try_matrix text es true R o i s).1.pos ≡ suc i
    unfolding try_matrix
    try_matrix-back s a e = back_at s a (could_be_matrix text es o i) e

    abbrev after : M Node → Option Node → M Node
    after rest m = elim m [ some x ↦ return x | none ↦ rest ]

    -- A matrix, or else what sets no mark of a matrix here.
    then-plays : (k : Mark) → (slot matrix_mark i ≡ slot k i → ⊥) → (rest : M Node) → PlaysBy k i rest → PlaysAt i (try_matrix text es true R o i >>= after rest)
    unfolding ◌>>=◌ return
    then-plays k apart rest plays = record { run = λ s l a. go s l a (try_matrix-plays.run s l a) (try_matrix text es true R o i s).0 refl }
      where
        go : (s : State) → Long s → s.pos ≡ suc i → PlayedBy matrix_mark i (try_matrix text es true R o i) s (try_matrix text es true R o i s) →
            (x : Option Node) → (try_matrix text es true R o i s).0 ≡ x →
            PlayedAt i (try_matrix text es true R o i >>= after rest) s (after rest x (try_matrix text es true R o i s).1)
        go s l a p (some v) e = record {
          long = p.long;
          on = p.on;
          kept = λ q x y. p.kept q (omega arith) (λ z. omega (arith, z, slot-high matrix_mark i));
          again = λ t c same.
              let u = p.again t c (same (slot matrix_mark i) (slot-high matrix_mark i) (omega (arith, slot-low matrix_mark i, p.on))) (λ j x y. same j (omega arith) y) in
              rw (u.value ∙ e) (record { value = refl; place = u.place; marks = u.marks });
        }
        go s l a p none e =
            let b = try_matrix-back s a e in
            let r = plays.run (try_matrix text es true R o i s).1 p.long b in
            record {
              long = r.long;
              on = r.on;
              kept = λ q x y. r.kept q (omega arith) (λ z. omega (arith, z, slot-high k i)) ∙ p.kept q (omega arith) (λ z. omega (arith, z, slot-high matrix_mark i));
              again = λ t c same.
                  let u = p.again t c (same (slot matrix_mark i) (slot-high matrix_mark i) (omega (arith, slot-low matrix_mark i, r.on)) ∙ r.kept (slot matrix_mark i) (slot-low matrix_mark i) apart) (λ j x y. absurd (omega (arith, b))) in
                  let w = ap (λ (z : List Bool). get_or z (slot k i) false) u.marks ∙ same (slot k i) (slot-high k i) (omega (arith, slot-low k i, r.on)) in
                  let v = r.again (try_matrix text es true R o i t).1 (u.place ∙ b) w (λ j x y. ap (λ (z : List Bool). get_or z j false) u.marks ∙ same j (omega arith) y) in
                  rw (u.value ∙ e) (record { value = v.value; place = v.place; marks = v.marks ∙ u.marks });
            }

    next_bracket-plays : PlaysAt i (next_bracket text es true R o i)
    unfolding next_bracket
    next_bracket-plays = then-plays (open_mark Stop.none) (open_apart Stop.none i) _ (by_once (open_mark Stop.none) i (next_open_group-plays R good o i))

    bars-plays : (stop : Stop) → PlaysBy (open_mark stop) i (attempt text es true (open_mark stop) i (bar_body text es true R o i stop) >>= λ g. return (or_glyph o g))
    unfolding ◌>>=◌ return
    bars-plays stop = record {
      run = λ s l a. let p = (attempt-plays (open_mark stop) i within _ (bar_body-plays R good o i stop)).run s l a in record {
        long = p.long;
        on = p.on;
        kept = p.kept;
        again = λ t c own same. let u = p.again t c own same in record { value = ap (or_glyph o) u.value; place = u.place; marks = u.marks };
      };
    }

    next_open_close_group-plays : (stop : Stop) → PlaysAt i (next_open_close_group text es true R o i stop)
    unfolding next_open_close_group
    next_open_close_group-plays stop = then-plays (open_mark stop) (open_apart stop i) _ (bars-plays stop)

  then_some : {i : ℕ} {m : M Node} → PlaysAt i m → PlaysAt i (m >>= λ a. return (some a))
  unfolding ◌>>=◌ return
  then_some h = record {
    run = λ s l a. let p = h.run s l a in record {
      long = p.long;
      on = p.on;
      kept = p.kept;
      again = λ t c same. let u = p.again t c same in record { value = ap some u.value; place = u.place; marks = u.marks };
    };
  }

  module _ (R : Readers) (good : Good R) (i : ℕ) where
    begun-plays : (k : Token) (e : Entry) → i < length es → (stop : Stop) (sg : Bool) → PlaysAt i (begun text es true R k e i stop sg)
    unfolding begun
    begun-plays token.Number e w stop sg = at_once (ret _)
    begun-plays token.Text e w stop sg = at_once (ret _)
    begun-plays token.Ident e w stop sg = at_once (ret _)
    begun-plays token.Operator e w stop sg = at_once (ret _)
    begun-plays (token.Symbol c) e w stop sg = at_once (ret _)
    begun-plays token.Sign e w stop true = at_once (bind (good.simple stop true) λ a. ret _)
    begun-plays token.Sign e w stop false = at_once (ret _)
    begun-plays token.Unary e w stop sg = at_once (bind (argument-plays R good) λ a. ret _)
    begun-plays token.Function e w stop sg = at_once (bind (argument-plays R good) λ a. ret _)
    begun-plays token.Binary e w stop sg = at_once (bind (argument-plays R good) λ a. bind (argument-plays R good) λ b. ret _)
    begun-plays token.OpenBracket e w stop sg = then_some (next_bracket-plays R good i e w)
    begun-plays token.OpenCloseBracket e w stop sg = then_some (next_open_close_group-plays R good i e w stop)
    begun-plays token.Sep e w stop sg = at_once (ret _)
    begun-plays token.Frac e w stop sg = at_once (ret _)
    begun-plays token.Super e w stop sg = at_once (ret _)
    begun-plays token.Sub e w stop sg = at_once (ret _)
    begun-plays token.CloseBracket e w stop sg = at_once (ret _)
    begun-plays token.Space e w stop sg = at_once (ret _)

  module _ (R : Readers) (good : Good R) (stop : Stop) (sg : Bool) where
    abbrev going : ℕ → Option Entry → M (Option Node)
    going i x = elim x [ none ↦ return none | some e ↦ begun text es true R e.token e i stop sg ]

    next_simple-plays : Plays (next_simple text es true R stop sg)
    unfolding next_simple ◌>>=◌ here return
    next_simple-plays = record { run = λ s l. go s l (advance text es (begins stop) s).0 refl }
      where
        q : Quiet (advance text es (begins stop))
        q = advance-quiet (begins stop)

        go : (s : State) → Long s → (x : Option Entry) → (advance text es (begins stop) s).0 ≡ x → Played (next_simple text es true R stop sg) s (going s.pos x (advance text es (begins stop) s).1)
        go s l none e = record {
          long = ap length (q.silent s) ∙ l;
          on = q.onward s;
          kept = λ j a b. ap (λ (x : List Bool). get_or x j false) (q.silent s);
          again = λ t c same. subst (λ (x : Option Entry). Again t (none, (advance text es (begins stop) s).1) (going t.pos x (advance text es (begins stop) t).1)) (sym ((q.same s t c).0 ∙ e)) (record { value = refl; place = (q.same s t c).1; marks = q.silent t });
        }
        go s l (some y) e =
            let h = advance-some (begins stop) s y e in
            let p = (begun-plays R good s.pos y.token y (inside_of es s.pos y h.1) stop sg).run (advance text es (begins stop) s).1 (ap length (q.silent s) ∙ l) h.0 in
            record {
              long = p.long;
              on = omega (arith, p.on);
              kept = λ j a b. p.kept j a b ∙ ap (λ (x : List Bool). get_or x j false) (q.silent s);
              again = λ t c same.
                  let u = p.again (advance text es (begins stop) t).1 ((q.same s t c).1 ∙ h.0) (λ j a b. ap (λ (x : List Bool). get_or x j false) (q.silent t) ∙ same j a b) in
                  subst (λ (x : Option Entry). Again t (going s.pos (some y) (advance text es (begins stop) s).1) (going t.pos x (advance text es (begins stop) t).1)) (sym ((q.same s t c).0 ∙ e))
                  (subst (λ (i : ℕ). Again t (going s.pos (some y) (advance text es (begins stop) s).1) (going i (some y) (advance text es (begins stop) t).1)) (sym c)
                  (record { value = u.value; place = u.place; marks = u.marks ∙ q.silent t }));
            }

  level-good : (r : ℕ) → Good (level text es true r)
  unfolding level step
  level-good zero = record { simple = λ stop sg. ret _; script_func = λ stop sg. ret _ }
  level-good (suc r) = record {
    simple = λ stop sg. next_simple-plays (level text es true r) (level-good r) stop sg;
    script_func = λ stop sg. next_script_func-plays (level text es true r) (level-good r) stop sg;
  }

  parse-plays : (f wraps : ℕ) (acc : Nodes) → Plays (parse text es true f wraps acc)
  unfolding parse
  parse-plays zero wraps acc = ret _
  parse-plays (suc f) zero acc =
      bind (intermediates-plays (level text es true 256) (level-good 256) _ none Stop.none _) λ l.
      bind (taking (is token.CloseBracket)) (elim [
        | none ↦ ret _
        | some c ↦ parse-plays f zero _
      ])
  parse-plays (suc f) (suc w) acc =
      bind (intermediates-plays (level text es true 256) (level-good 256) _ none Stop.none _) λ l.
      bind (taking (is token.CloseBracket)) (elim [
        | none ↦ ret _
        | some c ↦ parse-plays f w _
      ])

  blank-long : (n : ℕ) → length (replicate n false) ≡ n
  blank-long zero = refl
  blank-long (suc n) = ap suc (blank-long n)

  -- The whole reading keeps three marks for each entry.
  pub marks-long : length (parse_entries text es true).1.marks ≡ 3 * length es
  unfolding parse_entries
  marks-long = ((parse-plays (suc (length es)) 256 end).run (start text es true) (blank-long (3 * length es))).long

  -- The reading from the marks that the reading leaves, whatever its takes and closers: the same tree, and no mark is new.
  pub replay : (t : State) → t.pos ≡ 0 → t.marks ≡ (parse_entries text es true).1.marks →
      ((parse text es true (suc (length es)) 256 end t).0 ≡ (parse_entries text es true).0)
      × ((parse text es true (suc (length es)) 256 end t).1.marks ≡ t.marks)
  unfolding parse_entries
  replay t e m =
      let p = (parse-plays (suc (length es)) 256 end).run (start text es true) (blank-long (3 * length es)) in
      let u = p.again t e (λ j a b. ap (λ (x : List Bool). get_or x j false) m) in
      (u.value, u.marks)
