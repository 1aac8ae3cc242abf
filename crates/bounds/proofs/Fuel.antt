-- The loops of the definition have fuel enough: each turn moves over a token, so from as many turns as there are entries left, and
-- one, more turns change nothing.
use Prim.Native.Nat.{ℕ, zero, suc, ◌+◌, ◌≤◌}
use mathlib.Core.Path.{◌≡◌, refl, ap, ◌∙◌}
use mathlib.Core.List.{List, [], ◌∷◌}
use mathlib.Core.Option.{Option, none, some}
use mathlib.Core.Bool.{Bool, true, false, false≢true}
use native.Mathlib.Omega.{arith}
use lib.ListN.{length, get_elem?}
use Rattle.tokens.specs.declared.token.Token.TheVariants as token
use Rattle.tree.specs.Tree.{nowhere, Head, Node, node, Nodes, end, ◌▸◌, ◌⧺◌}
use Rattle.reading.specs.Stop.{Stop}
use Rattle.reading.specs.Entries.{Entry, is}
use Rattle.reading.specs.Reading.{State, M, return, ◌>>=◌, here, when◌then◌else◌, Readers, Row, any, advance, at_open_close, is_at, alike, next_intermediate, intermediates, next_expression, row_cells, next_matrix_row, more_rows, prefixes, spaced, level, parse, last_of, unscripted}
use Rattle.bounds.specs.Peak.{CountedReaders, level-counted}
use Rattle.bounds.proofs.Room.{Room, opt, level-room, advance-fits, next_intermediate-fits, intermediates-fits, next_matrix_row-fits}

same-bind : {A B : Type 0} (m n : M A) (f : A → M B) (s : State) → m s ≡ n s → (m >>= f) s ≡ (n >>= f) s
unfolding ◌>>=◌
same-bind {A} m n f s e = ap (λ (r : A × State). f r.0 r.1) e

same_then : {A : Type 0} (b : Bool) (m n k : M A) (s : State) → m s ≡ n s → (when b then m else k) s ≡ (when b then n else k) s
unfolding when◌then◌else◌
same_then true m n k s e = e
same_then false m n k s e = refl

-- What holds of one turn more holds of any number more.
turns : {A : Type 0} (loop : ℕ → A) (f k : ℕ) → ((g : ℕ) → f ≤ g → loop (suc g) ≡ loop g) → loop (k + f) ≡ loop f
turns loop f zero h = let z : 0 + f ≡ f = omega arith in ap loop z
turns loop f (suc k) h =
    let z : suc k + f ≡ suc (k + f) = omega arith in
    ap loop z ∙ h (k + f) (omega arith) ∙ turns loop f k h

module _ (text : List ℕ) (es : List Entry) (remember : Bool) (R : Readers) (counted : CountedReaders text es remember R)
    (room : Room text es remember R counted) where
  abbrev Enough : ℕ → State → Type 0
  Enough f s = (s.pos ≤ length es) × (suc (length es) ≤ f + s.pos)

  -- extend_intermediates
  module _ (until : Option Entry) (stop : Stop) where
    intermediates-turn : (f : ℕ) (before : Option Node) (s : State) → Enough f s →
        intermediates text es remember R (suc f) until stop before s ≡ intermediates text es remember R f until stop before s
    unfolding intermediates ◌>>=◌ here when◌then◌else◌
    intermediates-turn zero before s enough = absurd (omega (arith, enough.0, enough.1))
    intermediates-turn (suc f) before s enough =
        go (at_open_close text es until s.pos) (λ b t. intermediates-turn f b t)
      where
        item : M (Option Node)
        item = next_intermediate text es remember R stop (prefixes before)

        loop : ℕ → Option Node → M Nodes
        loop g b = intermediates text es remember R g until stop b

        joined : Node → Nodes → M Nodes
        joined x l = return (spaced before (get_elem? es s.pos) x l)

        after : ℕ → Option Node → M Nodes
        after g a = elim a [ none ↦ return end | some x ↦ loop g (some x) >>= joined x ]

        Again : Type 0
        Again = (b : Option Node) (t : State) → Enough f t →
            intermediates text es remember R (suc f) until stop b t ≡ intermediates text es remember R f until stop b t

        moved : (x : Node) → (item s).0 ≡ some x → Enough f (item s).1
        moved x e =
            let fits = next_intermediate-fits text es remember R counted room stop (prefixes before) in
            (fits.stays s enough.0, omega (arith, fits.run s, ap (opt 7 14) e, enough.1))

        next : Again → (a : Option Node) → (item s).0 ≡ a → after (suc f) a (item s).1 ≡ after f a (item s).1
        next again none e = refl
        next again (some x) e = same-bind (loop (suc f) (some x)) (loop f (some x)) (joined x) (item s).1 (again (some x) (item s).1 (moved x e))

        go : (b : Bool) → Again → (when b then return end else (item >>= after (suc f))) s ≡ (when b then return end else (item >>= after f)) s
        go true again = refl
        go false again = next again (item s).0 refl

  -- next_matrix_row: a turn takes a cell and the token behind it
  row_cells-turn : (f : ℕ) (s : State) → Enough f s → row_cells text es remember R (suc f) s ≡ row_cells text es remember R f s
  unfolding row_cells ◌>>=◌ when◌then◌else◌
  row_cells-turn zero s enough = absurd (omega (arith, enough.0, enough.1))
  row_cells-turn (suc f) s enough = next (λ t. row_cells-turn f t) taken.0 refl
    where
      read : Nodes × State
      read = next_expression text es remember R Stop.sep s

      taken : Option Entry × State
      taken = advance text es any read.1

      loop : ℕ → M (Option (Nodes × Entry))
      loop g = row_cells text es remember R g

      joined : Option (Nodes × Entry) → M (Option (Nodes × Entry))
      joined q = elim q [ none ↦ return none | some m ↦ return (some (node Head.cell read.0 ▸ m.0, m.1)) ]

      closed : Entry → M (Option (Nodes × Entry))
      closed e = when is token.CloseBracket e then return (some (node Head.cell read.0 ▸ end, e)) else return none

      after : ℕ → Option Entry → M (Option (Nodes × Entry))
      after g t = elim t [ none ↦ return none | some e ↦ when is token.Sep e then (loop g >>= joined) else closed e ]

      moved : (e : Entry) → taken.0 ≡ some e → Enough f taken.1
      moved e k =
          let cell = intermediates-fits text es remember R counted room (suc (length es)) none Stop.sep none in
          let step = advance-fits text es remember any in (
            step.stays read.1 (cell.stays s enough.0),
            omega (arith, cell.run s, step.run read.1, ap (opt 0 32) k, enough.1),
          )

      next : ((t : State) → Enough f t → row_cells text es remember R (suc f) t ≡ row_cells text es remember R f t) →
          (t : Option Entry) → taken.0 ≡ t → after (suc f) t taken.1 ≡ after f t taken.1
      next again none k = refl
      next again (some e) k =
          same_then (is token.Sep e) (loop (suc f) >>= joined) (loop f >>= joined) (closed e) taken.1
          (same-bind (loop (suc f)) (loop f) joined taken.1 (again taken.1 (moved e k)))

  -- next_matrix_rows: a turn takes a Sep and a row
  module _ (h : Row) where
    sep-taken : (s : State) → is_at text es (is token.Sep) s.pos ≡ true → (advance text es any s).1.pos ≡ suc s.pos
    unfolding is_at advance any
    sep-taken s k = go (get_elem? es s.pos) refl
      where
        go : (x : Option Entry) → get_elem? es s.pos ≡ x → (advance text es any s).1.pos ≡ suc s.pos
        go none e = absurd (false≢true (rw (e, is_at) at k))
        go (some y) e = rw (e, advance)

    more_rows-turn : (f : ℕ) (s : State) → Enough f s → more_rows text es remember R (suc f) h s ≡ more_rows text es remember R f h s
    unfolding more_rows ◌>>=◌ when◌then◌else◌ here
    more_rows-turn zero s enough = absurd (omega (arith, enough.0, enough.1))
    more_rows-turn (suc f) s enough = go (is_at text es (is token.Sep) s.pos) refl (λ t. more_rows-turn f t)
      where
        row : Option Row × State
        row = next_matrix_row text es remember R (advance text es any s).1

        loop : ℕ → M (Option (List Nodes))
        loop g = more_rows text es remember R g h

        joined : Row → Option (List Nodes) → M (Option (List Nodes))
        joined r l = elim l [ none ↦ return none | some m ↦ return (some (r.cells ∷ m)) ]

        after : ℕ → Option Row → M (Option (List Nodes))
        after g q = elim q [ none ↦ return none | some r ↦ when alike text es h r then (loop g >>= joined r) else return none ]

        Again : Type 0
        Again = (t : State) → Enough f t → more_rows text es remember R (suc f) h t ≡ more_rows text es remember R f h t

        moved : is_at text es (is token.Sep) s.pos ≡ true → Enough f row.1
        moved k =
            let step = advance-fits text es remember any in
            let fits = next_matrix_row-fits text es remember R counted room in (
              fits.stays (advance text es any s).1 (step.stays s enough.0),
              omega (arith, sep-taken s k, fits.run (advance text es any s).1, enough.1),
            )

        next : Enough f row.1 → Again → (q : Option Row) → after (suc f) q row.1 ≡ after f q row.1
        next near again none = refl
        next near again (some r) =
            same_then (alike text es h r) (loop (suc f) >>= joined r) (loop f >>= joined r) (return none) row.1
            (same-bind (loop (suc f)) (loop f) (joined r) row.1 (again row.1 near))

        go : (b : Bool) → is_at text es (is token.Sep) s.pos ≡ b → Again →
            (when b then (advance text es any >>= λ t. next_matrix_row text es remember R >>= after (suc f)) else return (some [])) s
            ≡ (when b then (advance text es any >>= λ t. next_matrix_row text es remember R >>= after f) else return (some [])) s
        go true k again = next (moved k) again row.0
        go false k again = refl

  -- From enough turns on, k more change nothing.
  pub intermediates-enough : (until : Option Entry) (stop : Stop) (f k : ℕ) (before : Option Node) (s : State) →
      s.pos ≤ length es → suc (length es) ≤ f + s.pos →
      intermediates text es remember R (k + f) until stop before s ≡ intermediates text es remember R f until stop before s
  intermediates-enough until stop f k before s low enough =
      turns (λ (g : ℕ). intermediates text es remember R g until stop before s) f k
      λ g le. intermediates-turn until stop g before s (low, omega arith)

  pub row_cells-enough : (f k : ℕ) (s : State) → s.pos ≤ length es → suc (length es) ≤ f + s.pos →
      row_cells text es remember R (k + f) s ≡ row_cells text es remember R f s
  row_cells-enough f k s low enough =
      turns (λ (g : ℕ). row_cells text es remember R g s) f k λ g le. row_cells-turn g s (low, omega arith)

  pub more_rows-enough : (h : Row) (f k : ℕ) (s : State) → s.pos ≤ length es → suc (length es) ≤ f + s.pos →
      more_rows text es remember R (k + f) h s ≡ more_rows text es remember R f h s
  more_rows-enough h f k s low enough =
      turns (λ (g : ℕ). more_rows text es remember R g h s) f k λ g le. more_rows-turn h g s (low, omega arith)

-- parse: a turn takes an unmatched closer
module _ (text : List ℕ) (es : List Entry) (remember : Bool) where
  parse-turn : (f wraps : ℕ) (inters : Nodes) (s : State) → s.pos ≤ length es → suc (length es) ≤ f + s.pos →
      parse text es remember (suc f) wraps inters s ≡ parse text es remember f wraps inters s
  unfolding parse ◌>>=◌
  parse-turn zero wraps inters s low enough = absurd (omega arith)
  parse-turn (suc f) wraps inters s low enough =
      next wraps (λ w i t. parse-turn f w i t) taken.0 refl
    where
      read : Nodes × State
      read = intermediates text es remember (level text es remember 256) (suc (length es)) none Stop.none (last_of inters) s

      taken : Option Entry × State
      taken = advance text es (is token.CloseBracket) read.1

      wrapped : Entry → Nodes
      wrapped c = unscripted (node (Head.group nowhere c.span) (inters ⧺ read.0)) ▸ end

      after : ℕ → ℕ → Option Entry → M Nodes
      after g w t =
          elim t [
            | none ↦ return (inters ⧺ read.0)
            | some c ↦ elim w [ zero ↦ parse text es remember g zero (inters ⧺ read.0) | suc v ↦ parse text es remember g v (wrapped c) ]
          ]

      within : taken.1.pos ≤ length es
      within =
          let items = intermediates-fits text es remember (level text es remember 256) (level-counted text es remember 256) (level-room text es remember 256) (suc (length es)) none Stop.none (last_of inters) in
          (advance-fits text es remember (is token.CloseBracket)).stays read.1 (items.stays s low)

      moved : (c : Entry) → taken.0 ≡ some c → suc (length es) ≤ f + taken.1.pos
      moved c k =
          let items = intermediates-fits text es remember (level text es remember 256) (level-counted text es remember 256) (level-room text es remember 256) (suc (length es)) none Stop.none (last_of inters) in
          let step = advance-fits text es remember (is token.CloseBracket) in
          omega (arith, items.run s, step.run read.1, ap (opt 0 32) k)

      next : (w : ℕ) → ((w : ℕ) (i : Nodes) (t : State) → t.pos ≤ length es → suc (length es) ≤ f + t.pos →
          parse text es remember (suc f) w i t ≡ parse text es remember f w i t) →
          (t : Option Entry) → taken.0 ≡ t → after (suc f) w t taken.1 ≡ after f w t taken.1
      next w again none k = refl
      next zero again (some c) k = again zero (inters ⧺ read.0) taken.1 within (moved c k)
      next (suc v) again (some c) k = again v (wrapped c) taken.1 within (moved c k)

  pub parse-enough : (f k wraps : ℕ) (inters : Nodes) (s : State) → s.pos ≤ length es → suc (length es) ≤ f + s.pos →
      parse text es remember (k + f) wraps inters s ≡ parse text es remember f wraps inters s
  parse-enough f k wraps inters s low enough =
      turns (λ (g : ℕ). parse text es remember g wraps inters s) f k λ g le. parse-turn g wraps inters s low (omega arith)
