-- Every reader's answer is paid for by the tokens that it moves over.
use Prim.Native.Nat.{ℕ, zero, suc, ◌+◌, ◌*◌, ◌-◌, ◌≤◌}
use mathlib.Core.Path.{◌≡◌, refl, ap, ◌∙◌}
use mathlib.Core.List.{List}
use mathlib.Core.Option.{Option, none, some}
use mathlib.Core.Bool.{Bool, true, false, ◌&&◌}
use native.Mathlib.Omega.{arith}
use lib.ListN.{length, get_or, get_elem?}
use Rattle.tokens.specs.declared.token.Token.{Token}
use Rattle.tokens.specs.declared.token.Token.TheVariants as token
use Rattle.tokens.proofs.Cases.{by_test, by_option, clash}
use Rattle.tree.specs.Tree.{Head, Atom, Node, Nodes, end, ◌▸◌, ◌⧺◌, count, leaf}
use Rattle.reading.specs.Stop.{Stop}
use Rattle.reading.specs.Entries.{Entry, is}
use Rattle.reading.specs.Reading.{State, M, return, ◌>>=◌, when◌then◌else◌, here, current, closed, Mark, open_mark, matrix_mark, slot, Try, made, lost, nought, Readers, advance, failed, give_up, attempt, argument, next_script, next_script_func, next_intermediate, intermediates, Row, Rows, next_matrix_row, row_cells, more_rows, next_matrix_rows, makes_matrix, matrix_body, try_matrix, next_open_group, bar_body, next_open_close_group, next_bracket, begun, next_simple, step, level, parse, start, parse_entries, last_of, prefixes, spaced, any, marks_script, heads, begins, is_at, is_bar, unscripted}
use Rattle.bounds.proofs.Columns.{rows_of}
use Rattle.mathml_length.proofs.Costs.{script_cost, cost, costs, costs-join}
use Rattle.mathml_length.proofs.Prices.{price_of, pays, paid, paid-next, worth}
use Rattle.mathml_length.proofs.Matrices.{row_cost, rows_cost, matrix-cost}
use Rattle.mathml_length.proofs.Closers.{bar-at, closer-at}

module _ (text : List ℕ) (es : List Entry) (rem : Bool) where
  -- A reader at p that is given c, and what the tokens pay that it moves over, has enough for d of its answer.
  abbrev Covers : {A : Type 0} → ℕ → ℕ → (A → ℕ) → A × State → Type 0
  Covers p c d r = d r.0 + paid text es p ≤ c + paid text es r.1.pos

  record Pays {A : Type 0} (p c : ℕ) (m : M A) (d : A → ℕ) : Type 0 where
    run : (s : State) → s.pos ≡ p → Covers p c d (m s)

  ret : {A : Type 0} {p c : ℕ} {d : A → ℕ} (x : A) → d x ≤ c → Pays p c (return x) d
  unfolding return
  ret x h = record { run = λ s e. rw e (omega arith) }

  noted : {A : Type 0} {p c : ℕ} {d : A → ℕ} (i : ℕ) (x : A) → d x ≤ c → Pays p c (closed i x) d
  unfolding closed
  noted i x h = record { run = λ s e. rw e (omega arith) }

  bind : {A B : Type 0} {p c c₀ : ℕ} {m : M A} {f : A → M B} {d : A → ℕ} {g : B → ℕ} → Pays p c₀ m d → c₀ ≤ c →
      ((q : ℕ) (x : A) → Pays q (d x + (c - c₀)) (f x) g) → Pays p c (m >>= f) g
  unfolding ◌>>=◌
  bind {m} h le k = record { run = λ s e. omega (arith, h.run s e, (k (m s).1.pos (m s).0).run (m s).1 refl) }

  -- what is given beyond c₀ is left
  spare : {A : Type 0} {p c c₀ : ℕ} {m : M A} {d g : A → ℕ} → Pays p c₀ m d → ((x : A) → g x + c₀ ≤ d x + c) → Pays p c m g
  spare {m} h le = record { run = λ s e. omega (arith, h.run s e, le (m s).0) }

  by_cases : {A : Type 0} {p c : ℕ} (x : Bool) {m n : M A} {d : A → ℕ} → (x ≡ true → Pays p c m d) → (x ≡ false → Pays p c n d) →
      Pays p c (when x then m else n) d
  unfolding when◌then◌else◌
  by_cases true h k = h refl
  by_cases false h k = k refl

  -- a reader that looks where it is
  placed : {A : Type 0} {p c : ℕ} {f : ℕ → M A} {d : A → ℕ} → ((q : ℕ) → q ≡ p → Pays p c (f q) d) → Pays p c (here >>= f) d
  unfolding ◌>>=◌ here
  placed k = record { run = λ s e. (k s.pos e).run s e }

  -- What is known of an entry taken at p, where the reader stands behind it, and what it pays.
  abbrev Taken : (Entry → Bool) → ℕ → Option Entry → Type 0
  Taken ok p none = Unit {0}
  Taken ok p (some e) = (get_elem? es p ≡ some e) × (ok e ≡ true)

  abbrev past : ℕ → Option Entry → ℕ
  past p none = p
  past p (some e) = suc p

  abbrev got : Option Entry → ℕ
  got none = 0
  got (some e) = pays text e

  -- the two ways of advance
  advance-by : (ok : Entry → Bool) (s : State) (P : Option Entry × State → Type 0) →
      ((t : State) → t.pos ≡ s.pos → P (none, t)) →
      ((e : Entry) (t : State) → get_elem? es s.pos ≡ some e → ok e ≡ true → t.pos ≡ suc s.pos → P (some e, t)) →
      P (advance text es ok s)
  unfolding advance
  advance-by ok s P h k =
      by_option (get_elem? es s.pos) (λ x. rw (x, advance) (h s refl))
      (λ e x. by_test (ok e) (λ y. rw (x, advance, y) (k e _ x y refl)) (λ y. rw (x, advance, y) (h _ refl)))

  taking : {A : Type 0} {p c : ℕ} (ok : Entry → Bool) {f : Option Entry → M A} {d : A → ℕ} →
      ((t : Option Entry) → Taken ok p t → Pays (past p t) (c + got t) (f t) d) → Pays p c (advance text es ok >>= f) d
  unfolding ◌>>=◌
  taking {p} {c} ok {f} {d} k =
      record {
        run = λ s at. advance-by ok s (λ r. Covers p c d (f r.0 r.1)) (λ t e. omega (arith, (k none tt).run t (e ∙ at)))
            (λ e t x y z.
            let there = rw at at x in
            omega (arith, (k (some e) (there, y)).run t (z ∙ ap suc at), paid-next text es p e there));
      }

  -- An attempt that is given back leaves what it was given.
  abbrev try_cost : ℕ → Try → ℕ
  try_cost c (made x) = cost text x
  try_cost c lost = 0
  try_cost c nought = c

  abbrev or_else : ℕ → Option Node → ℕ
  or_else c none = c
  or_else c (some x) = cost text x

  attempt-pays : {p c : ℕ} (m : Mark) (i : ℕ) {body : M Try} → Pays p c body (try_cost c) →
      Pays p c (attempt text es rem m i body) (or_else c)
  unfolding attempt failed ◌>>=◌ current when◌then◌else◌ return give_up
  attempt-pays {p} {c} m i {body} h = record { run = λ s e. known s e (rem && get_or s.marks (slot m i) false) }
    where
      settle : State → Try → M (Option Node)
      settle o t = elim t [ made x ↦ return (some x) | lost ↦ give_up text es rem m i o | nought ↦ return none ]

      done : (s : State) → s.pos ≡ p → (t : Try) → (body s).0 ≡ t → Covers p c (or_else c) (settle s t (body s).1)
      done s e (made x) q = omega (arith, h.run s e, ap (try_cost c) q)
      done s e lost q = rw e (omega arith)
      done s e nought q = omega (arith, h.run s e, ap (try_cost c) q)

      known : (s : State) → s.pos ≡ p → (x : Bool) →
          Covers p c (or_else c) ((when x then return none else (body >>= settle s)) s)
      known s e true = rw e (omega arith)
      known s e false = done s e (body s).0 refl

  -- what the entry at p pays for the Space before it
  abbrev gap : ℕ → ℕ
  gap p = elim (get_elem? es p) [ none ↦ 0 | some e ↦ 32 * e.space.len ]

  gap_is : (p : ℕ) (e : Entry) → get_elem? es p ≡ some e → gap p ≡ 32 * e.space.len
  gap_is p e h = rw (h, gap)

  -- an item with the Space before it
  abbrev found : ℕ → Option Node → ℕ
  found p none = 0
  found p (some x) = cost text x + gap p

  abbrev perhaps : {A : Type 0} → (A → ℕ) → Option A → ℕ
  perhaps d none = 0
  perhaps d (some a) = d a

  -- a row's cells, with six bytes of the attribute columnlines for each
  abbrev full_cost : Nodes → ℕ
  full_cost l = row_cost text l + 6 * count l

  -- What the entry taken pays at least: the mark of a script, the closer of a matrix.
  marks-worth : (e : Entry) → marks_script e ≡ true → 34 ≤ price_of text e.token e.span
  unfolding marks_script
  marks-worth e h =
      by_test (is token.Super e) (λ y. omega (arith, worth text token.Super e y))
      (λ y. omega (arith, worth text token.Sub e (rw y at h)))

  heads-sign : (sg : Bool) (e : Entry) → heads sg e ≡ true → is token.Function e ≡ false → is token.Sign e ≡ true
  unfolding heads
  heads-sign true e h n = rw n at h
  heads-sign false e h n = clash false (rw n at h) refl

  closer-worth : (o : Entry) (i : ℕ) (r : Rows) (p : ℕ) → makes_matrix text es o i r p ≡ true → (e : Entry) →
      get_elem? es p ≡ some e → 34 + 14 * e.span.len ≤ price_of text e.token e.span
  closer-worth o i r p h e q =
      closer-at text es o i r p h e q (λ y. omega (arith, worth text token.CloseBracket e y))
      (λ y. omega (arith, worth text token.OpenCloseBracket e y))

  spaced-cost : (b : Option Node) (p : ℕ) (x : Node) (l : Nodes) →
      costs text (spaced b (get_elem? es p) x l) ≤ gap p + cost text x + costs text l
  unfolding spaced costs
  spaced-cost none p x l = omega arith
  spaced-cost (some y) p x l = go (get_elem? es p)
    where
      go' : (e : Entry) (n : ℕ) →
          costs text (elim n as (λ _. Nodes) [ zero ↦ x ▸ l | suc m ↦ leaf (Head.atom Atom.space e.space) ▸ x ▸ l ])
          ≤ 32 * n + cost text x + costs text l
      go' e zero = omega arith
      go' e (suc n) = omega arith

      go : (o : Option Entry) → costs text (spaced (some y) o x l)
          ≤ (elim o as (λ _. ℕ) [ none ↦ 0 | some e ↦ 32 * e.space.len ]) + cost text x + costs text l
      go none = omega arith
      go (some e) = go' e e.space.len

  -- A reader that answers something leaves what the first entry it took pays for the Space before it.
  record Paying (R : Readers) : Type 0 where
    simple : (p : ℕ) (stop : Stop) (sg : Bool) → Pays p 0 (R.simple stop sg) (found p)
    script_func : (p : ℕ) (stop : Stop) (sg : Bool) → Pays p 0 (R.script_func stop sg) (found p)

  module _ (R : Readers) (paying : Paying R) where
    -- an argument may be Missing
    argument-pays : (p : ℕ) → Pays p 13 (argument text es rem R) (cost text)
    unfolding argument cost
    argument-pays p =
        bind (paying.simple p Stop.none true) (omega arith) (λ q. elim [
          | none ↦ ret _ (omega arith)
          | some x ↦ ret _ (omega arith)
        ])

    next_script-pays : (p : ℕ) → Pays p 0 (next_script text es rem R) (λ q. script_cost q.0 + costs text q.1)
    unfolding next_script cost
    next_script-pays p =
        taking marks_script (elim [
          | none ↦ λ h. ret _ (omega arith)
          | some e ↦ λ h.
              let w = marks-worth e h.1 in
              by_cases (is token.Super e) (λ y. bind (argument-pays _) (omega arith) λ r a. ret _ (omega arith))
              (λ y. bind (argument-pays _) (omega arith) λ r a. taking (is token.Super) (elim [
                | none ↦ λ k. ret _ (omega arith)
                | some e' ↦ λ k.
                    let v = worth text token.Super e' k.1 in
                    bind (argument-pays _) (omega arith) λ r' b. ret _ (omega arith)
              ]))
        ])

    next_script_func-pays : (p : ℕ) (stop : Stop) (sg : Bool) → Pays p 0 (next_script_func text es rem R stop sg) (found p)
    unfolding next_script_func cost
    next_script_func-pays p stop sg =
        taking (heads sg) (elim [
          | none ↦ λ h. bind (paying.simple p stop sg) (omega arith) (λ q. elim [
            | none ↦ ret _ (omega arith)
            | some x ↦ bind (next_script-pays q) (omega arith) λ r y. ret _ (omega arith)
          ])
          | some e ↦ λ h.
              let g = gap_is p e h.0 in
              by_cases (is token.Function e)
              (λ y.
              let w = worth text token.Function e y in
              bind (next_script-pays _) (omega arith) λ q z.
              bind (paying.script_func q Stop.none true) (omega arith) (λ r. elim [
                | none ↦ ret _ (omega (arith, costs-join text z.1 (unscripted (leaf Head.missing) ▸ end)))
                | some x ↦ ret _ (omega (arith, costs-join text z.1 (x ▸ end)))
              ]))
              (λ y.
              let w = worth text token.Sign e (heads-sign sg e h.1 y) in
              bind (paying.script_func _ stop true) (omega arith) (λ q. elim [
                | none ↦ ret _ (omega arith)
                | some x ↦ ret _ (omega arith)
              ]))
        ])

    next_intermediate-pays : (p : ℕ) (stop : Stop) (sg : Bool) → Pays p 0 (next_intermediate text es rem R stop sg) (found p)
    unfolding next_intermediate cost
    next_intermediate-pays p stop sg =
        bind (paying.script_func p stop sg) (omega arith) (λ q. elim [
          | none ↦ ret _ (omega arith)
          | some x ↦ taking (is token.Frac) (elim [
            | none ↦ λ h. ret _ (omega arith)
            | some e ↦ λ h.
                let w = worth text token.Frac e h.1 in
                bind (paying.script_func _ Stop.none true) (omega arith) (λ r. elim [
                  | none ↦ ret _ (omega arith)
                  | some z ↦ ret _ (omega arith)
                ])
          ])
        ])

    intermediates-pays : (f p : ℕ) (until : Option Entry) (stop : Stop) (before : Option Node) →
        Pays p 0 (intermediates text es rem R f until stop before) (costs text)
    unfolding intermediates cost
    intermediates-pays zero p until stop before = ret _ (omega arith)
    intermediates-pays (suc f) p until stop before =
        placed λ q e. by_cases _ (λ y. ret _ (omega arith))
        (λ y. bind (next_intermediate-pays p stop (prefixes before)) (omega arith) (λ r. elim [
          | none ↦ ret _ (omega arith)
          | some x ↦ bind (intermediates-pays f r until stop (some x)) (omega arith) λ r' l.
              ret _ (omega (arith, spaced-cost before q x l, ap gap e))
        ]))

    -- a cell's Sep or bracket has paid for the cell, the tags of a row and an entry of the attribute columnlines
    row_cells-pays : (f p : ℕ) → Pays p 0 (row_cells text es rem R f) (perhaps (λ (m : Nodes × Entry). full_cost m.0))
    unfolding row_cells cost
    row_cells-pays zero p = ret _ (omega arith)
    row_cells-pays (suc f) p =
        bind (intermediates-pays _ p none Stop.sep none) (omega arith) λ q l. taking any (elim [
          | none ↦ λ h. ret _ (omega arith)
          | some e ↦ λ h. by_cases (is token.Sep e)
              (λ y.
              let w = worth text token.Sep e y in
              bind (row_cells-pays f _) (omega arith) (λ r. elim [ none ↦ ret _ (omega arith) | some m ↦ ret _ (omega arith) ]))
              (λ y. by_cases (is token.CloseBracket e)
              (λ z. let w = worth text token.CloseBracket e z in ret _ (omega arith)) (λ z. ret _ (omega arith)))
        ])

    -- a row's opening bracket, for the attribute's name
    next_matrix_row-pays : (p : ℕ) → Pays p 0 (next_matrix_row text es rem R) (perhaps (λ (r : Row). 8 + full_cost r.cells))
    unfolding next_matrix_row
    next_matrix_row-pays p =
        placed λ i at. taking any (elim [
          | none ↦ λ h. ret _ (omega arith)
          | some o ↦ λ h. by_cases (is token.OpenBracket o)
              (λ y.
              let w = worth text token.OpenBracket o y in
              bind (row_cells-pays _ _) (omega arith) (λ q. elim [
                | none ↦ ret _ (omega arith)
                | some m ↦ noted i _ (omega arith)
              ]))
              (λ y. ret _ (omega arith))
        ])

    more_rows-pays : (f p : ℕ) (h : Row) → Pays p 0 (more_rows text es rem R f h) (perhaps (rows_cost text))
    unfolding more_rows
    more_rows-pays zero p h = ret _ (omega arith)
    more_rows-pays (suc f) p h =
        placed λ i at. by_cases _
        (λ y. taking any λ t k. bind (next_matrix_row-pays _) (omega arith) (λ q. elim [
          | none ↦ ret _ (omega arith)
          | some r ↦ by_cases _
              (λ z. bind (more_rows-pays f q h) (omega arith) (λ r'. elim [
                | none ↦ ret _ (omega arith)
                | some m ↦ ret _ (omega arith)
              ]))
              (λ z. ret _ (omega arith))
        ]))
        (λ y. ret _ (omega arith))

    next_matrix_rows-pays : (p : ℕ) →
        Pays p 0 (next_matrix_rows text es rem R)
        (perhaps (λ (r : Rows). 8 + 6 * count r.head.cells + rows_cost text (rows_of r)))
    unfolding next_matrix_rows
    next_matrix_rows-pays p =
        bind (next_matrix_row-pays p) (omega arith) (λ q. elim [
          | none ↦ ret _ (omega arith)
          | some h ↦ by_cases _
              (λ y. bind (more_rows-pays _ q h) (omega arith) (λ r. elim [
                | none ↦ ret _ (omega arith)
                | some m ↦ ret _ (omega arith)
              ]))
              (λ y. ret _ (omega arith))
        ])

    -- What the bracket o opens: it has paid for its own tags and marks, and its closer for the closer's mark.
    module _ (o : Entry) (i : ℕ) where
      abbrev opener : ℕ
      opener = 34 + 14 * o.span.len

      matrix_body-pays : (p : ℕ) → Pays p opener (matrix_body text es rem R o i) (try_cost opener)
      unfolding matrix_body
      matrix_body-pays p =
          bind (next_matrix_rows-pays p) (omega arith) (λ q. elim [
            | none ↦ ret _ (omega arith)
            | some r ↦ placed λ j at. by_cases (makes_matrix text es o i r j)
                (λ y. taking any (elim [
                  | none ↦ λ h. ret _ (omega arith)
                  | some c ↦ λ h.
                      let w = closer-worth o i r j y c (rw at h.0) in
                      noted i _ (omega (arith, matrix-cost text es r o.span c.span))
                ]))
                (λ y. ret _ (omega arith))
          ])

      bar_body-pays : (p : ℕ) (stop : Stop) → Pays p opener (bar_body text es rem R o i stop) (try_cost opener)
      unfolding bar_body cost
      bar_body-pays p stop =
          bind (next_intermediate-pays p stop true) (omega arith) (λ q. elim [
            | none ↦ ret _ (omega arith)
            | some x ↦ bind (intermediates-pays _ q (some o) stop (some x)) (omega arith) λ r l.
                placed λ j at. by_cases (is_at text es (is_bar text es o) j)
                (λ y. taking any (elim [
                  | none ↦ λ h. ret _ (omega arith)
                  | some c ↦ λ h.
                      let w = worth text token.OpenCloseBracket c (bar-at text es o j y c (rw at h.0)) in
                      noted i _ (omega arith)
                ]))
                (λ y. ret _ (omega arith))
          ])

      next_open_group-pays : (p : ℕ) → Pays p opener (next_open_group text es rem R o i) (cost text)
      unfolding next_open_group cost
      next_open_group-pays p =
          bind (intermediates-pays _ p none Stop.none none) (omega arith) λ q l. taking (is token.CloseBracket) (elim [
            | none ↦ λ h. ret _ (omega arith)
            | some c ↦ λ h. let w = worth text token.CloseBracket c h.1 in noted i _ (omega arith)
          ])

      try_matrix-pays : (p : ℕ) → Pays p opener (try_matrix text es rem R o i) (or_else opener)
      unfolding try_matrix
      try_matrix-pays p = by_cases _ (λ y. attempt-pays matrix_mark i (matrix_body-pays p)) (λ y. ret _ (omega arith))

      next_bracket-pays : (p : ℕ) → Pays p opener (next_bracket text es rem R o i) (cost text)
      unfolding next_bracket
      next_bracket-pays p =
          bind (try_matrix-pays p) (omega arith) (λ q. elim [
            | some x ↦ ret _ (omega arith)
            | none ↦ spare (next_open_group-pays q) (λ x. omega arith)
          ])

      next_open_close_group-pays : (p : ℕ) (stop : Stop) → Pays p opener (next_open_close_group text es rem R o i stop) (cost text)
      unfolding next_open_close_group cost
      next_open_close_group-pays p stop =
          bind (try_matrix-pays p) (omega arith) (λ q. elim [
            | some x ↦ ret _ (omega arith)
            | none ↦ bind (attempt-pays (open_mark stop) i (bar_body-pays q stop)) (omega arith) (λ r. elim [
              | none ↦ ret _ (omega arith)
              | some x ↦ ret _ (omega arith)
            ])
          ])

    -- what a token begins, by its price
    begun-pays : (k : Token) (e : Entry) (i p : ℕ) (stop : Stop) (sg : Bool) →
        Pays p (price_of text k e.span) (begun text es rem R k e i stop sg) (perhaps (cost text))
    unfolding begun cost
    begun-pays token.Number e i p stop sg = ret _ (omega arith)
    begun-pays token.Text e i p stop sg = ret _ (omega arith)
    begun-pays token.Ident e i p stop sg = ret _ (omega arith)
    begun-pays token.Operator e i p stop sg = ret _ (omega arith)
    begun-pays (token.Symbol c) e i p stop sg = ret _ (omega arith)
    begun-pays token.Sign e i p stop true =
        bind (paying.simple p stop true) (omega arith) (λ q. elim [
          | none ↦ ret _ (omega arith)
          | some x ↦ ret _ (omega arith)
        ])
    begun-pays token.Sign e i p stop false = ret _ (omega arith)
    begun-pays token.Unary e i p stop sg = bind (argument-pays p) (omega arith) λ q a. ret _ (omega arith)
    begun-pays token.Function e i p stop sg = bind (argument-pays p) (omega arith) λ q a. ret _ (omega arith)
    begun-pays token.Binary e i p stop sg =
        bind (argument-pays p) (omega arith) λ q a. bind (argument-pays q) (omega arith) λ r b. ret _ (omega arith)
    begun-pays token.OpenBracket e i p stop sg = bind (next_bracket-pays e i p) (omega arith) λ q a. ret _ (omega arith)
    begun-pays token.OpenCloseBracket e i p stop sg =
        bind (next_open_close_group-pays e i p stop) (omega arith) λ q a. ret _ (omega arith)
    begun-pays token.Sep e i p stop sg = ret _ (omega arith)
    begun-pays token.Frac e i p stop sg = ret _ (omega arith)
    begun-pays token.Super e i p stop sg = ret _ (omega arith)
    begun-pays token.Sub e i p stop sg = ret _ (omega arith)
    begun-pays token.CloseBracket e i p stop sg = ret _ (omega arith)
    begun-pays token.Space e i p stop sg = ret _ (omega arith)

    next_simple-pays : (p : ℕ) (stop : Stop) (sg : Bool) → Pays p 0 (next_simple text es rem R stop sg) (found p)
    unfolding next_simple
    next_simple-pays p stop sg =
        placed λ i at. taking (begins stop) (elim [
          | none ↦ λ h. ret _ (omega arith)
          | some e ↦ λ h.
              let g = gap_is p e h.0 in
              spare (begun-pays e.token e i _ stop sg) ((elim [ none ↦ omega arith | some x ↦ omega arith ]))
        ])

    step-pays : Paying (step text es rem R)
    unfolding step
    step-pays = record { simple = next_simple-pays; script_func = next_script_func-pays }

  level-pays : (r : ℕ) → Paying (level text es rem r)
  unfolding level
  level-pays zero = record { simple = λ p stop sg. ret _ (omega arith); script_func = λ p stop sg. ret _ (omega arith) }
  level-pays (suc r) = step-pays (level text es rem r) (level-pays r)

  -- an unmatched closer pays for the group that it closes
  parse-pays : (f wraps p : ℕ) (inters : Nodes) → Pays p (costs text inters) (parse text es rem f wraps inters) (costs text)
  unfolding parse cost
  parse-pays zero wraps p inters = ret _ (omega arith)
  parse-pays (suc f) zero p inters =
      bind (intermediates-pays (level text es rem 256) (level-pays 256) _ p none Stop.none (last_of inters)) (omega arith) λ q l.
      taking (is token.CloseBracket) (elim [
        | none ↦ λ h. ret _ (omega (arith, costs-join text inters l))
        | some c ↦ λ h. spare (parse-pays f zero _ (inters ⧺ l)) (λ x. omega (arith, costs-join text inters l))
      ])
  parse-pays (suc f) (suc w) p inters =
      bind (intermediates-pays (level text es rem 256) (level-pays 256) _ p none Stop.none (last_of inters)) (omega arith) λ q l.
      taking (is token.CloseBracket) (elim [
        | none ↦ λ h. ret _ (omega (arith, costs-join text inters l))
        | some c ↦ λ h. let v = worth text token.CloseBracket c h.1 in
            spare (parse-pays f w _ _) (λ x. omega (arith, costs-join text inters l))
      ])

-- The tree costs no more than the entries up to some place pay.
pub tree-paid : (text : List ℕ) (es : List Entry) (rem : Bool) →
    costs text (parse_entries text es rem).0 ≤ paid text es (parse_entries text es rem).1.pos
unfolding parse_entries costs
tree-paid text es rem =
    omega (arith, (parse-pays text es rem (suc (length es)) 256 0 end).run (start text es rem) refl)
