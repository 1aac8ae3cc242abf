-- The tree's words fit, and so do those of any partial tree: a reader's answer has at most 32 words for each token that it moves
-- over, and at its peak it holds at most 32 for each token that is left. At most 14 words wait for the token that pays for them:
-- a Space item (7), the word in front of the next item (1) and the own words of its scripted part (6).
use Prim.Native.Nat.{ℕ, zero, suc, ◌+◌, ◌*◌, ◌-◌, ◌≤◌, ◌<◌}
use mathlib.Core.Path.{◌≡◌, refl, ap}
use mathlib.Core.List.{List, [], ◌∷◌}
use mathlib.Core.Option.{Option, none, some}
use mathlib.Core.Bool.{Bool, true, false, ◌&&◌}
use native.Mathlib.Omega.{arith}
use native.Mathlib.Nat.{le_refl, le_trans, max-le, le-max_left, le-max_right}
use lib.ListN.{length, get_or, get_elem?}
use Rattle.tokens.specs.declared.token.Token.{Token}
use Rattle.tokens.specs.declared.token.Token.TheVariants as token
use Rattle.tokens.specs.Lexeme.{Span, Lexeme}
use Rattle.tree.specs.Tree.{nowhere, Head, Atom, Node, node, Nodes, end, ◌▸◌, ◌⧺◌, count, leaf}
use Rattle.tree.specs.Words.{encode, encode_items}
use Rattle.tree.proofs.Size.{size, sizes, size_item, size_items, sizes-join, size_items-join, item-within, length-encode, length-encodes, length-encode_item, length-encode_items}
use Rattle.bounds.proofs.Columns.{rows_of, mask_of, cols_length, split-either}
use Rattle.bounds.proofs.Takes.{entry-inside}
use Rattle.reading.specs.Stop.{Stop}
use Rattle.reading.specs.Entries.{Entry, is, entries}
use Rattle.reading.specs.Reading.{State, M, return, ◌>>=◌, here, current, closed, Mark, open_mark, matrix_mark, slot, Try, made, lost, nought, Readers, advance, failed, give_up, attempt, argument, next_script, next_script_func, next_intermediate, intermediates, Row, Rows, next_matrix_row, row_cells, more_rows, next_matrix_rows, matrix_body, try_matrix, next_open_group, bar_body, next_open_close_group, next_bracket, begun, next_simple, step, level, parse, start, parse_entries, last_of, split_column_lines, prefixes, spaced, any, marks_script, heads, begins, when◌then◌else◌, join_rows, keep_cells, column_lines, unscripted, reading_by, read_tokens}
use Rattle.bounds.specs.Peak.{no_words, words, items_words, rows_words, perhaps, try_words, space_words, Counted, more, ran, either, answer, answer_closed, place, whole, take, known, back, peak, attempt-counted, CountedReaders, argument-counted, next_script-counted, next_script_func-counted, next_intermediate-counted, intermediates-counted, row_cells-counted, next_matrix_row-counted, more_rows-counted, next_matrix_rows-counted, matrix_body-counted, try_matrix-counted, next_open_group-counted, bar_body-counted, next_open_close_group-counted, next_bracket-counted, begun-counted, next_simple-counted, step-counted, level-counted, parse-counted, peak_of}

ruleset lengths = (length-encode, length-encodes, length-encode_item, length-encode_items)

-- k where there is something, else n
abbrev pub opt : {A : Type 0} → ℕ → ℕ → Option A → ℕ
opt n k none = n
opt n k (some a) = k

-- What waits for an item: a Space, behind another item; the word in front of it; the own words of its scripted part.
abbrev pub waits : Option Node → ℕ
waits before = opt 0 7 before + 7

waits-small : (before : Option Node) → waits before ≤ 14
waits-small none = omega arith
waits-small (some x) = omega arith

space-small : (b : Option Node) (e : Option Entry) → space_words b e ≤ opt 0 7 b
space-small none e = omega arith
space-small (some p) none = omega arith
space-small (some p) (some e) = go e.space.len
  where
    go : (n : ℕ) → (elim n as (λ y. ℕ) [ zero ↦ 0 | suc m ↦ 7 ]) ≤ 7
    go zero = omega arith
    go (suc m) = omega arith

spaced-size : (b : Option Node) (e : Option Entry) (x : Node) (l : Nodes) →
    size_items (spaced b e x l) ≡ space_words b e + size_item x + size_items l
unfolding spaced size
spaced-size none e x l = omega arith
spaced-size (some p) none x l = omega arith
spaced-size (some p) (some e) x l = go e.space.len
  where
    go : (n : ℕ) →
        size_items (elim n as (λ y. Nodes) [ zero ↦ x ▸ l | suc m ↦ leaf (Head.atom Atom.space e.space) ▸ x ▸ l ])
        ≡ (elim n as (λ y. ℕ) [ zero ↦ 0 | suc m ↦ 7 ]) + size_item x + size_items l
    go zero = omega arith
    go (suc m) = omega arith

keep-size : (m : List Bool) (l : Nodes) → sizes (keep_cells m l) ≤ sizes l
unfolding size keep_cells
keep-size [] l = omega arith
keep-size (b ∷ bs) end = omega arith
keep-size (true ∷ bs) (x ▸ l) = omega (arith, keep-size bs l)
keep-size (false ∷ bs) (x ▸ l) = omega (arith, keep-size bs l)

join-size : (f : Nodes → Nodes) → ((l : Nodes) → sizes (f l) ≤ sizes l) → (rs : List Nodes) → sizes (join_rows f rs) ≤ rows_words rs
unfolding join_rows size
join-size f h [] = omega arith
join-size f h (r ∷ rs) = omega (arith, h r, join-size f h rs, sizes-join (f r) (join_rows f rs), length-encodes r)

lines-length : (b : ℕ) (m : List Bool) → length (column_lines b m) ≤ length m
unfolding column_lines
lines-length b [] = omega arith
lines-length b (true ∷ m) = omega (arith, lines-length b m)
lines-length b (false ∷ m) = omega (arith, lines-length (suc b) m)

module _ (text : List ℕ) (es : List Entry) (rem : Bool) where
  matrix-words : (r : Rows) (a b : Span) →
      words ((split_column_lines text es r).0 a b) ≤ 8 + rows_words (rows_of r) + count r.head.cells
  unfolding size
  matrix-words r a b =
      let mask = mask_of text es r in
      split-either text es (λ m. words (m.0 a b) ≤ 8 + rows_words (rows_of r) + count r.head.cells) r
      (rw length-encode (omega (arith, join-size (λ l. l) (λ l. le_refl _) (rows_of r))))
      (rw length-encode (omega (
        arith,
        join-size (keep_cells mask) (keep-size mask) (rows_of r),
        lines-length zero mask,
        cols_length text es r.head.cells r.others,
      )))

  -- A reader that has c words of room, and 32 more for each token that it moves over, has room for its answer's words and for g
  -- more. It stays within the entries, and with 32 for each token that is left there is room for its peak.
  pub record Fits {A : Type 0} {w : ℕ} {d : A → ℕ} {m : M A} (c : ℕ) (C : Counted text es rem A w d m) (g : A → ℕ) : Type 0 where
    pub run : (s : State) → d (m s).0 + g (m s).0 + 32 * s.pos ≤ c + 32 * (m s).1.pos
    pub stays : (s : State) → s.pos ≤ length es → (m s).1.pos ≤ length es
    pub within : w ≤ c → (s : State) → s.pos ≤ length es → peak text es rem C s ≤ c + 32 * (length es - s.pos)

  ret : {A : Type 0} {w c : ℕ} {d g : A → ℕ} (x : A) → d x + g x ≤ c → Fits c (answer {w = w} {d = d} x) g
  unfolding return peak
  ret x h =
      record {
        run = λ s. omega arith;
        stays = λ s low. low;
        within = λ le s low. max-le (omega arith) (omega arith);
      }

  noted : {A : Type 0} {w c : ℕ} {d g : A → ℕ} (i : ℕ) (x : A) → d x + g x ≤ c → Fits c (answer_closed {w = w} {d = d} i x) g
  unfolding closed peak
  noted i x h =
      record {
        run = λ s. omega arith;
        stays = λ s low. low;
        within = λ le s low. max-le (omega arith) (omega arith);
      }

  -- The w words stand while the reader of C is run: there is room for them and for the c₀ that it asks for.
  bind : {A B : Type 0} {w c c₀ : ℕ} {d g : A → ℕ} {e h : B → ℕ} {m : M A} {f : A → M B} {C : Counted text es rem A 0 d m}
      {K : (x : A) → Counted text es rem B (w + d x) e (f x)} → Fits c₀ C g → w + c₀ ≤ c →
      ((x : A) → Fits (d x + g x + (c - c₀)) (K x) h) → Fits c (ran C K) h
  unfolding ◌>>=◌ peak
  bind {m} p le k =
      record {
        run = λ s. omega (arith, p.run s, (k (m s).0).run (m s).1);
        stays = λ s low. (k (m s).0).stays (m s).1 (p.stays s low);
        within = λ small s low. max-le (omega (arith, p.within (omega arith) s low))
            (omega (arith, p.run s, p.stays s low, (k (m s).0).within (omega arith) (m s).1 (p.stays s low)));
      }

  putting : {A : Type 0} {w c n : ℕ} {d g : A → ℕ} {m : M A} {C : Counted text es rem A (w + n) d m} → w + n ≤ c →
      Fits c C g → Fits c (more n C) g
  unfolding peak
  putting le p = record { run = p.run; stays = p.stays; within = λ small. p.within le }

  spare : {A : Type 0} {w c c₀ : ℕ} {d g : A → ℕ} {m : M A} {C : Counted text es rem A w d m} → Fits c₀ C g → w ≤ c₀ → c₀ ≤ c →
      Fits c C g
  spare p small le =
      record { run = λ s. omega (arith, p.run s); stays = p.stays; within = λ y s low. omega (arith, p.within small s low) }

  both_ways : {A : Type 0} {w c : ℕ} {d g : A → ℕ} {m n : M A} (b : Bool) {C : Counted text es rem A w d m}
      {D : Counted text es rem A w d n} → Fits c C g → Fits c D g → Fits c (either b C D) g
  unfolding when◌then◌else◌ peak
  both_ways true p q = record { run = p.run; stays = p.stays; within = p.within }
  both_ways false p q = record { run = q.run; stays = q.stays; within = q.within }

  here-fits : Fits 0 place (λ p. 0)
  unfolding here peak
  here-fits = record { run = λ s. omega arith; stays = λ s low. low; within = λ le s low. omega arith }

  whole-fits : Fits 0 whole (λ o. 0)
  unfolding current peak
  whole-fits = record { run = λ s. omega arith; stays = λ s low. low; within = λ le s low. omega arith }

  pub advance-fits : (ok : Entry → Bool) → Fits 0 (take ok) (opt 0 32)
  unfolding advance peak
  advance-fits ok =
      record {
        run = λ s. go s (get_elem? es s.pos) refl;
        stays = λ s low. in_es s low (get_elem? es s.pos) refl;
        within = λ le s low. omega arith;
      }
    where
      in_es' : (s : State) → s.pos < length es → (y : Entry) (x : Bool) → ok y ≡ x → get_elem? es s.pos ≡ some y →
          (advance text es ok s).1.pos ≤ length es
      in_es' s low y false k e = rw (e, advance, k) (omega arith)
      in_es' s low y true k e = rw (e, advance, k) (omega arith)

      in_es : (s : State) → s.pos ≤ length es → (x : Option Entry) → get_elem? es s.pos ≡ x →
          (advance text es ok s).1.pos ≤ length es
      in_es s low none e = rw (e, advance) low
      in_es s low (some y) e = in_es' s (entry-inside es s.pos y e) y (ok y) refl e

      Covers : State → Option Entry × State → Type 0
      Covers s r = 0 + opt 0 32 r.0 + 32 * s.pos ≤ 0 + 32 * r.1.pos

      go' : (s : State) (y : Entry) (x : Bool) → ok y ≡ x → get_elem? es s.pos ≡ some y → Covers s (advance text es ok s)
      go' s y false k e = rw (e, advance, k) (omega arith)
      go' s y true k e = rw (e, advance, k) (omega arith)

      go : (s : State) (x : Option Entry) → get_elem? es s.pos ≡ x → Covers s (advance text es ok s)
      go s none e = rw (e, advance) (omega arith)
      go s (some y) e = go' s y (ok y) refl e

  -- An attempt that is given back leaves the room as it was.
  abbrev tried : ℕ → Try → ℕ
  tried c (made x) = 0
  tried c lost = 0
  tried c nought = c

  attempt-fits : {c : ℕ} (m : Mark) (i : ℕ) {body : M Try} {C : Counted text es rem Try 0 try_words body} → Fits c C (tried c) →
      Fits c (attempt-counted text es rem m i C) (opt c 0)
  unfolding attempt attempt-counted failed ◌>>=◌ current peak
  attempt-fits {c} m i {body} {C} h =
      record {
        run = λ s. known-run s (rem && get_or s.marks (slot m i) false);
        stays = λ s low. stay-known s low (rem && get_or s.marks (slot m i) false);
        within = λ le s low. max-le (omega arith) (max-le (omega arith) (known-within s low (rem && get_or s.marks (slot m i) false)));
      }
    where
      settle : State → Try → M (Option Node)
      settle p t = elim t [ made x ↦ return (some x) | lost ↦ give_up text es rem m i p | nought ↦ return none ]

      Covers : State → Option Node × State → Type 0
      Covers s r = perhaps words r.0 + opt c 0 r.0 + 32 * s.pos ≤ c + 32 * r.1.pos

      done : (s : State) (t : Try) → (body s).0 ≡ t → Covers s (settle s t (body s).1)
      done s (made x) e = unfold return in omega (arith, h.run s, ap (tried c) e, ap try_words e)
      done s lost e = unfold give_up in omega arith
      done s nought e = unfold return in omega (arith, h.run s, ap (tried c) e)

      stay : (s : State) → s.pos ≤ length es → (t : Try) → (settle s t (body s).1).1.pos ≤ length es
      stay s low (made x) = unfold return in h.stays s low
      stay s low lost = unfold give_up in low
      stay s low nought = unfold return in h.stays s low

      stay-known : (s : State) → s.pos ≤ length es → (x : Bool) →
          ((when x then return none else (body >>= settle s)) s).1.pos ≤ length es
      stay-known s low true = unfold when◌then◌else◌ return in low
      stay-known s low false = unfold when◌then◌else◌ in stay s low (body s).0

      known-run : (s : State) (x : Bool) → Covers s ((when x then return none else (body >>= settle s)) s)
      known-run s true = unfold when◌then◌else◌ return in omega arith
      known-run s false = unfold when◌then◌else◌ in done s (body s).0 refl

      settled : (p : State) (t : Try) → Counted text es rem (Option Node) (0 + try_words t) (perhaps words) (settle p t)
      settled p = elim [ made x ↦ answer _ | lost ↦ back m i p | nought ↦ answer _ ]

      settled-within : (s : State) → s.pos ≤ length es → (t : Try) → (body s).0 ≡ t →
          peak text es rem (settled s t) (body s).1 ≤ c + 32 * (length es - s.pos)
      settled-within s low (made x) e =
          let fits : words x ≤ c + 32 * (length es - s.pos) = omega (arith, h.run s, h.stays s low, ap try_words e) in
          max-le (omega arith) fits
      settled-within s low lost e = omega arith
      settled-within s low nought e = omega arith

      known-within : (s : State) → s.pos ≤ length es → (b : Bool) →
          peak text es rem (either b (answer none) (ran C (settled s))) s ≤ c + 32 * (length es - s.pos)
      known-within s low true = omega arith
      known-within s low false = max-le (omega (arith, h.within (omega arith) s low)) (settled-within s low (body s).0 refl)

  -- A simple expression's token pays for the 14 words that waited for it. A scripted part has room for its own words before it
  -- begins.
  pub record Room (R : Readers) (counted : CountedReaders text es rem R) : Type 0 where
    pub simple : (stop : Stop) (sg : Bool) → Fits 0 (counted.simple stop sg) (opt 0 14)
    pub script_func : (stop : Stop) (sg : Bool) → Fits 6 (counted.script_func stop sg) (opt 6 14)

  module _ (R : Readers) (counted : CountedReaders text es rem R) (room : Room R counted) where
    argument-fits : Fits 6 (argument-counted text es rem R counted) (λ a. 0)
    unfolding argument argument-counted size
    argument-fits =
        bind (room.simple Stop.none true) (omega arith) (elim [
          | none ↦ ret _ (simp lengths (omega arith))
          | some x ↦ ret _ (omega arith)
        ])

    next_script-fits : Fits 0 (next_script-counted text es rem R counted) (λ q. 0)
    unfolding next_script next_script-counted size
    next_script-fits =
        bind (advance-fits marks_script) (omega arith) (elim [
          | none ↦ ret _ (simp lengths (omega arith))
          | some e ↦ both_ways _ (bind argument-fits (omega arith) λ a. ret _ (simp lengths (omega arith)))
              (bind argument-fits (omega arith) λ a. bind (advance-fits (is token.Super)) (omega arith) (elim [
                | none ↦ ret _ (simp lengths (omega arith))
                | some e' ↦ bind argument-fits (omega arith) λ y. ret _ (simp lengths (omega arith))
              ]))
        ])

    next_script_func-fits : (stop : Stop) (sg : Bool) → Fits 6 (next_script_func-counted text es rem R counted stop sg) (opt 6 14)
    unfolding next_script_func next_script_func-counted size
    next_script_func-fits stop sg =
        putting (omega arith) (bind (advance-fits (heads sg)) (omega arith) (elim [
          | none ↦ bind (room.simple stop sg) (omega arith) (elim [
            | none ↦ ret _ (omega arith)
            | some x ↦ bind next_script-fits (omega arith) λ q. ret _ (simp lengths (omega arith))
          ])
          | some e ↦ both_ways _
              (bind next_script-fits (omega arith) λ q.
              bind (room.script_func Stop.none true) (omega arith) (elim [
                | none ↦ ret _ (simp lengths (omega (arith, sizes-join q.1 (unscripted (leaf Head.missing) ▸ end))))
                | some x ↦ ret _ (simp lengths (omega (arith, sizes-join q.1 (x ▸ end))))
              ]))
              (bind (room.script_func stop true) (omega arith) (elim [
                | none ↦ ret _ (simp lengths (omega arith))
                | some x ↦ ret _ (simp lengths (omega arith))
              ]))
        ]))

    pub next_intermediate-fits : (stop : Stop) (sg : Bool) →
        Fits 7 (next_intermediate-counted text es rem R counted stop sg) (opt 7 14)
    unfolding next_intermediate next_intermediate-counted size
    next_intermediate-fits stop sg =
        putting (omega arith) (bind (room.script_func stop sg) (omega arith) (elim [
          | none ↦ ret _ (omega arith)
          | some x ↦ bind (advance-fits (is token.Frac)) (omega arith) (elim [
            | none ↦ ret _ (simp lengths (omega (arith, item-within x)))
            | some e ↦ bind (room.script_func Stop.none true) (omega arith) (elim [
              | none ↦ ret _ (simp lengths (omega arith))
              | some z ↦ ret _ (simp lengths (omega arith))
            ])
          ])
        ]))

    pub intermediates-fits : (f : ℕ) (until : Option Entry) (stop : Stop) (before : Option Node) →
        Fits (waits before) (intermediates-counted text es rem R counted f until stop before) (λ l. waits before)
    unfolding intermediates intermediates-counted size
    intermediates-fits zero until stop before = ret _ (simp lengths (omega arith))
    intermediates-fits (suc f) until stop before =
        bind here-fits (omega arith) λ p.
        both_ways _ (ret _ (simp lengths (omega arith)))
        (putting (omega (arith, space-small before (get_elem? es p)))
        (bind (next_intermediate-fits stop (prefixes before)) (omega (arith, space-small before (get_elem? es p))) (elim [
          | none ↦ ret _ (simp lengths (omega arith))
          | some x ↦ bind (intermediates-fits f until stop (some x)) (omega (arith, space-small before (get_elem? es p))) λ l.
              ret _ (simp lengths (omega (
                arith,
                spaced-size before (get_elem? es p) x l,
                space-small before (get_elem? es p),
                waits-small before,
              )))
        ])))

    -- a cell's own words and those of the first item in it; a cell read has paid for a column's flag
    row_cells-fits : (f : ℕ) → Fits 13 (row_cells-counted text es rem R counted f) (perhaps (λ q. count q.0))
    unfolding row_cells row_cells-counted size
    row_cells-fits zero = ret _ (omega arith)
    row_cells-fits (suc f) =
        putting (omega arith) (bind (intermediates-fits _ none Stop.sep none) (omega arith) λ l.
        bind (advance-fits any) (omega arith) (elim [
          | none ↦ ret _ (omega arith)
          | some e ↦ both_ways _
              (bind (row_cells-fits f) (omega arith) (elim [
                | none ↦ ret _ (omega arith)
                | some m ↦ ret _ (simp lengths (omega arith))
              ]))
              (both_ways _ (ret _ (simp lengths (omega arith))) (ret _ (omega arith)))
        ]))

    pub next_matrix_row-fits : Fits 0 (next_matrix_row-counted text es rem R counted) (perhaps (λ r. count r.cells))
    unfolding next_matrix_row next_matrix_row-counted
    next_matrix_row-fits =
        bind here-fits (omega arith) λ i. bind (advance-fits any) (omega arith) (elim [
          | none ↦ ret _ (omega arith)
          | some o ↦ both_ways _
              (bind (row_cells-fits _) (omega arith) (elim [ none ↦ ret _ (omega arith) | some m ↦ noted i _ (omega arith) ]))
              (ret _ (omega arith))
        ])

    more_rows-fits : (f : ℕ) (h : Row) → Fits 0 (more_rows-counted text es rem R counted f h) (λ l. 0)
    unfolding more_rows more_rows-counted
    more_rows-fits zero h = ret _ (omega arith)
    more_rows-fits (suc f) h =
        bind here-fits (omega arith) λ p.
        both_ways _
        (bind (advance-fits any) (omega arith) λ t. bind next_matrix_row-fits (omega arith) (elim [
          | none ↦ ret _ (omega arith)
          | some r ↦ both_ways _
              (bind (more_rows-fits f h) (omega arith) (elim [ none ↦ ret _ (omega arith) | some m ↦ ret _ (omega arith) ]))
              (ret _ (omega arith))
        ]))
        (ret _ (omega arith))

    next_matrix_rows-fits : Fits 0 (next_matrix_rows-counted text es rem R counted) (perhaps (λ r. count r.head.cells))
    unfolding next_matrix_rows next_matrix_rows-counted
    next_matrix_rows-fits =
        bind next_matrix_row-fits (omega arith) (elim [
          | none ↦ ret _ (omega arith)
          | some h ↦ both_ways _
              (bind (more_rows-fits _ h) (omega arith) (elim [ none ↦ ret _ (omega arith) | some m ↦ ret _ (omega arith) ]))
              (ret _ (omega arith))
        ])

    -- a bracket's token has paid for its own words and for the first item in it
    matrix_body-fits : (o : Entry) (i : ℕ) → Fits 13 (matrix_body-counted text es rem R counted o i) (tried 13)
    unfolding matrix_body matrix_body-counted
    matrix_body-fits o i =
        putting (omega arith) (bind next_matrix_rows-fits (omega arith) (elim [
          | none ↦ ret _ (omega arith)
          | some r ↦ putting (omega arith) (bind here-fits (omega arith) λ p.
              both_ways _ (bind (advance-fits any) (omega arith) (elim [
                | none ↦ ret _ (omega arith)
                | some c ↦ noted i _ (omega (arith, matrix-words r o.span c.span))
              ])) (ret _ (omega arith)))
        ]))

    bar_body-fits : (o : Entry) (i : ℕ) (stop : Stop) → Fits 13 (bar_body-counted text es rem R counted o i stop) (tried 13)
    unfolding bar_body bar_body-counted size
    bar_body-fits o i stop =
        putting (omega arith) (bind (next_intermediate-fits stop true) (omega arith) (elim [
          | none ↦ ret _ (omega arith)
          | some x ↦
              bind (intermediates-fits _ (some o) stop (some x)) (omega arith) λ l.
              bind here-fits (omega arith) λ p.
              both_ways _
              (bind (advance-fits any) (omega arith) (elim [
                | none ↦ ret _ (omega arith)
                | some c ↦ noted i _ (simp lengths (omega arith))
              ]))
              (ret _ (omega arith))
        ]))

    next_open_group-fits : (o : Entry) (i : ℕ) → Fits 13 (next_open_group-counted text es rem R counted o i) (λ a. 0)
    unfolding next_open_group next_open_group-counted size
    next_open_group-fits o i =
        putting (omega arith) (bind (intermediates-fits _ none Stop.none none) (omega arith) λ l.
        bind (advance-fits (is token.CloseBracket)) (omega arith) (elim [
          | none ↦ ret _ (simp lengths (omega arith))
          | some c ↦ noted i _ (simp lengths (omega arith))
        ]))

    try_matrix-fits : (o : Entry) (i : ℕ) → Fits 13 (try_matrix-counted text es rem R counted o i) (opt 13 0)
    unfolding try_matrix try_matrix-counted
    try_matrix-fits o i = both_ways _ (attempt-fits matrix_mark i (matrix_body-fits o i)) (ret _ (omega arith))

    next_bracket-fits : (o : Entry) (i : ℕ) → Fits 13 (next_bracket-counted text es rem R counted o i) (λ a. 0)
    unfolding next_bracket next_bracket-counted
    next_bracket-fits o i =
        bind (try_matrix-fits o i) (omega arith) (elim [
          | some x ↦ ret _ (omega arith)
          | none ↦ spare (next_open_group-fits o i) (omega arith) (omega arith)
        ])

    next_open_close_group-fits : (o : Entry) (i : ℕ) (stop : Stop) →
        Fits 13 (next_open_close_group-counted text es rem R counted o i stop) (λ a. 0)
    unfolding next_open_close_group next_open_close_group-counted size
    next_open_close_group-fits o i stop =
        bind (try_matrix-fits o i) (omega arith) (elim [
          | some x ↦ ret _ (omega arith)
          | none ↦ bind (attempt-fits (open_mark stop) i (bar_body-fits o i stop)) (omega arith) (elim [
            | none ↦ ret _ (simp lengths (omega arith))
            | some x ↦ ret _ (omega arith)
          ])
        ])

    begun-fits : (k : Token) (e : Entry) (i : ℕ) (stop : Stop) (sg : Bool) →
        Fits 32 (begun-counted text es rem R counted k e i stop sg) (opt 0 14)
    unfolding begun begun-counted size
    begun-fits token.Number e i stop sg = ret _ (simp lengths (omega arith))
    begun-fits token.Text e i stop sg = ret _ (simp lengths (omega arith))
    begun-fits token.Ident e i stop sg = ret _ (simp lengths (omega arith))
    begun-fits token.Operator e i stop sg = ret _ (simp lengths (omega arith))
    begun-fits (token.Symbol c) e i stop sg = ret _ (simp lengths (omega arith))
    begun-fits token.Sign e i stop true =
        putting (omega arith) (bind (room.simple stop true) (omega arith) (elim [
          | none ↦ ret _ (simp lengths (omega arith))
          | some x ↦ ret _ (simp lengths (omega arith))
        ]))
    begun-fits token.Sign e i stop false = ret _ (simp lengths (omega arith))
    begun-fits token.Unary e i stop sg =
        putting (omega arith) (bind argument-fits (omega arith) λ a. ret _ (simp lengths (omega arith)))
    begun-fits token.Function e i stop sg =
        putting (omega arith) (bind argument-fits (omega arith) λ a. ret _ (simp lengths (omega arith)))
    begun-fits token.Binary e i stop sg =
        putting (omega arith) (bind argument-fits (omega arith) λ a. bind argument-fits (omega arith) λ y.
        ret _ (simp lengths (omega arith)))
    begun-fits token.OpenBracket e i stop sg = bind (next_bracket-fits e i) (omega arith) λ a. ret _ (omega arith)
    begun-fits token.OpenCloseBracket e i stop sg = bind (next_open_close_group-fits e i stop) (omega arith) λ a. ret _ (omega arith)
    begun-fits token.Sep e i stop sg = ret _ (simp lengths (omega arith))
    begun-fits token.Frac e i stop sg = ret _ (simp lengths (omega arith))
    begun-fits token.Super e i stop sg = ret _ (simp lengths (omega arith))
    begun-fits token.Sub e i stop sg = ret _ (simp lengths (omega arith))
    begun-fits token.CloseBracket e i stop sg = ret _ (omega arith)
    begun-fits token.Space e i stop sg = ret _ (omega arith)

    next_simple-fits : (stop : Stop) (sg : Bool) → Fits 0 (next_simple-counted text es rem R counted stop sg) (opt 0 14)
    unfolding next_simple next_simple-counted
    next_simple-fits stop sg =
        bind here-fits (omega arith) λ i. bind (advance-fits (begins stop)) (omega arith) (elim [
          | none ↦ ret _ (omega arith)
          | some e ↦ begun-fits e.token e i stop sg
        ])

    step_room : Room (step text es rem R) (step-counted text es rem R counted)
    unfolding step step-counted
    step_room = record { simple = next_simple-fits; script_func = next_script_func-fits }

  pub level-room : (r : ℕ) → Room (level text es rem r) (level-counted text es rem r)
  unfolding level level-counted
  level-room zero = record { simple = λ stop sg. ret _ (omega arith); script_func = λ stop sg. ret _ (omega arith) }
  level-room (suc r) = step_room (level text es rem r) (level-counted text es rem r) (level-room r)

  join-words : (l m : Nodes) → items_words (l ⧺ m) ≡ items_words l + items_words m
  join-words l m = simp lengths (size_items-join l m)

  wrap-words : (sp : Span) (l : Nodes) → items_words (unscripted (node (Head.group nowhere sp) l) ▸ end) ≡ items_words l + 13
  unfolding size
  wrap-words sp l = simp lengths (omega arith)

  -- parse: what has been read so far, and the 14 words that may wait
  parse-fits : (w f wraps : ℕ) (inters : Nodes) → items_words inters ≡ w →
      Fits (w + 14) (parse-counted text es rem w f wraps inters) (λ l. 14)
  unfolding parse parse-counted
  parse-fits w zero wraps inters e = ret _ (omega arith)
  parse-fits w (suc f) zero inters e =
      bind (intermediates-fits (level text es rem 256) (level-counted text es rem 256) (level-room 256) _ none Stop.none (last_of inters))
      (omega (arith, waits-small (last_of inters))) λ l.
      bind (advance-fits (is token.CloseBracket)) (omega (arith, waits-small (last_of inters))) (elim [
        | none ↦ ret _ (omega (arith, join-words inters l, waits-small (last_of inters)))
        | some c ↦ spare (parse-fits (w + items_words l + no_words (some c)) f zero (inters ⧺ l) (omega (arith, join-words inters l))) (omega arith)
            (omega (arith, waits-small (last_of inters)))
      ])
  parse-fits w (suc f) (suc v) inters e =
      bind (intermediates-fits (level text es rem 256) (level-counted text es rem 256) (level-room 256) _ none Stop.none (last_of inters))
      (omega (arith, waits-small (last_of inters))) λ l.
      bind (advance-fits (is token.CloseBracket)) (omega (arith, waits-small (last_of inters))) (elim [
        | none ↦ ret _ (omega (arith, join-words inters l, waits-small (last_of inters)))
        | some c ↦ putting (omega (arith, waits-small (last_of inters)))
            (spare (parse-fits _ f v _ (omega (arith, wrap-words c.span (inters ⧺ l), join-words inters l))) (omega arith)
            (omega (arith, waits-small (last_of inters))))
      ])

  -- The peak is no less than the words that stand at the beginning, and those of the answer.
  pub peak-start : {A : Type 0} {w : ℕ} {d : A → ℕ} {m : M A} (C : Counted text es rem A w d m) (s : State) →
      w ≤ peak text es rem C s
  unfolding peak
  peak-start (more n C) s = omega (arith, peak-start C s)
  peak-start (ran C K) s = le_trans (omega arith) (le-max_left _ _)
  peak-start (either true C D) s = peak-start C s
  peak-start (either false C D) s = peak-start D s
  peak-start (answer x) s = le-max_left _ _
  peak-start (answer_closed i x) s = le-max_left _ _
  peak-start place s = omega arith
  peak-start whole s = omega arith
  peak-start (take ok) s = omega arith
  peak-start (known m i) s = omega arith
  peak-start (back m i p) s = omega arith

  pub peak-answer : {A : Type 0} {w : ℕ} {d : A → ℕ} {m : M A} (C : Counted text es rem A w d m) (s : State) →
      d (m s).0 ≤ peak text es rem C s
  unfolding peak ◌>>=◌ when◌then◌else◌ return closed give_up
  peak-answer (more n C) s = peak-answer C s
  peak-answer (ran {m} C K) s = le_trans (peak-answer (K (m s).0) (m s).1) (le-max_right _ _)
  peak-answer (either true C D) s = peak-answer C s
  peak-answer (either false C D) s = peak-answer D s
  peak-answer (answer x) s = le-max_right _ _
  peak-answer (answer_closed i x) s = le-max_right _ _
  peak-answer place s = omega arith
  peak-answer whole s = omega arith
  peak-answer (take ok) s = omega arith
  peak-answer (known m i) s = omega arith
  peak-answer (back m i p) s = le_refl _

-- Any partial tree on the way has at most 32 words for each token other than Space, and 14; so has the tree, which is the last.
pub partial-room : (text : List ℕ) (ts : List Lexeme) → peak_of text ts ≤ 14 + 32 * length (entries nowhere ts)
unfolding peak_of encode
partial-room text ts =
    let es = entries nowhere ts in
    omega (
      arith,
      (parse-fits text es true 0 (suc (length es)) 256 end refl).within (omega arith)
          (start text es true) (omega arith),
    )

pub room : (text : List ℕ) (ts : List Lexeme) → length (encode_items (read_tokens text ts).tree) ≤ peak_of text ts
unfolding peak_of reading_by parse_entries
room text ts =
    let es = entries nowhere ts in peak-answer text es true (parse-counted text es true 0 (suc (length es)) 256 end) _
