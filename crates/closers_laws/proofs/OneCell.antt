-- "One cell left after that is no matrix": it can be told from the first row alone, and from whether there are others.
use Prim.Native.Nat.{ℕ, suc, ◌+◌, ◌≤◌}
use mathlib.Core.Path.{◌≡◌, refl, sym, ap, ◌∙◌}
use mathlib.Core.List.{List, [], ◌∷◌}
use mathlib.Core.Bool.{Bool, true, false, ◌&&◌, ◌||◌}
use native.Mathlib.Omega.{arith}
use lib.Dec.{eqb, ltb}
use lib.ListN.{length}
use borrow.Author.Tests.{lt-ltb, eqb-true, eqb-false}
use Rattle.tree.specs.Tree.{Nodes, end, ◌▸◌, ◌⧺◌, count}
use Rattle.reading.specs.Entries.{Entry}
use Rattle.reading.specs.Reading.{Row, kept_cols, keep_cells, join_rows, line_cells, line_cols, both_lines, is_column_line, split_column_lines}

count-end : (l : Nodes) → count (l ⧺ end) ≡ count l
count-end end = refl
count-end (x ▸ l) = ap suc (count-end l)

or-false : (b : Bool) → (b || false) ≡ b
or-false true = refl
or-false false = refl

module _ (text : List ℕ) (es : List Entry) where
  kept-count : (l : Nodes) → count (keep_cells (line_cells text es l) l) ≡ kept_cols (line_cells text es l)
  unfolding line_cells kept_cols keep_cells
  kept-count end = refl
  kept-count (x ▸ l) = go (is_column_line text es x) (kept-count l)
    where
      go : (b : Bool) → count (keep_cells (line_cells text es l) l) ≡ kept_cols (line_cells text es l) → count (keep_cells (b ∷ line_cells text es l) (x ▸ l)) ≡ kept_cols (b ∷ line_cells text es l)
      go true h = h
      go false h = ap suc h

  abbrev kept : Row → ℕ
  kept h = kept_cols (line_cells text es h.cells)

  -- a single row: all its cells, if none of them or all of them are kept, else the kept ones
  pub single-cells : (h : Row) (a b : Bool) → eqb (kept h) 0 ≡ a → eqb (kept h) (count h.cells) ≡ b →
      (split_column_lines text es (record { head = h; others = [] })).1 ≡ elim (a || b) as (λ x. ℕ) [ true ↦ count h.cells | false ↦ kept h ]
  unfolding split_column_lines line_cols join_rows
  single-cells h true b p q = rw (split_column_lines, p) (count-end h.cells)
  single-cells h false true p q = rw (split_column_lines, p, q) (count-end h.cells)
  single-cells h false false p q = rw (split_column_lines, p, q) (count-end (keep_cells (line_cells text es h.cells) h.cells) ∙ kept-count h.cells)

  pub single : (h : Row) →
      ltb 1 (split_column_lines text es (record { head = h; others = [] })).1 ≡ (ltb 1 (kept h) || (eqb (kept h) 0 && ltb 1 (count h.cells)))
  single h = go (eqb (kept h) 0) refl (eqb (kept h) (count h.cells)) refl
    where
      go : (a : Bool) → eqb (kept h) 0 ≡ a → (b : Bool) → eqb (kept h) (count h.cells) ≡ b →
          ltb 1 (split_column_lines text es (record { head = h; others = [] })).1 ≡ (ltb 1 (kept h) || (eqb (kept h) 0 && ltb 1 (count h.cells)))
      go true p b q = let z : kept h ≡ 0 = eqb-true (kept h) 0 p in ap (ltb 1) (single-cells h true b p q) ∙ sym (ap (λ (k : ℕ). ltb 1 k || (eqb k 0 && ltb 1 (count h.cells))) z)
      go false p true q = let z : kept h ≡ count h.cells = eqb-true (kept h) (count h.cells) q in
          ap (ltb 1) (single-cells h false true p q ∙ sym z) ∙ sym (or-false (ltb 1 (kept h))) ∙ ap (λ (x : Bool). ltb 1 (kept h) || (x && ltb 1 (count h.cells))) (sym p)
      go false p false q =
          ap (ltb 1) (single-cells h false false p q) ∙ sym (or-false (ltb 1 (kept h))) ∙ ap (λ (x : Bool). ltb 1 (kept h) || (x && ltb 1 (count h.cells))) (sym p)

  -- Two rows and more, none of them empty, have two cells at least.
  line-length : (l : Nodes) → length (line_cells text es l) ≡ count l
  unfolding line_cells
  line-length end = refl
  line-length (x ▸ l) = ap suc (line-length l)

  both_first : (a b : List Bool) → length (both_lines a b) ≤ length a
  unfolding both_lines
  both_first [] b = omega arith
  both_first (x ∷ a) [] = omega arith
  both_first (x ∷ a) (y ∷ b) = omega (arith, both_first a b)

  both-second : (a b : List Bool) → length (both_lines a b) ≤ length b
  unfolding both_lines
  both-second [] b = omega arith
  both-second (x ∷ a) [] = omega arith
  both-second (x ∷ a) (y ∷ b) = omega (arith, both-second a b)

  mask-length : (q : Nodes) (qs : List Nodes) → length (line_cols text es q qs) ≤ count q
  unfolding line_cols
  mask-length q [] = omega (arith, line-length q)
  mask-length q (r ∷ rs) = omega (arith, line-length q, both_first (line_cells text es q) (line_cols text es r rs))

  kept_of : (m : List Bool) (l : Nodes) → length m ≤ count l → count (keep_cells m l) ≡ kept_cols m
  unfolding keep_cells kept_cols
  kept_of [] l h = refl
  kept_of (b ∷ m) end h = absurd (omega arith)
  kept_of (true ∷ m) (x ▸ l) h = kept_of m l (omega arith)
  kept_of (false ∷ m) (x ▸ l) h = ap suc (kept_of m l (omega arith))

  count-joined : (l m : Nodes) → count (l ⧺ m) ≡ count l + count m
  count-joined end m = omega arith
  count-joined (x ▸ l) m = let h = count-joined l m in omega (arith, h)

  two-rows : (f : Nodes → Nodes) (h q : Nodes) (qs : List Nodes) → 1 ≤ count (f h) → 1 ≤ count (f q) → ltb 1 (count (join_rows f (h ∷ q ∷ qs))) ≡ true
  unfolding join_rows
  two-rows f h q qs a b = lt-ltb 1 (count (f h ⧺ (f q ⧺ join_rows f qs))) (omega (arith, a, b, count-joined (f h) (f q ⧺ join_rows f qs), count-joined (f q) (join_rows f qs)))

  pub many : (h : Row) (q : Nodes) (qs : List Nodes) → 1 ≤ count h.cells → 1 ≤ count q →
      ltb 1 (split_column_lines text es (record { head = h; others = q ∷ qs })).1 ≡ true
  unfolding split_column_lines
  many h q qs a b = go (eqb (kept_cols (line_cols text es h.cells (q ∷ qs))) 0) refl (eqb (kept_cols (line_cols text es h.cells (q ∷ qs))) (count h.cells)) refl
    where
      mask : List Bool
      mask = line_cols text es h.cells (q ∷ qs)

      second : length (line_cols text es h.cells (q ∷ qs)) ≤ count q
      second = unfold line_cols in omega (arith, both-second (line_cells text es h.cells) (line_cols text es q qs), mask-length q qs)

      go : (x : Bool) → eqb (kept_cols (line_cols text es h.cells (q ∷ qs))) 0 ≡ x → (y : Bool) → eqb (kept_cols (line_cols text es h.cells (q ∷ qs))) (count h.cells) ≡ y →
          ltb 1 (split_column_lines text es (record { head = h; others = q ∷ qs })).1 ≡ true
      go true e y e' = rw (split_column_lines, e) (two-rows (λ l. l) h.cells q qs a b)
      go false e true e' = rw (split_column_lines, e, e') (two-rows (λ l. l) h.cells q qs a b)
      go false e false e' =
          let z = eqb-false (kept_cols (line_cols text es h.cells (q ∷ qs))) 0 e in
          let u = kept_of (line_cols text es h.cells (q ∷ qs)) h.cells (mask-length h.cells (q ∷ qs)) in
          let v = kept_of (line_cols text es h.cells (q ∷ qs)) q second in
          rw (split_column_lines, e, e') (two-rows (keep_cells (line_cols text es h.cells (q ∷ qs))) h.cells q qs (omega (arith, z, u)) (omega (arith, z, v)))
