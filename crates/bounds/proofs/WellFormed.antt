-- Every reading's tree is well formed, with memory or without; hence decoding its words gives it back.
use Prim.Native.Nat.{ℕ, zero, suc, ◌+◌, ◌*◌, ◌≤◌, ◌<◌}
use mathlib.Core.Path.{◌≡◌, refl, sym, ap, ◌∙◌, subst}
use mathlib.Core.List.{List, [], ◌∷◌, ◌++◌}
use mathlib.Core.Option.{Option, none, some}
use mathlib.Core.Bool.{Bool, true, false, not, ◌&&◌, false≢true}
use native.Mathlib.Omega.{arith}
use native.Mathlib.Nat.{le_refl, suc-mul, zero-mul}
use lib.ListN.{length, get_elem?}
use lib.Dec.{eqb, ltb}
use borrow.Author.Tests.{eqb-true, ltb-true}
use Rattle.tokens.specs.declared.token.Token.{Token}
use Rattle.tokens.specs.declared.token.Token.TheVariants as token
use Rattle.tokens.specs.Lexeme.{Span, Lexeme}
use Rattle.tree.specs.Tree.{nowhere, Script, Head, Atom, Node, node, Nodes, end, ◌▸◌, ◌⧺◌, count, leaf}
use Rattle.tree.specs.Words.{encode_items}
use Rattle.tree.specs.Decode.{decode}
use Rattle.tree.specs.WellFormed.{Lines, Simple, Cells, Arguments, ScriptFunc, Intermediate, Expression, Behind, WellFormed}
use Rattle.tree.proofs.Decode.{decode-encode}
use Rattle.bounds.proofs.Columns.{rows_of, mask_of, both-length, cells-length, split-either}
use Rattle.reading.specs.Stop.{Stop}
use Rattle.reading.specs.Entries.{Entry, entries}
use Rattle.reading.specs.Reading.{State, M, return, ◌>>=◌, closed, Mark, open_mark, matrix_mark, Try, made, lost, nought, Readers, is_at, give_up, attempt, argument, next_script, next_script_func, next_intermediate, intermediates, Row, Rows, next_matrix_row, row_cells, more_rows, next_matrix_rows, matrix_body, try_matrix, next_open_group, bar_body, next_open_close_group, next_bracket, begun, next_simple, step, level, parse, parse_entries, last_of, unscripted, alike, split_column_lines, line_cells, prefixes, spaced, when◌then◌else◌, makes_matrix, join_rows, keep_cells, kept_cols, column_lines, line_cols, closes, is_byte, same_text, reading_by, read_tokens}

both : (x y : Bool) → x && y ≡ true → (x ≡ true) × (y ≡ true)
both true y e = (refl, e)
both false y e = absurd (false≢true e)

abbrev Any : {A : Type 0} → (A → Type 0) → Option A → Type 0
Any P none = Unit {0}
Any P (some a) = P a

-- What may stand behind the item before, if there is one.
abbrev After : Option Node → Nodes → Type 0
After none l = Expression l
After (some x) l = Behind l

spaced-after : (before : Option Node) (e : Option Entry) {x : Node} {l : Nodes} → Intermediate x → Behind l →
    After before (spaced before e x l)
unfolding spaced
spaced-after none e i b = Expression.items i b
spaced-after (some p) none i b = Behind.item i b
spaced-after (some p) (some e) {x} {l} i b = go e.space.len refl
  where
    go : (n : ℕ) → e.space.len ≡ n →
        Behind (elim n as (λ y. Nodes) [ zero ↦ x ▸ l | suc m ↦ leaf (Head.atom Atom.space e.space) ▸ x ▸ l ])
    go zero k = Behind.item i b
    go (suc m) k = let h : 0 < e.space.len = omega arith in Behind.space h i b

-- More items behind those that were read.
behind-join : {l m : Nodes} → Behind l → Behind m → Behind (l ⧺ m)
behind-join Behind.no_more c = c
behind-join (Behind.item i b) c = Behind.item i (behind-join b c)
behind-join (Behind.space k i b) c = Behind.space k i (behind-join b c)

after_last : (x : Node) (m : Nodes) {l : Nodes} → After (last_of (x ▸ m)) l → Behind l
unfolding last_of
after_last x end a = a
after_last x (y ▸ m) a = after_last y m a

join : {m : Nodes} (l : Nodes) → Expression m → After (last_of m) l → Expression (m ⧺ l)
unfolding last_of
join l Expression.empty a = a
join l (Expression.items {x} {l = m} i b) a = Expression.items i (behind-join b (after_last x m a))

-- Rows of as many cells.
abbrev Others : ℕ → List Nodes → Type 0
Others n [] = Unit {0}
Others n (r ∷ rs) = Cells r × (count r ≡ n) × Others n rs

record Grid (r : Rows) : Type 0 where
  head : Cells r.head.cells
  others : Others (count r.head.cells) r.others

cells-join : {l m : Nodes} → Cells l → Cells m → Cells (l ⧺ m)
cells-join Cells.no_more_cells d = d
cells-join (Cells.cell e c) d = Cells.cell e (cells-join c d)

pub count-join : (l m : Nodes) → count (l ⧺ m) ≡ count l + count m
count-join end m = omega arith
count-join (x ▸ l) m = omega (arith, count-join l m)

keep-cells : (mask : List Bool) {l : Nodes} → Cells l → Cells (keep_cells mask l)
unfolding keep_cells
keep-cells [] c = Cells.no_more_cells
keep-cells (b ∷ bs) Cells.no_more_cells = Cells.no_more_cells
keep-cells (true ∷ bs) (Cells.cell e c) = keep-cells bs c
keep-cells (false ∷ bs) (Cells.cell e c) = Cells.cell e (keep-cells bs c)

keep-count : (mask : List Bool) (l : Nodes) → length mask ≡ count l → count (keep_cells mask l) ≡ kept_cols mask
unfolding keep_cells kept_cols
keep-count [] l e = refl
keep-count (b ∷ bs) end e = absurd (omega arith)
keep-count (true ∷ bs) (x ▸ l) e = keep-count bs l (omega arith)
keep-count (false ∷ bs) (x ▸ l) e = ap suc (keep-count bs l (omega arith))

-- rows of n cells, of each of which f keeps k
module _
    (f : Nodes → Nodes) (n k : ℕ) (cells : (l : Nodes) → Cells l → Cells (f l))
    (keeps : (l : Nodes) → count l ≡ n → count (f l) ≡ k)
  where
    rows-cells : (rs : List Nodes) → Others n rs → Cells (join_rows f rs)
    unfolding join_rows
    rows-cells [] o = Cells.no_more_cells
    rows-cells (r ∷ rs) o = cells-join (cells r o.0) (rows-cells rs o.2)

    rows-count : (rs : List Nodes) → Others n rs → count (join_rows f rs) ≡ length rs * k
    unfolding join_rows
    rows-count [] o = rw zero-mul refl
    rows-count (r ∷ rs) o =
        count-join (f r) (join_rows f rs) ∙ omega (arith, keeps r o.1, rows-count rs o.2, suc-mul (length rs) k)

lines_after : {cols b : ℕ} {ls : List ℕ} → Lines cols (suc b) ls → Lines cols b ls
lines_after Lines.none = Lines.none
lines_after {b} (Lines.line {c} l k r) = let h : b ≤ c = omega arith in Lines.line h k r

lines-within : (b cols : ℕ) (mask : List Bool) → b + kept_cols mask ≤ cols → Lines cols b (column_lines b mask)
unfolding kept_cols column_lines
lines-within b cols [] h = Lines.none
lines-within b cols (true ∷ l) h = Lines.line (le_refl b) (omega arith) (lines-within b cols l h)
lines-within b cols (false ∷ l) h = lines_after (lines-within (suc b) cols l (omega arith))

module _ (text : List ℕ) (es : List Entry) where
  cols_length : (r : Nodes) (rs : List Nodes) → Others (count r) rs → length (line_cols text es r rs) ≡ count r
  unfolding line_cols
  cols_length r [] o = cells-length text es r
  cols_length r (q ∷ qs) o =
      let e = o.1 in
      let k = cols_length q qs (subst (λ n. Others n qs) (sym e) o.2) in
      omega (arith, both-length (line_cells text es r) (line_cols text es q qs), cells-length text es r)

  -- "One cell left after that is no matrix."
  matrix-simple : (r : Rows) → Grid r → 1 < (split_column_lines text es r).1 → (a b : Span) →
      Simple ((split_column_lines text es r).0 a b)
  matrix-simple r g =
      split-either text es (λ m. 1 < m.1 → (a b : Span) → Simple (m.0 a b)) r
      (λ two a b. whole (λ l. l) (λ l c. c) (λ l e. e) two Lines.none)
      (λ two a b. whole (keep_cells mask) (λ l c. keep-cells mask c) (λ l e. keep-count mask l (wide ∙ sym e)) two
      (lines-within zero (kept_cols mask) mask (omega arith)))
    where
      all : ℕ
      all = count r.head.cells

      mask : List Bool
      mask = mask_of text es r

      wide : length mask ≡ all
      wide = cols_length r.head.cells r.others g.others

      -- rows of which f keeps k columns
      whole : {a b : Span} {k : ℕ} {lines : List ℕ} (f : Nodes → Nodes) → ((l : Nodes) → Cells l → Cells (f l)) →
          ((l : Nodes) → count l ≡ all → count (f l) ≡ k) → 1 < count (join_rows f (rows_of r)) → Lines k 0 lines →
          Simple (node (Head.matrix a b k lines) (join_rows f (rows_of r)))
      whole {k} f cells keeps two lines =
          let o : Others all (rows_of r) = (g.head, refl, g.others) in
          Simple.matrix (rows-cells f all k cells keeps (rows_of r) o) (length (rows_of r))
          (rows-count f all k cells keeps (rows_of r) o) two lines

  alike-count : (a b : Row) → alike text es a b ≡ true → count b.cells ≡ count a.cells
  unfolding alike
  alike-count a b e =
      let left = same_text text es a.left.span b.left.span in
      let right = same_text text es a.right.span b.right.span in
      let wide = eqb (count a.cells) (count b.cells) in
      sym (eqb-true _ _ (both left wide (both (left && wide) right e).0).1)

  two_cells : (o : Entry) (i : ℕ) (r : Rows) (p : ℕ) → makes_matrix text es o i r p ≡ true → 1 < (split_column_lines text es r).1
  unfolding makes_matrix
  two_cells o i r p e =
      let set = is_at text es (λ e. not (is_byte text es 40 r.head.left.span && is_byte text es 125 e.span)) p in
      let two = ltb 1 (split_column_lines text es r).1 in
      ltb-true 1 _ (both two (closes text es o i p) (both set (two && closes text es o i p) e).1).0

  module _ (rem : Bool) where
    -- Whatever the state, the answer has the property.
    record Gives {A : Type 0} (m : M A) (P : A → Type 0) : Type 0 where
      run : (s : State) → P (m s).0

    ret : {A : Type 0} {P : A → Type 0} (x : A) → P x → Gives (return x) P
    unfolding return
    ret x h = record { run = λ s. h }

    noted : {A : Type 0} {P : A → Type 0} (i : ℕ) (x : A) → P x → Gives (closed i x) P
    unfolding closed
    noted i x h = record { run = λ s. h }

    bind : {A B : Type 0} {m : M A} {f : A → M B} {P : A → Type 0} {Q : B → Type 0} → Gives m P →
        ((x : A) → P x → Gives (f x) Q) → Gives (m >>= f) Q
    unfolding ◌>>=◌
    bind {m} h k = record { run = λ s. (k (m s).0 (h.run s)).run (m s).1 }

    any-answer : {A : Type 0} {m : M A} → Gives m (λ x. Unit {0})
    any-answer = record { run = λ s. tt }

    where_true : {A : Type 0} (x : Bool) {m n : M A} {P : A → Type 0} → (x ≡ true → Gives m P) → Gives n P →
        Gives (when x then m else n) P
    unfolding when◌then◌else◌
    where_true true p q = p refl
    where_true false p q = q

    both_ways : {A : Type 0} (x : Bool) {m n : M A} {P : A → Type 0} → Gives m P → Gives n P → Gives (when x then m else n) P
    both_ways x p q = where_true x (λ e. p) q

    abbrev Tried : Try → Type 0
    Tried (made x) = Simple x
    Tried lost = Unit {0}
    Tried nought = Unit {0}

    attempt-gives : (m : Mark) (i : ℕ) {body : M Try} → Gives body Tried → Gives (attempt text es rem m i body) (Any Simple)
    unfolding attempt give_up
    attempt-gives m i h =
        bind any-answer λ p t. bind any-answer λ known u.
        both_ways known (ret _ tt) (bind h (elim [
          | made x ↦ λ w. ret _ w
          | lost ↦ λ w. record { run = λ s. tt }
          | nought ↦ λ w. ret _ tt
        ]))

    record Good (R : Readers) : Type 0 where
      simple : (stop : Stop) (sg : Bool) → Gives (R.simple stop sg) (Any Simple)
      script_func : (stop : Stop) (sg : Bool) → Gives (R.script_func stop sg) (Any ScriptFunc)

    -- "an absent argument is Missing"
    missing-part : ScriptFunc (node (Head.simple Script.none) (leaf Head.missing ▸ end))
    missing-part = ScriptFunc.simple Simple.missing Arguments.no_script

    module _ (R : Readers) (good : Good R) where
      argument-gives : Gives (argument text es rem R) Simple
      unfolding argument
      argument-gives = bind (good.simple Stop.none true) (elim [ none ↦ λ w. ret _ Simple.missing | some x ↦ λ w. ret _ w ])

      next_script-gives : Gives (next_script text es rem R) (λ q. Arguments q.0 q.1)
      unfolding next_script
      next_script-gives =
          bind any-answer (elim [
            | none ↦ λ u. ret _ Arguments.no_script
            | some e ↦ λ u. both_ways _ (bind argument-gives λ a w. ret _ (Arguments.super w))
                (bind argument-gives λ a w. bind any-answer (elim [
                  | none ↦ λ v. ret _ (Arguments.sub w)
                  | some e' ↦ λ v. bind argument-gives λ b z. ret _ (Arguments.subsuper w z)
                ]))
          ])

      next_script_func-gives : (stop : Stop) (sg : Bool) → Gives (next_script_func text es rem R stop sg) (Any ScriptFunc)
      unfolding next_script_func
      next_script_func-gives stop sg =
          bind any-answer (elim [
            | none ↦ λ u. bind (good.simple stop sg) (elim [
              | none ↦ λ w. ret _ tt
              | some x ↦ λ w. bind next_script-gives λ q v. ret _ (ScriptFunc.simple w v)
            ])
            | some e ↦ λ u. both_ways _
                (bind next_script-gives λ q v. bind (good.script_func Stop.none true) (elim [
                  | none ↦ λ w. ret _ (ScriptFunc.func v missing-part refl)
                  | some x ↦ λ w. ret _ (ScriptFunc.func v w refl)
                ]))
                (bind (good.script_func stop true) (elim [
                  | none ↦ λ w. ret _ (ScriptFunc.signed missing-part)
                  | some x ↦ λ w. ret _ (ScriptFunc.signed w)
                ]))
          ])

      next_intermediate-gives : (stop : Stop) (sg : Bool) → Gives (next_intermediate text es rem R stop sg) (Any Intermediate)
      unfolding next_intermediate
      next_intermediate-gives stop sg =
          bind (good.script_func stop sg) (elim [
            | none ↦ λ w. ret _ tt
            | some x ↦ λ w. bind any-answer (elim [
              | none ↦ λ u. ret _ (Intermediate.script_func w)
              | some e ↦ λ u. bind (good.script_func Stop.none true) (elim [
                | none ↦ λ v. ret _ (Intermediate.frac w missing-part)
                | some y ↦ λ v. ret _ (Intermediate.frac w v)
              ])
            ])
          ])

      nothing-after : (before : Option Node) → After before end
      nothing-after none = Expression.empty
      nothing-after (some x) = Behind.no_more

      intermediates-gives : (f : ℕ) (until : Option Entry) (stop : Stop) (before : Option Node) →
          Gives (intermediates text es rem R f until stop before) (After before)
      unfolding intermediates
      intermediates-gives zero until stop before = ret _ (nothing-after before)
      intermediates-gives (suc f) until stop before =
          bind any-answer λ p u.
          both_ways _ (ret _ (nothing-after before))
          (bind (next_intermediate-gives stop (prefixes before)) (elim [
            | none ↦ λ w. ret _ (nothing-after before)
            | some x ↦ λ w. bind (intermediates-gives f until stop (some x)) λ l v.
                ret _ (spaced-after before (get_elem? es p) w v)
          ]))

      row_cells-gives : (f : ℕ) → Gives (row_cells text es rem R f) (Any (λ q. Cells q.0))
      unfolding row_cells
      row_cells-gives zero = ret _ tt
      row_cells-gives (suc f) =
          bind (intermediates-gives _ none Stop.sep none) λ l w.
          bind any-answer (elim [
            | none ↦ λ u. ret _ tt
            | some e ↦ λ u. both_ways _
                (bind (row_cells-gives f) (elim [ none ↦ λ v. ret _ tt | some m ↦ λ v. ret _ (Cells.cell w v) ]))
                (both_ways _ (ret _ (Cells.cell w Cells.no_more_cells)) (ret _ tt))
          ])

      next_matrix_row-gives : Gives (next_matrix_row text es rem R) (Any (λ r. Cells r.cells))
      unfolding next_matrix_row
      next_matrix_row-gives =
          bind any-answer λ i z. bind any-answer (elim [
            | none ↦ λ u. ret _ tt
            | some o ↦ λ u. both_ways _
                (bind (row_cells-gives _) (elim [ none ↦ λ v. ret _ tt | some m ↦ λ v. noted i _ v ]))
                (ret _ tt)
          ])

      more_rows-gives : (f : ℕ) (h : Row) → Gives (more_rows text es rem R f h) (Any (Others (count h.cells)))
      unfolding more_rows
      more_rows-gives zero h = ret _ tt
      more_rows-gives (suc f) h =
          bind any-answer λ p u.
          both_ways _
          (bind any-answer λ t v. bind next_matrix_row-gives (elim [
            | none ↦ λ w. ret _ tt
            | some r ↦ λ w. where_true _
                (λ e. bind (more_rows-gives f h) (elim [
                  | none ↦ λ z. ret _ tt
                  | some m ↦ λ z. ret _ (w, alike-count h r e, z)
                ]))
                (ret _ tt)
          ]))
          (ret _ tt)

      next_matrix_rows-gives : Gives (next_matrix_rows text es rem R) (Any Grid)
      unfolding next_matrix_rows
      next_matrix_rows-gives =
          bind next_matrix_row-gives (elim [
            | none ↦ λ w. ret _ tt
            | some h ↦ λ w. both_ways _
                (bind (more_rows-gives _ h) (elim [
                  | none ↦ λ z. ret _ tt
                  | some m ↦ λ z. ret _ (record { head = w; others = z })
                ]))
                (ret _ tt)
          ])

      matrix_body-gives : (o : Entry) (i : ℕ) → Gives (matrix_body text es rem R o i) Tried
      unfolding matrix_body
      matrix_body-gives o i =
          bind next_matrix_rows-gives (elim [
            | none ↦ λ w. ret _ tt
            | some r ↦ λ w. bind any-answer λ p u. where_true _
                (λ e. bind any-answer (elim [
                  | none ↦ λ v. ret _ tt
                  | some c ↦ λ v. noted i _ (matrix-simple r w (two_cells o i r p e) o.span c.span)
                ]))
                (ret _ tt)
          ])

      try_matrix-gives : (o : Entry) (i : ℕ) → Gives (try_matrix text es rem R o i) (Any Simple)
      unfolding try_matrix
      try_matrix-gives o i = both_ways _ (attempt-gives matrix_mark i (matrix_body-gives o i)) (ret _ tt)

      next_open_group-gives : (o : Entry) (i : ℕ) → Gives (next_open_group text es rem R o i) Simple
      unfolding next_open_group
      next_open_group-gives o i =
          bind (intermediates-gives _ none Stop.none none) λ l w.
          bind any-answer (elim [ none ↦ λ u. ret _ (Simple.group w) | some c ↦ λ u. noted i _ (Simple.group w) ])

      bar_body-gives : (o : Entry) (i : ℕ) (stop : Stop) → Gives (bar_body text es rem R o i stop) Tried
      unfolding bar_body
      bar_body-gives o i stop =
          bind (next_intermediate-gives stop true) (elim [
            | none ↦ λ w. ret _ tt
            | some x ↦ λ w. bind (intermediates-gives _ (some o) stop (some x)) λ l v. bind any-answer λ p u.
                both_ways _ (bind any-answer (elim [
                  | none ↦ λ z. ret _ tt
                  | some c ↦ λ z. noted i _ (Simple.group (Expression.items w v))
                ])) (ret _ tt)
          ])

      next_open_close_group-gives : (o : Entry) (i : ℕ) (stop : Stop) → Gives (next_open_close_group text es rem R o i stop) Simple
      unfolding next_open_close_group
      next_open_close_group-gives o i stop =
          bind (try_matrix-gives o i) (elim [
            | some x ↦ λ w. ret _ w
            | none ↦ λ w. bind (attempt-gives (open_mark stop) i (bar_body-gives o i stop)) (elim [
              | none ↦ λ v. ret _ (Simple.atom refl)
              | some x ↦ λ v. ret _ v
            ])
          ])

      next_bracket-gives : (o : Entry) (i : ℕ) → Gives (next_bracket text es rem R o i) Simple
      unfolding next_bracket
      next_bracket-gives o i =
          bind (try_matrix-gives o i) (elim [ some x ↦ λ w. ret _ w | none ↦ λ w. next_open_group-gives o i ])

      begun-gives : (k : Token) (e : Entry) (i : ℕ) (stop : Stop) (sg : Bool) →
          Gives (begun text es rem R k e i stop sg) (Any Simple)
      unfolding begun
      begun-gives token.Number e i stop sg = ret _ (Simple.atom refl)
      begun-gives token.Text e i stop sg = ret _ (Simple.atom refl)
      begun-gives token.Ident e i stop sg = ret _ (Simple.atom refl)
      begun-gives token.Operator e i stop sg = ret _ (Simple.atom refl)
      begun-gives (token.Symbol c) e i stop sg = ret _ (Simple.atom refl)
      begun-gives token.Sign e i stop true =
          bind (good.simple stop true) (elim [
            | none ↦ λ w. ret _ (Simple.ssigned Simple.missing)
            | some x ↦ λ w. ret _ (Simple.ssigned w)
          ])
      begun-gives token.Sign e i stop false = ret _ (Simple.atom refl)
      begun-gives token.Unary e i stop sg = bind argument-gives λ a w. ret _ (Simple.unary w)
      begun-gives token.Function e i stop sg = bind argument-gives λ a w. ret _ (Simple.sfunc w)
      begun-gives token.Binary e i stop sg = bind argument-gives λ a w. bind argument-gives λ b v. ret _ (Simple.binary w v)
      begun-gives token.OpenBracket e i stop sg = bind (next_bracket-gives e i) λ a w. ret _ w
      begun-gives token.OpenCloseBracket e i stop sg = bind (next_open_close_group-gives e i stop) λ a w. ret _ w
      begun-gives token.Sep e i stop sg = ret _ (Simple.atom refl)
      begun-gives token.Frac e i stop sg = ret _ (Simple.atom refl)
      begun-gives token.Super e i stop sg = ret _ (Simple.atom refl)
      begun-gives token.Sub e i stop sg = ret _ (Simple.atom refl)
      begun-gives token.CloseBracket e i stop sg = ret _ tt
      begun-gives token.Space e i stop sg = ret _ tt

      next_simple-gives : (stop : Stop) (sg : Bool) → Gives (next_simple text es rem R stop sg) (Any Simple)
      unfolding next_simple
      next_simple-gives stop sg =
          bind any-answer λ i u. bind any-answer (elim [
            | none ↦ λ v. ret _ tt
            | some e ↦ λ v. begun-gives e.token e i stop sg
          ])

      step-good : Good (step text es rem R)
      unfolding step
      step-good = record { simple = next_simple-gives; script_func = next_script_func-gives }

    level-good : (r : ℕ) → Good (level text es rem r)
    unfolding level
    level-good zero = record { simple = λ stop sg. ret _ tt; script_func = λ stop sg. ret _ tt }
    level-good (suc r) = step-good (level text es rem r) (level-good r)

    -- the group that an unmatched closer makes
    wrapped : {l : Nodes} {a b : Span} → Expression l → Expression (unscripted (node (Head.group a b) l) ▸ end)
    wrapped e =
        Expression.items (Intermediate.script_func (ScriptFunc.simple (Simple.group e) Arguments.no_script)) Behind.no_more

    parse_gives : (f wraps : ℕ) (inters : Nodes) → Expression inters → Gives (parse text es rem f wraps inters) Expression
    unfolding parse
    parse_gives zero wraps inters w = ret _ w
    parse_gives (suc f) zero inters w =
        bind (intermediates-gives (level text es rem 256) (level-good 256) _ none Stop.none (last_of inters)) λ l v.
        bind any-answer (elim [
          | none ↦ λ u. ret _ (join l w v)
          | some c ↦ λ u. parse_gives f zero (inters ⧺ l) (join l w v)
        ])
    parse_gives (suc f) (suc k) inters w =
        bind (intermediates-gives (level text es rem 256) (level-good 256) _ none Stop.none (last_of inters)) λ l v.
        bind any-answer (elim [
          | none ↦ λ u. ret _ (join l w v)
          | some c ↦ λ u. parse_gives f k _ (wrapped (join l w v))
        ])

-- The tree of any reading of any list, with memory or without.
pub reading-well_formed : (remember : Bool) (text : List ℕ) (ts : List Lexeme) → WellFormed (reading_by remember text ts).tree
unfolding reading_by parse_entries
reading-well_formed remember text ts =
    let es = entries nowhere ts in
    (parse_gives text es remember (suc (length es)) 256 end Expression.empty).run _

pub well_formed : (text : List ℕ) (ts : List Lexeme) → WellFormed (read_tokens text ts).tree
well_formed = reading-well_formed true

-- Decoding the words of a reading's tree, whatever follows them, gives that tree.
pub decoded : (text : List ℕ) (ts : List Lexeme) (rest : List ℕ) →
    let tree = (read_tokens text ts).tree in decode (count tree) (encode_items tree ++ rest) ≡ tree
decoded text ts rest = decode-encode _ (well_formed text ts) rest
