-- MATHML.md, section 7, 3: in the output of every well-formed tree each element holds what it may.
use Prim.Native.Nat.{ℕ, zero, suc, ◌+◌, ◌*◌}
use Prim.Native.String.{String}
use mathlib.Core.Path.{◌≡◌, refl, ap, ◌∙◌}
use mathlib.Core.Bool.{Bool, true, false, not, ◌&&◌}
use mathlib.Core.List.{List, [], ◌∷◌, ◌++◌, append-nil}
use native.Mathlib.Omega.{arith}
use native.Mathlib.Nat.{suc-mul}
use lib.Dec.{eqb}
use lib.ListN.{length, take, drop, replicate, length-take, length-drop}
use lib.Seq.{take_at, get_or_at}
use borrow.Author.Tests.{eq-eqb, not-true}
use Rattle.tokens.specs.declared.token.SymbolClass.{SymbolClass}
use Rattle.tokens.specs.declared.token.SymbolClass.TheVariants as class
use Rattle.tokens.specs.Bytes.{bytes, same}
use Rattle.tokens.specs.Lexeme.{Span}
use Rattle.tokens.proofs.Cases.{by_test, clash}
use Rattle.tree.specs.Tree.{Script, Head, Atom, Node, Nodes, end, ◌▸◌, ◌⧺◌, count}
use Rattle.tree.specs.WellFormed.{Simple, Cells, Arguments, ScriptFunc, Intermediate, Expression, Behind, WellFormed}
use Rattle.mathml_rules.specs.declared.Mode.{Mode}
use Rattle.mathml_rules.specs.declared.Mode.TheVariants as mode
use Rattle.mathml_rules.specs.Run.{run}
use Rattle.mathml_rules.specs.Utf8.{encoded, utf8}
use Rattle.mathml_rules.specs.Forms.{shown}
use Rattle.mathml_rules.specs.Elements.{elements, element_of}
use Rattle.mathml_rules.specs.Pieces.{Piece, within, E, L}
use Rattle.mathml_rules.specs.Commands.{Command, unaries, exchanging, mark, unary_by, unary, binary_by, binary}
use Rattle.mathml_rules.specs.Mathml.{own, together, symbol_element, atom, S, arguments, A, B, dropped, group, has, line_entry, line_entries, columnlines, table_rows, table, handed, child, join, out, outs, root}
use Rattle.mathml_rules.specs.Children.{Shape, Sort, shapes, shape_by, shape, sort, allows, full, is_cells, is_characters, blanks, columns_of, Frame, frame, Held?, entered, row_left, left, ended, lettered, stepped, steps, is_whole, fitting}
use Rattle.mathml_rules.proofs.Run.{run-append, run-cons, run-one, run_on}
use Rattle.mathml_rules.proofs.Lists.{All, all_take, all_drop, every, passed, both}

-- The pieces x are n child elements, wherever elements other than mtr and mtd may stand.
record Many (n : ℕ) (x : List Piece) : Type 0 where
  counted : (s : Shape) (k w : ℕ) (st : List Frame) → allows s Sort.plain ≡ true →
      steps (Held?.inside (frame s k w ∷ st)) x ≡ Held?.inside (frame s (k + n) w ∷ st)

nothing-many : Many 0 []
unfolding run
nothing-many = record { counted = λ s k w st a. let e : k + 0 ≡ k = omega arith in rw e }

beside : {n m : ℕ} {x y : List Piece} → Many n x → Many m y → Many (n + m) (x ++ y)
beside {n} {m} {x} {y} p q = record {
  counted = λ s k w st a.
      let e : k + (n + m) ≡ k + n + m = omega arith in
      rw e (run_on stepped (Held?.inside (frame s k w ∷ st)) x y (p.counted s k w st a) (q.counted s (k + n) w st a));
}

-- an element other than mtr and mtd
abbrev is_plain : Sort → Bool
is_plain Sort.plain = true
is_plain Sort.row = false
is_plain Sort.cell = false

plain-allowed : (t : Sort) → is_plain t ≡ true → (s : Shape) → allows s Sort.plain ≡ true → allows s t ≡ true
plain-allowed Sort.plain p s a = a
plain-allowed Sort.row p s a = clash false p refl
plain-allowed Sort.cell p s a = clash false p refl

plain-entered : (e : ℕ) (more : List ℕ) → is_plain (sort e) ≡ true → (s : Shape) (k w : ℕ) (st : List Frame) →
    allows s Sort.plain ≡ true →
    entered e more (frame s k w ∷ st) ≡ Held?.inside (frame (shape e) 0 (columns_of more) ∷ frame s (k + 1) w ∷ st)
unfolding entered
plain-entered e more p s k w st a = rw (plain-allowed (sort e) p s a, entered)

plain-ended : (s : Shape) (k w : ℕ) (st : List Frame) → full s k ≡ true → is_cells s ≡ false → ended (frame s k w ∷ st) ≡ left st
unfolding ended
plain-ended s k w st u c = rw (u, c, ended)

-- an element from its start tag to its end tag
module _ (e n : ℕ) (more : List ℕ) (x : List Piece) (u : full (shape e) n ≡ true) (c : is_cells (shape e) ≡ false)
    (inner : (st : List Frame) →
    steps (Held?.inside (frame (shape e) 0 (columns_of more) ∷ st)) x ≡ Held?.inside (frame (shape e) n (columns_of more) ∷ st)) where
  ends : (st : List Frame) → steps (Held?.inside (frame (shape e) 0 (columns_of more) ∷ st)) (x ++ (Piece.end e ∷ [])) ≡ left st
  unfolding stepped
  ends st =
      rw (
        run-append stepped (Held?.inside (frame (shape e) 0 (columns_of more) ∷ st)) x (Piece.end e ∷ []),
        inner st,
        run-one stepped (Held?.inside (frame (shape e) n (columns_of more) ∷ st)) (Piece.end e),
      ) (plain-ended (shape e) n (columns_of more) st u c)

  one-element : is_plain (sort e) ≡ true → Many 1 (within e more x)
  unfolding within stepped left
  one-element p = record {
    counted = λ s k w st a.
        rw (
          run-cons stepped (Held?.inside (frame s k w ∷ st)) (Piece.start e more) (x ++ (Piece.end e ∷ [])),
          plain-entered e more p s k w st a,
        ) (ends (frame s (k + 1) w ∷ st));
  }

  the_root : is_plain (sort e) ≡ true → steps (Held?.inside []) (within e more x) ≡ Held?.whole
  unfolding within stepped entered left
  the_root p =
      rw (
        run-cons stepped (Held?.inside []) (Piece.start e more) (x ++ (Piece.end e ∷ [])),
        plain-allowed (sort e) p Shape.any refl,
        entered,
      ) (ends [])

-- an element that holds n elements
abbrev takes : ℕ → ℕ → Bool
takes e n = is_plain (sort e) && (not (is_cells (shape e)) && (full (shape e) n && allows (shape e) Sort.plain))

record Takes (e n : ℕ) : Type 0 where
  plain : is_plain (sort e) ≡ true
  no_cells : is_cells (shape e) ≡ false
  filled : full (shape e) n ≡ true
  elements : allows (shape e) Sort.plain ≡ true

taking : (e n : ℕ) → takes e n ≡ true → Takes e n
taking e n t =
    let a = both (is_plain (sort e)) (not (is_cells (shape e)) && (full (shape e) n && allows (shape e) Sort.plain)) t in
    let b = both (not (is_cells (shape e))) (full (shape e) n && allows (shape e) Sort.plain) a.1 in
    let d = both (full (shape e) n) (allows (shape e) Sort.plain) b.1 in
    record { plain = a.0; no_cells = not-true (is_cells (shape e)) b.0; filled = d.0; elements = d.1 }

inner-many : (e n : ℕ) {w : ℕ} (x : List Piece) → allows (shape e) Sort.plain ≡ true → Many n x → (st : List Frame) →
    steps (Held?.inside (frame (shape e) 0 w ∷ st)) x ≡ Held?.inside (frame (shape e) n w ∷ st)
inner-many e n {w} x a p st = let z : 0 + n ≡ n = omega arith in rw z at (p.counted (shape e) 0 w st a)

wrap : (e n : ℕ) {x : List Piece} → takes e n ≡ true → Many n x → Many 1 (E e x)
wrap e n {x} t p = let h = taking e n t in one-element e n [] x h.filled h.no_cells (inner-many e n x h.elements p) h.plain

-- an element that holds characters
abbrev spells : ℕ → Bool
spells e = is_plain (sort e) && is_characters (shape e)

characters : (s : Shape) → is_characters s ≡ true → s ≡ Shape.characters
characters (Shape.exactly n) c = clash false c refl
characters Shape.any c = clash false c refl
characters Shape.characters c = refl
characters Shape.rows c = clash false c refl
characters Shape.cells c = clash false c refl

leaf : (e : ℕ) (s : List ℕ) → spells e ≡ true → Many 1 (L e s)
unfolding run stepped lettered
leaf e s t =
    let h = both (is_plain (sort e)) (is_characters (shape e)) t in
    let c = characters (shape e) h.1 in
    one-element e 0 [] (Piece.chars s ∷ []) (rw c) (rw c) (λ st. rw c) h.0

-- The parts of the output.
abbrev marks : List ℕ → ℕ
marks [] = 0
marks (b ∷ s) = 1

a_mark : (s : List ℕ) → Many (marks s) (mark s)
unfolding mark element_of elements shape shape_by shapes sort same
a_mark [] = nothing-many
a_mark (b ∷ s) = leaf 4 (b ∷ s) refl

a_bracket : (s : List ℕ) → Many (marks (shown s)) (B s)
unfolding B
a_bracket s = a_mark (shown s)

symbol-spells : (c : SymbolClass) → spells (symbol_element c) ≡ true
unfolding symbol_element element_of elements shape shape_by shapes sort same
symbol-spells class.Glyph = refl
symbol-spells class.Name = refl
symbol-spells class.Joining = refl
symbol-spells class.JoiningName = refl
symbol-spells class.Leading = refl
symbol-spells class.LeadingName = refl
symbol-spells class.Space = refl
symbol-spells class.Separator = refl

an_atom : (a : Atom) (s : List ℕ) → Many 1 (atom a s)
unfolding atom element_of elements shape shape_by shapes sort same
an_atom Atom.number s = leaf 1 s refl
an_atom Atom.text s = leaf 2 s refl
an_atom Atom.ident s = leaf 3 s refl
an_atom Atom.operator s = leaf 4 s refl
an_atom Atom.sign s = leaf 5 (shown s) refl
an_atom Atom.space s = wrap 6 0 refl nothing-many
an_atom (Atom.symbol c) s = leaf (symbol_element c) (shown s) (symbol-spells c)

a_script : (sc : Script) {x y : List Piece} → Many 1 x → Many (arguments sc) y → Many 1 (S sc x y)
unfolding S arguments element_of elements shape shape_by shapes sort same
a_script Script.none p q = p
a_script Script.sub p q = wrap 13 2 refl (beside p q)
a_script Script.super p q = wrap 20 2 refl (beside p q)
a_script Script.subsuper p q = wrap 21 3 refl (beside p q)

apply-spells : (t : Bool) → spells (elim t [ true ↦ 4 | false ↦ 23 ]) ≡ true
unfolding element_of elements shape shape_by shapes sort same
apply-spells true = refl
apply-spells false = refl

applied : (s : List ℕ) → Many 1 (A s)
unfolding A
applied s = leaf _ _ (apply-spells (eqb (length s) 1))

-- the commands, by a computed test of each row
abbrev unary_takes : Command → Bool
unary_takes r = takes r.element (marks r.left + (1 + marks r.right))

abbrev binary_takes : Command → Bool
binary_takes r = takes r.element 2

unaries-take : every unary_takes unaries ≡ true
unfolding unaries utf8 encoded element_of elements shape shape_by shapes sort same
unaries-take = refl

exchanging-take : every binary_takes exchanging ≡ true
unfolding exchanging element_of elements shape shape_by shapes sort same
exchanging-take = refl

a_unary : (rs : List Command) → All (λ r. unary_takes r ≡ true) rs → (s : List ℕ) {x : List Piece} → Many 1 x → Many 1 (unary_by rs s x)
unfolding unary_by
a_unary [] t s p = p
a_unary (r ∷ rs) t s {x} p =
    elim (same r.name s) as (λ b. Many 1 (elim b [ true ↦ E r.element (mark r.left ++ (x ++ mark r.right)) | false ↦ unary_by rs s x ])) [
      | true ↦ wrap r.element _ t.0 (beside (a_mark r.left) (beside p (a_mark r.right)))
      | false ↦ a_unary rs t.1 s p
    ]

a_binary : (rs : List Command) → All (λ r. binary_takes r ≡ true) rs → (s : List ℕ) {x y : List Piece} → Many 1 x → Many 1 y → Many 1 (binary_by rs s x y)
unfolding binary_by element_of elements shape shape_by shapes sort same
a_binary [] t s p q = wrap 12 2 refl (beside p q)
a_binary (r ∷ rs) t s {x} {y} p q =
    elim (same r.name s) as (λ b. Many 1 (elim b [ true ↦ E r.element (y ++ x) | false ↦ binary_by rs s x y ])) [
      | true ↦ wrap r.element 2 t.0 (beside q p)
      | false ↦ a_binary rs t.1 s p q
    ]

a_group : (m : Mode) (l r : List ℕ) {n : ℕ} {x : List Piece} → Many n x → Many 1 (group m l r x)
unfolding group element_of elements shape shape_by shapes sort same
a_group m l r {n} {x} p =
    elim (dropped m l r) as (λ b. Many 1 (elim b [ true ↦ E 15 x | false ↦ E 15 (B l ++ (x ++ B r)) ])) [
      | true ↦ wrap 15 n refl p
      | false ↦ wrap 15 _ refl (beside (a_bracket l) (beside p (a_bracket r)))
    ]

all-together : (cs : List (List Piece)) → All (Many 1) cs → Many (length cs) (together cs)
unfolding together
all-together [] h = nothing-many
all-together (x ∷ cs) h = let e : suc (length cs) ≡ 1 + length cs = omega arith in rw e (beside h.0 (all-together cs h.1))

-- The table of a matrix. A cell stands in a row only, and a row in a table only.
record Cell (x : List Piece) : Type 0 where
  counted : (k w : ℕ) (st : List Frame) →
      steps (Held?.inside (frame Shape.cells k w ∷ st)) x ≡ Held?.inside (frame Shape.cells (k + 1) w ∷ st)

a_cell : {n : ℕ} {x : List Piece} → Many n x → Cell (E 17 x)
unfolding within stepped entered left element_of elements shape shape_by shapes sort same
a_cell {n} {x} p = record {
  counted = λ k w st.
      rw (run-cons stepped (Held?.inside (frame Shape.cells k w ∷ st)) (Piece.start 17 []) (x ++ (Piece.end 17 ∷ [])))
      (ends 17 n [] x refl refl (inner-many 17 n x refl p) (frame Shape.cells (k + 1) w ∷ st));
}

cells-counted : (cs : List (List Piece)) → All Cell cs → (k w : ℕ) (st : List Frame) →
    steps (Held?.inside (frame Shape.cells k w ∷ st)) (together cs) ≡ Held?.inside (frame Shape.cells (k + length cs) w ∷ st)
unfolding together run
cells-counted [] h k w st = let e : k + 0 ≡ k = omega arith in rw e
cells-counted (x ∷ cs) h k w st =
    let e : k + suc (length cs) ≡ k + 1 + length cs = omega arith in
    rw e (run_on stepped (Held?.inside (frame Shape.cells k w ∷ st)) x (together cs) (h.0.counted k w st) (cells-counted cs h.1 (k + 1) w st))

row-left : (n : ℕ) (s : Shape) (k : ℕ) (st : List Frame) → row_left n (frame s k n ∷ st) ≡ Held?.inside (frame s k n ∷ st)
unfolding row_left
row-left n s k st = rw (eq-eqb n n refl, row_left)

-- a table of cols columns with k rows: x makes them n
abbrev Makes : ℕ → ℕ → ℕ → List Piece → Type 0
Makes cols k n x =
    (st : List Frame) → steps (Held?.inside (frame Shape.rows k cols ∷ st)) x ≡ Held?.inside (frame Shape.rows n cols ∷ st)

-- a row of as many cells as the table has columns
row-counted : (cols : ℕ) (cs : List (List Piece)) → length cs ≡ cols → All Cell cs → (k : ℕ) →
    Makes cols k (k + 1) (E 32 (together cs))
unfolding within stepped entered ended element_of elements shape shape_by shapes sort same blanks
row-counted cols cs e h k st =
    let f = frame Shape.rows (k + 1) cols in
    let z : 0 + length cs ≡ cols = omega arith in
    rw (
      run-cons stepped (Held?.inside (frame Shape.rows k cols ∷ st)) (Piece.start 32 []) (together cs ++ (Piece.end 32 ∷ [])),
      run-append stepped (Held?.inside (frame Shape.cells 0 1 ∷ f ∷ st)) (together cs) (Piece.end 32 ∷ []),
      cells-counted cs h 0 1 (f ∷ st),
      z,
      run-one stepped (Held?.inside (frame Shape.cells cols 1 ∷ f ∷ st)) (Piece.end 32),
    )
    (row-left cols Shape.rows (k + 1) st)

-- x is rows only, whatever their number
abbrev Rows : ℕ → ℕ → List Piece → Type 0
Rows cols k x = (n : ℕ) × Makes cols k n x

one_more : (cols k j : ℕ) (x y : List Piece) → Makes cols k j x → Rows cols j y → Rows cols k (x ++ y)
one_more cols k j x y p q = (q.0, λ st. run_on stepped (Held?.inside (frame Shape.rows k cols ∷ st)) x y (p st) (q.1 st))

rows-counted : (f r cols : ℕ) (cs : List (List Piece)) → length cs ≡ r * cols → All Cell cs → (k : ℕ) →
    Rows cols k (table_rows f cols cs)
unfolding table_rows run
rows-counted zero r cols cs e h k = (k, λ st. refl)
rows-counted (suc f) r cols [] e h k = (k, λ st. refl)
rows-counted (suc f) zero cols (c ∷ cs) e h k = absurd (omega arith)
rows-counted (suc f) (suc r) cols (c ∷ cs) e h k =
    let all = c ∷ cs in
    let m = suc-mul r cols in
    let a : length (take cols all) ≡ cols = simp length-take (omega arith) in
    let b : length (drop cols all) ≡ r * cols = simp length-drop (omega arith) in
    one_more cols k (k + 1) (E 32 (together (take cols all))) (table_rows f cols (drop cols all))
    (row-counted cols (take cols all) a (all_take Cell cols all h) k)
    (rows-counted f r cols (drop cols all) b (all_drop Cell cols all h) (k + 1))

-- The start tag of a table says how many columns it has.
blanks-append : (s t : List ℕ) → blanks (s ++ t) ≡ blanks s + blanks t
unfolding blanks
blanks-append [] t = omega arith
blanks-append (b ∷ s) t =
    let r = blanks-append s t in by_test (eqb b 32) (λ e. rw (e, blanks) (omega arith)) (λ e. rw (e, blanks) r)

entry-blanks : (lines : List ℕ) (j : ℕ) → blanks (line_entry lines j) ≡ 0
unfolding blanks line_entry
entry-blanks lines j = by_test (has j lines) (λ e. rw (e, line_entry)) (λ e. rw (e, line_entry))

entries-blanks : (lines : List ℕ) (j n : ℕ) → blanks (line_entries lines j n) ≡ n
unfolding blanks line_entries
entries-blanks lines j zero = refl
entries-blanks lines j (suc n) = rw (blanks-append, entry-blanks, entries-blanks lines (suc j) n) (omega arith)

columns_said : (d : ℕ) (lines : List ℕ) → columns_of (columnlines (suc d) lines) ≡ suc d
unfolding blanks columnlines
columns_said zero lines = refl
columns_said (suc n) lines = simp (blanks-append, entry-blanks, entries-blanks) (omega arith)

a_table : (r d : ℕ) (lines : List ℕ) (cs : List (List Piece)) → length cs ≡ r * suc d → All Cell cs →
    Many 1 (table (suc d) lines cs)
unfolding table element_of elements shape shape_by shapes sort same
a_table r d lines cs e h =
    let c = rows-counted (length cs) r (suc d) cs e h 0 in
    one-element 31 c.0 (columnlines (suc d) lines) (table_rows (length cs) (suc d) cs) refl refl
    (rw (columns_said d lines) c.1) refl

-- A node with its children's pieces.
record Ones (n : ℕ) (cs : List (List Piece)) : Type 0 where
  each : All (Many 1) cs
  long : length cs ≡ n

-- as many as a script has arguments, in front of others
script-arguments : (sc : Script) (cs more : List (List Piece)) → Ones (arguments sc) cs → Many (arguments sc) (together (take (arguments sc) (cs ++ more)))
script-arguments sc cs more o = rw (take_at cs more (arguments sc) o.long) (rw o.long at (all-together cs o.each))

module _ (text : List ℕ) where
  pub outs-length : (m : Mode) (h : Head) (i : ℕ) (l : Nodes) → length (outs text m h i l) ≡ count l
  unfolding outs
  outs-length m h i end = refl
  outs-length m h i (x ▸ l) = ap suc (outs-length m h (suc i) l)

  -- a function with its script's arguments and its argument
  pub outs-func : (m : Mode) (h : Head) (i : ℕ) (l : Nodes) (x : Node) →
      (k : Mode) × (outs text m h i (l ⧺ (x ▸ end)) ≡ outs text m h i l ++ (out text k x ∷ []))
  unfolding outs
  outs-func m h i end x = (handed text m h i, refl)
  outs-func m h i (y ▸ l) x =
      let r = outs-func m h (suc i) l x in (r.0, ap (λ cs. out text (handed text m h i) y ∷ cs) r.1)

  a_func : (m : Mode) (sp : Span) (sc : Script) (cs : List (List Piece)) (c : List Piece) → Ones (arguments sc) cs → Many 1 c →
      Many 1 (join text m (Head.func sp sc) (cs ++ (c ∷ [])))
  unfolding join element_of elements shape shape_by shapes sort same
  a_func m sp sc cs c o p =
      let q : Many 1 (child (cs ++ (c ∷ [])) (arguments sc)) = rw (get_or_at cs c [] [] (arguments sc) o.long) p in
      wrap 14 3 refl
      (beside (a_script sc (leaf 3 (own text sp) refl) (script-arguments sc cs (c ∷ []) o))
      (beside (applied (own text sp)) q))

  mutual
    unfolding out outs join unary binary arguments element_of elements shape shape_by shapes sort same

    simple-one : {x : Node} → Simple x → (m : Mode) → Many 1 (out text m x)
    simple-one Simple.missing m = wrap 0 0 refl nothing-many
    simple-one (Simple.atom {a = a} {sp = sp} e) m = an_atom a (own text sp)
    simple-one (Simple.ssigned {sp = sp} s) m = wrap 9 2 refl (beside (leaf 5 (shown (own text sp)) refl) (simple-one s _))
    simple-one (Simple.unary {sp = sp} s) m = a_unary unaries (passed unary_takes unaries unaries-take) (own text sp) (simple-one s _)
    simple-one (Simple.sfunc {sp = sp} s) m =
        wrap 11 3 refl (beside (leaf 3 (own text sp) refl) (beside (applied (own text sp)) (simple-one s _)))
    simple-one (Simple.binary {sp = sp} s t) m =
        a_binary exchanging (passed binary_takes exchanging exchanging-take) (own text sp) (simple-one s _) (simple-one t _)
    simple-one (Simple.group {left = a} {right = b} {l = l} w) m =
        a_group m (own text a) (own text b) (all-together (outs text m (Head.group a b) 0 l) (expression_all w m (Head.group a b) 0))
    -- there are cells, so there are columns
    simple-one (Simple.matrix {cols = zero} w r e g v) m = absurd (omega arith)
    simple-one (Simple.matrix {left = a} {right = b} {cols = suc d} {lines = ls} {l = l} w r e g v) m =
        let h = Head.matrix a b (suc d) ls in
        wrap 16 _ refl
        (beside (a_bracket (own text a))
        (beside
        (a_table r d ls (outs text m h 0 l) (outs-length m h 0 l ∙ e) (cells-all w m h 0))
        (a_bracket (own text b))))

    cells-all : {l : Nodes} → Cells l → (m : Mode) (h : Head) (i : ℕ) → All Cell (outs text m h i l)
    cells-all Cells.no_more_cells m h i = tt
    cells-all (Cells.cell {l = l} w c) m h i = (
      a_cell (all-together (outs text (handed text m h i) Head.cell 0 l) (expression_all w (handed text m h i) Head.cell 0)),
      cells-all c m h (suc i),
    )

    arguments-all : {sc : Script} {l : Nodes} → Arguments sc l → (m : Mode) (h : Head) (i : ℕ) → Ones (arguments sc) (outs text m h i l)
    arguments-all Arguments.no_script m h i = record { each = tt; long = refl }
    arguments-all (Arguments.sub s) m h i = record { each = (simple-one s _, tt); long = refl }
    arguments-all (Arguments.super s) m h i = record { each = (simple-one s _, tt); long = refl }
    arguments-all (Arguments.subsuper s t) m h i = record { each = (simple-one s _, (simple-one t _, tt)); long = refl }

    script_func-one : {x : Node} → ScriptFunc x → (m : Mode) → Many 1 (out text m x)
    script_func-one (ScriptFunc.simple {sc = sc} {l = l} s a) m =
        a_script sc (simple-one s _)
        (rw append-nil at (script-arguments sc (outs text m (Head.simple sc) 1 l) [] (arguments-all a m (Head.simple sc) 1)))
    script_func-one (ScriptFunc.func {sp = sp} {sc = sc} {x = x} {l = l} {m = n} a s e) m =
        let o = outs-func m (Head.func sp sc) 0 l x in
        rw (e, o.1) (a_func m sp sc (outs text m (Head.func sp sc) 0 l) (out text o.0 x) (arguments-all a m (Head.func sp sc) 0) (script_func-one s o.0))
    script_func-one (ScriptFunc.signed {sp = sp} s) m =
        wrap 8 2 refl (beside (leaf 5 (shown (own text sp)) refl) (script_func-one s _))

    intermediate_one : {x : Node} → Intermediate x → (m : Mode) → Many 1 (out text m x)
    intermediate_one (Intermediate.script_func s) m = script_func-one s m
    intermediate_one (Intermediate.frac s t) m = wrap 18 2 refl (beside (script_func-one s _) (script_func-one t _))

    expression_all : {l : Nodes} → Expression l → (m : Mode) (h : Head) (i : ℕ) → All (Many 1) (outs text m h i l)
    expression_all Expression.empty m h i = tt
    expression_all (Expression.items x b) m h i = (intermediate_one x _, behind-all b m h (suc i))

    behind-all : {l : Nodes} → Behind l → (m : Mode) (h : Head) (i : ℕ) → All (Many 1) (outs text m h i l)
    behind-all Behind.no_more m h i = tt
    behind-all (Behind.item x b) m h i = (intermediate_one x _, behind-all b m h (suc i))
    behind-all (Behind.space {sp = sp} p x b) m h i =
        (an_atom Atom.space (own text sp), (intermediate_one x _, behind-all b m h (suc (suc i))))

-- "mfrac, mroot, msub, msup, mover, munder have 2 child elements, msubsup 3, ..": for well-formed trees
pub children-output : (text : List ℕ) (tree : Nodes) → WellFormed tree → fitting (root text tree) ≡ true
unfolding fitting root is_whole element_of elements shape shape_by shapes sort same
children-output text tree w =
    let cs = outs text mode.Keep Head.cell 0 tree in
    rw (the_root 19 (length cs) [] (together cs) refl refl
    (inner-many 19 (length cs) (together cs) refl (all-together cs (expression_all text w mode.Keep Head.cell 0))) refl)

-- a table with one row of n cells
abbrev one_row : String → ℕ → List Piece
one_row more n = E 19 (within 31 (bytes more) (E 32 (together (replicate n (E 17 [])))))

-- where the start tag says three columns a row has three cells and not two; where it says one, not two; a cell stands in a row
pub columns_tested :
    (fitting (one_row " columnlines=\"none solid\"" 3) ≡ true)
    × (fitting (one_row " columnlines=\"none solid\"" 2) ≡ false)
    × (fitting (one_row "" 2) ≡ false)
    × (fitting (E 17 []) ≡ false)
unfolding within together run fitting is_whole stepped entered ended left row_left blanks element_of elements shape shape_by shapes sort same
columns_tested = (refl, refl, refl, refl)
