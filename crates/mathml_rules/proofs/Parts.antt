-- The output of a node front to back: what opens it, its children with what stands between them, what closes it.
use Prim.Native.Nat.{ℕ, zero, suc, ◌<◌, ◌+◌, ◌*◌, ◌≤◌}
use mathlib.Core.Path.{◌≡◌, refl, sym, ap, ◌∙◌}
use mathlib.Core.Bool.{Bool, true, false}
use mathlib.Core.List.{List, [], ◌∷◌, ◌++◌, append_assoc, append-nil}
use native.Mathlib.Omega.{arith}
use native.Mathlib.Nat.{suc-mul}
use lib.ListN.{length, take, drop, length-drop}
use lib.Seq.{take_all, take_at, get_or_at}
use lib.Dec.{eqb, ltb}
use borrow.Author.Tests.{eq-eqb, ne_eqb, eqb-true, eqb-false, ltb-true, ltb-false}
use Rattle.tokens.specs.Bytes.{bytes, same}
use Rattle.tokens.specs.Lexeme.{Span}
use Rattle.tokens.proofs.Cases.{by_test, by_lt}
use Rattle.tree.specs.Tree.{Script, Head, Prefix, Node, node, Nodes, end, ◌▸◌, ◌⧺◌, count}
use Rattle.tree.specs.WellFormed.{Lines, Simple, Cells, Arguments, ScriptFunc, Intermediate, Expression, Behind}
use Rattle.tree.specs.Decode as tree
use Rattle.mathml_rules.specs.declared.Mode.{Mode}
use Rattle.mathml_rules.specs.Pieces.{Piece, within, E, L}
use Rattle.mathml_rules.specs.Commands.{Command, unaries, exchanging, mark, unary_by, unary, binary_by, binary}
use Rattle.mathml_rules.specs.Mathml.{own, together, atom, S, arguments, A, B, dropped, group, has, line_entry, line_entries, columnlines, table_rows, table, handed, child, join, out, outs}
use Rattle.mathml_rules.proofs.Children.{outs-length}
use Rattle.mathml_rules.specs.Parts.{begin, finish, begin_script, finish_script, begin_unary, finish_unary, binary_element, exchanges, kept, not_before, first_is, entry_for, entries_from, line_attribute, opening, closing, between_func, one_less, cells_left, cols_of, before, woven, swaps, between, WholeRows, Whole, Wholes}

ruleset flat = (append_assoc, append-nil)

unary-parts : (rs : List Command) (s : List ℕ) (c : List Piece) → unary_by rs s c ≡ begin_unary rs s ++ (c ++ finish_unary rs s)
unfolding unary_by begin_unary finish_unary within
unary-parts [] s c = simp flat
unary-parts (r ∷ rs) s c =
    elim (same r.name s) as (λ t.
    elim t [ true ↦ E r.element (mark r.left ++ (c ++ mark r.right)) | false ↦ unary_by rs s c ] ≡
    elim t [ true ↦ begin r.element ++ mark r.left | false ↦ begin_unary rs s ] ++
    (c ++ elim t [ true ↦ mark r.right ++ finish r.element | false ↦ finish_unary rs s ])
    ) [ true ↦ simp flat | false ↦ unary-parts rs s c ]

-- with the element's children in the order in which they are written
binary-parts : (rs : List Command) (s : List ℕ) (c1 c2 : List Piece) →
    binary_by rs s c1 c2
    ≡ begin (binary_element rs s) ++ (elim (exchanges rs s) [ true ↦ c2 ++ c1 | false ↦ c1 ++ c2 ] ++ finish (binary_element rs s))
unfolding binary_by binary_element exchanges within
binary-parts [] s c1 c2 = refl
binary-parts (r ∷ rs) s c1 c2 =
    by_test (same r.name s) (λ e. rw (e, binary_by, binary_element, exchanges))
    (λ e. rw (e, binary_by, binary_element, exchanges) (binary-parts rs s c1 c2))

script-parts : (sc : Script) (base args : List Piece) → (sc ≡ Script.none → args ≡ []) → S sc base args ≡ begin_script sc ++ (base ++ (args ++ finish_script sc))
unfolding S begin_script finish_script within
script-parts Script.none base args e = rw (e refl) (simp flat)
script-parts Script.sub base args e = simp flat
script-parts Script.super base args e = simp flat
script-parts Script.subsuper base args e = simp flat

group-parts : (m : Mode) (l r : List ℕ) (x : List Piece) → group m l r x ≡ (begin 15 ++ kept m l r l) ++ (x ++ (kept m l r r ++ finish 15))
unfolding group kept within
group-parts m l r x =
    by_test (dropped m l r) (λ e. rw (e, group, kept)) (λ e. rw (e, group, kept) (simp flat))

-- children with nothing between them
plain-woven : (text : List ℕ) (h : Head) → ((i left : ℕ) → before text h i left ≡ []) → (i left : ℕ) (cs : List (List Piece)) →
    woven text h i left cs ≡ together cs
unfolding woven together
plain-woven text h e i left [] = refl
plain-woven text h e i left (c ∷ cs) =
    rw (e i left) (ap (λ (x : List Piece). c ++ x) (plain-woven text h e (suc i) (cells_left (cols_of h) left) cs))

plain-between : (text : List ℕ) (h : Head) → swaps text h ≡ false → ((i left : ℕ) → before text h i left ≡ []) → (cs : List (List Piece)) →
    between text h cs ≡ together cs
unfolding between
plain-between text h s e cs = rw (s, between) (plain-woven text h e 0 (cols_of h) cs)

-- the last child of a function behind what stands before it alone
woven-last : (text : List ℕ) (sp : Span) (sc : Script) (i left : ℕ) (cs : List (List Piece)) (c : List Piece) →
    ((j : ℕ) → j < i + length cs → between_func sc (own text sp) j ≡ []) →
    woven text (Head.func sp sc) i left (cs ++ (c ∷ [])) ≡ together cs ++ (between_func sc (own text sp) (i + length cs) ++ c)
unfolding woven together before
woven-last text sp sc i left [] c h = let e : i + 0 ≡ i = omega arith in rw e (simp flat)
woven-last text sp sc i left (a ∷ cs) c h =
    let e : i + suc (length cs) ≡ suc i + length cs = omega arith in
    rw (h i (omega arith), e)
    (ap (λ x. a ++ x) (woven-last text sp sc (suc i) (cells_left 0 left) cs c (λ j k. h j (omega arith))) ∙ simp flat)

-- the cells of a matrix, of which so many are left in the row
unfoldable woven_cells : ℕ → ℕ → List (List Piece) → List Piece
woven_cells cols left [] = []
woven_cells cols zero (c ∷ cs) = finish 32 ++ (begin 32 ++ (c ++ woven_cells cols (one_less cols) cs))
woven_cells cols (suc left) (c ∷ cs) = c ++ woven_cells cols left cs

cells-woven : (text : List ℕ) (a b : Span) (cols : ℕ) (lines : List ℕ) (i left : ℕ) (cs : List (List Piece)) →
    woven text (Head.matrix a b cols lines) i left cs ≡ woven_cells cols left cs
unfolding woven woven_cells before
cells-woven text a b cols lines i left [] = refl
cells-woven text a b cols lines i zero (c ∷ cs) =
    ap (λ (x : List Piece). finish 32 ++ (begin 32 ++ (c ++ x))) (cells-woven text a b cols lines (suc i) (one_less cols) cs)
cells-woven text a b cols lines i (suc left) (c ∷ cs) = ap (λ (x : List Piece). c ++ x) (cells-woven text a b cols lines (suc i) left cs)

cells-between : (text : List ℕ) (a b : Span) (cols : ℕ) (lines : List ℕ) (cs : List (List Piece)) →
    between text (Head.matrix a b cols lines) cs ≡ woven_cells cols cols cs
unfolding between swaps
cells-between text a b cols lines cs = cells-woven text a b cols lines 0 cols cs

-- the cells: the rest of the row, then new rows
cells-split : (cols k : ℕ) (cs : List (List Piece)) → k ≤ length cs → woven_cells cols k cs ≡ together (take k cs) ++ woven_cells cols zero (drop k cs)
unfolding woven_cells together
cells-split cols zero cs h = refl
cells-split cols (suc k) [] h = absurd (omega arith)
cells-split cols (suc k) (c ∷ cs) h = ap (λ x. c ++ x) (cells-split cols k cs (omega arith)) ∙ simp flat

row_new : (d : ℕ) (cs : List (List Piece)) → 0 < length cs → woven_cells (suc d) zero cs ≡ finish 32 ++ (begin 32 ++ woven_cells (suc d) (suc d) cs)
unfolding woven_cells
row_new d [] h = absurd (omega arith)
row_new d (c ∷ cs) h = refl

no_rows : (f cols : ℕ) (cs : List (List Piece)) → length cs ≡ 0 → (table_rows f cols cs ≡ []) × (woven_cells cols zero cs ≡ [])
unfolding table_rows woven_cells
no_rows zero cols [] e = (refl, refl)
no_rows (suc f) cols [] e = (refl, refl)
no_rows f cols (c ∷ cs) e = absurd (omega arith)

-- the same lists, bracketed in another way: `simp` over variables, since it does not see through a tag in front
last_row : (x z : List Piece) → (x ++ z) ++ [] ≡ (x ++ []) ++ z
last_row x z = simp flat

next_row : (x z b y : List Piece) → (x ++ z) ++ (b ++ (y ++ z)) ≡ (x ++ (z ++ (b ++ y))) ++ z
next_row x z b y = simp flat

rows-parts : (f r d : ℕ) (cs : List (List Piece)) → length cs ≡ suc r * suc d → length cs ≤ f →
    table_rows f (suc d) cs ≡ begin 32 ++ (woven_cells (suc d) (suc d) cs ++ finish 32)
unfolding table_rows within
rows-parts zero r d cs e h = let m = suc-mul r (suc d) in absurd (omega arith)
rows-parts (suc f) r d [] e h = let m = suc-mul r (suc d) in absurd (omega arith)
rows-parts (suc f) zero d (c ∷ cs) e h =
    let m = suc-mul 0 (suc d) in
    let n = no_rows f (suc d) (drop d cs) (simp length-drop (omega arith)) in
    rw (cells-split (suc d) (suc d) (c ∷ cs) (omega arith), n.0, n.1)
    (ap (λ x. Piece.start 32 [] ∷ x) (last_row (together (take (suc d) (c ∷ cs))) (finish 32)))
rows-parts (suc f) (suc r) d (c ∷ cs) e h =
    let m = suc-mul (suc r) (suc d) in
    let k = suc-mul r (suc d) in
    let b : length (drop d cs) ≡ suc r * suc d = simp length-drop (omega arith) in
    let later = rows-parts f r d (drop d cs) b (simp length-drop (omega arith)) in
    rw (cells-split (suc d) (suc d) (c ∷ cs) (omega arith), later, row_new d (drop d cs) (omega arith))
    (ap (λ x. Piece.start 32 [] ∷ x)
    (next_row (together (take (suc d) (c ∷ cs))) (finish 32) (begin 32) (woven_cells (suc d) (suc d) (drop d cs))))

-- How many children a node of each kind has, and that column lines are in order, in a well-formed tree.
abbrev pub Fits : Head → List (List Piece) → Type 0
Fits Head.missing cs = cs ≡ []
Fits (Head.atom a sp) cs = cs ≡ []
Fits (Head.prefix Prefix.signed sp) cs = (a : List Piece) × (cs ≡ a ∷ [])
Fits (Head.prefix Prefix.ssigned sp) cs = (a : List Piece) × (cs ≡ a ∷ [])
Fits (Head.prefix Prefix.unary sp) cs = (a : List Piece) × (cs ≡ a ∷ [])
Fits (Head.prefix Prefix.sfunc sp) cs = (a : List Piece) × (cs ≡ a ∷ [])
Fits (Head.prefix Prefix.binary sp) cs = (a : List Piece) × ((b : List Piece) × (cs ≡ a ∷ b ∷ []))
Fits (Head.simple sc) cs = (c : List Piece) × ((args : List (List Piece)) × ((cs ≡ c ∷ args) × (length args ≡ arguments sc)))
Fits (Head.func sp sc) cs = (args : List (List Piece)) × ((c : List Piece) × ((cs ≡ args ++ (c ∷ [])) × (length args ≡ arguments sc)))
Fits Head.frac cs = (a : List Piece) × ((b : List Piece) × (cs ≡ a ∷ b ∷ []))
Fits Head.cell cs = Unit {0}
Fits (Head.group a b) cs = Unit {0}
Fits (Head.matrix a b cols lines) cs = Lines cols 0 lines × ((r : ℕ) × ((d : ℕ) × ((cols ≡ suc d) × (length cs ≡ suc r * suc d))))

no_arguments : (sc : Script) (args : List (List Piece)) → length args ≡ arguments sc → sc ≡ Script.none → together args ≡ []
unfolding arguments together
no_arguments sc [] e n = refl
no_arguments sc (a ∷ args) e n = absurd (omega (arith, rw n at e))

simple-parts : (sc : Script) (c : List Piece) (args : List (List Piece)) → length args ≡ arguments sc →
    S sc c (together (take (arguments sc) args)) ≡ begin_script sc ++ ((c ++ together args) ++ finish_script sc)
simple-parts sc c args e =
    rw (take_all (arguments sc) args (omega arith)) (script-parts sc c (together args) (no_arguments sc args e) ∙ simp flat)

-- between the arguments of a script nothing, and before the function's argument the rest
no_between : (sc : Script) (name : List ℕ) (j : ℕ) → j < arguments sc → between_func sc name j ≡ []
unfolding between_func
no_between sc name j h = rw (ne_eqb j (arguments sc) (λ e. omega arith), between_func)

at_argument : (sc : Script) (name : List ℕ) → between_func sc name (arguments sc) ≡ finish_script sc ++ A name
unfolding between_func
at_argument sc name = rw (eq-eqb (arguments sc) (arguments sc) refl, between_func)

func-flat : (b l t f a c z : List Piece) → ((b ++ (l ++ (t ++ f))) ++ (a ++ c)) ++ z ≡ (b ++ l) ++ ((t ++ ((f ++ a) ++ c)) ++ z)
func-flat b l t f a c z = simp flat

func-parts : (text : List ℕ) (sp : Span) (sc : Script) (args : List (List Piece)) (c : List Piece) → length args ≡ arguments sc →
    let name = own text sp in
    E 14 (S sc (L 3 name) (together (take (arguments sc) (args ++ (c ∷ [])))) ++ (A name ++ child (args ++ (c ∷ [])) (arguments sc))) ≡
    (begin 14 ++ (begin_script sc ++ L 3 name)) ++ (woven text (Head.func sp sc) 0 0 (args ++ (c ∷ [])) ++ finish 14)
unfolding within
func-parts text sp sc args c e =
    let name = own text sp in
    let z : 0 + length args ≡ arguments sc = omega arith in
    rw (
      take_at args (c ∷ []) (arguments sc) e,
      get_or_at args c [] [] (arguments sc) e,
      script-parts sc (L 3 name) (together args) (no_arguments sc args e),
      woven-last text sp sc 0 0 args c (λ j h. no_between sc name j (omega arith)),
      z,
      at_argument sc name,
    )
    (ap (λ x. Piece.start 14 [] ∷ x) (func-flat (begin_script sc) (L 3 name) (together args) (finish_script sc) (A name) c (finish 14)))

matrix-flat : (l o b w z y r t : List Piece) → (l ++ ((o ++ ((b ++ (w ++ z)) ++ y)) ++ r)) ++ t ≡ (l ++ (o ++ b)) ++ (w ++ (z ++ (y ++ (r ++ t))))
matrix-flat l o b w z y r t = simp flat

matrix-parts : (l r : List ℕ) (n d : ℕ) (lines : List ℕ) (cs : List (List Piece)) → length cs ≡ suc n * suc d →
    E 16 (B l ++ (table (suc d) lines cs ++ B r)) ≡
    (begin 16 ++ (B l ++ (Piece.start 31 (columnlines (suc d) lines) ∷ begin 32))) ++
    (woven_cells (suc d) (suc d) cs ++ (finish 32 ++ (finish 31 ++ (B r ++ finish 16))))
unfolding table within
matrix-parts l r n d lines cs e =
    rw (rows-parts (length cs) n d cs e (omega arith))
    (ap (λ x. Piece.start 16 [] ∷ x)
    (matrix-flat (B l) (Piece.start 31 (columnlines (suc d) lines) ∷ []) (begin 32) (woven_cells (suc d) (suc d) cs) (finish 32) (finish 31) (B r) (finish 16)))

-- The attribute of a table, its lines in order.
has-passed : (j k : ℕ) → k ≤ j → (lines : List ℕ) → has j (not_before k lines) ≡ has j lines
unfolding has not_before
has-passed j k h [] = refl
has-passed j k h (b ∷ l) =
    by_test (ltb b k)
    (λ e. let n : eqb j b ≡ false = ne_eqb j b (λ z. omega (arith, ltb-true b k e)) in rw (e, not_before, n) (has-passed j k h l))
    (λ e. rw (e, not_before))

in_order : {cols b : ℕ} (k : ℕ) (l : List ℕ) → Lines cols b l → Lines cols k (not_before k l)
unfolding not_before
in_order k [] Lines.none = Lines.none
in_order k (c ∷ l) (Lines.line u v w) =
    by_test (ltb c k) (λ e. rw (e, not_before) (in_order k l w)) (λ e. rw (e, not_before) (Lines.line {b = k} {c = c} (omega (arith, ltb-false c k e)) v w))

none_before : {cols b : ℕ} (j : ℕ) (l : List ℕ) → j < b → Lines cols b l → has j l ≡ false
unfolding has
none_before j [] h Lines.none = refl
none_before j (c ∷ l) h (Lines.line u v w) = rw (ne_eqb j c (λ z. omega arith)) (none_before j l (omega arith) w)

first-has : {cols : ℕ} (j : ℕ) (l : List ℕ) → Lines cols j l → has j l ≡ first_is j l
unfolding has
first-has j [] w = refl
first-has j (c ∷ l) (Lines.line u v w) =
    by_test (eqb c j)
    (λ e. let z = eqb-true c j e in rw (e, eq-eqb j c (sym z)))
    (λ e.
    let f = eqb-false c j e in
    let n : eqb j c ≡ false = ne_eqb j c (λ z. f (sym z)) in
    let o : (j ≡ c → ⊥) = λ z. f (sym z) in
    rw (e, n) (none_before j l (omega (arith, by_ne j c u o)) w))
  where
    by_ne : (a b : ℕ) → a ≤ b → (a ≡ b → ⊥) → a < b
    by_ne a b h f = by_lt a b (λ l. l) (λ l. absurd (f (omega arith)))

entry-is : (t : Bool) → elim t [ true ↦ bytes "solid" | false ↦ bytes "none" ] ≡ entry_for t
entry-is true = refl
entry-is false = refl

module _ (lines : List ℕ) where
  -- what is left of the lines has the same boundaries from j on
  abbrev Rest : ℕ → List ℕ → Type 0
  Rest j l = (k : ℕ) → j ≤ k → has k l ≡ has k lines

  rest-on : (j : ℕ) (l : List ℕ) → Rest j l → Rest j (not_before j l)
  rest-on j l r k h = has-passed k j h l ∙ r k h

  first_entry : {cols b : ℕ} (j : ℕ) (l : List ℕ) → Lines cols b l → Rest j l → entry_for (first_is j (not_before j l)) ≡ line_entry lines j
  unfolding line_entry
  first_entry j l w r =
      ap entry_for (sym (first-has j (not_before j l) (in_order j l w)) ∙ rest-on j l r j (omega arith)) ∙ sym (entry-is (has j lines))

  entries-are : {cols b : ℕ} (j n : ℕ) (l : List ℕ) → Lines cols b l → Rest j l → entries_from j n l ≡ line_entries lines j n
  unfolding entries_from line_entries
  entries-are j zero l w r = refl
  entries-are j (suc n) l w r =
      rw (first_entry j l w r, entries-are (suc j) n (not_before j l) (in_order j l w) (λ k h. rest-on j l r k (omega arith)))

pub attribute_is : {cols : ℕ} (n : ℕ) (lines : List ℕ) → Lines cols 0 lines → line_attribute n lines ≡ columnlines n lines
unfolding line_attribute columnlines
attribute_is zero lines w = refl
attribute_is (suc zero) lines w = refl
attribute_is (suc (suc n)) lines w =
    let r : Rest lines 1 lines = λ k h. refl in
    rw (first_entry lines 1 lines w r, entries-are lines 2 n (not_before 1 lines) (in_order 1 lines w) (λ k h. rest-on lines 1 lines r k (omega arith)))

-- one child, and two
one-between : (text : List ℕ) (h : Head) → swaps text h ≡ false → ((i left : ℕ) → before text h i left ≡ []) → (a : List Piece) →
    between text h (a ∷ []) ≡ a
unfolding together
one-between text h s e a = plain-between text h s e (a ∷ []) ∙ append-nil a

two-between : (text : List ℕ) (sp : Span) (a b : List Piece) →
    between text (Head.prefix Prefix.binary sp) (a ∷ b ∷ []) ≡ elim (exchanges exchanging (own text sp)) [ true ↦ b ++ a | false ↦ a ++ b ]
unfolding between swaps woven before
two-between text sp a b =
    elim (exchanges exchanging (own text sp)) as (λ t.
    ◌≡◌ {A = List Piece} (elim t [ true ↦ b ++ a | false ↦ a ++ (b ++ []) ]) (elim t [ true ↦ b ++ a | false ↦ a ++ b ])
    ) [ true ↦ refl | false ↦ ap (λ (x : List Piece). a ++ x) (append-nil b) ]

func-between : (text : List ℕ) (sp : Span) (sc : Script) (cs : List (List Piece)) →
    between text (Head.func sp sc) cs ≡ woven text (Head.func sp sc) 0 0 cs
unfolding between swaps
func-between text sp sc cs = refl

module _ (text : List ℕ) (m : Mode) where
  -- what opens a node and what closes it, with these pieces between
  abbrev Around : Head → List (List Piece) → List Piece → Type 0
  Around h cs x = join text m h cs ≡ opening text m h ++ (x ++ closing text m h)

  instead : (h : Head) (cs : List (List Piece)) (x : List Piece) → between text h cs ≡ x → Around h cs x → Around h cs (between text h cs)
  instead h cs x e p = p ∙ ap (λ (y : List Piece). opening text m h ++ (y ++ closing text m h)) (sym e)

  one-child : (p : Prefix) (sp : Span) (a : List Piece) → ((s : List ℕ) → swaps text (Head.prefix p sp) ≡ false) →
      Around (Head.prefix p sp) (a ∷ []) a → Around (Head.prefix p sp) (a ∷ []) (between text (Head.prefix p sp) (a ∷ []))
  unfolding before
  one-child p sp a s e = instead (Head.prefix p sp) (a ∷ []) a (one-between text (Head.prefix p sp) (s []) (λ i left. refl) a) e

  -- "A node's bytes are `open h`, before each child i `between h i`, `close h`."
  pub front-to_back : (h : Head) (cs : List (List Piece)) → Fits h cs → Around h cs (between text h cs)
  unfolding join opening swaps before closing unary binary within together
  front-to_back Head.missing cs f = rw f (instead Head.missing [] [] (plain-between text Head.missing refl (λ i left. refl) []) refl)
  front-to_back (Head.atom a sp) cs f =
      rw f (instead (Head.atom a sp) [] [] (plain-between text (Head.atom a sp) refl (λ i left. refl) []) (simp flat))
  front-to_back (Head.prefix Prefix.signed sp) cs f = rw f.1 (one-child Prefix.signed sp f.0 (λ s. refl) (simp flat))
  front-to_back (Head.prefix Prefix.ssigned sp) cs f = rw f.1 (one-child Prefix.ssigned sp f.0 (λ s. refl) (simp flat))
  front-to_back (Head.prefix Prefix.unary sp) cs f =
      rw f.1 (one-child Prefix.unary sp f.0 (λ s. refl) (unary-parts unaries (own text sp) f.0))
  front-to_back (Head.prefix Prefix.sfunc sp) cs f = rw f.1 (one-child Prefix.sfunc sp f.0 (λ s. refl) (simp flat))
  front-to_back (Head.prefix Prefix.binary sp) cs f =
      rw f.1.1
      (instead (Head.prefix Prefix.binary sp) (f.0 ∷ f.1.0 ∷ []) _ (two-between text sp f.0 f.1.0)
      (binary-parts exchanging (own text sp) f.0 f.1.0))
  front-to_back (Head.simple sc) cs f =
      rw f.1.1.0
      (instead (Head.simple sc) (f.0 ∷ f.1.0) _ (plain-between text (Head.simple sc) refl (λ i left. refl) (f.0 ∷ f.1.0))
      (simple-parts sc f.0 f.1.0 f.1.1.1))
  front-to_back (Head.func sp sc) cs f =
      rw f.1.1.0
      (instead (Head.func sp sc) (f.0 ++ (f.1.0 ∷ [])) _ (func-between text sp sc (f.0 ++ (f.1.0 ∷ [])))
      (func-parts text sp sc f.0 f.1.0 f.1.1.1))
  front-to_back Head.frac cs f =
      rw f.1.1
      (instead Head.frac (f.0 ∷ f.1.0 ∷ []) _ (plain-between text Head.frac refl (λ i left. refl) (f.0 ∷ f.1.0 ∷ [])) (simp flat))
  front-to_back Head.cell cs f = instead Head.cell cs _ (plain-between text Head.cell refl (λ i left. refl) cs) refl
  front-to_back (Head.group a b) cs f =
      instead (Head.group a b) cs _ (plain-between text (Head.group a b) refl (λ i left. refl) cs)
      (group-parts m (own text a) (own text b) (together cs))
  front-to_back (Head.matrix a b cols lines) cs f =
      instead (Head.matrix a b cols lines) cs _ (cells-between text a b cols lines cs)
      (rw (attribute_is cols lines f.0, f.1.1.1.0) (matrix-parts (own text a) (own text b) f.1.0 f.1.1.0 lines cs f.1.1.1.1))

-- nodes behind others
behind-wholes : (x : Node) (l : Nodes) → Wholes l → Whole x → Wholes (l ⧺ (x ▸ end))
behind-wholes x end w v = (v, tt)
behind-wholes x (y ▸ l) w v = (w.0, behind-wholes x l w.1 v)

-- The children of a node, from how many it has.
none_left : (l : Nodes) → count l ≡ 0 → l ≡ end
none_left end e = refl
none_left (x ▸ l) e = absurd (omega arith)

one_left : (l : Nodes) → count l ≡ 1 → (x : Node) × (l ≡ x ▸ end)
one_left end e = absurd (omega arith)
one_left (x ▸ l) e = (x, ap (λ (y : Nodes). x ▸ y) (none_left l (omega arith)))

pub two-left : (l : Nodes) → count l ≡ 2 → (x : Node) × ((y : Node) × (l ≡ x ▸ y ▸ end))
two-left end e = absurd (omega arith)
two-left (x ▸ l) e = let r = one_left l (omega arith) in (x, (r.0, ap (λ (y : Nodes). x ▸ y) r.1))

-- the last of a list
last-of : {X : Type 0} (n : ℕ) (cs : List X) → length cs ≡ suc n → (args : List X) × ((c : X) × ((cs ≡ args ++ (c ∷ [])) × (length args ≡ n)))
last-of zero [] e = absurd (omega arith)
last-of (suc n) [] e = absurd (omega arith)
last-of zero (c ∷ []) e = ([], (c, (refl, refl)))
last-of zero (c ∷ d ∷ cs) e = absurd (omega arith)
last-of (suc n) (c ∷ cs) e =
    let r = last-of n cs (omega arith) in
    (c ∷ r.0, (r.1.0, (ap (λ (l : List _). c ∷ l) r.1.1.0, ap suc r.1.1.1)))

whole-rows : (r cols n : ℕ) → n ≡ r * cols → 0 < n → (k : ℕ) × ((d : ℕ) × ((cols ≡ suc d) × (n ≡ suc k * suc d)))
whole-rows zero cols n e h = absurd (omega arith)
whole-rows (suc r) zero n e h = absurd (omega arith)
whole-rows (suc r) (suc d) n e h = (r, (d, (refl, e)))

same-arguments : (sc : Script) → tree.arguments sc ≡ arguments sc
unfolding arguments
same-arguments Script.none = refl
same-arguments Script.sub = refl
same-arguments Script.super = refl
same-arguments Script.subsuper = refl

module _ (text : List ℕ) (m : Mode) where
  abbrev below : Head → Nodes → List (List Piece)
  below h l = outs text m h 0 l

  counted : (h : Head) (l : Nodes) → length (below h l) ≡ count l
  counted h l = outs-length text m h 0 l

  one-fits : (h : Head) (l : Nodes) → count l ≡ 1 → (a : List Piece) × (below h l ≡ a ∷ [])
  unfolding outs
  one-fits h l e = let r = one_left l e in (out text (handed text m h 0) r.0, ap (λ (y : Nodes). below h y) r.1)

  two_fits : (h : Head) (l : Nodes) → count l ≡ 2 → (a : List Piece) × ((b : List Piece) × (below h l ≡ a ∷ b ∷ []))
  unfolding outs
  two_fits h l e =
      let r = two-left l e in
      (out text (handed text m h 0) r.0, (out text (handed text m h 1) r.1.0, ap (λ (y : Nodes). below h y) r.1.1))

  fits : (h : Head) (l : Nodes) → count l ≡ tree.below h (count l) → WholeRows h l → Fits h (below h l)
  unfolding outs
  fits Head.missing l e w = ap (λ (y : Nodes). below Head.missing y) (none_left l e)
  fits (Head.atom a sp) l e w = ap (λ (y : Nodes). below (Head.atom a sp) y) (none_left l e)
  fits (Head.prefix Prefix.signed sp) l e w = one-fits _ l e
  fits (Head.prefix Prefix.ssigned sp) l e w = one-fits _ l e
  fits (Head.prefix Prefix.unary sp) l e w = one-fits _ l e
  fits (Head.prefix Prefix.sfunc sp) l e w = one-fits _ l e
  fits (Head.prefix Prefix.binary sp) l e w = two_fits _ l e
  fits (Head.simple sc) end e w = absurd (omega arith)
  fits (Head.simple sc) (x ▸ l) e w =
      (out text (handed text m (Head.simple sc) 0) x, (outs text m (Head.simple sc) 1 l, (refl, outs-length text m (Head.simple sc) 1 l ∙ omega (arith, same-arguments sc))))
  fits (Head.func sp sc) l e w = last-of (arguments sc) (below (Head.func sp sc) l) (counted (Head.func sp sc) l ∙ e ∙ ap suc (same-arguments sc))
  fits Head.frac l e w = two_fits _ l e
  fits Head.cell l e w = tt
  fits (Head.group a b) l e w = tt
  fits (Head.matrix a b cols lines) l e w =
      let n = counted (Head.matrix a b cols lines) l in
      (w.0, whole-rows w.1.0 cols (length (below (Head.matrix a b cols lines) l)) (n ∙ w.1.1.0) (omega (arith, w.1.1.1)))

  -- "A node's bytes are `open h`, before each child i `between h i`, `close h`."
  pub in_parts : (h : Head) (l : Nodes) → count l ≡ tree.below h (count l) → WholeRows h l →
      out text m (node h l) ≡ opening text m h ++ (between text h (below h l) ++ closing text m h)
  unfolding out
  in_parts h l e w = front-to_back text m h (below h l) (fits h l e w)

-- Every well-formed tree has whole rows.
mutual
  simple-whole : {x : Node} → Simple x → Whole x
  simple-whole Simple.missing = (tt, tt)
  simple-whole (Simple.atom n) = (tt, tt)
  simple-whole (Simple.ssigned a) = (tt, (simple-whole a, tt))
  simple-whole (Simple.unary a) = (tt, (simple-whole a, tt))
  simple-whole (Simple.sfunc a) = (tt, (simple-whole a, tt))
  simple-whole (Simple.binary a b) = (tt, (simple-whole a, (simple-whole b, tt)))
  simple-whole (Simple.group e) = (tt, expression_whole e)
  simple-whole (Simple.matrix c rows m k ls) = ((ls, (rows, (m, omega arith))), cells_whole c)

  cells_whole : {l : Nodes} → Cells l → Wholes l
  cells_whole Cells.no_more_cells = tt
  cells_whole (Cells.cell e m) = ((tt, expression_whole e), cells_whole m)

  arguments-whole : {sc : Script} {l : Nodes} → Arguments sc l → Wholes l
  arguments-whole Arguments.no_script = tt
  arguments-whole (Arguments.sub a) = (simple-whole a, tt)
  arguments-whole (Arguments.super a) = (simple-whole a, tt)
  arguments-whole (Arguments.subsuper a b) = (simple-whole a, (simple-whole b, tt))

  script_func-whole : {x : Node} → ScriptFunc x → Whole x
  script_func-whole (ScriptFunc.simple a q) = (tt, (simple-whole a, arguments-whole q))
  script_func-whole (ScriptFunc.func {x = x} {l = l} q a e) = (tt, rw e (behind-wholes x l (arguments-whole q) (script_func-whole a)))
  script_func-whole (ScriptFunc.signed a) = (tt, (script_func-whole a, tt))

  intermediate_whole : {x : Node} → Intermediate x → Whole x
  intermediate_whole (Intermediate.script_func a) = script_func-whole a
  intermediate_whole (Intermediate.frac a b) = (tt, (script_func-whole a, (script_func-whole b, tt)))

  pub expression_whole : {l : Nodes} → Expression l → Wholes l
  expression_whole Expression.empty = tt
  expression_whole (Expression.items a m) = (intermediate_whole a, behind-whole m)

  behind-whole : {l : Nodes} → Behind l → Wholes l
  behind-whole Behind.no_more = tt
  behind-whole (Behind.item a m) = (intermediate_whole a, behind-whole m)
  behind-whole (Behind.space k a m) = ((tt, tt), (intermediate_whole a, behind-whole m))
