-- How many bytes are written: of some pieces, of a text's own bytes and as they are shown, of brackets, commands and tables.
use Prim.Native.Nat.{ℕ, zero, suc, ◌+◌, ◌*◌, ◌≤◌}
use mathlib.Core.Path.{◌≡◌, refl}
use mathlib.Core.Bool.{Bool, true}
use mathlib.Core.List.{List, [], ◌∷◌, ◌++◌}
use mathlib.Core.Option.{Option, none, some}
use native.Mathlib.Omega.{arith}
use lib.Dec.{leb}
use lib.ListN.{length, take, drop, length-append, length-take}
use borrow.Author.Tests.{leb-true}
use Rattle.tokens.specs.Bytes.{bytes, same}
use Rattle.tokens.specs.Lexeme.{Span}
use Rattle.tokens.proofs.Cases.{by_test}
use Rattle.lexing.proofs.Moves.{same-is}
use Rattle.mathml_rules.specs.Utf8.{encoded, utf8}
use Rattle.mathml_rules.specs.Elements.{elements, element_of}
use Rattle.mathml_rules.specs.Forms.{Form, form_or, forms, shown_by, shown}
use Rattle.mathml_rules.specs.Pieces.{Piece, L, within, bytes_of, written, Escape, escapes, escaped_by, escaped, esc}
use Rattle.mathml_rules.specs.Commands.{Command, unaries, exchanging, mark, unary_by, unary, binary_by, binary}
use Rattle.mathml_rules.specs.Mathml.{own, together, child, A, B, has, line_entry, line_entries, columnlines, table_rows, table}
use Rattle.mathml_rules.proofs.Lists.{every, passed, both}
use Rattle.mathml_rules.proofs.Escapes.{written-append, by_escape}
use Rattle.mathml_rules.proofs.Tables.{shown-empty}

-- how many bytes some pieces are written with
unfoldable pub width : List Piece → ℕ
width x = length (written x)

-- those of the two tags of an element
unfoldable pub tags : ℕ → ℕ
tags e = 5 + 2 * length (element_of e).name + length (element_of e).attributes

pub width-append : (x y : List Piece) → width (x ++ y) ≡ width x + width y
unfolding width
width-append x y = rw (written-append x y) (length-append (written x) (written y))

pub width-none : width [] ≡ 0
unfolding width written
width-none = refl

pub width-chars : (s : List ℕ) → width (Piece.chars s ∷ []) ≡ length (esc s)
unfolding width written bytes_of
width-chars s = simp length-append (omega arith)

start-length : (e : ℕ) (more : List ℕ) →
    length (bytes_of (Piece.start e more)) ≡ 2 + length (element_of e).name + length (element_of e).attributes + length more
unfolding bytes_of
start-length e more =
    let n = (element_of e).name in
    let a = (element_of e).attributes in
    omega (arith, length-append n (a ++ (more ++ (62 ∷ []))), length-append a (more ++ (62 ∷ [])), length-append more (62 ∷ []))

end-length : (e : ℕ) → width (Piece.end e ∷ []) ≡ 3 + length (element_of e).name
unfolding width written bytes_of
end-length e =
    let n = (element_of e).name in
    omega (arith, length-append (n ++ (62 ∷ [])) [], length-append n (62 ∷ []))

pub width-within : (e : ℕ) (more : List ℕ) (x : List Piece) → width (within e more x) ≡ tags e + length more + width x
unfolding width within tags written
width-within e more x =
    let y = x ++ (Piece.end e ∷ []) in
    omega (
      arith,
      length-append (bytes_of (Piece.start e more)) (written y),
      start-length e more,
      width-append x (Piece.end e ∷ []),
      end-length e,
    )

pub ruleset widths = (width-append, width-within, width-none, width-chars)

-- The children of a node: all of them; some and the others; one and those behind it.
unfoldable pub total : List (List Piece) → ℕ
total cs = width (together cs)

pub total-cons : (c : List Piece) (cs : List (List Piece)) → total (c ∷ cs) ≡ width c + total cs
unfolding total together
total-cons c cs = width-append c (together cs)

pub total-none : total [] ≡ 0
unfolding total together
total-none = width-none

pub total-split : (n : ℕ) (cs : List (List Piece)) → total (take n cs) + total (drop n cs) ≡ total cs
total-split zero cs = omega (arith, total-none)
total-split (suc n) [] = omega (arith, total-none)
total-split (suc n) (c ∷ cs) = omega (arith, total-split n cs, total-cons c cs, total-cons c (take n cs))

pub child-first : (i : ℕ) (cs : List (List Piece)) → width (child cs i) + total (drop (suc i) cs) ≤ total (drop i cs)
child-first zero [] = omega (arith, width-none)
child-first (suc i) [] = omega (arith, width-none)
child-first zero (c ∷ cs) = omega (arith, total-cons c cs)
child-first (suc i) (c ∷ cs) = child-first i cs

-- esc makes at most five bytes of one, by a computed test of its table.
instead-short : every (λ (r : Escape). leb (length r.instead) 5) escapes ≡ true
unfolding escapes utf8 encoded
instead-short = refl

escaped-short : (c : ℕ) → length (escaped c) ≤ 5
escaped-short c =
    leb-true _ _
    (by_escape (λ s. leb (length s) 5 ≡ true) c escapes
    (passed (λ (r : Escape). leb (length r.instead) 5) escapes instead-short) (λ p. refl))

pub esc-length : (s : List ℕ) → length (esc s) ≤ 5 * length s
unfolding esc
esc-length [] = omega arith
esc-length (c ∷ s) = omega (arith, length-append (escaped c) (esc s), escaped-short c, esc-length s)

-- Shown, they have at most five bytes for each too: by one computed test of the display forms.
short_form : Form → Bool
short_form f = elim f.form [ none ↦ true | some t ↦ leb (length (esc t)) (5 * length f.spelling) ]

forms-short : every short_form forms ≡ true
unfolding short_form forms esc escaped_by escapes utf8 encoded
forms-short = refl

form-length : (f : Form) (o : Option (List ℕ)) → f.form ≡ o → short_form f ≡ true →
    length (esc (form_or f.spelling o)) ≤ 5 * length f.spelling
unfolding short_form
form-length f none e h = esc-length f.spelling
form-length f (some t) e h = leb-true _ _ (rw (e, short_form) at h)

shown_by-length : (l : List Form) → every short_form l ≡ true → (s : List ℕ) → length (esc (shown_by l s)) ≤ 5 * length s
unfolding shown_by
shown_by-length [] e s = esc-length s
shown_by-length (f ∷ l) e s =
    let h = both (short_form f) (every short_form l) e in
    by_test (same f.spelling s)
    (λ q. rw (q, shown_by) (rw (← same-is f.spelling s q) (form-length f f.form refl h.0)))
    (λ q. rw (q, shown_by) (shown_by-length l h.1 s))

pub shown-length : (s : List ℕ) → length (esc (shown s)) ≤ 5 * length s
unfolding shown
shown-length s = shown_by-length forms forms-short s

pub own-length : (text : List ℕ) (sp : Span) → length (own text sp) ≤ sp.len
unfolding own
own-length text sp = omega (arith, length-take sp.len (drop sp.start text))

-- A mark of the bytes s, and a bracket: at most 14 for each byte, so nothing for one that stands for no token.
mark-width : (s : List ℕ) → width (mark s) ≤ 9 + length (esc s)
unfolding mark tags element_of elements
mark-width [] = omega (arith, width-none)
mark-width (b ∷ s) = simp widths (omega arith)

pub bracket-width : (s : List ℕ) → width (B s) ≤ 14 * length s
unfolding B mark
bracket-width [] = rw shown-empty (omega (arith, width-none))
bracket-width (b ∷ s) = omega (arith, mark-width (shown (b ∷ s)), shown-length (b ∷ s))

-- What a unary command puts around its argument, and a function in front of it: its name and the mark of application.
unfoldable pub around : List ℕ → ℕ
around s = width (unary s [])

unfoldable pub named : List ℕ → ℕ
named s = width (L 3 s ++ A s)

pub unary-width : (s : List ℕ) (x : List Piece) → width (unary s x) ≡ around s + width x
unfolding around unary unary_by
unary-width s x = go unaries
  where
    go : (rs : List Command) → width (unary_by rs s x) ≡ width (unary_by rs s []) + width x
    go [] = omega (arith, width-none)
    go (r ∷ rs) =
        by_test (same r.name s) (λ e. rw (e, unary_by) (simp widths (omega arith))) (λ e. rw (e, unary_by) (go rs))

-- A binary command has tags of at most 17 bytes.
exchanging-short : every (λ (r : Command). leb (tags r.element) 17) exchanging ≡ true
unfolding exchanging tags element_of elements
exchanging-short = refl

pub binary-width : (s : List ℕ) (x y : List Piece) → width (binary s x y) ≤ 17 + width x + width y
unfolding binary binary_by
binary-width s x y = go exchanging exchanging-short
  where
    go : (rs : List Command) → every (λ (r : Command). leb (tags r.element) 17) rs ≡ true →
        width (binary_by rs s x y) ≤ 17 + width x + width y
    go [] h = unfold tags element_of elements in simp widths (omega arith)
    go (r ∷ rs) h =
        let d = both (leb (tags r.element) 17) (every (λ (r : Command). leb (tags r.element) 17) rs) h in
        by_test (same r.name s)
        (λ e. rw (e, binary_by) (simp widths (omega (arith, leb-true (tags r.element) 17 d.0))))
        (λ e. rw (e, binary_by) (go rs d.1))

-- The table of a matrix: its attribute, and its rows, of which there are no more than cells.
entry_length : (lines : List ℕ) (j : ℕ) → length (line_entry lines j) ≤ 5
unfolding line_entry
entry_length lines j = by_test (has j lines) (λ e. rw (e, line_entry) (omega arith)) (λ e. rw (e, line_entry) (omega arith))

entries-length : (lines : List ℕ) (j n : ℕ) → length (line_entries lines j n) ≤ 6 * n
unfolding line_entries
entries-length lines j zero = omega arith
entries-length lines j (suc n) =
    omega (
      arith,
      length-append (line_entry lines j) (line_entries lines (suc j) n),
      entry_length lines j,
      entries-length lines (suc j) n,
    )

lines-length : (cols : ℕ) (lines : List ℕ) → length (columnlines cols lines) ≤ 8 + 6 * cols
unfolding columnlines
lines-length zero lines = omega arith
lines-length (suc zero) lines = omega arith
lines-length (suc (suc n)) lines =
    let back = line_entries lines 2 n ++ bytes "\"" in
    omega (
      arith,
      length-append (bytes " columnlines=\"") (line_entry lines 1 ++ back),
      length-append (line_entry lines 1) back,
      length-append (line_entries lines 2 n) (bytes "\""),
      entry_length lines 1,
      entries-length lines 2 n,
    )

rows-width : (f cols : ℕ) (cs : List (List Piece)) → width (table_rows f cols cs) ≤ 11 * f + total cs
unfolding table_rows total tags element_of elements
rows-width zero cols cs = omega (arith, width-none)
rows-width (suc f) cols [] = omega (arith, width-none)
rows-width (suc f) cols (c ∷ cs) =
    simp widths (omega (arith, rows-width f cols (drop cols (c ∷ cs)), total-split cols (c ∷ cs)))

pub table-width : (cols : ℕ) (lines : List ℕ) (cs : List (List Piece)) →
    width (table cols lines cs) ≤ 25 + 6 * cols + 11 * length cs + total cs
unfolding table tags element_of elements
table-width cols lines cs = simp widths (omega (arith, lines-length cols lines, rows-width (length cs) cols cs))
