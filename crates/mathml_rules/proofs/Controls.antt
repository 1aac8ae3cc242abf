-- MATHML.md, section 7, 4: "After 11 is passed no byte is below 32, and content holds no 32 either".
use Prim.Native.Nat.{ℕ, ◌<◌}
use mathlib.Core.Path.{◌≡◌, refl}
use mathlib.Core.Bool.{Bool, true, false, not, ◌||◌}
use mathlib.Core.List.{List, [], ◌∷◌, ◌++◌}
use native.Mathlib.Omega.{arith}
use lib.Dec.{ltb, leb}
use borrow.Author.Tests.{ltb-true, ltb-false, eqb-false, not-true, le-leb, lt-ltb}
use Rattle.tokens.proofs.Cases.{by_test, clash}
use Rattle.tree.specs.Tree.{Head, Node, node, Nodes, end, ◌▸◌}
use Rattle.mathml_rules.specs.declared.Mode.TheVariants as mode
use Rattle.mathml_rules.specs.Utf8.{encoded, utf8}
use Rattle.mathml_rules.specs.Forms.{Form, forms, shown}
use Rattle.mathml_rules.specs.Elements.{elements}
use Rattle.mathml_rules.specs.Pieces.{Piece, Escape, escapes, escaped, esc, bytes_of, written, within}
use Rattle.mathml_rules.specs.Commands.{unaries}
use Rattle.mathml_rules.specs.Mathml.{own, together, columnlines, outs, root, mathml_of}
use Rattle.mathml_rules.specs.Refusal.{control, controls, refused_prefix, refused_lines, refused_head, refused_node, refusal11}
use Rattle.mathml_rules.proofs.Lists.{every, passed, both, every_append, every-weaker, neither}
use Rattle.mathml_rules.proofs.Closed.{Closed, form_passes, forms-good, mark_passes, marks-good, FineHead, FineNode, Fine, closed-items}
use Rattle.mathml_rules.proofs.Escapes.{Plain, plain, by_escape, Tags, start-passes, end-passes, written-append}

-- a byte that is no control byte, and one that is no blank either
abbrev pub high : ℕ → Bool
high c = leb 32 c

abbrev pub dark : ℕ → Bool
dark c = ltb 32 c

-- Good bytes: no control byte but 9, 10 and 13.
abbrev Good : List ℕ → Type 0
Good s = controls s ≡ false

plain-dark : (c : ℕ) → control c ≡ false → Plain c → every dark (c ∷ []) ≡ true
unfolding control
plain-dark c e p =
    by_test (ltb c 32)
    (λ l. clash true refl (rw (l, p.no_tab, p.no_newline, p.no_return) at e))
    (λ l. let h : 32 < c = omega (arith, ltb-false c 32 l, eqb-false c 32 p.no_blank) in rw (lt-ltb 32 c h))

instead-dark : every (λ (r : Escape). every dark r.instead) escapes ≡ true
unfolding escapes utf8 encoded
instead-dark = refl

escaped-dark : (c : ℕ) → control c ≡ false → every dark (escaped c) ≡ true
escaped-dark c e =
    by_escape (λ s. every dark s ≡ true) c escapes (passed (λ (r : Escape). every dark r.instead) escapes instead-dark)
    (λ p. plain-dark c e (plain c p))

-- "content holds no 32 either"
pub esc-dark : (s : List ℕ) → controls s ≡ false → every dark (esc s) ≡ true
unfolding esc controls
esc-dark [] e = refl
esc-dark (c ∷ s) e =
    let h = neither (control c) (controls s) e in
    every_append dark (escaped c) (esc s) (escaped-dark c h.0) (esc-dark s h.1)

dark-high : (c : ℕ) → dark c ≡ true → high c ≡ true
dark-high c e = le-leb 32 c (omega (arith, ltb-true 32 c e))

-- The computed tests of the tables.
abbrev clear : List ℕ → Bool
clear s = not (controls s)

forms-clear : every (λ (f : Form). form_passes Good clear (λ s. not-true (controls s)) f.form) forms ≡ true
unfolding forms controls control utf8 encoded
forms-clear = refl

marks-clear : every (mark_passes Good clear (λ s. not-true (controls s))) unaries ≡ true
unfolding unaries controls control utf8 encoded
marks-clear = refl

abbrev High : List Piece → Type 0
High x = every high (written x) ≡ true

high-both : (x y : List Piece) → High x → High y → High (x ++ y)
high-both x y p q = rw (written-append x y) (every_append high (written x) (written y) p q)

tags-high : Tags high
unfolding elements
tags-high = record {
  table = refl;
  default = refl;
  lines = record { front = refl; solid = refl; none = refl; back = refl; blank = refl };
  less = refl;
  slash = refl;
  greater = refl;
}

high-element : (e cols : ℕ) (lines : List ℕ) (x : List Piece) → High x → High (within e (columnlines cols lines) x)
unfolding within written
high-element e cols lines x p =
    every_append high (bytes_of (Piece.start e (columnlines cols lines))) (written (x ++ (Piece.end e ∷ []))) (start-passes high tags-high e cols lines)
    (high-both x (Piece.end e ∷ []) p (every_append high (bytes_of (Piece.end e)) [] (end-passes high tags-high e) refl))

highs : Closed Good High
unfolding written bytes_of shown utf8 encoded controls control
highs = record {
  nothing = refl;
  both = high-both;
  chars = λ s g. every_append high (esc s) [] (every-weaker dark high dark-high (esc s) (esc-dark s g)) refl;
  element = high-element;
  forms = forms-good Good clear (λ s. not-true (controls s)) forms-clear;
  marks = marks-good Good clear (λ s. not-true (controls s)) unaries marks-clear;
  apply = refl;
}

-- a tree that is not refused has good spans
module _ (text : List ℕ) where
  head-good : (h : Head) → refused_head text h ≡ false → FineHead Good text h
  unfolding refused_head
  head-good Head.missing e = tt
  head-good (Head.atom a sp) e = e
  head-good (Head.prefix p sp) e = (neither (controls (own text sp)) (refused_prefix p (own text sp)) e).0
  head-good (Head.simple sc) e = tt
  head-good (Head.func sp sc) e = e
  head-good Head.frac e = tt
  head-good Head.cell e = tt
  head-good (Head.group a b) e = neither (controls (own text a)) (controls (own text b)) e
  head-good (Head.matrix a b cols lines) e =
      let h = neither (controls (own text a)) (controls (own text b) || refused_lines cols lines) e in
      (h.0, (neither (controls (own text b)) (refused_lines cols lines) h.1).0)

  mutual
    unfolding refused_node refusal11

    node-good : (x : Node) → refused_node text x ≡ false → FineNode Good text x
    node-good (node h l) e = let d = neither (refused_head text h) (refusal11 text l) e in (head-good h d.0, nodes-good l d.1)

    nodes-good : (l : Nodes) → refusal11 text l ≡ false → Fine Good text l
    nodes-good end e = tt
    nodes-good (x ▸ l) e = let d = neither (refused_node text x) (refusal11 text l) e in (node-good x d.0, nodes-good l d.1)

-- "After 11 is passed no byte is below 32"
pub no_control_byte : (text : List ℕ) (tree : Nodes) → refusal11 text tree ≡ false → every high (mathml_of text tree) ≡ true
unfolding mathml_of root columnlines
no_control_byte text tree e =
    high-element 19 0 [] (together (outs text mode.Keep Head.cell 0 tree)) (closed-items highs text tree (nodes-good text tree e))
