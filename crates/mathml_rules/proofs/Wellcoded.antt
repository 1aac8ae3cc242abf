-- MATHML.md, section 7, 4: "`&` begins only one of the three references; the output is UTF-8." One law for both readers: each comes home
-- behind every piece.
use Prim.Native.Nat.{ℕ}
use mathlib.Core.Path.{◌≡◌, refl, ◌∙◌}
use mathlib.Core.Bool.{Bool, true, false, not}
use mathlib.Core.List.{List, [], ◌∷◌, ◌++◌, append-nil}
use native.Mathlib.Omega.{arith}
use lib.Dec.{eqb, ltb}
use lib.ListN.{drop}
use borrow.Author.Tests.{not-true}
use Rattle.tokens.proofs.Cases.{clash}
use Rattle.tokens.specs.Lexeme.{Span}
use Rattle.tree.specs.Tree.{Head, Nodes}
use Rattle.mathml_rules.specs.declared.Mode.TheVariants as mode
use Rattle.mathml_rules.specs.Run.{run}
use Rattle.mathml_rules.specs.Utf8.{encoded, utf8}
use Rattle.mathml_rules.specs.Forms.{Form, forms}
use Rattle.mathml_rules.specs.Elements.{elements}
use Rattle.mathml_rules.specs.Pieces.{Piece, Escape, escapes, escaped, esc, bytes_of, written, within}
use Rattle.mathml_rules.specs.Commands.{unaries}
use Rattle.mathml_rules.specs.Mathml.{own, together, columnlines, outs, root, mathml_of}
use Rattle.mathml_rules.specs.Wellcoded.{Reference, due_or, refer, Coding, between, coded}
use Rattle.mathml_rules.proofs.Run.{run-append, run_on}
use Rattle.mathml_rules.proofs.Lists.{All, all, all_map, all_take, all_drop, every, passed, both, every_of}
use Rattle.mathml_rules.proofs.Closed.{Closed, form_passes, forms-good, mark_passes, marks-good, all-fine, closed-items}
use Rattle.mathml_rules.proofs.Escapes.{Plain, plain, by_row, by_escape, Tags, start-passes, end-passes, written-append}

module _ {Q : Type 0} (step : Q → ℕ → Q) (home : Q) where
  abbrev Home : List ℕ → Type 0
  Home s = run step home s ≡ home

  home-both : (s t : List ℕ) → Home s → Home t → Home (s ++ t)
  home-both s t p q = run_on step home s t p q

  -- a test of bytes that do not leave home
  module _ (quiet : ℕ → Bool) (stays : (c : ℕ) → quiet c ≡ true → step home c ≡ home) where
    quiet-home : (s : List ℕ) → every quiet s ≡ true → Home s
    unfolding run
    quiet-home [] e = refl
    quiet-home (c ∷ s) e = let h = both (quiet c) (every quiet s) e in rw (stays c h.0) (quiet-home s h.1)

    element-home : Tags quiet → (e cols : ℕ) (lines : List ℕ) (x : List Piece) → Home (written x) → Home (written (within e (columnlines cols lines) x))
    unfolding within written
    element-home t e cols lines x p =
        let a = bytes_of (Piece.start e (columnlines cols lines)) in
        let z = bytes_of (Piece.end e) in
        home-both a (written (x ++ (Piece.end e ∷ []))) (quiet-home a (start-passes quiet t e cols lines))
        (rw (written-append x (Piece.end e ∷ []), append-nil) (home-both (written x) z p (quiet-home z (end-passes quiet t e))))

-- The references. Every byte but `&` stays at home, and esc leaves no other `&`.
abbrev no_and : ℕ → Bool
no_and c = not (eqb c 38)

stays_out : (c : ℕ) → no_and c ≡ true → refer Reference.home c ≡ Reference.home
unfolding refer
stays_out c e = rw (not-true (eqb c 38) e, refer)

tags-no_and : Tags no_and
unfolding elements
tags-no_and = record {
  table = refl;
  default = refl;
  lines = record { front = refl; solid = refl; none = refl; back = refl; blank = refl };
  less = refl;
  slash = refl;
  greater = refl;
}

abbrev Referred : List ℕ → Type 0
Referred s = Home refer Reference.home s

instead-referred : All (λ (r : Escape). Referred r.instead) escapes
unfolding escapes utf8 encoded run refer due_or
instead-referred = search arith

plain-referred : (c : ℕ) → Plain c → Referred (c ∷ [])
unfolding run
plain-referred c p = stays_out c (rw p.no_and_lem)

esc-referred : (s : List ℕ) → Referred (esc s)
unfolding esc run
esc-referred [] = refl
esc-referred (c ∷ s) =
    home-both refer Reference.home (escaped c) (esc s)
    (by_escape Referred c escapes instead-referred (λ p. plain-referred c (plain c p))) (esc-referred s)

refers : Closed (λ s. Unit {0}) (λ x. Referred (written x))
unfolding written bytes_of run
refers = record {
  nothing = refl;
  both = λ x y p q. rw (written-append x y) (home-both refer Reference.home (written x) (written y) p q);
  chars = λ s g. home-both refer Reference.home (esc s) [] (esc-referred s) refl;
  element = element-home refer Reference.home no_and stays_out tags-no_and;
  forms = λ s g. tt;
  marks = all (λ r. Unit {0} × Unit {0}) (λ r. (tt, tt)) unaries;
  apply = tt;
}

-- "`&` begins only one of the three references"
pub references-output : (text : List ℕ) (tree : Nodes) → run refer Reference.home (mathml_of text tree) ≡ Reference.home
unfolding mathml_of root columnlines
references-output text tree =
    refers.element 19 0 [] (together (outs text mode.Keep Head.cell 0 tree))
    (closed-items refers text tree (all-fine (λ s. Unit {0}) text (λ sp. tt) tree))

-- UTF-8. A byte below 128 stays at home; esc changes only such bytes, and what it gives for one leads where the byte led.
abbrev pub ascii : ℕ → Bool
ascii c = ltb c 128

stays-ascii : (c : ℕ) → ascii c ≡ true → coded Coding.home c ≡ Coding.home
unfolding coded
stays-ascii c e = rw (e, coded)

tags-ascii : Tags ascii
unfolding elements
tags-ascii = record {
  table = refl;
  default = refl;
  lines = record { front = refl; solid = refl; none = refl; back = refl; blank = refl };
  less = refl;
  slash = refl;
  greater = refl;
}

abbrev Coded : List ℕ → Type 0
Coded s = Home coded Coding.home s

row-coded : (q : Coding) → All (λ (r : Escape). run coded q r.instead ≡ coded q r.byte) escapes
unfolding escapes utf8 encoded run coded between
row-coded Coding.home = search arith
row-coded Coding.wrong = search arith
row-coded Coding.one = search arith
row-coded Coding.two = search arith
row-coded Coding.high = search arith

escaped-coded : (q : Coding) (c : ℕ) → run coded q (escaped c) ≡ coded q c
unfolding run
escaped-coded q c =
    by_row (λ s. run coded q s ≡ coded q c) c escapes
    (all_map (λ (r : Escape). run coded q r.instead ≡ coded q r.byte) (λ (r : Escape). c ≡ r.byte → run coded q r.instead ≡ coded q c)
    (λ r h e. rw e h) escapes (row-coded q))
    (λ p. refl)

esc-coded : (s : List ℕ) (q : Coding) → run coded q (esc s) ≡ run coded q s
unfolding esc run
esc-coded [] q = refl
esc-coded (c ∷ s) q = rw (run-append coded q (escaped c) (esc s), escaped-coded q c) (esc-coded s (coded q c))

abbrev is_home : Coding → Bool
is_home Coding.home = true
is_home Coding.wrong = false
is_home Coding.one = false
is_home Coding.two = false
is_home Coding.high = false

at_home : (q : Coding) → is_home q ≡ true → q ≡ Coding.home
at_home Coding.home e = refl
at_home Coding.wrong e = clash false e refl
at_home Coding.one e = clash false e refl
at_home Coding.two e = clash false e refl
at_home Coding.high e = clash false e refl

abbrev codes : List ℕ → Bool
codes s = is_home (run coded Coding.home s)

codes-means : (s : List ℕ) → codes s ≡ true → Coded s
codes-means s e = at_home (run coded Coding.home s) e

forms-code : every (λ (f : Form). form_passes Coded codes codes-means f.form) forms ≡ true
unfolding forms utf8 encoded run coded between
forms-code = refl

marks-code : every (mark_passes Coded codes codes-means) unaries ≡ true
unfolding unaries utf8 encoded run coded between
marks-code = refl

utf8s : Closed Coded (λ x. Coded (written x))
unfolding written bytes_of utf8 encoded run coded between
utf8s = record {
  nothing = refl;
  both = λ x y p q. rw (written-append x y) (home-both coded Coding.home (written x) (written y) p q);
  chars = λ s g. home-both coded Coding.home (esc s) [] (esc-coded s Coding.home ∙ g) refl;
  element = element-home coded Coding.home ascii stays-ascii tags-ascii;
  forms = forms-good Coded codes codes-means forms-code;
  marks = marks-good Coded codes codes-means unaries marks-code;
  apply = refl;
}

-- "the output is UTF-8": of a text of bytes below 128, as every accepted text is
pub utf8-output : (text : List ℕ) → every ascii text ≡ true → (tree : Nodes) → run coded Coding.home (mathml_of text tree) ≡ Coding.home
unfolding mathml_of root columnlines own
utf8-output text e tree =
    let ok : ℕ → Type 0 = λ c. ascii c ≡ true in
    let good : (sp : Span) → Coded (own text sp) = λ sp.
    quiet-home coded Coding.home ascii stays-ascii (own text sp)
    (every_of ascii (own text sp) (all_take ok sp.len (drop sp.start text) (all_drop ok sp.start text (passed ascii text e)))) in
    utf8s.element 19 0 [] (together (outs text mode.Keep Head.cell 0 tree)) (closed-items utf8s text tree (all-fine Coded text good tree))
