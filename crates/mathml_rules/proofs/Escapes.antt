-- The bytes of the output: those that esc gives, those of columnlines, those of tags, each by a test that they pass.
use Prim.Native.Nat.{ℕ, zero, suc}
use mathlib.Core.Path.{◌≡◌, refl, sym, ap, ◌∙◌}
use mathlib.Core.Bool.{Bool, true, false, ◌&&◌}
use mathlib.Core.List.{List, [], ◌∷◌, ◌++◌, append_assoc}
use lib.Dec.{eqb}
use borrow.Author.Tests.{eqb-true}
use Rattle.tokens.specs.Bytes.{bytes}
use Rattle.tokens.proofs.Cases.{by_test}
use Rattle.mathml_rules.specs.Pieces.{Escape, escapes, escaped_by, Piece, bytes_of, written}
use Rattle.mathml_rules.specs.Elements.{Element, element, elements, element_of}
use Rattle.mathml_rules.specs.Mathml.{has, line_entry, line_entries, columnlines}
use Rattle.mathml_rules.proofs.Lists.{All, all_map, all-at, every, passed, both, every_append}

-- a byte that is escaped by one of the rows, or by none
module _ (Q : List ℕ → Type 0) (c : ℕ) where
  pub by_row : (rs : List Escape) → All (λ (r : Escape). c ≡ r.byte → Q r.instead) rs →
      (All (λ (r : Escape). eqb c r.byte ≡ false) rs → Q (c ∷ [])) → Q (escaped_by rs c)
  unfolding escaped_by
  by_row [] h plain = plain tt
  by_row (r ∷ rs) h plain =
      by_test (eqb c r.byte) (λ e. rw (e, escaped_by) (h.0 (eqb-true c r.byte e)))
      (λ e. rw (e, escaped_by) (by_row rs h.1 (λ p. plain (e, p))))

  pub by_escape : (rs : List Escape) → All (λ (r : Escape). Q r.instead) rs →
      (All (λ (r : Escape). eqb c r.byte ≡ false) rs → Q (c ∷ [])) → Q (escaped_by rs c)
  by_escape rs h plain =
      by_row rs (all_map (λ (r : Escape). Q r.instead) (λ (r : Escape). c ≡ r.byte → Q r.instead) (λ r q e. q) rs h) plain

-- a byte that esc leaves as it is
pub record Plain (c : ℕ) : Type 0 where
  pub no_less : eqb c 60 ≡ false
  pub no_greater : eqb c 62 ≡ false
  pub no_and_lem : eqb c 38 ≡ false
  pub no_tab : eqb c 9 ≡ false
  pub no_newline : eqb c 10 ≡ false
  pub no_return : eqb c 13 ≡ false
  pub no_blank : eqb c 32 ≡ false

pub plain : (c : ℕ) → All (λ (r : Escape). eqb c r.byte ≡ false) escapes → Plain c
unfolding escapes
plain c p = record {
  no_less = p.0;
  no_greater = p.1.0;
  no_and_lem = p.1.1.0;
  no_tab = p.1.1.1.0;
  no_newline = p.1.1.1.1.0;
  no_return = p.1.1.1.1.1.0;
  no_blank = p.1.1.1.1.1.1.0;
}

-- The bytes of the attribute columnlines: a test that passes those of its words.
pub record Lines (test : ℕ → Bool) : Type 0 where
  pub front : every test (bytes " columnlines=\"") ≡ true
  pub solid : every test (bytes "solid") ≡ true
  pub none : every test (bytes "none") ≡ true
  pub back : every test (bytes "\"") ≡ true
  pub blank : test 32 ≡ true

module _ (test : ℕ → Bool) (p : Lines test) where
  entry-passes : (lines : List ℕ) (j : ℕ) → every test (line_entry lines j) ≡ true
  unfolding line_entry
  entry-passes lines j = by_test (has j lines) (λ e. rw (e, line_entry) p.solid) (λ e. rw (e, line_entry) p.none)

  entries-pass : (lines : List ℕ) (j n : ℕ) → every test (line_entries lines j n) ≡ true
  unfolding line_entries
  entries-pass lines j zero = refl
  entries-pass lines j (suc n) =
      rw p.blank
      (every_append test (line_entry lines j) (line_entries lines (suc j) n) (entry-passes lines j) (entries-pass lines (suc j) n))

  pub columnlines-pass : (cols : ℕ) (lines : List ℕ) → every test (columnlines cols lines) ≡ true
  unfolding columnlines
  columnlines-pass zero lines = refl
  columnlines-pass (suc zero) lines = refl
  columnlines-pass (suc (suc n)) lines =
      every_append test (bytes " columnlines=\"") (line_entry lines 1 ++ (line_entries lines 2 n ++ bytes "\"")) p.front
      (every_append test (line_entry lines 1) (line_entries lines 2 n ++ bytes "\"") (entry-passes lines 1)
      (every_append test (line_entries lines 2 n) (bytes "\"") (entries-pass lines 2 n) p.back))

-- The bytes of tags: a test that passes those of the table, of columnlines, and `<`, `/`, `>`.
pub record Tags (test : ℕ → Bool) : Type 0 where
  pub table : every (λ (e : Element). every test e.name && every test e.attributes) elements ≡ true
  pub default : every test (bytes "mrow") ≡ true
  pub lines : Lines test
  pub less : test 60 ≡ true
  pub slash : test 47 ≡ true
  pub greater : every test (62 ∷ []) ≡ true

module _ (test : ℕ → Bool) (p : Tags test) where
  element-passes : (e : ℕ) → (every test (element_of e).name && every test (element_of e).attributes) ≡ true
  unfolding element_of
  element-passes e =
      let t : Element → Bool = λ x. every test x.name && every test x.attributes in
      all-at (λ x. t x ≡ true) elements (element "mrow" "") (passed t elements p.table) (rw p.default) e

  pub start-passes : (e cols : ℕ) (lines : List ℕ) → every test (bytes_of (Piece.start e (columnlines cols lines))) ≡ true
  unfolding bytes_of
  start-passes e cols lines =
      let n = (element_of e).name in
      let a = (element_of e).attributes in
      let m = columnlines cols lines in
      let h = both (every test n) (every test a) (element-passes e) in
      rw p.less
      (every_append test n (a ++ (m ++ (62 ∷ []))) h.0
      (every_append test a (m ++ (62 ∷ [])) h.1 (every_append test m (62 ∷ []) (columnlines-pass test p.lines cols lines) p.greater)))

  pub end-passes : (e : ℕ) → every test (bytes_of (Piece.end e)) ≡ true
  unfolding bytes_of
  end-passes e =
      let n = (element_of e).name in
      let h = both (every test n) (every test (element_of e).attributes) (element-passes e) in
      rw (p.less, p.slash) (every_append test n (62 ∷ []) h.0 p.greater)

-- the pieces' bytes one after another
pub written-append : (x y : List Piece) → written (x ++ y) ≡ written x ++ written y
unfolding written
written-append [] y = refl
written-append (p ∷ x) y = ap (λ s. bytes_of p ++ s) (written-append x y) ∙ sym (append_assoc (bytes_of p) (written x) (written y))
