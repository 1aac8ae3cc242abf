-- The theorem about the call's own answer: whenever it writes MathML, what it answers and leaves is the whole reading's, and the bytes are
-- the definition's, with all that is promised of them.
use Prim.Native.Nat.{ℕ, ◌*◌, ◌≤◌}
use mathlib.Core.Path.{◌≡◌, refl, sym, ap, ◌∙◌}
use mathlib.Core.Bool.{true, false}
use mathlib.Core.List.{List, [], ◌∷◌, ◌++◌}
use mathlib.Core.Option.{none}
use lib.Dec.{ltb}
use lib.ListN.{length, take, drop}
use lib.Seq.{take-append_seam}
use borrow.Author.Tests.{lt-ltb, le-ltb}
use Rattle.tokens.specs.Table.{table_words}
use Rattle.lexing.specs.Rules.{tokens}
use Rattle.tokens.specs.Refusals.{accepted, refused, entry_words, bit, ascii, text_refusal}
use Rattle.tokens.proofs.Cases.{by_lt, by_option, by_test, apart, clash}
use Rattle.reading.specs.Reading.{read_text, blank}
use Rattle.bounds.proofs.Theorems.{bounds}
use Rattle.parse.specs.Call as read
use Rattle.parse.specs.Call.{parse_refusal, parse_refusal_by, work_after, tree_after}
use Rattle.parse.proofs.Calls.{text-read}
use Rattle.parse.proofs.Theorems.{text-answered}
use Rattle.mathml_rules.specs.Run.{every}
use Rattle.mathml_rules.specs.Mathml.{mathml_of}
use Rattle.mathml_rules.specs.Refusal.{refusal11}
use Rattle.mathml_rules.proofs.Nesting.{nested-output}
use Rattle.mathml_rules.proofs.Children.{children-output}
use Rattle.mathml_rules.proofs.Controls.{no_control_byte}
use Rattle.mathml_rules.proofs.Wellcoded.{references-output, utf8-output}
use Rattle.mathml_length.proofs.Theorems.{length-within}
use Rattle.mathml.specs.Call.{mark_of, values, marked_text}
use Rattle.mathml.specs.Answers.{Answers}
use Rattle.mathml.proofs.Calls.{LeftAll, refused-so, eleven_so, short-so, whole-so}

-- a text that is read has bytes below 128 alone
every-ascii : (text : List ℕ) → ascii text ≡ true → every (λ c. ltb c 128) text ≡ true
unfolding ascii
every-ascii [] e = refl
every-ascii (c ∷ s) e =
    by_test (ltb c 128) (λ t. rw t (every-ascii s (rw (t, ascii) at e))) (λ t. clash false (rw (t, ascii) at e) refl)

text-ascii : (text : List ℕ) → text_refusal text ≡ none → ascii text ≡ true
unfolding text_refusal
text-ascii text e =
    by_test (ascii text) (λ t. t)
    (λ f.
    by_lt 4096 (length text)
    (λ l. let z = rw (lt-ltb 4096 (length text) l, text_refusal) at e in apart cc)
    (λ l. let z = rw (le-ltb 4096 (length text) l, f, text_refusal) at e in apart cc))

read-ascii : (text : List ℕ) (table work tree : ℕ) → parse_refusal text table work tree ≡ none → text_refusal text ≡ none
unfolding parse_refusal_by
read-ascii text table work tree e =
    by_option (text_refusal text) (λ h. h) (λ k h. let z = rw (h, parse_refusal_by) at e in apart cc)

module _ (text table work tree out : List ℕ) (len takes blankness : ℕ) (tableLeft workLeft treeLeft outLeft : List ℕ) where
  written-so : parse_refusal text (length table) (length work) (length tree) ≡ none → refusal11 text (read_text text).tree ≡ false → length (mark_of text) ≤ length out →
      ◌≡◌ {A = LeftAll} (accepted (len ∷ takes ∷ blankness ∷ []), tableLeft, workLeft, treeLeft, outLeft)
      (accepted (values text), table_words (tokens text) ++ drop (3 * length (tokens text)) table, work_after (length work), tree_after text (tokens text) (length tree), mark_of text ++ drop (length (mark_of text)) out) →
      Answers text len takes blankness treeLeft out outLeft
  unfolding values read.values mark_of
  written-so h g f q =
      let a : accepted (len ∷ takes ∷ blankness ∷ []) ≡ accepted (values text) = ap (λ (x : LeftAll). x.0) q in
      let n : len ≡ length (mark_of text) = cc in
      let t : takes ≡ (read_text text).takes = cc in
      let b : blankness ≡ bit (blank text (read_text text).tree) = cc in
      let y : treeLeft ≡ tree_after text (tokens text) (length tree) = ap (λ (x : LeftAll). x.3) q in
      let z : outLeft ≡ mark_of text ++ drop (length (mark_of text)) out = ap (λ (x : LeftAll). x.4) q in
      let m : take len outLeft ≡ mathml_of text (read_text text).tree = rw (n, z) (take-append_seam (mark_of text) (drop (length (mark_of text)) out)) in
      record {
        reading = rw (t, b, y) (text-answered text table work tree _ _ _ _ _ _ _ (text-read entry_words text table work tree h)).1;
        length-is = n;
        fits = rw n f;
        short = rw n (length-within text);
        bytes = z ∙ rw n;
        allowed = g;
        nests = rw m (nested-output text (read_text text).tree);
        children = children-output text (read_text text).tree (bounds text (tokens text)).well_formed;
        printable = rw m (no_control_byte text (read_text text).tree g);
        references = rw m (references-output text (read_text text).tree);
        encoded = rw m (utf8-output text (every-ascii text (text-ascii text (read-ascii text _ _ _ h))) (read_text text).tree);
      }

pub mathml_answered : (text table work tree out : List ℕ) (len takes blankness : ℕ) (tableLeft workLeft treeLeft outLeft : List ℕ)
    → marked_text text table work tree out ≡ (accepted (len ∷ takes ∷ blankness ∷ []), tableLeft, workLeft, treeLeft, outLeft)
    → Answers text len takes blankness treeLeft out outLeft
unfolding values read.values
mathml_answered text table work tree out len takes blankness tableLeft workLeft treeLeft outLeft e =
    by_option (parse_refusal text (length table) (length work) (length tree))
    (λ h.
    by_test (refusal11 text (read_text text).tree)
    (λ g.
    let d : accepted (len ∷ takes ∷ blankness ∷ []) ≡ refused 11 = ap (λ (x : LeftAll). x.0) (sym e) ∙ eleven_so text table work tree out h g in
    apart cc)
    (λ g.
    by_lt (length out) (length (mark_of text))
    (λ l.
    let d : accepted (len ∷ takes ∷ blankness ∷ []) ≡ refused 12 = ap (λ (x : LeftAll). x.0) (sym e) ∙ short-so text table work tree out h g l in
    apart cc)
    (λ l. written-so text table work tree out len takes blankness tableLeft workLeft treeLeft outLeft h g l (sym e ∙ whole-so text table work tree out h g l))))
    (λ k h.
    let d : accepted (len ∷ takes ∷ blankness ∷ []) ≡ refused k = ap (λ (x : LeftAll). x.0) (sym e ∙ refused-so text table work tree out k h) in
    apart cc)
