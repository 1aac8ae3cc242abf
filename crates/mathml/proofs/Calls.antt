-- The call: from what the reading of the text answers and leaves, and from what is said of its tree, to its own answer.
use Prim.Native.Nat.{ℕ, ◌*◌, ◌≤◌, ◌<◌}
use mathlib.Core.Path.{◌≡◌, sym, ap, ◌∙◌}
use mathlib.Core.Bool.{true, false}
use mathlib.Core.List.{List, [], ◌∷◌, ◌++◌}
use mathlib.Core.Option.{none, some}
use lib.ListN.{length, drop}
use Rattle.tokens.specs.Table.{table_words}
use Rattle.tokens.specs.Refusals.{Answer, accepted, refused}
use Rattle.tokens.proofs.Cases.{by_lt, by_test, apart}
use Rattle.lexing.specs.Rules.{tokens}
use Rattle.writer.proofs.Fits.{fits, short}
use Rattle.tree.proofs.Laid.{expression_laid}
use Rattle.reading.specs.Reading.{read_text}
use Rattle.bounds.proofs.Theorems.{bounds}
use Rattle.parse.specs.Call.{parse_refusal, parsed_text, work_after, tree_after}
use Rattle.parse.proofs.Readings.{Left, text-reads, text-refused, takes-are, items-are, blank-is, words_are}
use Rattle.mathml_rules.specs.Mathml.{mathml_of}
use Rattle.mathml_rules.specs.Refusal.{refusal11}
use Rattle.mathml_rules.proofs.Parts.{expression_whole}
use Rattle.mathml_length.proofs.Theorems.{length-within}
use Rattle.mathml.specs.Walks.{Begins}
use Rattle.mathml.specs.Call.{mark_of, values, marks, TreeMarked, marking, marked_text}
use Rattle.mathml.proofs.Marks.{marks-refused, marks-fitted}

-- the answer, the buffers of the reading, and the output buffer
abbrev pub LeftAll : Type 0
LeftAll = Answer × List ℕ × List ℕ × List ℕ × List ℕ

module _ (text table work tree out : List ℕ) where
  -- The call's answers, by its cases.
  pub refused-so : (k : ℕ) → parse_refusal text (length table) (length work) (length tree) ≡ some k
      → marked_text text table work tree out ≡ (refused k, table, work, tree, out)
  unfolding marked_text
  refused-so k e = ap (marking text out) (text-refused text table work tree k e)

  module _ (e : parse_refusal text (length table) (length work) (length tree) ≡ none) where
    pub eleven_so : refusal11 text (read_text text).tree ≡ true → (marked_text text table work tree out).0 ≡ refused 11
    unfolding marked_text
    eleven_so h = ap (λ (p : Left). (marking text out p).0) (text-reads text table work tree e) ∙ rw (marks-refused text (read_text text).tree out h)

    module _ (h : refusal11 text (read_text text).tree ≡ false) where
      pub short-so : length out < length (mark_of text) → (marked_text text table work tree out).0 ≡ refused 12
      unfolding marked_text mark_of
      short-so l =
          ap (λ (p : Left). (marking text out p).0) (text-reads text table work tree e)
          ∙ rw (marks-fitted text (read_text text).tree out h, short 12 (mathml_of text (read_text text).tree) out l)

      pub whole-so : length (mark_of text) ≤ length out
          → marked_text text table work tree out
          ≡ (accepted (values text), table_words (tokens text) ++ drop (3 * length (tokens text)) table, work_after (length work), tree_after text (tokens text) (length tree), mark_of text ++ drop (length (mark_of text)) out)
      unfolding marked_text mark_of
      whole-so l =
          ap (marking text out) (text-reads text table work tree e)
          ∙ rw (marks-fitted text (read_text text).tree out h, fits 12 (mathml_of text (read_text text).tree) out l)

  module _ (a : Answer) (t w y : List ℕ) (e : (a, t, w, y) ≡ parsed_text text table work tree) where
    pub when_refused : (k : ℕ) → a ≡ refused k → ◌≡◌ {A = LeftAll} (refused k, t, w, y, out) (marked_text text table work tree out)
    unfolding marked_text
    when_refused k q =
        let p : parsed_text text table work tree ≡ (refused k, t, w, y) = rw q at (sym e) in
        sym (ap (marking text out) p)

    module _ (n takes items b : ℕ) (q : a ≡ accepted (n ∷ takes ∷ items ∷ b ∷ [])) where
      is : parsed_text text table work tree ≡ (accepted (n ∷ takes ∷ items ∷ b ∷ []), t, w, y)
      is = rw q at (sym e)

      begins : Begins y (read_text text).tree items
      begins =
          let f = (bounds text (tokens text)).well_formed in
          (expression_laid f, (expression_whole f, (_, (words_are text table work tree t w y n takes items b is, items-are text table work tree t w y n takes items b is))))

      module _ (after : List ℕ) (f : Answer) (put : TreeMarked y text out items after f) where
        said : marks text (read_text text).tree out ≡ (f, after)
        said = sym (put.read (read_text text).tree begins (length-within text))

        pub not_marked : (k : ℕ) → f ≡ refused k → ◌≡◌ {A = LeftAll} (refused k, t, w, y, after) (marked_text text table work tree out)
        unfolding marked_text
        not_marked k s = sym (ap (marking text out) is ∙ rw (said, s))

        length-is : (len : ℕ) → f ≡ accepted (len ∷ []) → len ≡ length (mark_of text)
        unfolding mark_of
        length-is len s =
            by_test (refusal11 text (read_text text).tree)
            (λ h. let d = ap (λ (x : Answer × List ℕ). x.0) (sym said ∙ marks-refused text (read_text text).tree out h) in apart cc)
            (λ h.
            by_lt (length out) (length (mark_of text))
            (λ l.
            let d = ap (λ (x : Answer × List ℕ). x.0) (sym said ∙ marks-fitted text (read_text text).tree out h ∙ short 12 (mathml_of text (read_text text).tree) out l) in
            apart cc)
            (λ l.
            let d = ap (λ (x : Answer × List ℕ). x.0) (sym said ∙ marks-fitted text (read_text text).tree out h ∙ fits 12 (mathml_of text (read_text text).tree) out l) in
            cc))

        pub marked-whole : (len : ℕ) → f ≡ accepted (len ∷ [])
            → ◌≡◌ {A = LeftAll} (accepted (len ∷ takes ∷ b ∷ []), t, w, y, after) (marked_text text table work tree out)
        unfolding marked_text values
        marked-whole len s =
            sym
            (ap (marking text out) is
            ∙ rw (said, s, length-is len s, takes-are text table work tree t w y n takes items b is, blank-is text table work tree t w y n takes items b is))
