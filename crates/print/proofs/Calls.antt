-- The call that prints: from what the reading of the text answers and leaves, and from whether the print fits, to its own answer.
use Prim.Native.Nat.{ℕ, ◌*◌, ◌≤◌, ◌<◌}
use mathlib.Core.Path.{◌≡◌, sym, ap, ◌∙◌}
use mathlib.Core.List.{List, [], ◌∷◌, ◌++◌}
use mathlib.Core.Option.{none, some}
use lib.ListN.{length, drop}
use Rattle.lexing.specs.Rules.{tokens}
use Rattle.tokens.specs.Table.{table_words}
use Rattle.tokens.specs.Refusals.{Answer, accepted, refused}
use Rattle.tokens.proofs.Cases.{by_lt, apart}
use Rattle.reading.specs.Reading.{read_text}
use Rattle.bounds.proofs.Theorems.{bounds}
use Rattle.parse.specs.Call.{parse_refusal, parsed_text, work_after, tree_after}
use Rattle.parse.proofs.Readings.{Left, text-reads, text-refused, n_is, takes-are, items-are, blank-is, words_are}
use Rattle.printer.specs.Call.{print_words, fitted}
use Rattle.printer.proofs.Printing.{tree-printed}
use Rattle.writer.proofs.Fits.{fits, short}
use Rattle.print.specs.Call.{print_of, values, printing, printed_text, printed_text_by}

-- the answer, the buffers of the reading, and the print buffer
abbrev pub LeftAll : Type 0
LeftAll = Answer × List ℕ × List ℕ × List ℕ × List ℕ

module _ (text table work tree out : List ℕ) where
  -- The call's answers, by its cases.
  pub refused-so : (k : ℕ) → parse_refusal text (length table) (length work) (length tree) ≡ some k
      → printed_text text table work tree out ≡ (refused k, table, work, tree, out)
  unfolding printed_text_by
  refused-so k e = ap (printing text out) (text-refused text table work tree k e)

  module _ (e : parse_refusal text (length table) (length work) (length tree) ≡ none) where
    pub short-so : length out < length (print_of text) → (printed_text text table work tree out).0 ≡ refused 10
    unfolding printed_text_by
    short-so l = ap (λ (p : Left). (printing text out p).0) (text-reads text table work tree e) ∙ rw (short 10 (print_of text) out l)

    pub whole-so : length (print_of text) ≤ length out
        → printed_text text table work tree out
        ≡ (accepted (values text), table_words (tokens text) ++ drop (3 * length (tokens text)) table, work_after (length work), tree_after text (tokens text) (length tree), print_of text ++ drop (length (print_of text)) out)
    unfolding printed_text_by
    whole-so l =
        ap (printing text out) (text-reads text table work tree e) ∙ rw (fits 10 (print_of text) out l)

  module _ (a : Answer) (t w y : List ℕ) (e : (a, t, w, y) ≡ parsed_text text table work tree) where
    pub when_refused : (k : ℕ) → a ≡ refused k → ◌≡◌ {A = LeftAll} (refused k, t, w, y, out) (printed_text text table work tree out)
    unfolding printed_text_by
    when_refused k q =
        let p : parsed_text text table work tree ≡ (refused k, t, w, y) = rw q at (sym e) in
        sym (ap (printing text out) p)

    module _ (n takes items b : ℕ) (q : a ≡ accepted (n ∷ takes ∷ items ∷ b ∷ [])) where
      is : parsed_text text table work tree ≡ (accepted (n ∷ takes ∷ items ∷ b ∷ []), t, w, y)
      is = rw q at (sym e)

      module _ (after : List ℕ) (f : Answer) (put : (f, after) ≡ fitted (print_words y (length text) n takes items) out) where
        prints : fitted (print_of text) out ≡ (f, after)
        unfolding print_of
        prints =
            sym
            (put
            ∙ ap (λ (print : List ℕ). fitted print out)
            (rw (n_is text table work tree t w y n takes items b is, takes-are text table work tree t w y n takes items b is, items-are text table work tree t w y n takes items b is) (tree-printed y (length text) (length (tokens text)) (read_text text).takes (read_text text).tree _ (bounds text (tokens text)).well_formed (words_are text table work tree t w y n takes items b is))))

        pub too_short : (k : ℕ) → f ≡ refused k → ◌≡◌ {A = LeftAll} (refused k, t, w, y, after) (printed_text text table work tree out)
        unfolding printed_text_by
        too_short k s = sym (ap (printing text out) is ∙ rw (prints, s))

        pub printed-whole : (len : ℕ) → f ≡ accepted (len ∷ [])
            → ◌≡◌ {A = LeftAll} (accepted (len ∷ takes ∷ b ∷ []), t, w, y, after) (printed_text text table work tree out)
        unfolding printed_text_by values
        printed-whole len s =
            by_lt (length out) (length (print_of text))
            (λ l. let d = ap (λ (x : Answer × List ℕ). x.0) (sym prints ∙ short 10 (print_of text) out l) in apart cc)
            (λ l.
            let d = ap (λ (x : Answer × List ℕ). x.0) (sym prints ∙ fits 10 (print_of text) out l) in
            let m : len ≡ length (print_of text) = cc in
            sym (ap (printing text out) is ∙ rw (prints, s, m, takes-are text table work tree t w y n takes items b is, blank-is text table work tree t w y n takes items b is)))
