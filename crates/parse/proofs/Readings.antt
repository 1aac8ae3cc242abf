-- From what the call on a text answers and leaves to the text's reading: for the calls that go on from there.
use Prim.Native.Nat.{ℕ, ◌*◌, ◌-◌}
use mathlib.Core.Path.{◌≡◌, sym, ap, ◌∙◌}
use mathlib.Core.List.{List, [], ◌∷◌, ◌++◌}
use mathlib.Core.Option.{none, some}
use lib.ListN.{length, drop, replicate}
use Rattle.lexing.specs.Rules.{tokens}
use Rattle.tokens.specs.Table.{table_words}
use Rattle.tokens.specs.Refusals.{Answer, accepted, refused, entry_words, bit}
use Rattle.tokens.proofs.Cases.{by_option, apart}
use Rattle.tree.specs.Tree.{count}
use Rattle.tree.specs.Words.{encode_items}
use Rattle.reading.specs.Reading.{read_text, blank}
use Rattle.parse.specs.Call.{parse_refusal, parsed_text, values, work_after, tree_after}
use Rattle.parse.proofs.Calls.{text-when_refused, text-read}

-- the answer and the buffers
abbrev pub Left : Type 0
Left = Answer × List ℕ × List ℕ × List ℕ

module _ (text table work tree : List ℕ) where
  pub text-reads : parse_refusal text (length table) (length work) (length tree) ≡ none
      → parsed_text text table work tree
      ≡ (accepted (length (tokens text) ∷ values text (tokens text)), table_words (tokens text) ++ drop (3 * length (tokens text)) table, work_after (length work), tree_after text (tokens text) (length tree))
  text-reads = text-read entry_words text table work tree

  pub text-refused : (k : ℕ) → parse_refusal text (length table) (length work) (length tree) ≡ some k
      → parsed_text text table work tree ≡ (refused k, table, work, tree)
  text-refused k e = sym (text-when_refused entry_words text table work tree k e)

  module _ (t w y : List ℕ) (n takes items b : ℕ) (is : parsed_text text table work tree ≡ (accepted (n ∷ takes ∷ items ∷ b ∷ []), t, w, y)) where
    accepts : parse_refusal text (length table) (length work) (length tree) ≡ none
    accepts =
        by_option (parse_refusal text (length table) (length work) (length tree)) (λ h. h)
        (λ k h.
        let d : refused k ≡ accepted (n ∷ takes ∷ items ∷ b ∷ []) = ap (λ (x : Left). x.0) (sym (text-refused k h) ∙ is) in
        apart cc)

    answers : accepted (n ∷ takes ∷ items ∷ b ∷ []) ≡ accepted (length (tokens text) ∷ values text (tokens text))
    answers = ap (λ (x : Left). x.0) (sym is ∙ text-reads accepts)

    values-are : takes ∷ items ∷ b ∷ [] ≡ values text (tokens text)
    values-are = let d = answers in cc

    pub n_is : n ≡ length (tokens text)
    n_is = let d = answers in cc

    pub takes-are : takes ≡ (read_text text).takes
    unfolding values
    takes-are = let d = values-are in cc

    pub items-are : items ≡ count (read_text text).tree
    unfolding values
    items-are = let d = values-are in cc

    pub blank-is : b ≡ bit (blank text (read_text text).tree)
    unfolding values
    blank-is = let d = values-are in cc

    pub words_are : y ≡ encode_items (read_text text).tree ++ replicate (length tree - length (encode_items (read_text text).tree)) 0
    unfolding tree_after
    words_are = ap (λ (x : Left). x.3) (sym is ∙ text-reads accepts)
