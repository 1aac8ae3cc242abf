-- The answer of `list_reads`: a refusal, or the tokens of the reads.
use mathlib.Core.Path.{◌≡◌, sym, ap, ◌∙◌}
use mathlib.Core.List.{List}
use mathlib.Core.Option.{none, some}
use Prim.Native.Nat.{ℕ, min}
use lib.ListN.{length}
use Rattle.lexer.specs.declared.Listing.{Listing}
use Rattle.std.specs.Prelude.{Result, Err}
use Rattle.lexer.specs.Listing.{listed_to, place_refusal, accepted, listed_reads}

module _ (text : List ℕ) (from stop : ℕ) (table : List ℕ) where
  pub answer-refused : (k : ℕ) → place_refusal text from ≡ some k → ◌≡◌ {A = Result Listing ℕ × List ℕ} (Err k, table) (listed_reads text from stop table)
  unfolding listed_reads
  answer-refused k e = sym (rw (e, listed_reads))

  pub answer-listed : place_refusal text from ≡ none → (end : ℕ) → end ≡ min stop (length text) → accepted (listed_to end text from table) ≡ listed_reads text from stop table
  unfolding listed_reads
  answer-listed o end e = ap (λ (s : ℕ). accepted (listed_to s text from table)) e ∙ sym (rw (o, listed_reads))
