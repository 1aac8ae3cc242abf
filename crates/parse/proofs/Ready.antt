-- The records of an accepted list are what the whole reading needs.
use Prim.Native.Nat.{ℕ, ◌+◌, ◌*◌, ◌≤◌}
use mathlib.Core.Path.{◌≡◌}
use mathlib.Core.Bool.{false}
use mathlib.Core.List.{List, ◌++◌}
use mathlib.Core.Option.{none}
use native.Mathlib.Omega.{arith}
use lib.ListN.{length, replicate}
use Rattle.tokens.specs.Table.{token_list, count_others}
use Rattle.tokens.specs.Refusals.{list_refusal}
use Rattle.tokens.proofs.Accepted.{accepted}
use Rattle.tokens.proofs.TokenList.{others-few}
use Rattle.tree.specs.Tree.{nowhere}
use Rattle.reading.specs.Entries.{entries}
use Rattle.entries.specs.Prepared.{work_words}
use Rattle.records.specs.Record.{record_words}
use Rattle.reading_words.proofs.Records as records
use Rattle.parse.specs.Top.{TopReady}

module _ (text table : List ℕ) (count : ℕ) (ok : list_refusal text count table ≡ none) (K rest : List ℕ)
    (work : K ≡ work_words (token_list count table) ++ rest) where
  pub top_ready : record_words (count_others (token_list count table)) ≤ length K → (tree : List ℕ) → 32 * (count_others (token_list count table) + 1) ≤ length tree
      → TopReady (count_others (token_list count table)) text table K tree
  top_ready fit tree room =
      let a = accepted text count table ok in
      record {
        safe =
            record {
              few = omega (arith, a.few, others-few count table);
              placed = λ i h. record { fit = omega arith; inside = omega (arith, records.place text table count a.few a.words K rest work i h, a.words) };
              spans = records.spans text table count a.few a.words K rest work ok fit;
            };
        input = records.input_of text (token_list count table);
        given = records.given text table count a.few a.words K rest work;
        marked = replicate (3 * length (entries nowhere (token_list count table))) false;
        marks = records.blank text table count a.few a.words K rest work;
        room = room;
      }
