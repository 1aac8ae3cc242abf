-- What `tokenize_under` has answered, case by case, and the list that it has written.
use Prim.Native.Nat.{ℕ, ◌*◌, ◌≤◌, ◌<◌}
use mathlib.Core.Path.{◌≡◌, ap, ◌∙◌}
use mathlib.Core.List.{List, ◌++◌}
use mathlib.Core.Option.{none, some}
use lib.ListN.{length, drop}
use borrow.Author.Tests.{lt-ltb, le-ltb, le-leb, lt-leb}
use Rattle.tokens.specs.Table.{table_words, token_list, count_others}
use Rattle.tokens.specs.Refusals.{text_refusal, list_refusal}
use Rattle.tokens.proofs.Cases.{by_lt, by_option, apart}
use Rattle.lexing.specs.Rules.{tokens}
use Rattle.lexing.proofs.Theorems.{list-of_words, accepted-list}
use Rattle.tokenizer.specs.declared.TokenizedUnder.{TokenizedUnder}
use Rattle.tokenizer.specs.declared.TokenizedUnder.TheVariants as under
use Rattle.std.specs.Prelude.{Result, Ok, Err}
use Rattle.refusals.specs.declared.refusal.Refusal.{Refusal}
use Rattle.refusals.specs.Refusal.{numbered}
use Rattle.tokenizer.specs.Call.{tokenized_under}

module _ (text table : List ℕ) where
  -- what the tokenizer answers, case by case; the buffers have room for fewer than `room` tokens other than Space
  module _ (room : ℕ) where
    under-refused : (k : ℕ) → text_refusal text ≡ some k → tokenized_under text table room ≡ (Err k, table)
    unfolding tokenized_under
    under-refused k e = rw (e, tokenized_under)

    module _ (ok : text_refusal text ≡ none) where
      under-short : length table < 3 * length (tokens text) → tokenized_under text table room ≡ (Err 7, table)
      unfolding tokenized_under
      under-short h = rw (ok, tokenized_under) (rw (lt-ltb (length table) (3 * length (tokens text)) h))

      module _ (h : 3 * length (tokens text) ≤ length table) where
        under-many : room ≤ count_others (tokens text) → tokenized_under text table room ≡ (Ok (under.Many (count_others (tokens text))), table)
        unfolding tokenized_under
        under-many l =
            rw (ok, tokenized_under) (rw (le-ltb (length table) (3 * length (tokens text)) h) (rw (le-leb room (count_others (tokens text)) l)))

        under-listed : count_others (tokens text) < room
            → tokenized_under text table room
            ≡ (Ok (under.Tokens (length (tokens text)) (count_others (tokens text))), table_words (tokens text) ++ drop (3 * length (tokens text)) table)
        unfolding tokenized_under
        under-listed l =
            rw (ok, tokenized_under) (rw (le-ltb (length table) (3 * length (tokens text)) h) (rw (lt-leb room (count_others (tokens text)) l)))

  -- the tokenizer has written the table, or not
  module _ (room : ℕ) (r : Result TokenizedUnder Refusal) (next : List ℕ) (c : (numbered r, next) ≡ tokenized_under text table room) where
    answers : {a : Result TokenizedUnder ℕ} {t : List ℕ} → tokenized_under text table room ≡ (a, t) → (numbered r ≡ a) × (next ≡ t)
    answers e = (ap (λ (x : Result TokenizedUnder ℕ × List ℕ). x.0) (c ∙ e), ap (λ (x : Result TokenizedUnder ℕ × List ℕ). x.1) (c ∙ e))

    -- Which of the four it is.
    pub by_answer : {A : Type 0}
        → ((k : ℕ) → text_refusal text ≡ some k → numbered r ≡ Err k → next ≡ table → A)
        → (text_refusal text ≡ none → length table < 3 * length (tokens text) → numbered r ≡ Err 7 → next ≡ table → A)
        → (text_refusal text ≡ none → 3 * length (tokens text) ≤ length table → room ≤ count_others (tokens text)
        → numbered r ≡ Ok (under.Many (count_others (tokens text))) → next ≡ table → A)
        → (text_refusal text ≡ none → 3 * length (tokens text) ≤ length table → count_others (tokens text) < room
        → numbered r ≡ Ok (under.Tokens (length (tokens text)) (count_others (tokens text))) → next ≡ table_words (tokens text) ++ drop (3 * length (tokens text)) table → A)
        → A
    by_answer refused-text short-table many all =
        by_option (text_refusal text)
        (λ ok.
        by_lt (length table) (3 * length (tokens text))
        (λ h. let a = answers (under-short room ok h) in short-table ok h a.0 a.1)
        (λ h.
        by_lt (count_others (tokens text)) room
        (λ l. let a = answers (under-listed room ok h l) in all ok h l a.0 a.1)
        (λ l. let a = answers (under-many room ok h l) in many ok h l a.0 a.1)))
        (λ k e. let a = answers (under-refused room k e) in refused-text k e a.0 a.1)

    -- what an accepted text's table says
    module _ (m others : ℕ) (q : r ≡ Ok (under.Tokens m others)) where
      pub record Listed : Type 0 where
        pub ok : text_refusal text ≡ none
        pub long : 3 * length (tokens text) ≤ length table
        pub few : count_others (tokens text) < room
        pub all-is : m ≡ length (tokens text)
        pub others-is : others ≡ count_others (tokens text)
        pub next-is : next ≡ table_words (tokens text) ++ drop (3 * length (tokens text)) table

      pub facts : Listed
      facts =
          let z = ap (numbered {T = TokenizedUnder}) q in
          by_answer
          (λ j e p n. apart cc)
          (λ ok h p n. apart cc)
          (λ ok h l p n. apart cc)
          (λ ok h l p n. record { ok = ok; long = h; few = l; all-is = cc; others-is = cc; next-is = n })

      pub list-is : token_list m next ≡ tokens text
      list-is = rw (facts.all-is, facts.next-is) (list-of_words (tokens text) (drop (3 * length (tokens text)) table))

      pub list-accepted : list_refusal text m next ≡ none
      list-accepted = rw (facts.all-is, facts.next-is) (accepted-list text (drop (3 * length (tokens text)) table) facts.ok)
