-- The calls on a text: the tests in the order of the refusals, and what the list of all its tokens gives.
use mathlib.Core.Path.{◌≡◌, sym, ap, ◌∙◌}
use mathlib.Core.List.{List, [], ◌∷◌, ◌++◌}
use mathlib.Core.Option.{none, some}
use Prim.Native.Nat.{ℕ, ◌*◌, ◌/◌, ◌≤◌, ◌<◌}
use native.Mathlib.Omega.{arith}
use lib.ListN.{length, take, drop}
use lib.Seq.{take_at}
use borrow.Author.Tests.{lt-ltb, le-ltb, lt-leb, le-leb}
use Rattle.tokens.specs.Lexeme.{Lexeme}
use Rattle.tokens.specs.Table.{table_words, count_others}
use Rattle.tokens.specs.Refusals.{Answer, accepted, refused, text_refusal}
use Rattle.tokens.proofs.Cases.{by_lt, by_option, apart}
use Rattle.tokens.proofs.Order.{text-short}
use Rattle.tokens.proofs.TokenList.{words-length, others-bound}
use Rattle.lexing.specs.Rules.{tokens}
use Rattle.lexing.proofs.Theorems.{never-outnumber}
use Rattle.lexer.specs.declared.Listing.{Listing}
use Rattle.std.specs.Prelude.{Result, Ok, Err}
use Rattle.refusals.specs.declared.refusal.Refusal.{Refusal}
use Rattle.refusals.specs.Refusal.{refusal_number, numbered}
use Rattle.lexer.specs.Lookup.{token_row}
use Rattle.lexer.specs.Listing.{listing, list_into, listed_to, listed_reads}
use Rattle.lexer.proofs.Into.{into_whole}
use Rattle.lexer.proofs.Places.{place-refused, place-accepted}
use Rattle.tokenizer.specs.declared.TokenizedUnder.{TokenizedUnder}
use Rattle.tokenizer.specs.Call.{tokenized, tokenized_under, counted}
use Rattle.tokenizer.specs.Waiting.{all_listed, Waiting}
use Rattle.tokenizer.proofs.Whole.{all_reads, whole}
use Rattle.tokenizer.specs.declared.TokenizedUnder.TheVariants as under

module _ (text table : List ℕ) where
  all-refused : (k : ℕ) → text_refusal text ≡ some k → ◌≡◌ {A = Result Listing ℕ × List ℕ} (listed_reads text 0 (length text) table) (Err k, table)
  unfolding listed_reads
  all-refused k e = rw (place-refused text 0 k e, listed_reads)

  all-tokens : text_refusal text ≡ none
      → ◌≡◌ {A = Result Listing ℕ × List ℕ} (listed_reads text 0 (length text) table) (Ok (listing (length (tokens text)) (count_others (tokens text)) (all_reads text).next (token_row (all_reads text).row)), list_into 0 table (tokens text))
  unfolding listed_reads listed_to
  all-tokens o =
      let e : ◌≡◌ {A = Result Listing ℕ × List ℕ} (listed_reads text 0 (length text) table) (of_list (all_reads text).list) = rw (place-accepted text 0 o (omega arith), listed_reads) in
      e ∙ ap of_list (whole text)
    where
      of_list : List Lexeme → Result Listing ℕ × List ℕ
      of_list ts = (Ok (listing (length ts) (count_others ts) (all_reads text).next (token_row (all_reads text).row)), list_into 0 table ts)

  -- what an answer of `list_reads` says
  module _ (r : Result Listing Refusal) (after : List ℕ) (e : ◌≡◌ {A = Result Listing ℕ × List ℕ} (numbered r, after) (listed_reads text 0 (length text) table)) where
    pub answer-refused : (k : Refusal) → r ≡ Err k → text_refusal text ≡ some (refusal_number k)
    answer-refused k f =
        let g = rw f at e in
        by_option (text_refusal text)
        (λ o. let h = ap (λ (q : Result Listing ℕ × List ℕ). q.0) (g ∙ all-tokens o) in cc)
        (λ j o. let h = ap (λ (q : Result Listing ℕ × List ℕ). q.0) (g ∙ all-refused j o) in cc)

    pub answer-tokens : length table ≡ 480 → (l : Listing) → r ≡ Ok l → Waiting text after l.all l.others
    answer-tokens z l f =
        let g = rw f at e in
        by_option (text_refusal text)
        (λ o.
        let h = ap (λ (q : Result Listing ℕ × List ℕ). q.0) (g ∙ all-tokens o) in
        let i : l ≡ listing (length (tokens text)) (count_others (tokens text)) (all_reads text).next (token_row (all_reads text).row) = cc in
        let m : l.all ≡ length (tokens text) = ap (λ (k : Listing). k.all) i in
        let n : l.others ≡ count_others (tokens text) = ap (λ (k : Listing). k.others) i in
        record {
          accepted = o;
          all_are = m;
          others-are = n;
          words_are = λ s.
              let w : after ≡ table_words (tokens text) ++ drop (3 * length (tokens text)) table =
              ap (λ (q : Result Listing ℕ × List ℕ). q.1) (g ∙ all-tokens o) ∙ into_whole table (tokens text) (omega arith) in
              ap (take (3 * l.all)) w ∙ take_at (table_words (tokens text)) _ (3 * l.all) (omega (arith, words-length (tokens text)));
        })
        (λ j o. let h = ap (λ (q : Result Listing ℕ × List ℕ). q.0) (g ∙ all-refused j o) in apart cc)

module _ (text table : List ℕ) (room : ℕ) where
  abbrev Under : Result TokenizedUnder ℕ → List ℕ → Type 0
  Under r after = ◌≡◌ {A = Result TokenizedUnder ℕ × List ℕ} (r, after) (tokenized_under text table room)

  pub under-refused : (k : ℕ) → text_refusal text ≡ some k → Under (Err k) table
  unfolding tokenized_under
  under-refused k e = sym (rw (e, tokenized_under))

  module _ (o : text_refusal text ≡ none) (l : 3 * length (tokens text) ≤ length table) (m : count_others (tokens text) < room) where
    under-tokens : Under (Ok (under.Tokens (length (tokens text)) (count_others (tokens text)))) (table_words (tokens text) ++ drop (3 * length (tokens text)) table)
    unfolding tokenized_under
    under-tokens = sym (rw (o, tokenized_under) (rw (le-ltb _ _ l) (rw (lt-leb room (count_others (tokens text)) m))))

    all_under : all_listed (listed_reads text 0 (length text) table) ≡ tokenized_under text table room
    all_under =
        ap all_listed (all-tokens text table o)
        ∙ ap (λ (t : List ℕ). (Ok (under.Tokens (length (tokens text)) (count_others (tokens text))), t)) (into_whole table (tokens text) l)
        ∙ under-tokens

  -- a text with no more bytes than tokens fit
  pub all_fit : length text ≤ length table / 3 → length text < room → all_listed (listed_reads text 0 (length text) table) ≡ tokenized_under text table room
  all_fit l m =
      by_option (text_refusal text)
      (λ o.
      all_under o (omega (arith, never-outnumber text)) (omega (arith, never-outnumber text, others-bound (tokens text))))
      (λ k o. ap all_listed (all-refused text table k o) ∙ under-refused k o)

  -- a text whose tokens wait
  module _ (list : List ℕ) (all others : ℕ) (w : Waiting text list all others) where
    pub few : all ≤ 4096
    few = omega (arith, w.all_are, never-outnumber text, text-short text w.accepted)

    pub waiting-short : length table < 3 * all → Under (Err 7) table
    unfolding tokenized_under
    waiting-short l = sym (rw (w.accepted, tokenized_under) (rw (lt-ltb (length table) (3 * length (tokens text)) (omega (arith, w.all_are)))))

    module _ (l : 3 * all ≤ length table) where
      fit : 3 * length (tokens text) ≤ length table
      fit = omega (arith, w.all_are)

      pub waiting-many : room ≤ others → Under (Ok (under.Many others)) table
      unfolding tokenized_under
      waiting-many m =
          rw w.others-are
          (sym (rw (w.accepted, tokenized_under) (rw (le-ltb _ _ fit) (rw (le-leb room (count_others (tokens text)) (omega (arith, w.others-are)))))))

      module _ (m : others < room) where
        below : count_others (tokens text) < room
        below = omega (arith, w.others-are)

        pub waiting-copied : all ≤ 160 → Under (Ok (under.Tokens all others)) (take (3 * all) list ++ drop (3 * all) table)
        waiting-copied h =
            rw (w.words_are h, w.all_are, w.others-are)
            (under-tokens w.accepted fit below)

        pub waiting-again : all_listed (listed_reads text 0 (length text) table) ≡ tokenized_under text table room
        waiting-again = all_under w.accepted fit below

-- without a bound on the other tokens
abbrev pub unbounded : Result TokenizedUnder ℕ × List ℕ → Answer × List ℕ
unbounded (Ok (under.Tokens all others), table) = (accepted (all ∷ []), table)
unbounded (Ok (under.Many others), table) = (refused 7, table)
unbounded (Err k, table) = (refused k, table)

pub under-any : (text table : List ℕ) → unbounded (tokenized_under text table 4097) ≡ tokenized text table
unfolding tokenized_under tokenized
under-any text table =
    by_option (text_refusal text)
    (λ o.
    by_lt (length table) (3 * length (tokens text))
    (λ l. rw (o, tokenized_under, tokenized) (rw (lt-ltb _ _ l)))
    (λ l.
    let m : count_others (tokens text) < 4097 = omega (arith, others-bound (tokens text), never-outnumber text, text-short text o) in
    rw (o, tokenized_under, tokenized) (rw (le-ltb _ _ l) (rw (lt-leb 4097 (count_others (tokens text)) m)))))
    (λ k o. rw (o, tokenized_under, tokenized))

-- the counts of a list
abbrev pub counts : Result Listing ℕ × List ℕ → Answer
counts (Ok l, table) = accepted (l.all ∷ l.others ∷ [])
counts (Err k, table) = refused k

pub counts-are : (text table : List ℕ) → counts (listed_reads text 0 (length text) table) ≡ counted text
unfolding counted
counts-are text table =
    by_option (text_refusal text) (λ o. ap counts (all-tokens text table o) ∙ sym (rw (o, counted)))
    (λ k o. ap counts (all-refused text table k o) ∙ sym (rw (o, counted)))
