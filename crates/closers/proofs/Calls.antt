-- The calls: what the pass over an accepted list leaves; and the tests in the order of the refusals.
use Prim.Native.Nat.{ℕ, zero, suc, ◌+◌, ◌-◌, ◌*◌, ◌≤◌, ◌<◌}
use mathlib.Core.Path.{◌≡◌, refl, sym, ap, ◌∙◌}
use mathlib.Core.Bool.{true}
use mathlib.Core.List.{List, [], ◌∷◌, ◌++◌}
use mathlib.Core.Option.{none, some}
use native.Mathlib.Omega.{arith}
use lib.ListN.{length, drop, get_or}
use lib.Seq.{ext_get_or}
use borrow.Author.Tests.{lt-ltb, le-ltb}
use Rattle.std.specs.Prelude.{Result, Ok, Err}
use Rattle.refusals.specs.declared.refusal.Refusal.{Refusal}
use Rattle.refusals.specs.Refusal.{refusal_number, numbered}
use Rattle.tokens.specs.Table.{table_words, token_list, count_others}
use Rattle.tokens.specs.Refusals.{Answer, accepted, refused, text_refusal, list_refusal}
use Rattle.tokens.proofs.Cases.{apart}
use Rattle.lexing.specs.Rules.{tokens}
use Rattle.tree.specs.Tree.{nowhere}
use Rattle.reading.specs.Reading.{closers_of}
use Rattle.bounds.proofs.Theorems.{entries-count}
use Rattle.closers_laws.proofs.Nested.{nested}
use Rattle.records.specs.Record.{record_words}
use Rattle.tokenizer.specs.declared.TokenizedUnder.{TokenizedUnder}
use Rattle.tokenizer.specs.declared.TokenizedUnder.TheVariants as under
use Rattle.tokenizer.specs.Call.{tokenized_under}
use Rattle.tokenizer.proofs.Under as listed
use Rattle.tokenizer.proofs.Under.{by_answer}
use Rattle.closers_notes.specs.Notes.{closer_words, with_closers}
use Rattle.closers_notes.proofs.Notes.{length-words, word-is, room-enough}
use Rattle.closers_pass.specs.declared.top.Pass.{Pass}
use Rattle.closers_pass.specs.declared.top.Pass.TheVariants as pass
use Rattle.closers_pass.specs.Meet.{Noted}
use Rattle.closers_pass.specs.Call.{paired_list}
use Rattle.closers_pass.proofs.Answers as passed
use Rattle.closers.specs.Call.{out_refusal, tokens_refusal, text_refusal_of, closers_after, closed_tokens, closed_text}

-- a number of a list, whatever stands for none
pub get_d_in : (c : List ℕ) (i a b : ℕ) → i < length c → get_or c i a ≡ get_or c i b
get_d_in [] i a b h = absurd (omega arith)
get_d_in (x ∷ c) zero a b h = refl
get_d_in (x ∷ c) (suc i) a b h = get_d_in c i a b (omega arith)

-- the words of the closers noted in the records are those closers
words_are : {n : ℕ} {L c : List ℕ} → Noted n L c → length c ≡ n → ((i : ℕ) → get_or c i n ≤ n) → closer_words L n 0 n ≡ c
words_are {n} {L} {c} w size most =
    ext_get_or 0 (closer_words L n 0 n) c (length-words L n 0 n ∙ sym size)
    (λ j l.
    let h : j < n = omega (arith, length-words L n 0 n) in
    let z : 0 + j ≡ j = omega arith in
    let v : n - (n - get_or c j n) ≡ get_or c j n = omega (arith, most j) in
    rw z at (word-is L n 0 n j h) ∙ ap (λ (m : ℕ). n - m) (w.words j h) ∙ v ∙ get_d_in c j n 0 (omega (arith, size)))

-- what the pass over an accepted list answers, if it is asked for
module _ (text table : List ℕ) (count : ℕ) (ok : list_refusal text count table ≡ none) (work : List ℕ)
    (room : record_words (count_others (token_list count table) + 1) ≤ length work)
    (r : Result Pass Refusal) (L : List ℕ) (c : (numbered r, L) ≡ paired_list text table count true work) where
  pub not_refused : {A : Type 0} (k : Refusal) → r ≡ Err k → A
  not_refused = passed.not_refused text table count ok work room true r L c

  pub not_plain : {A : Type 0} (m : ℕ) → r ≡ Ok (pass.Plain m) → A
  not_plain m = passed.not_plain text table count ok work room true r L c m refl

  module _ (n takes : ℕ) (q : r ≡ Ok (pass.Read n takes)) where
    n_is : n ≡ count_others (token_list count table)
    n_is = (passed.read_is text table count ok work room true r L c n takes q).0

    pub few-entries : n ≤ 4096
    few-entries = omega (arith, n_is, passed.few text table count ok)

    -- its closers, written
    pub list-closed_words : (x : List ℕ) → count_others (token_list count table) ≤ length x → with_closers L n x ≡ closers_after text (token_list count table) x
    unfolding closers_after closers_of
    list-closed_words x h =
        let e = nested text (token_list count table) in
        let z = entries-count nowhere (token_list count table) in
        rw (n_is, (passed.read_is text table count ok work room true r L c n takes q).2)
        (sym (room-enough _ (count_others (token_list count table)) x h)
        ∙ ap (λ (w : List ℕ). w ++ drop (count_others (token_list count table)) x)
        (words_are (passed.read-closers text table count ok work room) (e.0 ∙ z) (rw z at e.1)))

-- the lent buffer
few_words : {n m : ℕ} → m < n → out_refusal n m ≡ some 8
unfolding out_refusal
few_words {n} {m} h = rw (out_refusal, lt-ltb m n h)

enough-words : {n m : ℕ} → n ≤ m → out_refusal n m ≡ none
unfolding out_refusal
enough-words {n} {m} h = rw (out_refusal, le-ltb m n h)

-- the call on a list
module _ (text table : List ℕ) (count : ℕ) (out : List ℕ) where
  pub tokens-turned : (k : ℕ) → tokens_refusal text table count (length out) ≡ some k → ◌≡◌ {A = Answer × List ℕ} (refused k, out) (closed_tokens text table count out)
  unfolding closed_tokens
  tokens-turned k e = sym (rw (e, closed_tokens))

  pub tokens-taken : tokens_refusal text table count (length out) ≡ none
      → closed_tokens text table count out ≡ (accepted (count_others (token_list count table) ∷ []), closers_after text (token_list count table) out)
  unfolding closed_tokens
  tokens-taken e = rw (e, closed_tokens)

  pub list-refused : (k : ℕ) → list_refusal text count table ≡ some k → ◌≡◌ {A = Answer × List ℕ} (refused k, out) (closed_tokens text table count out)
  unfolding tokens_refusal
  list-refused k e = tokens-turned k (rw (e, tokens_refusal))

  module _ (ok : list_refusal text count table ≡ none) where
    pub out-short : length out < count_others (token_list count table) → ◌≡◌ {A = Answer × List ℕ} (refused 8, out) (closed_tokens text table count out)
    unfolding tokens_refusal
    out-short h = tokens-turned 8 (rw (ok, tokens_refusal) (few_words h))

    accepts : count_others (token_list count table) ≤ length out → tokens_refusal text table count (length out) ≡ none
    unfolding tokens_refusal
    accepts h = rw (ok, tokens_refusal) (enough-words h)

    pub list-closed : (n : ℕ) (y : List ℕ) → count_others (token_list count table) ≤ length out → n ≡ count_others (token_list count table) → y ≡ closers_after text (token_list count table) out
        → ◌≡◌ {A = Answer × List ℕ} (accepted (n ∷ []), y) (closed_tokens text table count out)
    list-closed n y h z e = rw (z, e) (sym (tokens-taken (accepts h)))

-- the call on a text: what the tokenizer has answered, for a buffer with room for fewer than `room` tokens other than Space
module _ (text table out : List ℕ) where
  pub text-turned : (k : ℕ) → text_refusal_of text (length table) (length out) ≡ some k → ◌≡◌ {A = Answer × List ℕ × List ℕ} (refused k, table, out) (closed_text text table out)
  unfolding closed_text
  text-turned k e = sym (rw (e, closed_text))

  pub text-taken : text_refusal_of text (length table) (length out) ≡ none
      → closed_text text table out
      ≡ (accepted (length (tokens text) ∷ count_others (tokens text) ∷ []), table_words (tokens text) ++ drop (3 * length (tokens text)) table, closers_after text (tokens text) out)
  unfolding closed_text
  text-taken e = rw (e, closed_text)

  text-met : (k : ℕ) → text_refusal text ≡ some k → text_refusal_of text (length table) (length out) ≡ some k
  unfolding text_refusal_of
  text-met k e = rw (e, text_refusal_of)

  module _ (ok : text_refusal text ≡ none) where
    table-short : length table < 3 * length (tokens text) → text_refusal_of text (length table) (length out) ≡ some 7
    unfolding text_refusal_of
    table-short h = rw (ok, text_refusal_of, lt-ltb (length table) (3 * length (tokens text)) h)

    table-long : 3 * length (tokens text) ≤ length table → text_refusal_of text (length table) (length out) ≡ out_refusal (count_others (tokens text)) (length out)
    unfolding text_refusal_of
    table-long h = rw (ok, text_refusal_of, le-ltb (length table) (3 * length (tokens text)) h)

  module _ (room : ℕ) (r : Result TokenizedUnder Refusal) (next : List ℕ) (c : (numbered r, next) ≡ tokenized_under text table room) (b : room ≡ length out + 1) where
    by_number : {x : Result TokenizedUnder Refusal} → r ≡ x → numbered r ≡ numbered x
    by_number = ap numbered

    pub tokens-refused : (k : Refusal) → r ≡ Err k → ◌≡◌ {A = Answer × List ℕ × List ℕ} (refused (refusal_number k), next, out) (closed_text text table out)
    tokens-refused k q =
        let f = by_number q in
        by_answer text table room r next c
        (λ j e p n. let j-is : j ≡ refusal_number k = cc in rw n (text-turned (refusal_number k) (text-met (refusal_number k) (e ∙ ap some j-is))))
        (λ ok h p n. let k_is : 7 ≡ refusal_number k = cc in rw (n, ← k_is) (text-turned 7 (table-short ok h)))
        (λ ok h l p n. apart cc)
        (λ ok h l p n. apart cc)

    pub tokens-many : (m : ℕ) → r ≡ Ok (under.Many m) → ◌≡◌ {A = Answer × List ℕ × List ℕ} (refused 8, next, out) (closed_text text table out)
    tokens-many m q =
        let f = by_number q in
        by_answer text table room r next c
        (λ j e p n. apart cc)
        (λ ok h p n. apart cc)
        (λ ok h l p n. rw n (text-turned 8 (table-long ok h ∙ few_words (omega (arith, b, l)))))
        (λ ok h l p n. apart cc)

    module _ (m others : ℕ) (q : r ≡ Ok (under.Tokens m others)) where
      abbrev facts : listed.Listed text table room r next c m others q
      facts = listed.facts text table room r next c m others q

      list-is : token_list m next ≡ tokens text
      list-is = listed.list-is text table room r next c m others q

      pub list-accepted : list_refusal text m next ≡ none
      list-accepted = listed.list-accepted text table room r next c m others q

      pub others-are : others ≡ count_others (token_list m next)
      others-are = facts.others-is ∙ sym (ap count_others list-is)

      pub enough : others ≤ length out
      enough = omega (arith, b, facts.few, facts.others-is)

      pub text-closed : (y : List ℕ) → y ≡ closers_after text (token_list m next) out → ◌≡◌ {A = Answer × List ℕ × List ℕ} (accepted (m ∷ others ∷ []), next, y) (closed_text text table out)
      text-closed y e =
          let none-met : text_refusal_of text (length table) (length out) ≡ none = table-long facts.ok facts.long ∙ enough-words (omega (arith, b, facts.few)) in
          rw (facts.all-is, facts.others-is, facts.next-is, e ∙ ap (λ ts. closers_after text ts out) list-is) (sym (text-taken none-met))
