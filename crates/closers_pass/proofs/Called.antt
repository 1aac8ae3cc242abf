-- The call on a token list: its answer, case by case, from the records that `prepare` has made.
use Rattle.std.proofs.Common.{Result, Ok, Err}
use Prim.Native.Nat.{ℕ, ◌+◌, ◌-◌, ◌^◌, ◌≤◌, ◌<◌}
use mathlib.Core.Path.{◌≡◌, sym, ap, ◌∙◌, subst}
use mathlib.Core.Bool.{Bool, true, false, ◌||◌}
use mathlib.Core.List.{List, ◌++◌, append-nil}
use native.Mathlib.Omega.{arith}
use native.Mathlib.Nat.{mod-eq_of_lt}
use lib.ListN.{length, take, drop, length-append, take-append-drop}
use lib.Seq.{length_front, length-take-le, take_at, get_or-drop, get_or-append-add}
use Rattle.tokens.specs.Lexeme.{Lexeme}
use Rattle.tokens.specs.Table.{token_list, count_others}
use Rattle.tokens.proofs.TokenList.{others-few}
use Rattle.tree.specs.Tree.{nowhere}
use Rattle.reading.specs.Entries.{entries}
use Rattle.records.specs.Record.{record_words}
use Rattle.records.proofs.Same.{Same, same-append}
use Rattle.refusals.specs.declared.refusal.Refusal.{Refusal}
use Rattle.refusals.specs.Refusal.{refusal_number, numbered}
use Rattle.entries.specs.Prepared.{work_words, prepared}
use Rattle.entries.proofs.Answers.{Made, made}
use Rattle.brackets.specs.Brackets.{has_attempts}
use Rattle.reading_words.specs.Meet.{Given}
use Rattle.reading_words.proofs.Records as records
use Rattle.reading_words.proofs.Records.{input_of, small-takes}
use Rattle.closers_pass.specs.declared.top.Pass.{Pass}
use Rattle.closers_pass.specs.declared.top.Pass.TheVariants.{Read, Plain}
use Rattle.closers_pass.specs.Top.{Blank, Passed, Paired}
use Rattle.closers_pass.specs.Call.{noted, read_to, pass_over, paired_list}
use Rattle.closers_pass.proofs.Records.{blank-records}
use Rattle.closers_pass.proofs.Noting.{noted-is}

mirror : {K L : List ℕ} {i j : ℕ} → Same K i L j → Same L j K i
mirror s = record { place = sym s.place; close = sym s.close; sep = sym s.sep; marks = sym s.marks; closer = sym s.closer }

module _ (text table : List ℕ) (count : ℕ) (always : Bool) (work : List ℕ) (r : Result ℕ Refusal) (K : List ℕ) (c : (numbered r, K) ≡ prepared table count work) where
  over : paired_list text table count always work ≡ pass_over text table (token_list count table) always (numbered r) K
  unfolding paired_list
  over = ap (λ (x : Result ℕ ℕ × List ℕ). pass_over text table (token_list count table) always x.0 x.1) (sym c)

  pub pass_refused : (k : Refusal) → r ≡ Err k → ◌≡◌ {A = Result Pass ℕ × List ℕ} (Err (refusal_number k), K) (paired_list text table count always work)
  unfolding pass_over
  pass_refused k q = sym (over ∙ ap (λ (a : Result ℕ Refusal). pass_over text table (token_list count table) always (numbered a) K) q)

  module _ (n : ℕ) (q : r ≡ Ok n) where
    facts : Made table count work n K
    facts = made table count work n K (sym (ap (λ (a : Result ℕ Refusal). (numbered a, K)) q) ∙ c)

    pub few : n ≤ 4096
    few = omega (arith, facts.number, facts.few, others-few count table)

    pub fit : record_words n ≤ length K
    fit = omega (arith, facts.number, facts.size, ap length facts.filled, length-append (work_words (token_list count table)) (drop (record_words (count_others (token_list count table))) work))

    pub lent_fits : record_words n ≤ length (take (record_words n) K)
    lent_fits = omega (arith, length-take-le (record_words n) K fit)

    pub pass_plain : (w : Bool) → w ≡ (always || has_attempts text table K n) → w ≡ false → ◌≡◌ {A = Result Pass ℕ × List ℕ} (Ok (Plain n), K) (paired_list text table count always work)
    unfolding pass_over
    pass_plain w e z = sym (over ∙ ap (λ (a : Result ℕ Refusal). pass_over text table (token_list count table) always (numbered a) K) q ∙ rw (sym e ∙ z))

    -- what the pass leaves of the records, which are lent to it alone, and the words behind them
    module _ (takes : ℕ) (P : List ℕ) (p : Paired text table n (take (record_words n) K) P takes) where
      abbrev ts : List Lexeme
      ts = token_list count table

      long : length (work_words ts) ≡ record_words n
      long = facts.size ∙ sym (ap record_words facts.number)

      lent : take (record_words n) K ≡ work_words ts
      lent = ap (take (record_words n)) facts.filled ∙ take_at (work_words ts) _ (record_words n) long

      passed : Passed n P takes (read_to text ts)
      passed =
          let e = lent ∙ sym (append-nil (work_words ts)) in
          p.means (input_of text ts)
          (subst (λ (m : ℕ). Given text table m (take (record_words n) K) (input_of text ts)) (sym facts.number) (records.given text table count facts.few facts.words _ _ e))
          (subst (λ (m : ℕ). Blank m (take (record_words n) K)) (sym facts.number) (blank-records text table count facts.few facts.words _ _ e))

      size : length P ≡ record_words n
      size = p.kept.long ∙ length-take-le (record_words n) K fit

      -- a record of K is the same among those that are lent, one of the outcome the same as in P
      before : (i : ℕ) → i < n → Same (take (record_words n) K) i K i
      before i h = subst (λ (J : List ℕ). Same (take (record_words n) K) i J i) (take-append-drop (record_words n) K) (mirror (same-append (take (record_words n) K) (drop (record_words n) K) i (omega (arith, length-take-le (record_words n) K fit))))

      after : (i : ℕ) → i < n → Same (P ++ drop (record_words n) K) i P i
      after i h = same-append P (drop (record_words n) K) i (omega (arith, size))

      words_are : P ++ drop (record_words n) K ≡ noted n n (read_to text ts).marks (read_to text ts).closers K
      words_are =
          noted-is n (read_to text ts).marks (read_to text ts).closers K (P ++ drop (record_words n) K) fit (omega (arith, few))
          (length_front K P (record_words n) p.kept.long)
          (λ i h. ((after i h).place ∙ p.kept.place i ∙ (before i h).place, (after i h).close ∙ p.kept.close i ∙ (before i h).close, (after i h).sep ∙ p.kept.sep i ∙ (before i h).sep))
          (λ i h. ((after i h).marks ∙ passed.marks.words i h, (after i h).closer ∙ passed.noted.words i h))
          (λ x h.
          let z : length P + (x - record_words n) ≡ x = omega (arith, size) in
          let w : record_words n + (x - record_words n) ≡ x = omega arith in
          rw z at (get_or-append-add P (drop (record_words n) K) (x - record_words n) 0) ∙ rw w at (get_or-drop (record_words n) K (x - record_words n) 0))

      pub pass_read : (w : Bool) → w ≡ (always || has_attempts text table K n) → w ≡ true → takes < 2 ^ 32
          → ◌≡◌ {A = Result Pass ℕ × List ℕ} (Ok (Read n takes), P ++ drop (record_words n) K) (paired_list text table count always work)
      unfolding pass_over
      pass_read w e z small =
          let k : takes ≡ (read_to text ts).takes = sym (mod-eq_of_lt small) ∙ passed.count ∙ small-takes text (entries nowhere ts) (records.few-entries text table count facts.few facts.words K _ facts.filled) in
          rw (k, words_are) (sym (over ∙ ap (λ (a : Result ℕ Refusal). pass_over text table ts always (numbered a) K) q ∙ rw (sym e ∙ z)))
