-- What the call's answer says of an accepted list with work words enough: what callers need to know of the pass.
use Rattle.std.proofs.Common.{Result, Ok, Err}
use Prim.Native.Nat.{ℕ, ◌+◌, ◌*◌, ◌≤◌}
use mathlib.Core.Path.{◌≡◌, refl, sym, ap, ◌∙◌}
use mathlib.Core.Bool.{Bool, true, false, cond, ◌||◌}
use mathlib.Core.List.{List, ◌++◌}
use mathlib.Core.Option.{none}
use native.Mathlib.Omega.{arith}
use lib.ListN.{length, drop, replicate, length-append}
use Rattle.tokens.specs.Lexeme.{Lexeme}
use Rattle.tokens.specs.Table.{token_list, count_others}
use Rattle.tokens.specs.Refusals.{list_refusal}
use Rattle.tokens.proofs.Accepted.{accepted}
use Rattle.tokens.proofs.Cases.{by_test, apart}
use Rattle.tokens.proofs.TokenList.{others-few}
use Rattle.tree.specs.Tree.{nowhere}
use Rattle.reading.specs.Entries.{entries}
use Rattle.bounds.proofs.Theorems.{entries-count}
use Rattle.closers_laws.proofs.Replay.{marks-long}
use Rattle.records.specs.Record.{record_words, Kept}
use Rattle.refusals.specs.declared.refusal.Refusal.{Refusal}
use Rattle.refusals.specs.Refusal.{numbered}
use Rattle.entries.specs.Prepared.{work_words}
use Rattle.entries.proofs.Accepted.{prepared-is}
use Rattle.entries.proofs.Answers.{made}
use Rattle.brackets.specs.Brackets.{has_attempts}
use Rattle.reading_words.specs.Meet.{Given, Marks}
use Rattle.reading_words.proofs.Kit.{given-kept}
use Rattle.reading_words.proofs.Records as records
use Rattle.reading_words.proofs.Records.{input_of}
use Rattle.closers_pass.specs.declared.top.Pass.{Pass}
use Rattle.closers_pass.specs.declared.top.Pass.TheVariants.{Read, Plain}
use Rattle.closers_pass.specs.Meet.{Noted}
use Rattle.closers_pass.specs.Call.{noted, read_to, pass_over, paired_list}
use Rattle.closers_pass.proofs.Records.{blank-records}
use Rattle.closers_pass.proofs.Noting.{noted-kept, noted-marks, noted-closer}

module _ (text table : List ℕ) (count : ℕ) (ok : list_refusal text count table ≡ none) where
  abbrev ts : List Lexeme
  ts = token_list count table

  abbrev n : ℕ
  n = count_others ts

  pub few : n ≤ 4096
  few = let a = accepted text count table ok in omega (arith, a.few, others-few count table)

  module _ (work : List ℕ) (room : record_words (n + 1) ≤ length work) where
    -- the records as `prepare` makes them
    abbrev pub made-words : List ℕ
    made-words = work_words ts ++ drop (record_words n) work

    pub made-given : Given text table n made-words (input_of text ts)
    made-given = let a = accepted text count table ok in records.given text table count a.few a.words made-words _ refl

    pub made-blank : Marks n made-words (replicate (3 * n) false)
    made-blank = let a = accepted text count table ok in (blank-records text table count a.few a.words made-words _ refl).marks

    pub fit : record_words n ≤ length made-words
    fit = let m = made table count work n made-words (sym (prepared-is text table count work ok room)) in
        omega (arith, m.size, length-append (work_words ts) (drop (record_words n) work))

    -- the same with what the whole reading leaves in them
    abbrev pub read-words : List ℕ
    read-words = noted n n (read_to text ts).marks (read_to text ts).closers made-words

    pub read_kept : Kept made-words read-words
    read_kept = noted-kept n (read_to text ts).marks (read_to text ts).closers made-words n

    pub read-given : Given text table n read-words (input_of text ts)
    read-given = given-kept read_kept made-given

    pub read-marks : Marks n read-words (read_to text ts).marks
    read-marks = record {
      held = marks-long text (entries nowhere ts) ∙ ap (λ (k : ℕ). 3 * k) (entries-count nowhere ts);
      words = λ i h. noted-marks n (read_to text ts).marks (read_to text ts).closers made-words n i h fit;
    }

    pub read-closers : Noted n read-words (read_to text ts).closers
    read-closers = record { words = λ i h. noted-closer n (read_to text ts).marks (read_to text ts).closers made-words n i h fit (omega (arith, few)) }

    module _ (always : Bool) (r : Result Pass Refusal) (L : List ℕ) (c : (numbered r, L) ≡ paired_list text table count always work) where
      answered : ◌≡◌ {A = Result Pass ℕ × List ℕ} (numbered r, L) (cond (always || has_attempts text table made-words n) (Ok (Read n (read_to text ts).takes), read-words) (Ok (Plain n), made-words))
      unfolding paired_list pass_over
      answered = c ∙ ap (λ (x : Result ℕ ℕ × List ℕ). pass_over text table ts always x.0 x.1) (prepared-is text table count work ok room)

      by_case : {A : Type 0} → (numbered r ≡ Ok (Read n (read_to text ts).takes) → L ≡ read-words → A) → (always ≡ false → numbered r ≡ Ok (Plain n) → L ≡ made-words → A) → A
      by_case f g =
          by_test (always || has_attempts text table made-words n)
          (λ e. let p = rw e at answered in f (ap (λ (x : Result Pass ℕ × List ℕ). x.0) p) (ap (λ (x : Result Pass ℕ × List ℕ). x.1) p))
          (λ e. let p = rw e at answered in g (asked always _ e) (ap (λ (x : Result Pass ℕ × List ℕ). x.0) p) (ap (λ (x : Result Pass ℕ × List ℕ). x.1) p))
        where
          asked : (b a : Bool) → (b || a) ≡ false → b ≡ false
          asked true a e = e
          asked false a e = refl

      by_number : {x : Result Pass Refusal} → r ≡ x → numbered r ≡ numbered x
      by_number = ap numbered

      pub not_refused : {A : Type 0} (k : Refusal) → r ≡ Err k → A
      not_refused k q = let e = by_number q in by_case (λ a b. apart cc) (λ z a b. apart cc)

      pub not_plain : {A : Type 0} (m : ℕ) → always ≡ true → r ≡ Ok (Plain m) → A
      not_plain m y q = let e = by_number q in by_case (λ a b. apart cc) (λ z a b. apart cc)

      pub plain-is : (m : ℕ) → r ≡ Ok (Plain m) → (m ≡ n) × (L ≡ made-words)
      plain-is m q = let e = by_number q in by_case (λ a b. apart cc) (λ z a b. (cc, b))

      pub read_is : (m takes : ℕ) → r ≡ Ok (Read m takes) → (m ≡ n) × (takes ≡ (read_to text ts).takes) × (L ≡ read-words)
      read_is m takes q = let e = by_number q in by_case (λ a b. (cc, cc, b)) (λ z a b. apart cc)
