-- The records of a list that has its words in the table stand for its entries, with no mark set.
use Prim.Native.Nat.{ℕ, zero, suc, ◌+◌, ◌*◌, ◌%◌, ◌^◌, ◌≤◌, ◌<◌}
use mathlib.Core.Path.{◌≡◌, refl, sym, ap, ◌∙◌}
use mathlib.Core.Bool.{Bool, true, false, cond}
use mathlib.Core.List.{List, ◌++◌}
use mathlib.Core.Option.{Option, none, some}
use native.Mathlib.Omega.{arith}
use native.Mathlib.Nat.{mod-eq_of_lt, mul-le-mul}
use lib.ListN.{length, drop, replicate, get_or, length-replicate}
use borrow.Author.Tests.{eq-eqb}
use Rattle.tokens.specs.declared.token.Token.TheVariants as token
use Rattle.tokens.specs.Kinds.{number_of}
use Rattle.tokens.specs.Lexeme.{Lexeme}
use Rattle.tokens.specs.Table.{token_list, count_others}
use Rattle.tokens.specs.Refusals.{list_refusal, bit}
use Rattle.tokens.proofs.TokenList.{others-few}
use Rattle.tree.specs.Tree.{nowhere}
use Rattle.reading.specs.Entries.{Entry, is, entries, has_sep}
use Rattle.reading.specs.Reading.{close_of, parse_entries}
use Rattle.bounds.proofs.Takes.{takes-bound}
use Rattle.bounds.proofs.Theorems.{entries-count}
use Rattle.tokens.proofs.Accepted.{accepted}
use Rattle.entries.specs.Prepared.{work_words}
use Rattle.entries.proofs.Recorded.{Recorded, recorded, behind}
use Rattle.records.specs.Record.{record_words, place_of, marks_of, closer_of, is_placed, kind_of, start_of, len_of}
use Rattle.records.proofs.Places.{is_placed_lem}
use Rattle.reading_words.specs.Meet.{Input, Stands, Linked, Given, Marks, link_number}

-- the entries of the list, over the text
abbrev pub input_of : List ℕ → List Lexeme → Input
input_of text ts = record { text = text; es = entries nowhere ts }

same_bit : (b : Bool) → cond b 1 0 ≡ bit b
same_bit true = refl
same_bit false = refl

same-link : (o : Option ℕ) → behind o ≡ link_number o
same-link none = refl
same-link (some k) = refl

get_false : (k j : ℕ) → get_or (replicate k false) j false ≡ false
get_false zero j = refl
get_false (suc k) zero = refl
get_false (suc k) (suc j) = get_false k j

blank-marks : {n : ℕ} {K : List ℕ} (m : ℕ) → ((i : ℕ) → i < n → marks_of K i ≡ 0) → m ≡ n → Marks n K (replicate (3 * m) false)
blank-marks m h e = record { held = length-replicate (3 * m) false ∙ ap (λ (k : ℕ). 3 * k) e; words = λ i l. h i l ∙ sym (rw (get_false (3 * m) (3 * i), get_false (3 * m) (3 * i + 1), get_false (3 * m) (3 * i + 2))) }

module _ (text table : List ℕ) (count : ℕ) (few : count ≤ 4096) (words : 3 * count ≤ length table) (K rest : List ℕ)
    (work : K ≡ work_words (token_list count table) ++ rest) where
  at : (i : ℕ) → i < count_others (token_list count table) → Recorded count table K (entries nowhere (token_list count table)) i
  at = recorded count table few words K rest work

  pub place : (i : ℕ) → i < count_others (token_list count table) → place_of K i < count
  place i h = (at i h).inside

  stands : (i : ℕ) → i < count_others (token_list count table) → Stands table K (entries nowhere (token_list count table)) i
  stands i h =
      let r = at i h in
      record {
        entry = r.entry;
        there = r.there;
        row = record { kind = r.kind; start = r.start; len = r.len; space = r.space; space_size = r.space_size };
      }

  linked : (i : ℕ) → i < count_others (token_list count table) → kind_of table K i ≡ 20 → Linked K (input_of text (token_list count table)) i
  unfolding is
  linked i h k =
      let r = at i h in
      let o : is token.OpenBracket r.entry ≡ true = eq-eqb 20 (number_of r.entry.token) (sym k ∙ r.kind) in
      record { close = r.close text o ∙ same-link (close_of text (entries nowhere (token_list count table)) i); sep = r.sep o ∙ same_bit (has_sep zero (drop (suc i) (entries nowhere (token_list count table)))) }

  pub given : Given text table (count_others (token_list count table)) K (input_of text (token_list count table))
  given = record { text = refl; size = entries-count nowhere (token_list count table); stands = stands; linked = linked }

  pub spans : list_refusal text count table ≡ none → record_words (count_others (token_list count table)) ≤ length K → (i : ℕ) → i < count_others (token_list count table) → start_of table K i + len_of table K i ≤ length text
  unfolding start_of len_of
  spans ok fit i h =
      let p : is_placed table K i ≡ true = is_placed_lem table K i (omega arith) (omega (arith, place i h)) in
      rw p ((accepted text count table ok).sound (place_of K i) (place i h)).span

  pub blank : Marks (count_others (token_list count table)) K (replicate (3 * length (entries nowhere (token_list count table))) false)
  blank = blank-marks (length (entries nowhere (token_list count table))) (λ i h. (at i h).marks) (entries-count nowhere (token_list count table))

  pub no_closer : (i : ℕ) → i < count_others (token_list count table) → closer_of K i ≡ 0
  no_closer i h = (at i h).closer

  pub few-entries : length (entries nowhere (token_list count table)) ≤ 4096
  few-entries = omega (arith, others-few count table, entries-count nowhere (token_list count table))

-- so few entries are read with fewer than 2^32 takes
pub small-takes : (X : List ℕ) (es : List Entry) → length es ≤ 4096 → (parse_entries X es true).1.takes % 2 ^ 32 ≡ (parse_entries X es true).1.takes
small-takes X es h =
    let q : suc (length es) ≤ 4097 = omega arith in
    let m : suc (length es) * suc (length es) ≤ 4097 * 4097 = mul-le-mul q q in
    mod-eq_of_lt (omega (arith, takes-bound X es, m))
