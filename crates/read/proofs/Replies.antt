-- What the call's answer says of the program's reply, where the buffers are long enough for any text of `most` bytes.
use Prim.Native.Nat.{ℕ, ◌+◌, ◌*◌, ◌/◌, ◌≤◌, ◌<◌}
use mathlib.Core.Path.{◌≡◌, refl, sym, ap, ◌∙◌}
use mathlib.Core.Bool.{Bool}
use mathlib.Core.List.{List, [], ◌∷◌, ◌++◌}
use mathlib.Core.Option.{none, some}
use native.Mathlib.Omega.{arith}
use lib.Dec.{ltb}
use lib.ListN.{length, drop, length-append}
use lib.Seq.{take_at, sets-eq}
use borrow.Author.Tests.{lt-ltb, le-ltb}
use Rattle.tokens.specs.Refusals.{bit, accepted, refused, ascii, text_refusal, entry_words}
use Rattle.tokens.specs.Table.{count_others}
use Rattle.room.proofs.Lengths.{room-enough}
use Rattle.lexing.specs.Rules.{tokens}
use Rattle.lexing.proofs.Theorems.{never-outnumber}
use Rattle.tokens.proofs.Cases.{by_lt, by_option, by_test, apart}
use Rattle.parse.specs.Call.{parse_refusal}
use Rattle.parse.proofs.Calls.{text-refused, table-long, others-within}
use Rattle.print.specs.declared.Printed.{Printed}
use Rattle.std.specs.Prelude.{Result, Ok, Err}
use Rattle.refusals.specs.declared.refusal.Refusal.{Refusal}
use Rattle.refusals.specs.Refusal.{refusal_number}
use Rattle.writer.specs.Put.{Put}
use Rattle.print.specs.Call.{answer_of, print_of, values, printed_text}
use Rattle.writer.proofs.Decimals.{small, large}
use Rattle.print.proofs.Calls.{LeftAll, refused-so, short-so, whole-so}
use Rattle.read_output.specs.Line.{refusal}
use Rattle.read.specs.Reply.{print_room, most, reply_to, Written}

-- buffers for any text of this length
any-text : (text : List ℕ) (table work tree : ℕ) → text_refusal text ≡ none → 3 * length text ≤ table → entry_words * (length text + 1) ≤ work
    → 32 * (length text + 1) ≤ tree → parse_refusal text table work tree ≡ none
any-text text table work tree ok a b c =
    let n = never-outnumber text in
    let m = others-within (tokens text) in
    table-long entry_words text table work tree ok (omega arith) ∙ room-enough entry_words (count_others (tokens text)) work tree (omega arith) (omega arith)

-- The line of a refusal by one or two digits has room.
line-short : (k : ℕ) → k < 100 → length (refusal k) ≤ 11
unfolding refusal
line-short k h =
    by_lt k 10
    (λ l. rw (small k l) (omega arith))
    (λ l. rw (large k l) (rw (small (k / 10) (omega arith)) (omega arith)))

pub refused-line : (x y : List ℕ) (r k : ℕ) → length x ≡ print_room → k < 100 → Put x 0 y r (refusal k) → Written (refusal k) y r
refused-line x y r k room h p =
    let l = line-short k h in
    let z : 0 + length (refusal k) ≡ length (refusal k) = omega arith in
    let e : y ≡ refusal k ++ drop (length (refusal k)) x = p.bytes ∙ sets-eq (refusal k) x 0 (omega arith) ∙ ap (λ (m : ℕ). refusal k ++ drop m x) z in
    let n : r ≡ length (refusal k) = omega (arith, p.count) in
    record {
      count = n;
      fits = omega (arith, p.same);
      first = rw (e, n) (take_at (refusal k) (drop (length (refusal k)) x) (length (refusal k)) refl);
    }

-- a text's own refusals are 1 and 2
few-numbers : (text : List ℕ) (k : ℕ) → text_refusal text ≡ some k → k ≤ 2
unfolding text_refusal
few-numbers text k e =
    by_test (ltb 4096 (length text))
    (λ h. let d : some 1 ≡ some k = sym (rw (h, text_refusal)) ∙ e in let n : k ≡ 1 = cc in omega arith)
    (λ h.
    by_test (ascii text)
    (λ g. let d : none ≡ some k = sym (rw (h, text_refusal) (rw g)) ∙ e in apart cc)
    (λ g. let d : some 2 ≡ some k = sym (rw (h, text_refusal) (rw g)) ∙ e in let n : k ≡ 2 = cc in omega arith))

-- "over 500 bytes it prints `refused=1`"
pub too_long : (text : List ℕ) → most < length text → reply_to text ≡ refusal 1
unfolding reply_to
too_long text h = rw (lt-ltb most (length text) h, reply_to)

module _ (text table work tree out : List ℕ) (few : length text ≤ most) (ta : length table ≡ 3 * most) (wo : length work ≡ entry_words * (most + 1))
    (tr : length tree ≡ 32 * (most + 1)) (ou : length out ≡ print_room) where
  reply_refused : (k : ℕ) → text_refusal text ≡ some k → reply_to text ≡ refusal k
  unfolding reply_to
  reply_refused k e = rw (le-ltb most (length text) few, reply_to) (rw e)

  reply_short : text_refusal text ≡ none → print_room < length (print_of text) → reply_to text ≡ refusal 10
  unfolding reply_to
  reply_short e h = rw (le-ltb most (length text) few, reply_to) (rw e (rw (lt-ltb print_room (length (print_of text)) h)))

  reply_whole : text_refusal text ≡ none → length (print_of text) ≤ print_room → reply_to text ≡ print_of text
  unfolding reply_to
  reply_whole e h = rw (le-ltb most (length text) few, reply_to) (rw e (rw (le-ltb print_room (length (print_of text)) h)))

  enough : text_refusal text ≡ none → parse_refusal text (length table) (length work) (length tree) ≡ none
  enough e = any-text text (length table) (length work) (length tree) e (omega arith) (omega arith) (omega arith)

  module _ (r : Result Printed Refusal) (t w y z : List ℕ) (e : (answer_of r, t, w, y, z) ≡ printed_text text table work tree out) where
    answer : answer_of r ≡ (printed_text text table work tree out).0
    answer = ap (λ (x : LeftAll). x.0) e

    left : z ≡ (printed_text text table work tree out).4
    left = ap (λ (x : LeftAll). x.4) e

    by_refusal : (k : ℕ) → text_refusal text ≡ some k → answer_of r ≡ refused k
    by_refusal k h =
        answer ∙
        ap (λ (x : LeftAll). x.0)
        (refused-so text table work tree out k (text-refused entry_words text (length table) (length work) (length tree) k h))

    pub when_refused : (why : Refusal) → r ≡ Err why → (refusal_number why < 100) × (reply_to text ≡ refusal (refusal_number why))
    when_refused why q =
        let k = refusal_number why in
        by_option (text_refusal text)
        (λ h.
        by_lt (length out) (length (print_of text))
        (λ l.
        let d : refused k ≡ refused 10 = ap answer_of (sym q) ∙ answer ∙ short-so text table work tree out (enough h) l in
        let n : k ≡ 10 = cc in
        (omega arith, rw n (reply_short h (omega arith))))
        (λ l.
        let d : refused k ≡ accepted (values text) = ap answer_of (sym q) ∙ answer ∙ ap (λ (x : LeftAll). x.0) (whole-so text table work tree out (enough h) l) in
        apart cc))
        (λ j h.
        let d : refused k ≡ refused j = ap answer_of (sym q) ∙ by_refusal j h in
        let n : k ≡ j = cc in
        (omega (arith, few-numbers text j h), rw n (reply_refused j h)))

    pub printed-whole : (p : Printed) → r ≡ Ok p → Written (reply_to text) z p.len
    unfolding values
    printed-whole p q =
        by_option (text_refusal text)
        (λ h.
        by_lt (length out) (length (print_of text))
        (λ l.
        let d : accepted (p.len ∷ p.takes ∷ bit p.blank ∷ []) ≡ refused 10 = ap answer_of (sym q) ∙ answer ∙ short-so text table work tree out (enough h) l in
        apart cc)
        (λ l.
        let d : accepted (p.len ∷ p.takes ∷ bit p.blank ∷ []) ≡ accepted (values text) = ap answer_of (sym q) ∙ answer ∙ ap (λ (x : LeftAll). x.0) (whole-so text table work tree out (enough h) l) in
        let n : p.len ≡ length (print_of text) = cc in
        let s : z ≡ print_of text ++ drop (length (print_of text)) out = left ∙ ap (λ (x : LeftAll). x.4) (whole-so text table work tree out (enough h) l) in
        let said = reply_whole h (omega arith) in
        record {
          count = n ∙ ap length (sym said);
          fits = rw s (omega (arith, length-append (print_of text) (drop (length (print_of text)) out)));
          first = rw (s, said) (take_at (print_of text) (drop (length (print_of text)) out) p.len (sym n));
        }))
        (λ j h.
        let d : accepted (p.len ∷ p.takes ∷ bit p.blank ∷ []) ≡ refused j = ap answer_of (sym q) ∙ by_refusal j h in
        apart cc)
