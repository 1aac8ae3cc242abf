-- Two work words an entry do for what four did, in the call that prints: where both read the text, the answer, the table, the tree and
-- the print buffer are the same. Its refusals 1 to 9 are the reading's (crates/parse/proofs/HalfWords.antt).
use Prim.Native.Nat.{ℕ}
use mathlib.Core.Path.{◌≡◌, refl}
use mathlib.Core.List.{List}
use mathlib.Core.Option.{none}
use lib.ListN.{length}
use Rattle.tokens.specs.Refusals.{entry_words}
use Rattle.parse.specs.Call.{parse_refusal, parse_refusal_by}
use Rattle.parse.proofs.Calls.{text-read}
use Rattle.print.specs.Call.{printed_text, printed_text_by}

pub half_as_four_print : (text table work₄ work tree out : List ℕ)
    → parse_refusal_by 4 text (length table) (length work₄) (length tree) ≡ none
    → parse_refusal text (length table) (length work) (length tree) ≡ none
    → ((printed_text_by 4 text table work₄ tree out).0 ≡ (printed_text text table work tree out).0)
    × ((printed_text_by 4 text table work₄ tree out).1 ≡ (printed_text text table work tree out).1)
    × ((printed_text_by 4 text table work₄ tree out).3 ≡ (printed_text text table work tree out).3)
    × ((printed_text_by 4 text table work₄ tree out).4 ≡ (printed_text text table work tree out).4)
unfolding printed_text_by
half_as_four_print text table work₄ work tree out a b =
    rw (text-read 4 text table work₄ tree a, text-read entry_words text table work tree b) (refl, refl, refl, refl)
