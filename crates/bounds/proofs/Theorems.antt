-- The theorems about readings: what specs/Conditions.antt promises holds of every token list, so of each that is accepted and of
-- each accepted text. (Settled lists: crates/grammar/proofs/Settled.antt. The starred
-- strings: crates/reading/proofs/Starred.antt.)
use Prim.Native.Nat.{ℕ, suc, ◌+◌, ◌*◌, ◌≤◌}
use mathlib.Core.Path.{◌≡◌, refl, ap, subst}
use mathlib.Core.Bool.{Bool, true, false}
use mathlib.Core.List.{List, [], ◌∷◌}
use native.Mathlib.Omega.{arith}
use native.Mathlib.Nat.{suc-mul}
use native.Mathlib.Numerals.{add-one}
use lib.Dec.{eqb}
use lib.ListN.{length}
use Rattle.tokens.specs.declared.token.Token.TheVariants as token
use Rattle.tokens.specs.Kinds.{number_of}
use Rattle.tokens.specs.Lexeme.{Span, Lexeme}
use Rattle.lexing.specs.Rules.{tokens}
use Rattle.tokens.specs.Table.{token_list, count_others}
use Rattle.tokens.specs.Refusals.{AcceptedText, AcceptedList}
use Rattle.tree.specs.Tree.{nowhere}
use Rattle.reading.specs.Entries.{entries}
use Rattle.reading.specs.Reading.{read_tokens, reading_by}
use Rattle.bounds.specs.Conditions.{Bounds}
use Rattle.bounds.proofs.Takes.{takes-bound}
use Rattle.bounds.proofs.Memory.{same-tree}
use Rattle.bounds.proofs.Room as room
use Rattle.bounds.proofs.WellFormed.{well_formed, decoded}

-- the entries are the tokens other than Space
pub entries-count : (space : Span) (ts : List Lexeme) → length (entries space ts) ≡ count_others ts
unfolding entries count_others
entries-count space [] = refl
entries-count space (t ∷ ts) = go (eqb (number_of t.token) (number_of token.Space)) refl (λ g. entries-count g ts)
  where
    go : (b : Bool) → eqb (number_of t.token) (number_of token.Space) ≡ b →
        ((g : Span) → length (entries g ts) ≡ count_others ts) → length (entries space (t ∷ ts)) ≡ count_others (t ∷ ts)
    go true e rest = rw (e, entries, count_others) (rest t.span)
    go false e rest = rw (e, entries, count_others) (ap suc (rest nowhere))

-- of every token list, accepted or not
pub bounds : (text : List ℕ) (ts : List Lexeme) → Bounds text ts
unfolding reading_by
bounds text ts =
    let n = entries-count nowhere ts in
    let takes : (read_tokens text ts).takes ≤ 21 * (count_others ts * suc (count_others ts)) + 7 * count_others ts + 3 =
    subst (λ (m : ℕ). (read_tokens text ts).takes ≤ 21 * (m * suc m) + 7 * m + 3) n (takes-bound text (entries nowhere ts)) in
    record {
      takes = rw add-one (omega (arith, takes, suc-mul (count_others ts) (suc (count_others ts))));
      memory = λ few. same-tree text ts (omega arith);
      partial = omega (arith, room.partial-room text ts);
      room = omega (arith, room.room text ts, room.partial-room text ts);
      well_formed = well_formed text ts;
      decoded = decoded text ts;
    }

pub bounds-of_list : (text : List ℕ) (count : ℕ) (table : List ℕ) → AcceptedList text count table →
    Bounds text (token_list count table)
bounds-of_list text count table accepted = bounds text (token_list count table)

pub bounds-of_text : (text : List ℕ) → AcceptedText text → Bounds text (tokens text)
bounds-of_text text accepted = bounds text (tokens text)
