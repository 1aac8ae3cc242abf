-- What checking a text answers.
use Rattle.std.specs.Prelude.{List, [], ℕ, Result}
use Rattle.std.proofs.Math.Option.{none, some}
use Rattle.tokens.specs.Refusals.{Answer, accepted, refused, text_refusal}
use Rattle.refusals.specs.declared.refusal.Refusal.{Refusal}
use Rattle.refusals.specs.Refusal.{answered}

-- the check's answer in the words of document 01
abbrev pub check_of : Result Unit Refusal → Answer
check_of r = answered (λ (u : Unit). []) r

-- "1 text over 4,096 bytes; 2 a byte of 128 or more", or none of the two
unfoldable pub checked_text : List ℕ → Answer
checked_text text = elim (text_refusal text) [ some k ↦ refused k | none ↦ accepted [] ]
