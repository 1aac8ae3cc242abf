-- The refusals by their numbers.
use Rattle.std.specs.Prelude.{List, ℕ, Result, Ok, Err}
use Rattle.tokens.specs.Refusals.{Answer, accepted, refused}
use Rattle.refusals.specs.declared.refusal.Refusal.{Refusal}
use Rattle.refusals.specs.declared.refusal.Refusal.TheVariants.{LongText, NotAscii, ShortList, UnknownKind, SpanPastText, SpaceAfterSpace, ShortTable, ShortWork, ShortTree, ShortPrint, NoMathml, ShortMathml}

-- "The candidate: 1 text over 4,096 bytes; 2 a byte of 128 or more. The caller: 3 more than 4,096 tokens claimed, or a table with fewer than
-- three words for each; 4 a kind above 23; 5 a span past the text; 6 a Space token directly after a Space; 7 token table shorter than 3 words
-- a token; 8 work too short; 9 tree too short; 10 print buffer too short"; of MathML, 11 what it has no words for, 12 its buffer too short
abbrev pub refusal_number : Refusal → ℕ
refusal_number LongText = 1
refusal_number NotAscii = 2
refusal_number ShortList = 3
refusal_number UnknownKind = 4
refusal_number SpanPastText = 5
refusal_number SpaceAfterSpace = 6
refusal_number ShortTable = 7
refusal_number ShortWork = 8
refusal_number ShortTree = 9
refusal_number ShortPrint = 10
refusal_number NoMathml = 11
refusal_number ShortMathml = 12

-- an answer with its refusal by number
abbrev pub numbered : {T : Type 0} → Result T Refusal → Result T ℕ
numbered (Ok x) = Ok x
numbered (Err r) = Err (refusal_number r)

-- an answer in the words of document 01: an accepted call's values, or the refusal's number
abbrev pub answered : {T : Type 0} → (T → List ℕ) → Result T Refusal → Answer
answered values (Ok x) = accepted (values x)
answered values (Err r) = refused (refusal_number r)
