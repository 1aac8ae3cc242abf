-- What checking the buffers' lengths answers. n is the number of tokens other than Space; the buffers have this many words.
use Rattle.std.specs.Prelude.{true, false, ℕ, ◌+◌, ◌*◌, ◌/◌, min, ltb, Result, Ok, Err}
use Rattle.std.proofs.Math.Option.{Option, none, some}
use Rattle.tokens.specs.Refusals.{entry_words, room_refusal}

-- "Two words a token, 2 × (n + 1) in all", "tree 32 × (n + 1)": the least n for which they are too short
abbrev pub room_for : ℕ → ℕ → ℕ
room_for work tree = min (work / entry_words) (tree / 32)

-- "8 work too short; 9 tree too short": the number where one of the two is
unfoldable pub lacking_for : ℕ → ℕ → ℕ
lacking_for n work = elim (ltb work (entry_words * (n + 1))) [ true ↦ 8 | false ↦ 9 ]

-- the answer of this refusal, or of none
unfoldable pub room_of : Option ℕ → Result Unit ℕ
room_of (some k) = Err k
room_of none = Ok tt

-- the refusal by 8 or 9, if one meets them; it meets them exactly if n is room_for or more, and is then lacking_for
-- (proofs/Lengths.antt: one-short, room-enough)
unfoldable pub room_answer : ℕ → ℕ → ℕ → Result Unit ℕ
room_answer n work tree = room_of (room_refusal n work tree)
