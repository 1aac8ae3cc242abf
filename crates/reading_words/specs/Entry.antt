-- What the readers need of the entries' words, and what they leave of them. t are the words of the token table, K the work words,
-- X the text.
use Rattle.std.specs.Prelude.{ℕ, ◌+◌, ◌*◌, ◌≤◌, ◌<◌, List, Bool, length}
use Rattle.tokens.specs.Refusals.{bit}
use Rattle.records.specs.Record.{Whole, place_of, start_of, len_of}

-- the entry i has its words, and its token stands in the table
pub record Placed (t K : List ℕ) (i : ℕ) : Type 0 where
  pub fit : Whole K i
  pub inside : 3 * place_of K i + 2 < length t

-- what makes the readers' steps safe: n entries, each placed, with a span of the text
pub record Safe (n : ℕ) (X t K : List ℕ) : Type 0 where
  pub few : n ≤ 4096
  pub placed : (i : ℕ) → i < n → Placed t K i
  pub spans : (i : ℕ) → i < n → start_of t K i + len_of t K i ≤ length X

-- the marks of an entry, failed opens with the stops none and Sep and a failed matrix, as one number
abbrev pub marks_word : Bool → Bool → Bool → ℕ
marks_word a b c = bit a + (2 * bit b + 4 * bit c)
