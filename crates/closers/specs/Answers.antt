-- What is promised of the closers that a call has written, n the tokens other than Space.
use Rattle.std.specs.Prelude.{ℕ, ◌≤◌, ◌<◌, ◌≡◌, List, ◌⊎◌, get_or, take}
use Rattle.tokens.specs.Lexeme.{Lexeme}
use Rattle.tokens.specs.Table.{count_others}
use Rattle.reading.specs.Reading.{closers_of}

-- "Each closer is matched with one opener at most, and pairs never cross." w are the words of the lent buffer.
pub record Matched (n : ℕ) (w : List ℕ) : Type 0 where
  -- a place among those tokens, or n
  pub place : (i : ℕ) → i < n → get_or w i 0 ≤ n
  -- a closer stands behind its opener
  pub behind : (i : ℕ) → i < n → get_or w i 0 < n → i < get_or w i 0
  -- "one opener at most"
  pub one-opener : (i j : ℕ) → i < j → j < n → get_or w i 0 < n → get_or w i 0 ≡ get_or w j 0 → ⊥
  -- "pairs never cross": the first is closed before the second opens, or the second is closed inside the first
  pub never-cross : (i j : ℕ) → i < j → j < n → get_or w i 0 < n → get_or w j 0 < n → (get_or w i 0 < j) ⊎ (get_or w j 0 < get_or w i 0)
  -- a token that closes opens nothing
  pub opens-nothing : (i : ℕ) → i < n → get_or w i 0 < n → get_or w (get_or w i 0) 0 ≡ n

-- The words are the closers of the whole reading of this list, and matched.
pub record Answered (text : List ℕ) (ts : List Lexeme) (w : List ℕ) : Type 0 where
  pub whole : take (count_others ts) w ≡ closers_of text ts
  pub matched : Matched (count_others ts) w
