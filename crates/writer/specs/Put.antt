-- What a writer does to the buffer it is lent.
use Rattle.std.specs.Prelude.{ℕ, ◌+◌, ◌≤◌, min, ◌≡◌, List, length}
use Rattle.std.proofs.lemmas.List.Edits.{sets}

-- the largest usize
abbrev pub most : ℕ
most = 18446744073709551615

-- The bytes are put at a place of the buffer, `before` and `after` the call, and the answer is the place behind them. What lies past
-- the buffer's end is not stored, and the count goes on there, up to the largest usize, so that a walk with a short buffer tells the
-- length needed. No buffer is longer than that.
pub record Put (before : List ℕ) (place : ℕ) (after : List ℕ) (next : ℕ) (put : List ℕ) : Type 0 where
  pub fits : length before ≤ most
  pub same : length after ≡ length before
  pub count : next ≡ min (place + length put) most
  pub bytes : after ≡ sets before place put
