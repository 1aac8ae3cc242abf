-- Words written into a buffer.
use Rattle.std.specs.Prelude.{ℕ, ◌+◌, ◌≡◌, List, ◌++◌, length, take}

-- y is x with the words w written from e up to E; what stands from E on is not said
pub record Wrote (x : List ℕ) (e : ℕ) (y : List ℕ) (E : ℕ) (w : List ℕ) : Type 0 where
  pub upto : E ≡ e + length w
  pub long : length y ≡ length x
  pub body : take E y ≡ take e x ++ w
