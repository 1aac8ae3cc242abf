-- What is given for an answer is given for one that equals it.
use mathlib.Core.Path.{◌≡◌}
use mathlib.Core.List.{List}
use Prim.Native.Nat.{ℕ}
use Rattle.tokens.specs.Refusals.{Answer}
use Rattle.asciimath_answers.specs.Exported.{Given}

pub given-as : {a b : Answer} {r : ℕ} {l m : List ℕ} → b ≡ a → Given a r l m → Given b r l m
given-as h g = rw h g
