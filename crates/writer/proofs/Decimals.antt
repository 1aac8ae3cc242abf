-- How a number in decimal is made of its front digits and its last one.
use Prim.Native.Nat.{ℕ, zero, suc, ◌+◌, ◌/◌, ◌%◌, ◌≤◌, ◌<◌}
use mathlib.Core.Path.{◌≡◌, refl}
use mathlib.Core.Bool.{Bool, true, false}
use mathlib.Core.List.{[], ◌∷◌, ◌++◌}
use native.Mathlib.Omega.{arith}
use lib.Dec.{ltb}
use borrow.Author.Tests.{ltb-false, lt-ltb, le-ltb}
use Rattle.writer.specs.Decimal.{digits, decimal}

-- more fuel than the number needs changes nothing
enough : (f g n : ℕ) → n ≤ f → n ≤ g → digits f n ≡ digits g n
unfolding digits
enough zero zero n h k = refl
enough zero (suc g) n h k = let z : n ≡ 0 = omega arith in rw z
enough (suc f) zero n h k = let z : n ≡ 0 = omega arith in rw z
enough (suc f) (suc g) n h k = go (ltb n 10) refl λ l. enough f g (n / 10) (omega arith) (omega arith)
  where
    go : (b : Bool) → ltb n 10 ≡ b → (10 ≤ n → digits f (n / 10) ≡ digits g (n / 10)) → digits (suc f) n ≡ digits (suc g) n
    go true e front = rw (e, digits)
    go false e front = rw (e, front (ltb-false n 10 e), digits)

pub small : (n : ℕ) → n < 10 → decimal n ≡ (48 + n) ∷ []
unfolding digits decimal
small zero h = refl
small (suc n) h = rw (lt-ltb (suc n) 10 h, digits)

pub large : (n : ℕ) → 10 ≤ n → decimal n ≡ decimal (n / 10) ++ ((48 + n % 10) ∷ [])
unfolding digits decimal
large zero h = absurd (omega arith)
large (suc n) h = rw (le-ltb (suc n) 10 h, enough n (suc n / 10) (suc n / 10) (omega arith) (omega arith), digits)
