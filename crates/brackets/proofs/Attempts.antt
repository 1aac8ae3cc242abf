-- The entries at which an attempt may be made, one by one.
use Prim.Native.Nat.{ℕ, zero, suc, ◌+◌, ◌-◌, ◌≤◌, ◌<◌}
use mathlib.Core.Path.{◌≡◌}
use mathlib.Core.Bool.{true, false}
use mathlib.Core.List.{List}
use native.Mathlib.Omega.{arith}
use Rattle.brackets.specs.Brackets.{tries_at, attempts_from, has_attempts}

module _ (X t K : List ℕ) (n i : ℕ) where
  pub found_here : i < n → tries_at X t K n i ≡ true → attempts_from X t K n i (n - i) ≡ true
  unfolding attempts_from
  found_here h e = let z : n - i ≡ suc (n - (i + 1)) = omega arith in rw (z, e)

  pub found_later : i < n → tries_at X t K n i ≡ false → attempts_from X t K n i (n - i) ≡ attempts_from X t K n (i + 1) (n - (i + 1))
  unfolding attempts_from
  found_later h e =
      let z : n - i ≡ suc (n - (i + 1)) = omega arith in
      let w : i + 1 ≡ suc i = omega arith in
      rw (z, e, w)

  pub found_nowhere : n ≤ i → attempts_from X t K n i (n - i) ≡ false
  unfolding attempts_from
  found_nowhere h = let z : n - i ≡ zero = omega arith in rw z

pub found_all : (X t K : List ℕ) (n : ℕ) → attempts_from X t K n 0 (n - 0) ≡ has_attempts X t K n
found_all X t K n = let z : n - 0 ≡ n = omega arith in rw z
