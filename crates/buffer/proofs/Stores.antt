-- Words that fit are stored, and no others.
use Prim.Native.Nat.{ℕ, suc, ◌+◌, ◌≤◌, ◌<◌}
use mathlib.Core.Path.{◌≡◌, refl}
use mathlib.Core.Bool.{Bool, true, false, cond}
use mathlib.Core.List.{List, []}
use native.Mathlib.Omega.{arith}
use lib.ListN.{length}
use lib.Dec.{leb}
use lib.Seq.{sets, paste}
use borrow.Author.Tests.{le-leb, lt-leb}
use Rattle.buffer.specs.Buffer.{stored, shifted}

module _ (x : List ℕ) (i : ℕ) (ws : List ℕ) where
  pub stored_in : i + length ws ≤ length x → stored x i ws ≡ sets x i ws
  unfolding stored
  stored_in h = rw (le-leb _ _ h)

  pub stored_out : length x < i + length ws → stored x i ws ≡ x
  unfolding stored
  stored_out h = rw (lt-leb _ _ h)

pub stored_none : (x : List ℕ) (i : ℕ) → stored x i [] ≡ x
unfolding stored
stored_none x i = go (leb (i + 0) (length x))
  where
    go : (b : Bool) → cond b x x ≡ x
    go true = refl
    go false = refl

module _ (x : List ℕ) (stp by : ℕ) where
  pub shifted_in : by + stp ≤ length x → shifted x stp by ≡ paste x by x stp
  unfolding shifted
  shifted_in h = rw (le-leb _ _ h)

  pub shifted-out : length x < by + stp → shifted x stp by ≡ x
  unfolding shifted
  shifted-out h = rw (lt-leb _ _ h)

-- one place after another
pub six : (i : ℕ) → i + 6 ≡ suc (suc (suc (suc (suc (suc i)))))
six i = omega arith

pub seven : (i : ℕ) → i + 7 ≡ suc (suc (suc (suc (suc (suc (suc i))))))
seven i = omega arith
