-- The marks of an entry as one number: 1 and 2 for a failed open with the stops none and Sep, 4 for a failed matrix. "An open mark is
-- separate for the stops "none" and Sep."
use Rattle.std.specs.Prelude.{ℕ, ◌+◌, ◌/◌, ◌%◌, ◌^◌, Bool, cond, ◌==◌}

unfoldable pub is_marked : ℕ → ℕ → Bool
is_marked w m = w / m % 2 == 1

-- the sum is taken in 32 bits
unfoldable pub with_mark : ℕ → ℕ → ℕ
with_mark w m = cond (is_marked w m) w ((w + m) % 2 ^ 32)

abbrev pub open_mark : Bool → ℕ
open_mark stop = cond stop 2 1
