-- "A take is each step of the position over one token". A token that is looked at and not wanted is taken and given back: a take
-- all the same. A word has 32 bits; the bound on takes makes the answered number exact.
use Rattle.std.specs.Prelude.{ℕ, ◌+◌, ◌%◌, ◌^◌, cond, nat_lt}

abbrev pub taken : ℕ → ℕ
taken u = (u + 1) % 2 ^ 32

-- the takes after a look at the entry p of n: a take, if it is there
unfoldable pub looked : ℕ → ℕ → ℕ → ℕ
looked n p u = cond (nat_lt p n) (taken u) u
