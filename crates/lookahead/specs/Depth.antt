-- "next_simple and next_script_func give nothing and consume nothing at depth 256".
use Rattle.std.specs.Prelude.{ℕ, Bool, nat_le}

abbrev pub too_deep : ℕ → Bool
too_deep d = nat_le 256 d
