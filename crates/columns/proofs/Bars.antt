-- A cell of too few words is no column line.
use Rattle.std.proofs.Common.{◌≡◌, ◌<◌, List, ℕ, length, false, arith}
use mathlib.Core.Bool.{and-false}
use lib.ListN.{get_or-eq_default}
use Rattle.tokens.specs.Bytes.{same}
use Rattle.columns.specs.Columns.{is_line}

pub line_short : (X w : List ℕ) → length w < 16 → is_line X w ≡ false
unfolding is_line same
line_short X w h = rw (get_or-eq_default w 0 {n = 15} (omega arith)) (and-false _)
