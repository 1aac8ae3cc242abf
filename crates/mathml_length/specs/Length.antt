-- MATHML.md, section 7, 5: "At most 72 + 48 × b bytes for a text of b bytes".
use Rattle.std.specs.Prelude.{ℕ, ◌+◌, ◌*◌}

abbrev pub longest : ℕ → ℕ
longest b = 72 + 48 * b
