-- Small choices of the readers.
use Rattle.std.specs.Prelude.{ℕ, Bool, cond, eqb, Option, Some, None}

-- The kind of node of a token that takes one argument, or 0: a unary operation, a function, a sign that prefixes.
abbrev pub prefix_number : ℕ → Bool → ℕ
prefix_number k sign = cond (eqb k 18) 10 (cond (eqb k 17) 11 (cond (eqb k 16) (cond sign 9 0) 0))

-- The same, if there is one.
abbrev pub prefix_node : ℕ → Bool → Option ℕ
prefix_node k sign = cond (eqb k 18) (Some 10) (cond (eqb k 17) (Some 11) (cond (eqb k 16) (cond sign (Some 9) None) None))
