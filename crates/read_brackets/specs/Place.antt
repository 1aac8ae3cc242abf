-- Where a token other than Space stands in a table.
use Rattle.std.specs.Prelude.{ℕ, ◌+◌, ◌*◌, ◌≤◌, ◌<◌, ◌≡◌, List, get_or, Option, Some, None}
use Rattle.tokens.specs.Table.{token_list, count_others}

-- r is the place of the token that is the i-th other than Space, counted from 0, among the first `count`: a token other than Space, with i
-- of them before it. None: there are not so many.
abbrev pub PlaceOf : List ℕ → ℕ → ℕ → Option ℕ → Type 0
PlaceOf table count i (Some r) =
    (r < count) × (get_or table (3 * r + 2) 0 < 23) × (count_others (token_list r table) ≡ i)
PlaceOf table count i None = count_others (token_list count table) ≤ i
