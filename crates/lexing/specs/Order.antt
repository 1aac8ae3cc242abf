-- The order of byte strings, and the one test that the whole table is sorted by it with no spelling twice.
use Rattle.std.specs.Prelude.{Bool, true, false, List, [], ◌∷◌, ℕ, eqb, ltb}
use Rattle.lexing.specs.Spellings.{Row}

-- the first comes before the second, byte by byte
unfoldable pub before : List ℕ → List ℕ → Bool
before a [] = false
before [] (y ∷ b) = true
before (x ∷ a) (y ∷ b) = elim (ltb x y) [ true ↦ true | false ↦ elim (eqb x y) [ true ↦ before a b | false ↦ false ] ]

-- p comes before the first spelling, and each spelling before the next
unfoldable pub sorted_from : List ℕ → List Row → Bool
unfolding before
sorted_from p [] = true
sorted_from p (r ∷ rs) = elim (before p r.spelling) [ true ↦ sorted_from r.spelling rs | false ↦ false ]
