-- When an entry is placed, and the Space before a place.
use Prim.Native.Nat.{ℕ, ◌+◌, ◌*◌, ◌-◌, ◌≤◌, ◌<◌}
use mathlib.Core.Path.{◌≡◌}
use mathlib.Core.Bool.{true}
use mathlib.Core.List.{List}
use lib.ListN.{length, get_or}
use borrow.Author.Tests.{lt-ltb, le-ltb, eq-eqb, ne_eqb}
use Rattle.records.specs.Record.{place_of, Whole, is_placed, space_word}

module _ (t K : List ℕ) (i : ℕ) where
  pub is_placed_lem : Whole K i → 3 * place_of K i + 2 < length t → is_placed t K i ≡ true
  unfolding is_placed
  is_placed_lem h k = rw (lt-ltb _ _ h, lt-ltb _ _ k)

-- A word of the Space before a place.
module _ (t : List ℕ) (j k : ℕ) where
  pub space-first : j ≡ 0 → space_word t j k ≡ 0
  unfolding space_word
  space-first h = rw (eq-eqb j 0 h)

  pub space-there : (j ≡ 0 → ⊥) → 23 ≤ get_or t (3 * (j - 1) + 2) 0 → space_word t j k ≡ get_or t (3 * (j - 1) + k) 0
  unfolding space_word
  space-there h e = rw (ne_eqb j 0 h, le-ltb _ _ e)

  pub space-absent : (j ≡ 0 → ⊥) → get_or t (3 * (j - 1) + 2) 0 < 23 → space_word t j k ≡ 0
  unfolding space_word
  space-absent h e = rw (ne_eqb j 0 h, lt-ltb _ _ e)
