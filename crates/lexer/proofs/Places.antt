-- The refusals of a place in their order: those of the text, then 5.
use mathlib.Core.Path.{◌≡◌}
use mathlib.Core.List.{List}
use mathlib.Core.Option.{none, some}
use Prim.Native.Nat.{ℕ, ◌≤◌, ◌<◌}
use lib.ListN.{length}
use borrow.Author.Tests.{lt-ltb, le-ltb}
use Rattle.tokens.specs.Refusals.{text_refusal}
use Rattle.lexer.specs.Listing.{place_refusal}

module _ (text : List ℕ) (at : ℕ) where
  pub place-refused : (k : ℕ) → text_refusal text ≡ some k → place_refusal text at ≡ some k
  unfolding place_refusal
  place-refused k e = rw (e, place_refusal)

  module _ (o : text_refusal text ≡ none) where
    pub place-past : length text < at → place_refusal text at ≡ some 5
    unfolding place_refusal
    place-past l = rw (o, place_refusal) (rw (lt-ltb (length text) at l))

    pub place-accepted : at ≤ length text → place_refusal text at ≡ none
    unfolding place_refusal
    place-accepted l = rw (o, place_refusal) (rw (le-ltb (length text) at l))
