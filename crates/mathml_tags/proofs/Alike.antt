-- Two numbers of the same element have the same tags.
use mathlib.Core.Path.{◌≡◌}
use mathlib.Core.List.{List, []}
use Prim.Native.Nat.{ℕ}
use Rattle.mathml_rules.specs.Elements.{element_of}
use Rattle.mathml_rules.specs.Pieces.{Piece, bytes_of, written, within, L}

module _ (a b : ℕ) (e : element_of a ≡ element_of b) where
  pub same-start : (m : List ℕ) → bytes_of (Piece.start a m) ≡ bytes_of (Piece.start b m)
  unfolding bytes_of
  same-start m = rw e

  pub same-end : bytes_of (Piece.end a) ≡ bytes_of (Piece.end b)
  unfolding bytes_of
  same-end = rw e

  pub same-leaf : (s : List ℕ) → written (L a s) ≡ written (L b s)
  unfolding written within
  same-leaf s = rw (same-start [], same-end)
