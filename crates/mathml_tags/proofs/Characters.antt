-- An element that holds characters alone, and the sign of application.
use Prim.Native.Nat.{ℕ}
use mathlib.Core.Path.{◌≡◌, ap, sym}
use mathlib.Core.List.{List, [], ◌∷◌, ◌++◌, append-nil}
use lib.ListN.{length}
use borrow.Author.Tests.{ne_eqb}
use Rattle.mathml_rules.specs.Utf8.{utf8, encoded}
use Rattle.mathml_rules.specs.Pieces.{Piece, bytes_of, esc, within, written, L}
use Rattle.mathml_rules.specs.Mathml.{A}

pub leaf-is : (e : ℕ) (s : List ℕ) → bytes_of (Piece.start e []) ++ (esc s ++ bytes_of (Piece.end e)) ≡ written (L e s)
unfolding written within bytes_of
leaf-is e s = ap (λ (x : List ℕ). bytes_of (Piece.start e []) ++ (esc s ++ x)) (sym (append-nil (bytes_of (Piece.end e))))

-- U+2061
abbrev sign : List ℕ
sign = 226 ∷ 129 ∷ 161 ∷ []

module _ (name : List ℕ) where
  pub apply-one : length name ≡ 1 → written (L 4 sign) ≡ written (A name)
  unfolding A utf8 encoded
  apply-one e = rw (e, A)

  pub apply-more : (length name ≡ 1 → ⊥) → written (L 23 sign) ≡ written (A name)
  unfolding A utf8 encoded
  apply-more h = rw (ne_eqb (length name) 1 h, A)
