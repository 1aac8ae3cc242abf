-- Pieces put one after another.
use Prim.Native.Nat.{ℕ}
use mathlib.Core.Path.{◌≡◌, sym, ap}
use mathlib.Core.List.{List, [], ◌∷◌, ◌++◌, append-nil}
use Rattle.writer.specs.Put.{Put}
use Rattle.writer.proofs.Puts.{then, put_as}
use Rattle.mathml_rules.specs.Pieces.{Piece, bytes_of, written, within, E}
use Rattle.mathml_rules.proofs.Escapes.{written-append}

pub then-written : {a b c : List ℕ} {e f g : ℕ} (x y : List Piece) → Put a e b f (written x) → Put b f c g (written y) → Put a e c g (written (x ++ y))
then-written x y p q = put_as (sym (written-append x y)) (then p q)

pub pieces_as : {a b : List ℕ} {e f : ℕ} {x y : List Piece} → x ≡ y → Put a e b f (written x) → Put a e b f (written y)
pieces_as u p = put_as (ap written u) p

-- one piece, and an element with nothing in it
pub one : {a b : List ℕ} {e f : ℕ} (p : Piece) → Put a e b f (bytes_of p) → Put a e b f (written (p ∷ []))
unfolding written
one p q = put_as (sym (append-nil (bytes_of p))) q

pub empty : {a b c : List ℕ} {e f g : ℕ} (k : ℕ) → Put a e b f (bytes_of (Piece.start k [])) → Put b f c g (bytes_of (Piece.end k)) → Put a e c g (written (E k []))
unfolding within
empty k p q = then-written (Piece.start k [] ∷ []) (Piece.end k ∷ []) (one (Piece.start k []) p) (one (Piece.end k) q)
