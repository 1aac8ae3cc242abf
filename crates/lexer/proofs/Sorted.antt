-- What the order of the rows says of two of them by number, and of their first bytes.
use mathlib.Core.Path.{◌≡◌, refl}
use mathlib.Core.Logic.{⊎_elim}
use mathlib.Core.Bool.{true, false}
use mathlib.Core.List.{List, [], ◌∷◌}
use Prim.Native.Nat.{ℕ, ◌≤◌, ◌<◌}
use native.Mathlib.Omega.{arith}
use lib.ListN.{length, get_or}
use Rattle.lexing.specs.Spellings.{rows}
use Rattle.lexing.specs.Order.{before}
use Rattle.lexer.specs.Constants.{no_row, row_of, spelling_of}
use Rattle.tokens.proofs.Cases.{clash}
use Rattle.lexing.proofs.Order.{before-cons, sorted-pair, sorted}
use Rattle.lexing.proofs.Rows.{rows-length, well_formed}

-- the first byte of the later is not smaller
pub before-first : (a b : List ℕ) → before a b ≡ true → get_or a 0 0 ≤ get_or b 0 0
unfolding before
before-first a [] h = clash false h refl
before-first [] (y ∷ b) h = omega arith
before-first (x ∷ a) (y ∷ b) h = ⊎_elim (λ l. omega arith) (λ l. omega arith) (before-cons x y a b h)

-- each spelling comes before each later one
pub in_order : (i j : ℕ) → i < j → j < 429 → before (spelling_of i) (spelling_of j) ≡ true
unfolding row_of spelling_of
in_order i j l m = sorted-pair no_row [] rows sorted i j l (omega (arith, rows-length))

-- no spelling is empty
pub filled : (k : ℕ) → k < 429 → 0 < length (spelling_of k)
unfolding row_of spelling_of
filled k h = (well_formed no_row k h).filled

-- of two spellings with one first byte and a second, that of the later is not smaller
pub before-second : (a b : List ℕ) → before a b ≡ true → get_or a 0 0 ≡ get_or b 0 0 → 2 ≤ length a → get_or a 1 0 ≤ get_or b 1 0
unfolding before
before-second a [] h e l = clash false h refl
before-second [] (y ∷ b) h e l = omega arith
before-second (x ∷ a) (y ∷ b) h e l =
    ⊎_elim (λ m. absurd (omega arith)) (λ m. before-first a b m.1) (before-cons x y a b h)

-- nothing comes before a byte alone that begins with it
pub before-byte : (c : ℕ) (a : List ℕ) → 0 < length a → get_or a 0 0 ≡ c → before a (c ∷ []) ≡ true → ⊥
unfolding before
before-byte c [] l e h = omega arith
before-byte c (x ∷ a) l e h =
    ⊎_elim (λ m. omega arith) (λ m. clash false m.1 refl) (before-cons x c a [] h)
