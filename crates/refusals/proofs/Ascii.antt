-- A text's bytes below 128, one byte after the other.
use mathlib.Core.Path.{◌≡◌, refl}
use mathlib.Core.Bool.{Bool, true, false, ◌&&◌}
use mathlib.Core.List.{List}
use Prim.Native.Nat.{ℕ, ◌+◌, ◌≤◌, ◌<◌}
use native.Mathlib.Numerals.{add-one}
use native.Mathlib.Omega.{arith}
use lib.Dec.{leb}
use lib.ListN.{length, get_or, drop, drop_of_length-le}
use lib.Seq.{drop-cons}
use Rattle.std.proofs.lemmas.Bool.{leb-true, leb-false}
use borrow.Author.Tests.{lt-ltb, le-ltb}
use Rattle.tokens.specs.Refusals.{ascii}

-- the bytes before number i passed, and those from it on do
abbrev pub ascii_from : Bool → ℕ → List ℕ → Bool
ascii_from true i s = ascii (drop i s)
ascii_from false i s = false

module _ (ok : Bool) (s : List ℕ) (i : ℕ) where
  pub ascii-next : i < length s → ascii_from ok i s ≡ ascii_from (ok && leb (get_or s i 0) 127) (i + 1) s
  unfolding ascii
  ascii-next h = of ok
    where
      by : (b : Bool) → leb (get_or s i 0) 127 ≡ b → ascii_from true i s ≡ ascii_from b (i + 1) s
      by true e = rw (drop-cons s i 0, ascii, lt-ltb (get_or s i 0) 128 (omega (arith, leb-true (get_or s i 0) 127 e)), add-one)
      by false e = rw (drop-cons s i 0, ascii, le-ltb (get_or s i 0) 128 (omega (arith, leb-false (get_or s i 0) 127 e)))

      of : (b : Bool) → ascii_from b i s ≡ ascii_from (b && leb (get_or s i 0) 127) (i + 1) s
      of true = by (leb (get_or s i 0) 127) refl
      of false = refl

  pub ascii-end : length s ≤ i → ascii_from ok i s ≡ ok
  unfolding ascii
  ascii-end h = of ok
    where
      of : (b : Bool) → ascii_from b i s ≡ b
      of true = rw (drop_of_length-le s h)
      of false = refl
