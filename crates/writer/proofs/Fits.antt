-- Bytes that are written whole or not at all: the answer by the length that was counted first.
use Prim.Native.Nat.{ℕ, ◌≤◌, ◌<◌}
use mathlib.Core.Path.{◌≡◌, sym, ◌∙◌}
use mathlib.Core.Bool.{Bool, true, false}
use mathlib.Core.List.{List, [], ◌∷◌, ◌++◌}
use native.Mathlib.Omega.{arith}
use native.Mathlib.Nat.{zero-add}
use lib.ListN.{length, drop}
use lib.Seq.{sets-eq}
use borrow.Author.Tests.{lt-ltb, le-ltb}
use Rattle.tokens.specs.Refusals.{Answer, accepted, refused}
use Rattle.writer.specs.Put.{Put, most}
use Rattle.writer.specs.Fitted.{fitted_by}

-- what a test chooses
if_true : {A : Type 0} (a b : A) {t : Bool} → t ≡ true → (elim t [ true ↦ a | false ↦ b ]) ≡ a
if_true a b e = rw e

if_false : {A : Type 0} (a b : A) {t : Bool} → t ≡ false → (elim t [ true ↦ a | false ↦ b ]) ≡ b
if_false a b e = rw e

module _ (number : ℕ) (bytes out : List ℕ) where
  pub short : length out < length bytes → fitted_by number bytes out ≡ (refused number, out)
  unfolding fitted_by
  short h = if_true _ _ (lt-ltb (length out) (length bytes) h)

  pub fits : length bytes ≤ length out → fitted_by number bytes out ≡ (accepted (length bytes ∷ []), bytes ++ drop (length bytes) out)
  unfolding fitted_by
  fits h = if_false _ _ (le-ltb (length out) (length bytes) h)

-- the length is found with a buffer `probe`, and then they are put, or not
module _ {bytes out probe probed : List ℕ} {need : ℕ} (number : ℕ) (p : Put probe 0 probed need bytes) where
  pub put_whole : {after : List ℕ} {end : ℕ} → length out < most → need ≤ length out → Put out 0 after end bytes →
      ◌≡◌ {A = Answer × List ℕ} (accepted (need ∷ []), after) (fitted_by number bytes out)
  put_whole h k q =
      let n : need ≡ length bytes = omega (arith, p.count) in
      let s = q.bytes ∙ sets-eq bytes out 0 (omega arith) in
      let l : length bytes ≤ length out = omega arith in
      rw (n, s, zero-add) (sym (fits number bytes out l))

  pub put-short : length out < need → ◌≡◌ {A = Answer × List ℕ} (refused number, out) (fitted_by number bytes out)
  put-short h = let l : length out < length bytes = omega (arith, p.count) in sym (short number bytes out l)
