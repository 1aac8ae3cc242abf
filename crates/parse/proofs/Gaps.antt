-- The Space before an item, by what the code answers.
use Prim.Native.Nat.{ℕ, ◌+◌, ◌≤◌}
use mathlib.Core.Path.{◌≡◌, refl, sym}
use mathlib.Core.List.{List, [], ◌∷◌}
use mathlib.Core.Bool.{Bool, true, false, cond}
use native.Mathlib.Omega.{arith}
use lib.ListN.{length}
use lib.Dec.{eqb}
use Rattle.records.specs.Record.{space_start, space_len}
use Rattle.buffer.specs.Buffer.{stored}
use Rattle.nodes.specs.Nodes.{gap_len, gap_words, gap_items}
use Rattle.buffer.proofs.Stores.{stored_in, stored_none}
use Rattle.parse.specs.Meet.{Gapped}
use Rattle.parse.proofs.Buffer.{push, wrote_none}

module _ (t K : List ℕ) (n : ℕ) (first : Bool) (i : ℕ) where
  words-none : eqb (gap_len t K n first i) 0 ≡ true → gap_words t K n first i ≡ []
  unfolding gap_words
  words-none h = rw h

  words-some : eqb (gap_len t K n first i) 0 ≡ false → gap_words t K n first i ≡ 0 ∷ 6 ∷ space_start t K i ∷ space_len t K i ∷ 0 ∷ 0 ∷ 0 ∷ []
  unfolding gap_words
  words-some h = rw h

  items-none : eqb (gap_len t K n first i) 0 ≡ true → gap_items t K n first i ≡ 0
  unfolding gap_items
  items-none h = rw h

  items-some : eqb (gap_len t K n first i) 0 ≡ false → gap_items t K n first i ≡ 1
  unfolding gap_items
  items-some h = rw h

  module _ {e : ℕ} {r : Bool} {x y : List ℕ} (number : cond r 1 0 ≡ gap_items t K n first i) (words : y ≡ stored x e (gap_words t K n first i)) where
    pub gap-none : r ≡ false → Gapped t K n first i e x y (record { end = e; items = 0 })
    gap-none h = go (eqb (gap_len t K n first i) 0) refl
      where
        go : (b : Bool) → eqb (gap_len t K n first i) 0 ≡ b → Gapped t K n first i e x y (record { end = e; items = 0 })
        go true q = record { tree = rw (words, words-none q, stored_none x e) (wrote_none x e); items = sym (items-none q); few = omega arith; short = omega arith }
        go false q = let z : ◌≡◌ {A = ℕ} 0 (gap_items t K n first i) = rw h at number in absurd (omega (arith, z, items-some q))

    pub gap-some : r ≡ true → e + 7 ≤ length x → Gapped t K n first i e x y (record { end = e + 7; items = 1 })
    gap-some h fit = go (eqb (gap_len t K n first i) 0) refl
      where
        go : (b : Bool) → eqb (gap_len t K n first i) 0 ≡ b → Gapped t K n first i e x y (record { end = e + 7; items = 1 })
        go true q = let z : ◌≡◌ {A = ℕ} 1 (gap_items t K n first i) = rw h at number in absurd (omega (arith, z, items-none q))
        go false q = record { tree = rw (words, words-some q, stored_in x e _ fit) (push x e _ (e + 7) refl fit); items = sym (items-some q); few = omega arith; short = omega arith }
