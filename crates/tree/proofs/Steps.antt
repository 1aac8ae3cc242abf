-- The cases of a step of the walk, one law for each answer of the code.
use Prim.Native.Nat.{ℕ, zero, suc, ◌+◌, ◌≤◌, ◌<◌}
use mathlib.Core.Path.{◌≡◌, refl}
use mathlib.Core.Bool.{Bool, true, false, cond}
use mathlib.Core.List.{List}
use native.Mathlib.Omega.{arith}
use lib.ListN.{length, get_or}
use lib.Dec.{eqb, ltb, leb}
use borrow.Author.Tests.{leb-true, lt-ltb, le-ltb, le-leb, ne_eqb}
use Rattle.tree.specs.declared.walk.Opened.{Opened}
use Rattle.std.proofs.Common.{Some, None}
use Rattle.tree.specs.Walk.{headed_at, fraction_at, placed_at, step_at, cells_end}

module _ (words : List ℕ) (at : ℕ) (items : Bool) where
  pub placed-fraction : {w : ℕ} → items ≡ true → w ≡ get_or words at 0 → w ≡ 1 → fraction_at at ≡ placed_at words at items
  unfolding placed_at
  placed-fraction i e o = rw (i, ← e, o)

  pub placed-item : {w : ℕ} → items ≡ true → w ≡ get_or words at 0 → (w ≡ 1 → ⊥) → headed_at words (at + 1) ≡ placed_at words at items
  unfolding placed_at
  placed-item {w} i e o = rw (i, ← e, ne_eqb w 1 o)

  pub placed-node : items ≡ false → headed_at words at ≡ placed_at words at items
  unfolding placed_at
  placed-node i = rw i

  pub step-node : {o : Opened} → at < length words → o ≡ placed_at words at items → o.from ≤ length words → Some o ≡ step_at words at items
  unfolding step_at
  step-node {o} h e f = rw (← e, lt-ltb at (length words) h, le-leb o.from (length words) f)

  pub step_end : length words ≤ at → None ≡ step_at words at items
  unfolding step_at
  step_end h = rw (le-ltb at (length words) h)

module _ (words : List ℕ) where
  pub cell-more : (at next : ℕ) {left w : ℕ} → left ≡ suc next → at < length words → w ≡ get_or words (at + 4) 0 →
      cells_end words next (at + (6 + w)) ≡ cells_end words left at
  unfolding cells_end
  cell-more at next {left} {w} l h e = let p : at + (6 + w) ≡ at + 6 + w = omega arith in rw (p, e, l, lt-ltb at (length words) h, cells_end)

  pub cell-none : (at left : ℕ) → left ≡ 0 → at ≡ cells_end words left at
  unfolding cells_end
  cell-none at left z = rw z

  pub cell-past : (at left : ℕ) → length words ≤ at → at ≡ cells_end words left at
  unfolding cells_end
  cell-past at zero h = refl
  cell-past at (suc left) h = rw (le-ltb at (length words) h, cells_end)

-- a step that finds a node goes on, and stays within the words
pub record Within (words : List ℕ) (at : ℕ) (o : Opened) : Type 0 where
  pub on : at < o.from
  pub upto : o.from ≤ length words
  pub head : o.head ≤ o.from

six : (b : Bool) → 6 ≤ cond b 8 6
six true = omega arith
six false = omega arith

placed_on : (words : List ℕ) (at : ℕ) (items : Bool) → let o = placed_at words at items in (at < o.from) × (o.head ≤ o.from)
unfolding placed_at headed_at
placed_on words at false = let s = six (eqb (get_or words at 0) 16) in omega arith
placed_on words at true = go (eqb (get_or words at 0) 1)
  where
    go : (b : Bool) → let o = cond b (fraction_at at) (headed_at words (at + 1)) in (at < o.from) × (o.head ≤ o.from)
    go true = omega arith
    go false = let s = six (eqb (get_or words (at + 1) 0) 16) in omega arith

pub step-within : (words : List ℕ) (at : ℕ) (items : Bool) (o : Opened) → Some o ≡ step_at words at items → Within words at o
unfolding step_at
step-within words at items o e = go (ltb at (length words)) (leb p.from (length words)) refl e
  where
    p : Opened
    p = placed_at words at items

    go : (a b : Bool) → leb p.from (length words) ≡ b → Some o ≡ cond a (cond b (Some p) None) None → Within words at o
    go true true f u = let s : o ≡ p = cc in let q = placed_on words at items in rw s record { on = q.0; upto = leb-true _ _ f; head = q.1 }
    go true false f u = let z : ◌≡◌ {A = ℕ} 0 1 = cc in absurd (omega arith)
    go false b f u = let z : ◌≡◌ {A = ℕ} 0 1 = cc in absurd (omega arith)
