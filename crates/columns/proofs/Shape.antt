-- The tests of the cells' room.
use mathlib.Core.Path.{◌≡◌, refl, ap, sym, ◌∙◌}
use mathlib.Core.List.{List}
use mathlib.Core.Bool.{Bool, true, false, ◌&&◌}
use Prim.Native.Nat.{ℕ, ◌+◌, ◌≤◌, ◌<◌}
use native.Mathlib.Omega.{arith}
use lib.ListN.{length}
use lib.Dec.{eqb, ltb, leb}
use borrow.Author.Tests.{ltb-true, leb-true, eqb-true, lt-ltb, le-leb, eq-eqb}
use Rattle.columns.specs.Columns.{cells_end, has_room, are_cells}

pub and-true : (a b : Bool) → (a && b) ≡ true → (a ≡ true) × (b ≡ true)
and-true true b e = (refl, e)
and-true false b e = let z : ◌≡◌ {A = ℕ} 0 1 = cc in absurd (omega arith)

module _ (long e cols : ℕ) where
  pub room-parts : has_room long e cols ≡ true → (0 < cols) × (cols ≤ 4096) × (e + cols ≤ long)
  unfolding has_room
  room-parts h =
      let p = and-true (ltb 0 cols) (leb cols 4096 && leb (e + cols) long) h in
      let q = and-true (leb cols 4096) (leb (e + cols) long) p.1 in
      (ltb-true 0 cols p.0, leb-true cols 4096 q.0, leb-true (e + cols) long q.1)

-- whether the cells stand there
module _ (x : List ℕ) (from e cells cols : ℕ) where
  pub cells-parts : are_cells x from e cells cols ≡ true → (has_room (length x) e cols ≡ true) × (cells_end x from cells ≡ e)
  unfolding are_cells
  cells-parts h =
      let p = and-true (has_room (length x) e cols) (eqb (cells_end x from cells) e) h in
      (p.0, eqb-true (cells_end x from cells) e p.1)

  pub cells-stand : 0 < cols → cols ≤ 4096 → e + cols ≤ length x → cells_end x from cells ≡ e → are_cells x from e cells cols ≡ true
  unfolding are_cells has_room
  cells-stand a b c d = rw (lt-ltb 0 cols a, le-leb cols 4096 b, le-leb (e + cols) (length x) c, eq-eqb (cells_end x from cells) e d) refl

  pub cells_told : (t : Bool) → has_room (length x) e cols ≡ true → t ≡ eqb (cells_end x from cells) e → t ≡ are_cells x from e cells cols
  unfolding are_cells
  cells_told t h v = v ∙ ap (λ (r : Bool). r && eqb (cells_end x from cells) e) (sym h)

  pub cells-untold : has_room (length x) e cols ≡ false → are_cells x from e cells cols ≡ false
  unfolding are_cells
  cells-untold h = ap (λ (r : Bool). r && eqb (cells_end x from cells) e) h
