-- What the steps of the split leave: the flags of the columns past the cells, the cells that are kept, the boundaries.
use Rattle.std.specs.Prelude.{ℕ, ◌+◌, ◌≤◌, ◌<◌, ◌≡◌, List, ◌++◌, map, Bool, true, false, cond, length, take, drop, eqb}
use Rattle.reading.specs.Reading.{kept_cols, column_lines}
use Rattle.columns.specs.declared.moves.Kept.{Kept}
use Rattle.columns.specs.Columns.{cells_end, cells_from, are_cells, other_cells, join_words, mask}

-- y is x with the words w written from e up to E; what stands from E on is not said
pub record Wrote (x : List ℕ) (e : ℕ) (y : List ℕ) (E : ℕ) (w : List ℕ) : Type 0 where
  pub upto : E ≡ e + length w
  pub body : take E y ≡ take e x ++ w

-- the columns' flags, past the cells
abbrev pub flags : ℕ → ℕ → List ℕ → List ℕ
flags e cols x = take cols (drop e x)

-- a flag is 1 where all cells of the column so far are column lines
abbrev pub bit : Bool → ℕ
bit true = 1
bit false = 0

abbrev pub bits : List Bool → List ℕ
bits m = map bit m

-- y is x but for the flags
pub record Beside (x : List ℕ) (end cols : ℕ) (y : List ℕ) : Type 0 where
  pub long : length y ≡ length x
  pub front : take end y ≡ take end x
  pub after : drop (end + cols) y ≡ drop (end + cols) x

-- What mark_columns leaves: the flags, if the cells stand there.
pub record Marked (X x : List ℕ) (from end cells cols : ℕ) (y : List ℕ) (r : Bool) : Type 0 where
  pub beside : Beside x end cols y
  pub tells : r ≡ eqb (cells_end x from cells) end
  pub flag : r ≡ true → flags end cols y ≡ bits (mask X x from end cells cols)

-- What kept_columns answers.
abbrev pub Counted : List ℕ → ℕ → ℕ → ℕ → Type 0
Counted x end cols r = (m : List Bool) → flags end cols x ≡ bits m → r ≡ kept_cols m

-- What count_kept leaves and answers.
pub record KeptCount (X x : List ℕ) (from end cells cols : ℕ) (y : List ℕ) (r : ℕ) : Type 0 where
  pub beside : Beside x end cols y
  pub tells : r ≡ cond (are_cells x from end cells cols) (kept_cols (mask X x from end cells cols)) 0
  pub flag : are_cells x from end cells cols ≡ true → flags end cols y ≡ bits (mask X x from end cells cols)

-- What keep_cells asks: the cells stand there, and past them the flags.
pub record CellsStand (x : List ℕ) (from end cells cols : ℕ) : Type 0 where
  pub chain : cells_end x from cells ≡ end
  pub some : 0 < cols
  pub room : end + cols ≤ length x

-- What keep_cells leaves: the cells that are kept from `from` on, and the flags as they were.
pub record KeptCells (x : List ℕ) (from end cells cols : ℕ) (y : List ℕ) (r : Kept) : Type 0 where
  pub within : r.end ≤ end
  pub after : drop end y ≡ drop end x
  pub gives : (m : List Bool) → flags end cols x ≡ bits m
      → (Wrote x from y r.end (join_words (other_cells cols m 0 (cells_from x from cells))))
      × (r.cells ≡ length (other_cells cols m 0 (cells_from x from cells)))

-- What put_lines leaves: the boundaries from `to` up to r.
pub record Lines (x : List ℕ) (to end cols : ℕ) (y : List ℕ) (r : ℕ) : Type 0 where
  pub on : to ≤ r
  pub after : drop (end + cols) y ≡ drop (end + cols) x
  pub gives : (m : List Bool) → flags end cols x ≡ bits m → Wrote x to y r (column_lines 0 m)
