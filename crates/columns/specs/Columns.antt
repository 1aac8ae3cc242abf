-- The split of column lines over the words of a tree. X is the text, x are the words: `cells` cells stand in them from `from` up to
-- `end`, row after row, `cols` in a row. A word that is not there is read as 0.
use Rattle.std.specs.Prelude.{ℕ, zero, suc, ◌+◌, ◌-◌, List, [], ◌∷◌, ◌++◌, Bool, true, false, not, ◌&&◌, ◌||◌, cond, length, get_or, take, drop, set, replicate, eqb, ltb, leb}
use Rattle.reading.specs.Reading.{kept_cols, column_lines}
use Rattle.tokens.specs.Bytes.{same}
use Rattle.columns.specs.declared.Split.{Split}

-- how long the cell at `at` is, by its header
abbrev pub cell_len : List ℕ → ℕ → ℕ
cell_len x at = 6 + get_or x (at + 4) 0

-- n cells from `at` on: where they end, and the words of each
unfoldable pub cells_end : List ℕ → ℕ → ℕ → ℕ
cells_end x at zero = at
cells_end x at (suc n) = cells_end x (at + cell_len x at) n

unfoldable pub cells_from : List ℕ → ℕ → ℕ → List (List ℕ)
cells_from x at zero = []
cells_from x at (suc n) = take (cell_len x at) (drop at x) ∷ cells_from x (at + cell_len x at) n

-- whether there are columns, at most 4,096, and past `end` a word for each; and whether the cells end there
unfoldable pub has_room : ℕ → ℕ → ℕ → Bool
has_room long end cols = ltb 0 cols && (leb cols 4096 && leb (end + cols) long)

unfoldable pub are_cells : List ℕ → ℕ → ℕ → ℕ → ℕ → Bool
are_cells x from end cells cols = has_room (length x) end cols && eqb (cells_end x from cells) end

-- Whether these words of a cell are those of one item that is no fraction but an unscripted simple, with a symbol in it.
abbrev pub lone_symbol : ℕ → ℕ → ℕ → ℕ → ℕ → Bool
lone_symbol items frac kind script below =
    eqb items 1 && (eqb frac 0 && (eqb kind 13 && (eqb script 0 && eqb below 7)))

-- is_column_line, of a cell with the words w: "a lone unscripted `|` symbol"
unfoldable pub is_line : List ℕ → List ℕ → Bool
is_line X w =
    lone_symbol (get_or w 3 0) (get_or w 6 0) (get_or w 7 0) (get_or w 10 0) (get_or w 13 0)
    && same (take (get_or w 15 0) (drop (get_or w 14 0) X)) (124 ∷ [])

-- the column after j
abbrev pub next : ℕ → ℕ → ℕ
next cols j = cond (eqb (j + 1) cols) 0 (j + 1)

-- "Columns whose every cell is" such a line: which of them are. m tells it of the cells before these, the first of which is in the
-- column j.
unfoldable pub only_lines : List ℕ → ℕ → List Bool → ℕ → List (List ℕ) → List Bool
only_lines X cols m j [] = m
only_lines X cols m j (w ∷ ws) = only_lines X cols (cond (is_line X w) m (set m j false)) (next cols j) ws

-- the cells of the other columns
unfoldable pub other_cells : ℕ → List Bool → ℕ → List (List ℕ) → List (List ℕ)
other_cells cols m j [] = []
other_cells cols m j (w ∷ ws) =
    cond (get_or m j false) (other_cells cols m (next cols j) ws) (w ∷ other_cells cols m (next cols j) ws)

-- the words of cells, one after another
unfoldable pub join_words : List (List ℕ) → List ℕ
join_words [] = []
join_words (w ∷ ws) = w ++ join_words ws

module _ (X x : List ℕ) (from end cells cols : ℕ) where
  -- the columns of column lines, and the cells that are left without them
  unfoldable pub mask : List Bool
  mask = only_lines X cols (replicate cols true) 0 (cells_from x from cells)

  unfoldable pub left : List (List ℕ)
  left = other_cells cols mask 0 (cells_from x from cells)

  -- "if some but not all columns are such"; never, if no such cells stand there
  unfoldable pub is_split : Bool
  is_split = are_cells x from end cells cols && not (eqb (kept_cols mask) 0 || eqb (kept_cols mask) cols)

  -- The words up to the new end: the cells that are left and the boundaries where the columns of lines stood, or all as it was.
  unfoldable pub split_words : List ℕ
  split_words = cond is_split (take from x ++ (join_words left ++ column_lines 0 mask)) (take end x)

  -- the new end, and how many columns, cells and lines there are
  unfoldable pub split_of : Split
  split_of =
      cond is_split
      (record {
        end = from + (length (join_words left) + length (column_lines 0 mask));
        cols = kept_cols mask;
        cells = length left;
        lines = length (column_lines 0 mask);
      })
      (record { end = end; cols = cols; cells = cells; lines = 0 })

  -- All the words after the call: those up to the new end, zeros up to end + cols, and those past that as they were. If there is no
  -- room past the cells, all as it was.
  unfoldable pub split_tree : List ℕ
  split_tree =
      cond (has_room (length x) end cols)
      (split_words ++ (replicate (end + cols - split_of.end) 0 ++ drop (end + cols) x))
      x
