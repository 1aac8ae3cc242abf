-- The contracts of the readers of matrix rows.
use Rattle.std.specs.Prelude.{Some, None, ℕ, ◌+◌, ◌≤◌, ◌<◌, ◌≡◌, List, [], ◌∷◌, Bool, true, false}
use Rattle.std.proofs.Math.Option.{Option, none, some}
use Rattle.std.proofs.Math.ListN.{get_elem?}
use Rattle.tree.specs.Tree.{Nodes, count}
use Rattle.reading.specs.Entries.{Entry}
use Rattle.reading.specs.Reading.{State, M, Row, Rows, kept_cols, line_cells}
use Rattle.reading_cursor.specs.declared.Cursor.{Cursor}
use Rattle.closers_pass.specs.declared.cursor.Cells.{Cells}
use Rattle.std.specs.declared.option.Option as rust
use Rattle.closers_pass.specs.declared.cursor.Others as code
use Rattle.closers_pass.specs.declared.cursor.Rows as rows
use Rattle.reading_words.specs.Meet.{Input, cells_at, row_at, more_at, rows_at, First}
use Rattle.closers_pass.specs.Meet.{At, Each, Moves}

-- the cells of a row, and how many are no lines
pub record Counts (I : Input) (count' kept : ℕ) (l : Nodes) : Type 0 where
  pub number : count' ≡ count l
  pub kept' : kept ≡ kept_cols (line_cells I.text I.es l)

-- the rows behind the first
abbrev pub Behind : Bool → List Nodes → Type 0
Behind false [] = Unit
Behind false (q ∷ qs) = ⊥
Behind true [] = ⊥
Behind true (q ∷ qs) = 1 ≤ count q

module _ (X t : List ℕ) (n : ℕ) where
  pub record Fails {A : Type 0} (L : List ℕ) (m : M (Option A)) (I : Input) (s : State) (d : Cursor) : Type 0 where
    pub state : State
    pub runs : m s ≡ (none, state)
    pub at : At X t n L d.pos d.takes I state

  -- cells up to the bracket q
  pub record HasCells (L : List ℕ) (m : M (Option (Nodes × Entry))) (I : Input) (s : State) (q k j : ℕ) (d : Cursor) : Type 0 where
    pub cells : Nodes
    pub right : Entry
    pub state : State
    pub runs : m s ≡ (some (cells, right), state)
    pub at : At X t n L d.pos d.takes I state
    pub there : get_elem? I.es q ≡ some right
    pub counts : Counts I k j cells

  pub record Ended (k q : ℕ) (d : Cursor) : Type 0 where
    pub some : 1 ≤ k
    pub inside : q < n
    pub last : d.pos ≡ q + 1

  abbrev pub RowCells' : List ℕ → List ℕ → Cursor → ℕ → ℕ → Cursor → rust.Option ℕ → Type 0
  RowCells' K L c k j d (Some q) = Ended k q d × Each X t n K c (λ I s. HasCells L (cells_at c.depth I) I s q k j d)
  RowCells' K L c k j d None = Each X t n K c (λ I s. Fails L (cells_at c.depth I) I s d)

  abbrev pub RowCells : List ℕ → List ℕ → Cursor → Cells → Type 0
  RowCells K L c g = Moves 0 n K L c g.cur × RowCells' K L c g.count g.kept g.cur g.close

  -- a row between the brackets p and q
  pub record HasRow (L : List ℕ) (m : M (Option Row)) (I : Input) (s : State) (p q k j : ℕ) (d : Cursor) : Type 0 where
    pub row : Row
    pub state : State
    pub runs : m s ≡ (some row, state)
    pub at : At X t n L d.pos d.takes I state
    pub left : get_elem? I.es p ≡ some row.left
    pub right : get_elem? I.es q ≡ some row.right
    pub counts : Counts I k j row.cells

  abbrev pub MatrixRow' : List ℕ → List ℕ → Cursor → ℕ → ℕ → Cursor → rust.Option ℕ → Type 0
  MatrixRow' K L c k j d (Some q) = Ended k q d × (c.pos < n) × Each X t n K c (λ I s. HasRow L (row_at c.depth I) I s c.pos q k j d)
  MatrixRow' K L c k j d None = Each X t n K c (λ I s. Fails L (row_at c.depth I) I s d)

  abbrev pub MatrixRow : List ℕ → List ℕ → Cursor → Cells → Type 0
  MatrixRow K L c g = Moves 0 n K L c g.cur × MatrixRow' K L c g.count g.kept g.cur g.close

  -- the rows behind the first
  pub record HasRows (L : List ℕ) (m : M (Option (List Nodes))) (I : Input) (s : State) (more : Bool) (d : Cursor) : Type 0 where
    pub others : List Nodes
    pub state : State
    pub runs : m s ≡ (some others, state)
    pub at : At X t n L d.pos d.takes I state
    pub behind : Behind more others

  abbrev pub MoreRows' : List ℕ → List ℕ → ℕ → Bool → Cursor → Bool → Cursor → Bool → Type 0
  MoreRows' K L cols round c more d true = Each X t n K c (λ I s. (h : Row) → First I cols round h → HasRows L (more_at c.depth h I) I s more d)
  MoreRows' K L cols round c more d false = Each X t n K c (λ I s. (h : Row) → First I cols round h → Fails L (more_at c.depth h I) I s d)

  abbrev pub MoreRows : List ℕ → List ℕ → ℕ → Bool → Cursor → code.Others → Type 0
  MoreRows K L cols round c g = Moves 0 n K L c g.cur × MoreRows' K L cols round c g.more g.cur g.done

  -- all rows
  pub record HasMatrix (L : List ℕ) (m : M (Option Rows)) (I : Input) (s : State) (more : Bool) (l k j : ℕ) (d : Cursor) : Type 0 where
    pub rows : Rows
    pub state : State
    pub runs : m s ≡ (some rows, state)
    pub at : At X t n L d.pos d.takes I state
    pub left : get_elem? I.es l ≡ some (rows).head.left
    pub counts : Counts I k j (rows).head.cells
    pub behind : Behind more (rows).others

  abbrev pub MatrixRows' : List ℕ → List ℕ → Cursor → Bool → ℕ → ℕ → Cursor → Bool → Type 0
  MatrixRows' K L c more k j d true = (1 ≤ k) × (c.pos < n) × Each X t n K c (λ I s. HasMatrix L (rows_at c.depth I) I s more c.pos k j d)
  MatrixRows' K L c more k j d false = Each X t n K c (λ I s. Fails L (rows_at c.depth I) I s d)

  abbrev pub MatrixRows : List ℕ → List ℕ → Cursor → rows.Rows → Type 0
  MatrixRows K L c g = Moves 0 n K L c g.cur × MatrixRows' K L c g.more g.cols g.kept g.cur g.done
