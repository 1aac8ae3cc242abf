-- The contracts of the readers of matrix rows.
use Rattle.std.specs.Prelude.{ℕ, zero, suc, ◌+◌, ◌-◌, ◌*◌, ◌≤◌, ◌<◌, ◌≡◌, List, [], ◌∷◌, Bool, length}
use Rattle.std.proofs.Math.Option.{Option, none, some}
use Rattle.std.proofs.Math.ListN.{get_elem?}
use Rattle.tokens.specs.declared.token.Token.TheVariants as token
use Rattle.tree.specs.Tree.{Nodes, count}
use Rattle.tree.specs.Words.{encodes}
use Rattle.reading.specs.Entries.{Entry, is}
use Rattle.reading.specs.Reading.{State, M, return, ◌>>=◌, when◌then◌else◌, here, is_at, any, advance, Row, Rows, row_brackets, alike}
use Rattle.reading_cursor.specs.declared.Cursor.{Cursor}
use Rattle.std.specs.declared.option.Option as rust
use Rattle.std.specs.declared.option.Option.TheVariants.{Some, None}
use Rattle.parse.specs.declared.cursor.Cells.{Cells}
use Rattle.parse.specs.declared.cursor.Why.{Why}
use Rattle.parse.specs.declared.cursor.Why.TheVariants as why
use Rattle.parse.specs.declared.cursor.Rows as code
use Rattle.parse.specs.Buffer.{Wrote}
use Rattle.columns.specs.Rows as columns
use Rattle.parse.specs.Meet.{Each}
use Rattle.records.specs.Record.{Kept}
use Rattle.reading_words.specs.Meet.{Input, At, Known, cells_at, row_at, more_at, rows_at, First}

-- "Loop over rows and cells left by label, yielding the reason." Why the rows behind the first one, h, end, by the turns of the
-- definition's own loop, `more_rows`, and as many: no Sep follows; no row could be read behind one; or a row was read that differs from the
-- first. (There are turns enough for every list, so the first line is never met.)
unfoldable pub why_more : ℕ → Input → ℕ → Row → M Why
why_more d I zero h = return why.Broken
why_more d I (suc f) h =
    here >>= λ p.
    when is_at I.text I.es (is token.Sep) p
    then (advance I.text I.es any >>= λ t. row_at d I >>= λ q. elim q [
      | none ↦ return why.Broken
      | some r ↦ when alike I.text I.es h r then why_more d I f h else return why.Differs
    ])
    else return why.Done

abbrev pub why_more_at : ℕ → Row → Input → M Why
why_more_at d h I = why_more d I (suc (length I.es)) h

-- The same of all rows, by `next_matrix_rows`: of the first one the brackets alone can be no row's.
unfoldable pub why_rows_at : ℕ → Input → M Why
why_rows_at d I =
    row_at d I >>= λ q. elim q [
      | none ↦ return why.Broken
      | some h ↦ when row_brackets I.text I.es h then why_more_at d h I else return why.Differs
    ]

-- Rows not read to their end: where the code stands, and what it leaves of the work words.
pub record Broke (X t : List ℕ) (n : ℕ) (K L : List ℕ) (c : Cursor) (e : ℕ) (x y : List ℕ) (d : Cursor) : Type 0 where
  pub within : d.pos ≤ n
  pub depth : d.depth ≡ c.depth
  pub long : length y ≡ length x
  pub kept : Kept K L
  pub known : Known X t n L

-- A reading of `k` cells. Each leaves 26 of the 32 words of the Sep or bracket behind it; six are its own.
pub record Filled (X t : List ℕ) (n : ℕ) (K L : List ℕ) (c : Cursor) (e : ℕ) (x y : List ℕ) (k : ℕ) (d : Cursor) (E : ℕ) : Type 0 where
  pub within : d.pos ≤ n
  pub on : c.pos + k ≤ d.pos
  pub depth : d.depth ≡ c.depth
  pub room : E + 26 * k + 32 * (n - d.pos) ≤ e + 32 * (n - c.pos)
  pub long : length y ≡ length x
  pub kept : Kept K L
  pub known : Known X t n L

module _ (X t : List ℕ) (n : ℕ) where
  pub record Fails {A : Type 0} (L : List ℕ) (m : M (Option A)) (I : Input) (s : State) (e : ℕ) (x y : List ℕ) (d : Cursor) : Type 0 where
    pub state : State
    pub runs : m s ≡ (none, state)
    pub at : At X t n L d.pos d.takes I state
    pub tree : Wrote x e y e []

  -- cells up to the bracket q
  pub record HasCells (L : List ℕ) (m : M (Option (Nodes × Entry))) (I : Input) (s : State) (e : ℕ) (x y : List ℕ) (q k : ℕ) (d : Cursor) (E : ℕ) : Type 0 where
    pub cells : Nodes
    pub right : Entry
    pub state : State
    pub runs : m s ≡ (some (cells, right), state)
    pub at : At X t n L d.pos d.takes I state
    pub there : get_elem? I.es q ≡ some right
    pub number : k ≡ count cells
    pub all : columns.Cells k cells
    pub tree : Wrote x e y E (encodes cells)

  abbrev pub RowCells' : List ℕ → List ℕ → Cursor → ℕ → List ℕ → List ℕ → ℕ → Cursor → ℕ → rust.Option ℕ → Type 0
  RowCells' K L c e x y k d E (Some q) = Filled X t n K L c e x y k d E × (1 ≤ k) × (q < n) × Each X t n K c (λ I s. HasCells L (cells_at c.depth I) I s e x y q k d E)
  RowCells' K L c e x y k d E None = Broke X t n K L c e x y d × Each X t n K c (λ I s. Fails L (cells_at c.depth I) I s e x y d)

  abbrev pub RowCells : List ℕ → List ℕ → Cursor → ℕ → List ℕ → List ℕ → Cells → Type 0
  RowCells K L c e x y g = RowCells' K L c e x y g.count g.cur g.end g.close

  -- a row between the brackets p and q
  pub record HasRow (L : List ℕ) (m : M (Option Row)) (I : Input) (s : State) (e : ℕ) (x y : List ℕ) (p q k : ℕ) (d : Cursor) (E : ℕ) : Type 0 where
    pub row : Row
    pub state : State
    pub runs : m s ≡ (some row, state)
    pub at : At X t n L d.pos d.takes I state
    pub left : get_elem? I.es p ≡ some row.left
    pub right : get_elem? I.es q ≡ some row.right
    pub number : k ≡ count row.cells
    pub all : columns.Cells k row.cells
    pub tree : Wrote x e y E (encodes row.cells)

  abbrev pub MatrixRow' : List ℕ → List ℕ → Cursor → ℕ → List ℕ → List ℕ → ℕ → Cursor → ℕ → rust.Option ℕ → Type 0
  MatrixRow' K L c e x y k d E (Some q) = Filled X t n K L c e x y k d E × (1 ≤ k) × (c.pos < n) × (q < n) × Each X t n K c (λ I s. HasRow L (row_at c.depth I) I s e x y c.pos q k d E)
  MatrixRow' K L c e x y k d E None = Broke X t n K L c e x y d × Each X t n K c (λ I s. Fails L (row_at c.depth I) I s e x y d)

  abbrev pub MatrixRow : List ℕ → List ℕ → Cursor → ℕ → List ℕ → List ℕ → Cells → Type 0
  MatrixRow K L c e x y g = MatrixRow' K L c e x y g.count g.cur g.end g.close

  -- the rows behind the first
  pub record HasRows (L : List ℕ) (m : M (Option (List Nodes))) (I : Input) (s : State) (e : ℕ) (x y : List ℕ) (cols k : ℕ) (d : Cursor) (E : ℕ) : Type 0 where
    pub others : List Nodes
    pub state : State
    pub runs : m s ≡ (some others, state)
    pub at : At X t n L d.pos d.takes I state
    pub number : k ≡ cols + count (columns.joined others)
    pub all : columns.Grid cols others
    pub tree : Wrote x e y E (encodes (columns.joined others))

  -- `k` cells in all, the first row's included
  abbrev pub MoreRows' : List ℕ → List ℕ → ℕ → Bool → Cursor → ℕ → List ℕ → List ℕ → ℕ → Cursor → ℕ → Why → Type 0
  MoreRows' K L cols round c e x y k d E why.Done = Filled X t n K L c e x y (k - cols) d E × (cols ≤ k) × Each X t n K c (λ I s. (h : Row) → First I cols round h → HasRows L (more_at c.depth h I) I s e x y cols k d E)
  MoreRows' K L cols round c e x y k d E why.Differs = Broke X t n K L c e x y d × Each X t n K c (λ I s. (h : Row) → First I cols round h → Fails L (more_at c.depth h I) I s e x y d)
  MoreRows' K L cols round c e x y k d E why.Broken = Broke X t n K L c e x y d × Each X t n K c (λ I s. (h : Row) → First I cols round h → Fails L (more_at c.depth h I) I s e x y d)

  pub record Same (cols l : ℕ) (g : code.Rows) : Type 0 where
    pub cols' : g.cols ≡ cols
    pub left' : g.left ≡ l

  abbrev pub MoreRows : List ℕ → List ℕ → ℕ → ℕ → Bool → Cursor → ℕ → List ℕ → List ℕ → code.Rows → Type 0
  MoreRows K L cols l round c e x y g =
      Same cols l g × MoreRows' K L cols round c e x y g.cells g.cur g.end g.why
      × Each X t n K c (λ I s. (h : Row) → First I cols round h → (why_more_at c.depth h I s).0 ≡ g.why)

  -- all rows
  pub record HasMatrix (L : List ℕ) (m : M (Option Rows)) (I : Input) (s : State) (e : ℕ) (x y : List ℕ) (cols l k : ℕ) (d : Cursor) (E : ℕ) : Type 0 where
    pub rows : Rows
    pub state : State
    pub runs : m s ≡ (some rows, state)
    pub at : At X t n L d.pos d.takes I state
    pub left : get_elem? I.es l ≡ some rows.head.left
    pub number : k ≡ count (columns.joined (rows.head.cells ∷ rows.others))
    pub all : columns.Grid cols (rows.head.cells ∷ rows.others)
    pub tree : Wrote x e y E (encodes (columns.joined (rows.head.cells ∷ rows.others)))

  abbrev pub MatrixRows' : List ℕ → List ℕ → Cursor → ℕ → List ℕ → List ℕ → ℕ → ℕ → ℕ → Cursor → ℕ → Why → Type 0
  MatrixRows' K L c e x y cols l k d E why.Done = Filled X t n K L c e x y k d E × (1 ≤ cols) × (cols ≤ k) × (l < n) × Each X t n K c (λ I s. HasMatrix L (rows_at c.depth I) I s e x y cols l k d E)
  MatrixRows' K L c e x y cols l k d E why.Differs = Broke X t n K L c e x y d × Each X t n K c (λ I s. Fails L (rows_at c.depth I) I s e x y d)
  MatrixRows' K L c e x y cols l k d E why.Broken = Broke X t n K L c e x y d × Each X t n K c (λ I s. Fails L (rows_at c.depth I) I s e x y d)

  abbrev pub MatrixRows : List ℕ → List ℕ → Cursor → ℕ → List ℕ → List ℕ → code.Rows → Type 0
  MatrixRows K L c e x y g =
      MatrixRows' K L c e x y g.cols g.left g.cells g.cur g.end g.why
      × Each X t n K c (λ I s. (why_rows_at c.depth I s).0 ≡ g.why)
