-- Rows of cells, and the matrix that the split leaves of them.
use Rattle.std.specs.Prelude.{ℕ, zero, suc, ◌+◌, ◌≤◌, ◌≡◌, List, [], ◌∷◌, ◌++◌, length, take}
use Rattle.tokens.specs.Lexeme.{Span}
use Rattle.tree.specs.Tree.{Head, Node, node, Nodes, end, ◌▸◌, count}
use Rattle.tree.specs.Words.{encodes}
use Rattle.reading.specs.Reading.{join_rows}
use Rattle.columns.specs.declared.Split.{Split}

-- n nodes, each a cell
pub data Cells : ℕ → Nodes → Type 0 where
  none : Cells zero end
  cell : {l m : Nodes} {n : ℕ} → Cells n m → Cells (suc n) (node Head.cell l ▸ m)

-- rows of `cols` cells
pub data Grid (cols : ℕ) : List Nodes → Type 0 where
  none : Grid cols []
  row : {r : Nodes} {rs : List Nodes} → Cells cols r → Grid cols rs → Grid cols (r ∷ rs)

-- the cells of the rows, one after another
abbrev pub joined : List Nodes → Nodes
joined rs = join_rows (λ l. l) rs

-- The words are p and then the cells and the lines of the matrix t, and r has its numbers.
pub record MatrixOf (t : (Span → Span → Node) × ℕ) (p words : List ℕ) (r : Split) : Type 0 where
  pub cells : Nodes
  pub lines : List ℕ
  pub made : (a b : Span) → t.0 a b ≡ node (Head.matrix a b r.cols lines) cells
  pub size : t.1 ≡ r.cells
  pub kept : count cells ≡ r.cells
  pub bars : length lines ≡ r.lines
  pub upto : r.end ≡ length p + length (encodes cells ++ lines)
  pub body : words ≡ p ++ (encodes cells ++ lines)

-- The words before `from` are those of x, and no number has grown but for a word for each line.
pub record Bounds (x : List ℕ) (from end cells cols : ℕ) (words : List ℕ) (r : Split) : Type 0 where
  pub front : take from words ≡ take from x
  pub on : from ≤ r.end
  pub within : r.end ≤ end + cols
  pub most_cols : r.cols ≤ cols
  pub most_cells : r.cells ≤ cells
  pub most_lines : r.lines ≤ cols
