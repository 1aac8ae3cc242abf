-- What the readers know of the split of column lines: rows stand in the tree's words, and what is left of them is a matrix.
use Rattle.std.specs.Prelude.{ℕ, ◌+◌, ◌≤◌, ◌<◌, ◌≡◌, List, ◌∷◌, ◌++◌, length, take}
use Rattle.tokens.specs.Lexeme.{Span}
use Rattle.tree.specs.Tree.{Head, Node, node, Nodes, count}
use Rattle.tree.specs.Words.{encodes}
use Rattle.reading.specs.Entries.{Entry}
use Rattle.reading.specs.Reading.{Rows, split_column_lines}
use Rattle.columns.specs.declared.Split.{Split}
use Rattle.columns.specs.Columns.{cells_end}
use Rattle.columns.specs.Rows.{Grid, joined}
use Rattle.parse.specs.Buffer.{Wrote}

-- What the split asks of the words: `cells` cells stand there, and past them is room for a flag for each column.
pub record SplitReady (x : List ℕ) (from end cells cols : ℕ) : Type 0 where
  pub chain : cells_end x from cells ≡ end
  pub some : 0 < cols
  pub few : cols ≤ 4096
  pub room : end + cols ≤ length x

-- From `from` on stand the cells and the lines of the matrix t, and the split has its numbers.
pub record MatrixAt (t : (Span → Span → Node) × ℕ) (x : List ℕ) (from : ℕ) (y : List ℕ) (r : Split) : Type 0 where
  pub cells : Nodes
  pub lines : List ℕ
  pub made : (a b : Span) → t.0 a b ≡ node (Head.matrix a b r.cols lines) cells
  pub size : t.1 ≡ r.cells
  pub kept : count cells ≡ r.cells
  pub bars : length lines ≡ r.lines
  pub wrote : Wrote x from y r.end (encodes cells ++ lines)

-- What the split leaves: the words before `from`, bounds of its numbers, and for whatever rows stood there their matrix.
pub record Splits (text x : List ℕ) (from end cells cols : ℕ) (y : List ℕ) (r : Split) : Type 0 where
  pub front : take from y ≡ take from x
  pub on : from ≤ r.end
  pub within : r.end ≤ end + cols
  pub most_cols : r.cols ≤ cols
  pub most_cells : r.cells ≤ cells
  pub most_lines : r.lines ≤ cols
  pub gives : (es : List Entry) (rows : Rows) (x₀ : List ℕ) → Grid cols (rows.head.cells ∷ rows.others)
      → Wrote x₀ from x end (encodes (joined (rows.head.cells ∷ rows.others)))
      → MatrixAt (split_column_lines text es rows) x₀ from y r
