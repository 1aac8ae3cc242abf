-- The lines of a row of nodes and of all below them, from any words: what no tree has put there is walked as the words say.
use Rattle.std.specs.Prelude.{ℕ, zero, suc, ◌+◌, ◌≡◌, Bool, false, cond, Some, None, List, [], ◌++◌, length, eqb}
use Rattle.tree.specs.declared.walk.Opened.{Opened}
use Rattle.tree.specs.Walk.{step_at, past_of}
use Rattle.printer.specs.declared.row.Reached.{Reached}
use Rattle.line.specs.Lines.{line_of}
use Rattle.writer.specs.Put.{Put}

-- a row's lines, and where its words end
pub record Row : Type 0 where
  pub lines : List ℕ
  pub end : ℕ

-- a node that is the last of its row, with no words behind the nodes below it
abbrev pub last_of : (left tail : ℕ) → Bool
last_of left tail = cond (eqb left 1) (eqb tail 0) false

-- no line, and no word
abbrev pub no_row : ℕ → Row
no_row at = record { lines = []; end = at }

-- a node's line, then the row below it, then what follows in its own row
abbrev pub node_row : List ℕ → Opened → ℕ → Row → Row → Row
node_row words o depth below behind = record {
  lines = line_of words o depth ++ (below.lines ++ behind.lines);
  end = behind.end;
}

-- `count` nodes from `at` on, each with the row below it. A row ends where no whole node stands. Each node begins behind the one before
-- it, so that there are no more than words: a larger `bound` changes nothing (proofs/Walks.antt, enough).
unfoldable pub row_within : ℕ → List ℕ → ℕ → ℕ → Bool → ℕ → Row
row_within zero words at count items depth = no_row at
row_within (suc bound) words at zero items depth = no_row at
row_within (suc bound) words at (suc count) items depth =
    elim (step_at words at items) [
      | None ↦ no_row at
      | Some o ↦
          let below = row_within bound words o.from o.count o.items (depth + 1) in
          node_row words o depth below
          (row_within bound words (past_of (length words) below.end o.tail) count items depth)
    ]

unfoldable pub row_of : List ℕ → ℕ → ℕ → Bool → ℕ → Row
row_of words = row_within (length words) words

-- A row is read to its end and its lines are put.
pub record RowPut (before : List ℕ) (place : ℕ) (row : Row) (after : List ℕ) (r : Reached) : Type 0 where
  pub end : r.at ≡ row.end
  pub put : Put before place after r.end row.lines
