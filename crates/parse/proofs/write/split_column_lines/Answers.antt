-- The words are those of rows, so what is left are those of their matrix.
use mathlib.Core.Path.{◌≡◌, ap, sym, ◌∙◌}
use mathlib.Core.List.{List}
use mathlib.Core.Bool.{true}
use Prim.Native.Nat.{ℕ}
use native.Mathlib.Omega.{arith}
use lib.ListN.{length, take}
use lib.Seq.{length-take-le, take-take}
use Rattle.reading.specs.Reading.{split_column_lines}
use Rattle.columns.specs.declared.Split.{Split}
use Rattle.columns.specs.Columns.{are_cells, split_of, split_words, split_tree}
use Rattle.columns.specs.Rows.{Bounds, MatrixOf}
use Rattle.columns.proofs.Shape.{cells-stand, cells-parts}
use Rattle.columns.proofs.Cleared.{tree-front}
use Rattle.columns.proofs.Laws.{split-bounds}
use Rattle.columns.proofs.Rows.{split_rows}
use Rattle.parse.specs.Columns.{SplitReady, Splits}
use Rattle.std.proofs.Common.{rules}
use Rattle.parse.proofs.write.split_column_lines.Goals as goal

split-is : {X x y : List ℕ} {from e cells cols : ℕ} {r : Split} → SplitReady x from e cells cols → length y ≡ length x
    → r ≡ split_of X x from e cells cols → y ≡ split_tree X x from e cells cols → Splits X x from e cells cols y r
split-is {X} {x} {y} {from} {e} {cells} {cols} {r} p l s t =
    let are : are_cells x from e cells cols ≡ true = cells-stand x from e cells cols p.some p.few p.room p.chain in
    let w : take r.end y ≡ split_words X x from e cells cols = rw (s, t) (tree-front X x from e cells cols (cells-parts x from e cells cols are).0) in
    let b : Bounds x from e cells cols (split_words X x from e cells cols) r = rw s (split-bounds X x from e cells cols are) in
    record {
      front = sym (take-take from r.end y b.on) ∙ ap (take from) w ∙ b.front;
      on = b.on;
      within = b.within;
      most_cols = b.most_cols;
      most_cells = b.most_cells;
      most_lines = b.most_lines;
      gives = λ es rows x₀ g q.
          let n : length (take from x₀) ≡ from = length-take-le from x₀ (omega (arith, q.upto, q.long, p.room)) in
          let m : MatrixOf (split_column_lines X es rows) (take from x₀) (split_words X x from e cells cols) r = rw s (split_rows X x from e cells cols are es rows g (take from x₀) n q.upto q.body) in
          record {
            cells = m.cells;
            lines = m.lines;
            made = m.made;
            size = m.size;
            kept = m.kept;
            bars = m.bars;
            wrote = record { upto = omega (arith, m.upto, n); long = l ∙ q.long; body = w ∙ m.body };
          };
    }

pub returns : goal.returns
returns c = split-is c.requires (search rules) c.split_column_lines.ensures.value c.split_column_lines.ensures.tree_after
