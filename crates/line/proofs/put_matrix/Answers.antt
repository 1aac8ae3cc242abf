-- What a matrix adds.
use mathlib.Core.Path.{◌≡◌}
use lib.ListN.{get_or}
use Rattle.writer.proofs.Puts.{then, put_as}
use Rattle.tree.specs.Walk.{lines_of}
use Rattle.line.specs.Lines.{matrix_of}
use Rattle.line.proofs.put_matrix.Goals as goal

pub returns : goal.returns
unfolding matrix_of lines_of
returns c =
    let a = c.args in
    let w = a.own.now in
    let same : matrix_of (get_or w 4 0) (get_or w 5 0) c.word.result a.o.count c.column_lines.result.now
    ≡ matrix_of (get_or w 4 0) (get_or w 5 0) (get_or w 6 0) a.o.count (lines_of a.words.now a.o) = rw (c.word.ensures, c.column_lines.ensures) in
    put_as same (then c.put_right-a.ensures (then c.put_number-b.ensures (then c.put_number-c.ensures c.put_lines.ensures)))
