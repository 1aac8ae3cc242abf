-- rat and rlen.
use mathlib.Core.Path.{◌≡◌}
use lib.ListN.{get_or}
use Rattle.writer.proofs.Puts.{then, put_as}
use Rattle.line.specs.Lines.{right_of}
use Rattle.line.proofs.put_right.Goals as goal

pub returns : goal.returns
unfolding right_of
returns c =
    let w = c.args.own.now in
    let same : right_of c.word-start.result c.word-len.result ≡ right_of (get_or w 4 0) (get_or w 5 0) = rw (c.word-start.ensures, c.word-len.ensures) in
    put_as same (then c.put_number-end.ensures c.put_number.ensures)
