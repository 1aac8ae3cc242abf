-- A line: its start, at and len, what the kind adds, and the newline.
use Rattle.writer.proofs.Puts.{then, put_as}
use Rattle.line.proofs.Fields.{line-own}
use Rattle.line.proofs.put_line.Goals as goal

pub returns : goal.returns
returns c =
    let a = c.args in
    put_as (line-own a.words.now _ a.o a.depth c.own_words-own.ensures) (then c.put_start-a.ensures (then c.put_left-b.ensures (then c.put_added-c.ensures c.put_bytes.ensures)))
