-- The start tag of a table, with its lines.
use Rattle.std.proofs.Common.{arith}
use Rattle.writer.proofs.Puts.{then, put_as}
use Rattle.mathml_tags.proofs.Columns.{table-few, table-many}
use Rattle.mathml_tags.proofs.lines.put_table.Goals as goal

pub returns-then-cols-lt2 : goal.returns-then-cols-lt2
returns-then-cols-lt2 c = put_as (table-few c.args.lines.now c.args.cols (omega arith)) c.put_bytes.ensures

pub returns : goal.returns
returns c = let a = c.args in
    put_as (table-many a.lines.now c.not_before-rest.result.now a.cols (omega arith) c.not_before-rest.ensures)
    (then c.put_bytes-a.ensures (then c.put_entry-b.ensures (then c.put_entries-c.ensures c.put_bytes-2.ensures)))
