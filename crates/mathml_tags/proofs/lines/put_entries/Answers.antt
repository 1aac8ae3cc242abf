-- The entries one after the other.
use Rattle.std.proofs.Common.{arith}
use Rattle.writer.proofs.Puts.{then, put_as}
use Rattle.mathml_tags.proofs.Columns.{entries_next, entries-all}
use Rattle.mathml_tags.proofs.lines.put_entries.Goals as goal

pub loop-j-preserved : goal.loop-j-preserved
loop-j-preserved c =
    let v = c.loop-j.invariant in (
      _,
      (
        then v.1.0 (then c.put_bytes-next.ensures c.put_entry-end.ensures),
        entries_next v.0 _ c.loop-j.rest.now c.args.cols c.loop-j.j c.not_before-rest.result.now c.loop-j-test.true c.not_before-rest.ensures v.1.1,
      ),
    )

pub returns : goal.returns
returns c =
    let v = c.loop-j.invariant in
    put_as (entries-all v.0 _ c.loop-j.rest.now c.args.cols c.loop-j.j (omega arith) v.1.1) v.1.0
