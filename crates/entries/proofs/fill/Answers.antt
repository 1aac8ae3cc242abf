-- `fill`: the records of the first i tokens.
use Rattle.std.proofs.Common.{◌/◌, length, sym, arith}
use Rattle.entries.proofs.Filling.{filling_none, filling_space, filling_entry, filling_done, all-counted}
use Rattle.entries.proofs.fill.Goals as goal
use Rattle.entries.proofs.fill.Goals.{then-kind-lt-SPACE, else-kind-lt-SPACE}

pub loop-i-init : goal.loop-i-init
loop-i-init c = filling_none _ _ _

pub loop-i-preserved : goal.loop-i-preserved
loop-i-preserved c = let t = c.args.tokens.now in
    let J = c.args.work.now in
    let f = c.loop-i.invariant in
    let h = c.loop-i-test.true in
    elim c.if-kind-lt-SPACE.branch [
      | then-kind-lt-SPACE w ↦ rw (w.work-is, w.n-is, w.top-is) (filling_entry (length t / 3) t J f h (omega arith) w.if-kind-lt-SPACE.true c.requires.records_in_bounds w.put_record.ensures w.link-top.ensures)
      | else-kind-lt-SPACE w ↦ rw (w.work-is, w.n-is, w.top-is) (filling_space (length t / 3) t J f h w.if-kind-lt-SPACE.false)
    ]

pub returns-clause-filled : goal.returns-clause-filled
returns-clause-filled c = filling_done _ _ _ _ _ _ _ c.loop-i.invariant c.loop-i-test.false c.requires.records_in_bounds

pub returns-clause-entries_value : goal.returns-clause-entries_value
returns-clause-entries_value c = sym (all-counted _ _ _ _ _ _ _ c.loop-i.invariant c.loop-i-test.false c.requires.records_in_bounds)
