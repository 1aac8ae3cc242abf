-- `prepare`: the refusals by their tests, then the records.
use Rattle.std.proofs.Common.{◌*◌, sym, ◌∙◌, arith}
use Rattle.std.proofs.lemmas.List.{length-take-le}
use Rattle.entries.proofs.Clearing.{chain-narrow}
use Rattle.entries.proofs.Listed.{listed}
use Rattle.entries.proofs.Answers.{enough, many, short-table, short-work, ready}
use Rattle.entries.proofs.prepare.Goals as goal
use Rattle.entries.proofs.prepare.Goals.{then-count-gt4096-via-then-count-gt4096, then-count-gt4096-via-else-count-gt4096+then-table-count}

pub returns-then-count-gt4096 : goal.returns-then-count-gt4096
returns-then-count-gt4096 c = let a = c.args in
    elim c.then-count-gt4096.branch [
      | then-count-gt4096-via-then-count-gt4096 w ↦ many a.count a.table.now a.work.now w.if-count-gt4096.true
      | then-count-gt4096-via-else-count-gt4096+then-table-count w ↦ short-table a.count a.table.now a.work.now w.if-count-gt4096.false w.if-table-count.true
    ]

pub returns-then-is_short : goal.returns-then-is_short
returns-then-is_short c = let a = c.args in
    let w = rw (listed a.count a.table.now c.if-table-count.false) at c.is_short.ensures in
    short-work a.count a.table.now a.work.now c.if-count-gt4096.false c.if-table-count.false (sym w ∙ c.if-is_short.true)

pub fill-done-requires : goal.fill-done-requires
fill-done-requires c = let a = c.args in
    let l = listed a.count a.table.now c.if-table-count.false in
    let w = rw l at c.is_short.ensures in
    record {
      tokens_bound = omega (arith, length-take-le (3 * a.count) a.table.now c.if-table-count.false, c.if-count-gt4096.false);
      records_in_bounds = rw l (enough a.count a.table.now a.work.now (sym w ∙ c.if-is_short.false));
    }

pub clear_open-requires : goal.clear_open-requires
clear_open-requires c = let f = c.fill-done.ensures.filled in record { stack = f.stack; chain = chain-narrow f.chain }

pub returns : goal.returns
returns c = let a = c.args in
    let l = listed a.count a.table.now c.if-table-count.false in
    let w = rw l at c.is_short.ensures in
    let n = rw l at c.fill-done.ensures.entries_value in
    let f = rw l at c.fill-done.ensures.filled in
    ready a.count a.table.now a.work.now c.if-count-gt4096.false c.if-table-count.false (sym w ∙ c.if-is_short.false) n
    (c.clear_open.ensures f.stack (chain-narrow f.chain) ∙ f.words)
