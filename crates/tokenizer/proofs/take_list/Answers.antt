-- The tests in the order of the refusals; the tokens come from the list, or in a second pass.
use mathlib.Core.Path.{◌∙◌}
use native.Mathlib.Omega.{arith}
use Rattle.tokenizer.proofs.Calls.{few, waiting-short, waiting-many, waiting-copied, waiting-again}
use Rattle.tokenizer.proofs.take_list.Goals as goal

pub overflow_mul-all : goal.overflow_mul-all
overflow_mul-all c =
    let a = c.args in
    omega (arith, few a.text.now a.table.now a.room a.list.now a.all a.others c.requires)

pub returns-then-table-all : goal.returns-then-table-all
returns-then-table-all c =
    let a = c.args in
    waiting-short a.text.now a.table.now a.room a.list.now a.all a.others c.requires (omega arith)

pub returns-then-room-others : goal.returns-then-room-others
returns-then-room-others c =
    let a = c.args in
    waiting-many a.text.now a.table.now a.room a.list.now a.all a.others c.requires (omega arith) c.if-room-others.true

pub returns-then-all-le160 : goal.returns-then-all-le160
returns-then-all-le160 c =
    let a = c.args in
    rw c.copy_from_slice.ensures.after (waiting-copied a.text.now a.table.now a.room a.list.now a.all a.others c.requires (omega arith) c.if-room-others.false c.if-all-le160.true)

pub returns : goal.returns
returns c =
    let a = c.args in
    c.list_all.ensures
    ∙ waiting-again a.text.now a.table.now a.room a.list.now a.all a.others c.requires (omega arith) c.if-room-others.false
