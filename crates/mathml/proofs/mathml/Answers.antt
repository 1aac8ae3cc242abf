-- The text is read, and its tree written if it may be and fits.
use mathlib.Core.Path.{ap}
use Rattle.std.proofs.lemmas.Result.{err_from_is_err_and}
use Rattle.parse.specs.Call as read
use Rattle.mathml.specs.Call as call
use Rattle.mathml.proofs.Calls.{when_refused, not_marked, marked-whole}
use Rattle.mathml.proofs.mathml.Goals as goal

pub returns-in_err-takes : goal.returns-in_err-takes
returns-in_err-takes c =
    let a = c.args in
    let p = err_from_is_err_and c.from_residual.result c.from_residual.ensures.1 in
    rw (p.1, p.2) (when_refused a.text.now a.table.now a.work.now a.tree.now a.out.now _ _ _ _ c.parse.ensures _ (ap read.answer_of c.in_err-takes.was))

pub returns-in_err-len : goal.returns-in_err-len
returns-in_err-len c =
    let a = c.args in
    let p = err_from_is_err_and c.from_residual-in_err-len.result c.from_residual-in_err-len.ensures.1 in
    rw (p.1, p.2) (not_marked a.text.now a.table.now a.work.now a.tree.now a.out.now _ _ _ _ c.parse.ensures _ _ _ _ (ap read.answer_of c.in_ok-takes.was) _ _ c.mark_tree.ensures _ (ap call.written_as c.in_err-len.was))

pub returns : goal.returns
returns c =
    let a = c.args in
    marked-whole a.text.now a.table.now a.work.now a.tree.now a.out.now _ _ _ _ c.parse.ensures _ _ _ _ (ap read.answer_of c.in_ok-takes.was) _ _ c.mark_tree.ensures _ (ap call.written_as c.in_ok-len.was)
