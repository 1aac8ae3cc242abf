-- The text is read, and its tree printed if the print fits.
use mathlib.Core.Path.{ap}
use Rattle.std.proofs.lemmas.Result.{err_from_is_err_and}
use Rattle.parse.specs.Call as read
use Rattle.printer.specs.Call as tree
use Rattle.print.proofs.Calls.{when_refused, too_short, printed-whole}
use Rattle.print.proofs.print.Goals as goal

pub returns-in_err-tokens : goal.returns-in_err-tokens
returns-in_err-tokens c =
    let a = c.args in
    let p = err_from_is_err_and c.from_residual.result c.from_residual.ensures.1 in
    rw (p.1, p.2) (when_refused a.text.now a.table.now a.work.now a.tree.now a.out.now _ _ _ _ c.parse.ensures _ (ap read.answer_of c.in_err-tokens.was))

pub returns-in-Err : goal.returns-in-Err
returns-in-Err c =
    let a = c.args in
    too_short a.text.now a.table.now a.work.now a.tree.now a.out.now _ _ _ _ c.parse.ensures _ _ _ _ (ap read.answer_of c.in_ok-tokens.was) _ _ c.print_tree.ensures _ (ap tree.answer_of c.in-Err.is)

pub returns-in-Ok : goal.returns-in-Ok
returns-in-Ok c =
    let a = c.args in
    printed-whole a.text.now a.table.now a.work.now a.tree.now a.out.now _ _ _ _ c.parse.ensures _ _ _ _ (ap read.answer_of c.in_ok-tokens.was) _ _ c.print_tree.ensures _ (ap tree.answer_of c.in-Ok.is)
