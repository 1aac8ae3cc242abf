-- `pair_list`: the records are made, and the pass goes over them and no other words.
use mathlib.Core.Path.{◌≡◌, sym}
use Rattle.std.proofs.Common.{rules, Err, arith}
use Rattle.std.proofs.lemmas.Grind.{common_steps}
use borrow.Author.Tests.{not-true, not-false}
use lib.Seq.{length-take-le}
use Rattle.closers_pass.proofs.Called.{few, fit, lent_fits, pass_refused, pass_plain, pass_read}
use Rattle.closers_pass.proofs.top.pair_list.Goals as goal

pub returns-then-not-is_wanted : goal.returns-then-not-is_wanted
returns-then-not-is_wanted c =
    let a = c.args in
    pass_plain a.text.now a.table.now a.count a.always a.work.now _ _ c.prepare.ensures _ c.in_ok-n.was _ c.is_wanted.ensures (not-true _ c.if-not-is_wanted.true-raw)

pub overflow_mul-n : goal.overflow_mul-n
overflow_mul-n c =
    let a = c.args in
    let l = few a.text.now a.table.now a.count a.always a.work.now _ _ c.prepare.ensures _ c.in_ok-n.was in
    search (rules, l)

pub slice_bounds-read_all-end : goal.slice_bounds-read_all-end
slice_bounds-read_all-end c =
    let a = c.args in
    fit a.text.now a.table.now a.count a.always a.work.now _ _ c.prepare.ensures _ c.in_ok-n.was

pub slice_bounds-read_all-end-2 : goal.slice_bounds-read_all-end-2
slice_bounds-read_all-end-2 c =
    let a = c.args in
    sym (length-take-le _ _ (fit a.text.now a.table.now a.count a.always a.work.now _ _ c.prepare.ensures _ c.in_ok-n.was))

pub read_all-takes-requires : goal.read_all-takes-requires
read_all-takes-requires c =
    let a = c.args in
    let l = few a.text.now a.table.now a.count a.always a.work.now _ _ c.prepare.ensures _ c.in_ok-n.was in
    let f = lent_fits a.text.now a.table.now a.count a.always a.work.now _ _ c.prepare.ensures _ c.in_ok-n.was in
    (record { n_bound = l; n_in_bounds = f })

pub returns-in_err-n : goal.returns-in_err-n
returns-in_err-n c =
    let a = c.args in
    let e : c.from_residual.result ≡ Err c.in_err-n.field-0.0 = grind (arith, common_steps, c.from_residual.ensures) in
    rw e (pass_refused a.text.now a.table.now a.count a.always a.work.now _ _ c.prepare.ensures _ c.in_err-n.was)

pub returns : goal.returns
returns c =
    let a = c.args in
    pass_read a.text.now a.table.now a.count a.always a.work.now _ _ c.prepare.ensures _ c.in_ok-n.was _ _ c.read_all-takes.ensures _ c.is_wanted.ensures (not-false _ c.if-not-is_wanted.false-raw) c.read_all-takes.type_inv
