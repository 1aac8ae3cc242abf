-- `closers`: the first test that fails decides.
use native.Mathlib.Omega.{arith}
use Rattle.std.proofs.lemmas.Result.{err_from_is_err_and}
use Rattle.lists.proofs.Cases.{checked_refused, checked-accepted}
use Rattle.closers.proofs.Calls.{list-refused, out-short, list-closed}
use Rattle.closers.proofs.closers.Goals as goal

pub returns-in_err-others : goal.returns-in_err-others
returns-in_err-others c =
    let a = c.args in
    let p = err_from_is_err_and c.from_residual.result c.from_residual.ensures.1 in
    rw (p.1, p.2) (list-refused a.text.now a.table.now a.count a.out.now _ (checked_refused a.text.now a.table.now a.count _ c.check_list.ensures _ c.in_err-others.was))

pub returns-then-out-others : goal.returns-then-out-others
returns-then-out-others c = let a = c.args in let k = checked-accepted a.text.now a.table.now a.count _ c.check_list.ensures _ c.in_ok-others.was in out-short a.text.now a.table.now a.count a.out.now k.0 (omega (arith, k.1))

pub pair_sized-requires : goal.pair_sized-requires
pair_sized-requires c = let a = c.args in let k = checked-accepted a.text.now a.table.now a.count _ c.check_list.ensures _ c.in_ok-others.was in record { table_value = k.0; others_value = k.1; others_in_bounds = omega arith }

pub returns : goal.returns
returns c = let a = c.args in let k = checked-accepted a.text.now a.table.now a.count _ c.check_list.ensures _ c.in_ok-others.was in list-closed a.text.now a.table.now a.count a.out.now k.0 _ _ (omega (arith, k.1)) k.1 c.pair_sized.ensures
