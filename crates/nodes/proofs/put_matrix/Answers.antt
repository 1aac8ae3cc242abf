-- `put_matrix`: six words and two, if there is room for all.
use Rattle.buffer.proofs.Stores.{stored_in, stored_out, six}
use borrow.Author.Tests.{leb-true, leb-false}
use Prim.Native.Nat.{◌+◌, ◌≤◌}
use lib.ListN.{length}
use mathlib.Core.Path.{sym, ◌∙◌}
use native.Mathlib.Omega.{arith}
use Rattle.nodes.proofs.put_matrix.Goals as goal

pub returns-then-fits : goal.returns-then-fits
returns-then-fits c = let a = c.args in
    let h : a.e + 8 ≤ length a.tree.now = leb-true _ _ (sym c.fits.ensures ∙ c.if-fits.true) in
    let g : a.e + 6 ≤ length a.tree.now = omega arith in
    let k : a.e + 6 + 2 ≤ length c.put_between.new.tree = omega (arith, c.put_between.auto.tree) in
    rw (stored_in a.tree.now a.e _ h, c.put.ensures, stored_in c.put_between.new.tree (a.e + 6) _ k, c.put_between.ensures, stored_in, six)

pub returns-else-fits : goal.returns-else-fits
returns-else-fits c = sym (stored_out c.args.tree.now c.args.e _ (leb-false _ _ (sym c.fits.ensures ∙ c.if-fits.false)))
