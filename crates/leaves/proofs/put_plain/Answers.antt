-- `put_plain`: seven words and six, if there is room for all.
use Rattle.buffer.proofs.Stores.{stored_in, stored_out, seven}
use borrow.Author.Tests.{leb-true, leb-false}
use Prim.Native.Nat.{◌+◌, ◌≤◌}
use lib.ListN.{length}
use lib.Seq.{sets, length-sets}
use mathlib.Core.List.{[], ◌∷◌}
use mathlib.Core.Path.{sym, ◌∙◌}
use native.Mathlib.Omega.{arith}
use Rattle.leaves.proofs.put_plain.Goals as goal

pub returns-then-fits : goal.returns-then-fits
returns-then-fits c = let a = c.args in
    let h : a.e + 13 ≤ length a.tree.now = leb-true _ _ (sym c.fits.ensures ∙ c.if-fits.true) in
    let g : a.e + 7 ≤ length a.tree.now = omega arith in
    let k : a.e + 7 + 6 ≤ length (sets a.tree.now a.e (0 ∷ 13 ∷ 0 ∷ 0 ∷ 0 ∷ 0 ∷ 0 ∷ [])) = simp length-sets (omega arith) in
    rw (stored_in a.tree.now a.e _ h, c.put_leaf.ensures, c.put.ensures, stored_in a.tree.now a.e (0 ∷ 13 ∷ 0 ∷ 0 ∷ 0 ∷ 0 ∷ 0 ∷ []) g, stored_in, seven)

pub returns-else-fits : goal.returns-else-fits
returns-else-fits c = sym (stored_out c.args.tree.now c.args.e _ (leb-false _ _ (sym c.fits.ensures ∙ c.if-fits.false)))
