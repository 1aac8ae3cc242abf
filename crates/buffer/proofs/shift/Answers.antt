-- `shift`: moved, if there is room.
use Rattle.buffer.proofs.Stores.{shifted_in, shifted-out}
use borrow.Author.Tests.{leb-true, leb-false}
use Rattle.std.proofs.Math.Nat.{sub-zero}
use mathlib.Core.Path.{sym, ◌∙◌}
use Rattle.buffer.proofs.shift.Goals as goal

pub returns-then-fits : goal.returns-then-fits
returns-then-fits c = let a = c.args in
    rw (shifted_in a.tree.now a.end a.by (leb-true _ _ (sym c.fits.ensures ∙ c.if-fits.true)), ← sub-zero a.end) c.copy_within.ensures.after

pub returns-else-fits : goal.returns-else-fits
returns-else-fits c = sym (shifted-out c.args.tree.now c.args.end c.args.by (leb-false _ _ (sym c.fits.ensures ∙ c.if-fits.false)))
