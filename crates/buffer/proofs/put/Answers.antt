-- `put`: stored, if there is room.
use Rattle.buffer.proofs.Stores.{stored_in, stored_out}
use borrow.Author.Tests.{leb-true, leb-false}
use Prim.Native.Nat.{◌+◌, ◌-◌, ◌≤◌}
use lib.ListN.{length, drop}
use lib.Seq.{sets-eq}
use Rattle.std.proofs.Common.{append_assoc}
use borrow.Rule.Slice.PartMut.{post_of, Post-is}
use mathlib.Core.Path.{◌≡◌, sym, ◌∙◌}
use native.Mathlib.Omega.{arith}
use Rattle.buffer.proofs.put.Goals as goal

pub returns-then-fits : goal.returns-then-fits
returns-then-fits c = let a = c.args in
    let h : a.i + length a.words.now ≤ length a.tree.now = leb-true _ _ (sym c.fits.ensures ∙ c.if-fits.true) in
    let after : post_of a.i (a.i + length a.words.now - a.i) a.tree.now ≡ drop (a.i + length a.words.now) a.tree.now = Post-is a.i (a.i + length a.words.now) a.tree.now (omega arith) in
    rw (stored_in a.tree.now a.i a.words.now h, sets-eq a.words.now a.tree.now a.i h, c.copy_from_slice.ensures.after, after, append_assoc)

pub returns-else-fits : goal.returns-else-fits
returns-else-fits c = sym (stored_out c.args.tree.now c.args.i c.args.words.now (leb-false _ _ (sym c.fits.ensures ∙ c.if-fits.false)))
