-- `tests::plain_item`: the leaf, and the looks around it.
use mathlib.Core.Path.{◌≡◌}
use native.Mathlib.Omega.{arith}
use Rattle.closers_pass.proofs.tests.plain_item.Goals as goal

pub next-requires : goal.next-requires
next-requires c = let z : c.look.result.pos ≡ c.args.c.pos = rw c.look.ensures in omega (arith, c.requires)

pub returns : goal.returns
returns c = rw (c.leaf.ensures, c.kind_at.ensures, c.look-3.ensures, c.look-2.ensures, c.next.ensures, c.look.ensures)
