-- `tests::no_item`: two looks.
use Rattle.closers_pass.proofs.tests.no_item.Goals as goal

pub returns : goal.returns
returns c = rw (c.nothing.ensures, c.look-2.ensures, c.look.ensures)
