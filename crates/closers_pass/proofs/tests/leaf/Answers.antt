-- `tests::leaf`: the leaf's flags.
use Rattle.closers_pass.proofs.tests.leaf.Goals as goal

pub returns : goal.returns
returns c = rw (c.leaf_bar.ensures, c.leaf_ends.ensures)
