-- `link`: each branch is one case of the step.
use Rattle.std.proofs.Common.{refl, arith}
use Rattle.entries.specs.Open.{Link}
use Rattle.entries.proofs.link.Goals as goal

pub returns-in-21 : goal.returns-in-21
returns-in-21 c = Link.closes c.in-Some.bracket c.in-21.is (omega arith) c.set_close-in-21.ensures c.after_close-outer.ensures

pub returns-in-3 : goal.returns-in-3
returns-in-3 c = Link.parts c.in-Some.bracket c.in-3.is (omega arith) c.set_sep.ensures refl
