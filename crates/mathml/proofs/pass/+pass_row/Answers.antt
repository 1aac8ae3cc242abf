-- The nodes of a row, one after the other, each with the row below it.
use native.Mathlib.Omega.{arith}
use Prim.Native.Nat.{◌+◌, ◌-◌}
use mathlib.Core.Path.{◌≡◌, refl, ◌∙◌, sym}
use Rattle.tree.proofs.Steps.{step-within}
use Rattle.mathml.proofs.Passing.{begin, done, cut, more, Below, none_below}
use Rattle.mathml.proofs.pass.+pass_row.Goals.{then-o-gt0, else-o-gt0}
use Rattle.mathml.proofs.pass.+pass_row.Goals as goal

pub all-init : goal.all-init
all-init t c = let z : c.args.count - 0 ≡ c.args.count = omega arith in rw z (begin _ _ _ _ _ c.requires)

pub inner_place-p-requires : goal.inner_place-p-requires
inner_place-p-requires t c = c.all.invariant.upto

pub pass_row-r-requires : goal.pass_row-r-requires
pass_row-r-requires t c = let u = step-within _ _ _ c.in-Some.o (sym c.in-Some.is ∙ c.node_at.ensures) in (omega (arith, u.on, u.upto, c.inner_place-p.ensures.least, c.all.invariant.least, c.decreases, c.requires), u.upto)

pub all-preserved : goal.all-preserved
all-preserved t c =
    let u = step-within _ _ _ c.in-Some.o (sym c.in-Some.is ∙ c.node_at.ensures) in
    let b : Below _ _ c.in-Some.o _ c.if-o-gt0.at c.if-o-gt0.refused =
    elim c.if-o-gt0.branch [
      | then-o-gt0 w ↦ record { passed = _; row = w.pass_row-r.ensures; ends = w.at-is; told = w.refused-is }
      | else-o-gt0 w ↦ none_below u.upto (omega (arith, w.if-o-gt0.false)) w.at-is w.refused-is
    ] in
    let z : c.args.count - (c.all.i + 1) ≡ c.args.count - c.all.i - 1 = omega arith in
    rw z (more c.all.invariant c.inner_place-p.ensures (sym c.in-Some.is ∙ c.node_at.ensures) b c.past-at.ensures (omega (arith, c.all-test.true)) refl c.is_refused-refused.ensures)

pub returns-after-all : goal.returns-after-all
returns-after-all t c = done c.all.invariant (omega (arith, c.all-test.false))

pub returns-in_default : goal.returns-in_default
returns-in_default t c = cut c.all.invariant c.inner_place-p.ensures (omega (arith, c.all-test.true)) (sym c.in_default.is ∙ c.node_at.ensures)
