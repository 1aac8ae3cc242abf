-- What is left of the run ends where the whole does.
use Rattle.std.proofs.Common.{◌≡◌, sym, ◌∙◌, arith, length}
use Rattle.lexing.proofs.Runs.{run_more, run-stop, run_past}
use Rattle.blanks.proofs.run_end.Goals as goal

pub returns-then-text-at : goal.returns-then-text-at
returns-then-text-at g c = sym (run_past _ _ _ c.if-text-at.true)

pub returns-then-not-passes : goal.returns-then-not-passes
returns-then-not-passes g c = sym (c.loop-i.invariant ∙ run-stop _ _ _ (omega arith) (sym c.passes.ensures ∙ c.if-not-passes.true))

pub loop-i-preserved : goal.loop-i-preserved
loop-i-preserved g c = c.loop-i.invariant ∙ run_more _ _ _ (omega arith) (sym c.passes.ensures ∙ c.if-not-passes.false)

pub returns : goal.returns
returns g c =
    let e : length c.args.text.now ≡ c.loop-i.i = omega arith in
    rw e (sym (c.loop-i.invariant ∙ run_past _ _ _ (omega arith)))
