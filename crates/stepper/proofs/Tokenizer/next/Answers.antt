-- What is read, else the refusal of the text, a state that does not fit, and then what waits.
use mathlib.Core.Path.{sym, ◌∙◌}
use Prim.Native.Nat.{◌<◌}
use native.Mathlib.Omega.{arith}
use Rattle.tokens.proofs.Cases.{clash}
use Rattle.std.proofs.lemmas.Result.{err_from_is_err_and}
use Rattle.refusals.proofs.TextChecks.{text-refused, text-accepted}
use Rattle.stepper.proofs.Answers.{step-refused, refused-text, refused-state, passed, answers-waiting, few-wait}
use Rattle.stepper.proofs.Tokenizer.next.Goals as goal
use Rattle.stepper.proofs.Tokenizer.next.Goals.{else-fits-via-then-fits+else-self-eq0, else-fits-via-else-fits}

pub returns-in_err-check_text : goal.returns-in_err-check_text
returns-in_err-check_text c =
    let p = err_from_is_err_and c.from_residual.result c.from_residual.ensures.1 in
    rw (p.1, p.2) (step-refused _ _ _ (refused-text _ _ _ (text-refused _ _ c.check_text.ensures _ c.in_err-check_text.was)))

pub returns-then-not-fits : goal.returns-then-not-fits
returns-then-not-fits c =
    let o = text-accepted _ _ c.check_text.ensures _ c.in_ok-check_text.was in
    step-refused _ _ _ (refused-state _ _ o (sym c.fits-fits.ensures ∙ c.if-not-fits.true))

pub take_first-requires : goal.take_first-requires
take_first-requires c =
    elim c.else-fits.branch [
      | else-fits-via-then-fits+else-self-eq0 w ↦ (omega arith, few-wait _ _ (sym c.fits-fits.ensures ∙ c.if-not-fits.false))
      | else-fits-via-else-fits w ↦ clash c.fits-fits.result c.if-not-fits.false w.if-fits.false
    ]

pub returns : goal.returns
returns c =
    let o = text-accepted _ _ c.check_text.ensures _ c.in_ok-check_text.was in
    let p = passed c.args.text.now c.args.self.now o (sym c.fits-fits.ensures ∙ c.if-not-fits.false) in
    let h : 0 < c.args.self.now.queued.count =
    elim c.else-fits.branch [
      | else-fits-via-then-fits+else-self-eq0 w ↦ omega arith
      | else-fits-via-else-fits w ↦ clash c.fits-fits.result c.if-not-fits.false w.if-fits.false
    ] in
    rw (c.take_first.ensures.taken, c.take_first.ensures.left) (answers-waiting _ _ p h)
