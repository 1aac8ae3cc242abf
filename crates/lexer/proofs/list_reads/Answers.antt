-- The check of the text, that of the place, and then the reads.
use mathlib.Core.Path.{ap, ◌∙◌}
use Rattle.std.proofs.lemmas.Result.{err_from_is_err_and}
use Rattle.lexer.specs.Listing.{accepted}
use native.Mathlib.Omega.{arith}
use Rattle.tokens.proofs.Order.{text-short, text-ascii}
use Rattle.refusals.proofs.TextChecks.{text-refused, text-accepted}
use Rattle.lexer.proofs.Places.{place-refused, place-past, place-accepted}
use Rattle.lexer.proofs.Answers.{answer-refused, answer-listed}
use Rattle.lexer.proofs.list_reads.Goals as goal

pub returns-in_err-check_text : goal.returns-in_err-check_text
returns-in_err-check_text c =
    let a = c.args in
    let p = err_from_is_err_and c.from_residual.result c.from_residual.ensures.1 in
    rw (p.1, p.2)
    (answer-refused a.text.now a.from a.stop a.table.now _
    (place-refused a.text.now a.from _ (text-refused a.text.now _ c.check_text.ensures _ c.in_err-check_text.was)))

pub returns-then-text-from : goal.returns-then-text-from
returns-then-text-from c =
    let a = c.args in
    let o = text-accepted a.text.now _ c.check_text.ensures _ c.in_ok-check_text.was in
    answer-refused a.text.now a.from a.stop a.table.now _ (place-past a.text.now a.from o c.if-text-from.true)

pub list_from-requires : goal.list_from-requires
list_from-requires c =
    let text = c.args.text.now in
    let o = text-accepted text _ c.check_text.ensures _ c.in_ok-check_text.was in
    (text-ascii text o, text-short text o, omega (arith, c.min.ensures))

pub returns : goal.returns
returns c =
    let a = c.args in
    let o = text-accepted a.text.now _ c.check_text.ensures _ c.in_ok-check_text.was in
    ap accepted c.list_from.ensures
    ∙ answer-listed a.text.now a.from a.stop a.table.now (place-accepted a.text.now a.from o (omega arith)) _ c.min.ensures
