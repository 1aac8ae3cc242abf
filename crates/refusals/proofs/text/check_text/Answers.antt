-- The tests in the order of the refusals.
use mathlib.Core.Path.{sym, ◌∙◌}
use borrow.Author.Tests.{not-true, not-false}
use Rattle.refusals.proofs.TextChecks.{check_long, check_other_byte, check_accepted}
use Rattle.refusals.proofs.text.check_text.Goals as goal

pub returns-then-text-gt-LONGEST : goal.returns-then-text-gt-LONGEST
returns-then-text-gt-LONGEST c = check_long _ c.if-text-gt-LONGEST.true

pub returns-then-not-is_ascii : goal.returns-then-not-is_ascii
returns-then-not-is_ascii c = check_other_byte _ c.if-text-gt-LONGEST.false (sym c.is_ascii.ensures ∙ not-true _ c.if-not-is_ascii.true-raw)

pub returns : goal.returns
returns c = check_accepted _ c.if-text-gt-LONGEST.false (sym c.is_ascii.ensures ∙ not-false _ c.if-not-is_ascii.false-raw)
