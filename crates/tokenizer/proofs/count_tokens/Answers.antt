-- The counts of the list, or the refusal.
use mathlib.Core.Path.{ap, ◌∙◌}
use Rattle.std.proofs.lemmas.Result.{err_from_is_err_and}
use Rattle.tokenizer.proofs.Calls.{counts, counts-are}
use Rattle.tokenizer.proofs.count_tokens.Goals as goal

pub returns-in_err-all : goal.returns-in_err-all
returns-in_err-all c =
    let p = err_from_is_err_and c.from_residual.result c.from_residual.ensures.1 in
    rw (p.1, p.2) (ap counts (rw c.in_err-all.was at c.list_reads.ensures) ∙ counts-are _ _)

pub returns : goal.returns
returns c = ap counts (rw c.in_ok-all.was at c.list_reads.ensures) ∙ counts-are _ _
