-- A refusal is passed on.
use mathlib.Core.Path.{ap}
use Rattle.std.proofs.lemmas.Result.{err_from_is_err_and}
use Rattle.tokenizer.specs.Waiting.{all_listed}
use Rattle.tokenizer.proofs.list_all.Goals as goal

pub returns-in_err-all : goal.returns-in_err-all
returns-in_err-all c =
    let p = err_from_is_err_and c.from_residual.result c.from_residual.ensures.1 in
    rw (p.1, p.2) (ap all_listed (rw c.in_err-all.was at c.list_reads.ensures))
