-- The same without a bound.
use mathlib.Core.Path.{ap, ◌∙◌}
use Rattle.std.proofs.lemmas.Result.{err_from_is_err_and}
use Rattle.tokenizer.proofs.Calls.{unbounded, under-any}
use Rattle.tokenizer.proofs.tokenize.Goals as goal

pub returns-in_err-all : goal.returns-in_err-all
returns-in_err-all c =
    let p = err_from_is_err_and c.from_residual.result c.from_residual.ensures.1 in
    rw (p.1, p.2) (ap unbounded (rw c.in_err-all.was at c.tokenize_under.ensures) ∙ under-any _ _)

pub returns-in-Tokens : goal.returns-in-Tokens
returns-in-Tokens c =
    let e = rw c.in-Tokens.is at c.in_ok-all.was in
    ap unbounded (rw e at c.tokenize_under.ensures) ∙ under-any _ _

pub returns-in-Many : goal.returns-in-Many
returns-in-Many c =
    let e = rw c.in-Many.is at c.in_ok-all.was in
    ap unbounded (rw e at c.tokenize_under.ensures) ∙ under-any _ _
