-- The words of the single read; the end, where no byte stands; or the refusal.
use mathlib.Core.Path.{◌≡◌}
use Prim.Native.Nat.{◌+◌}
use native.Mathlib.Omega.{arith}
use Rattle.std.proofs.lemmas.Result.{err_from_is_err_and}
use Rattle.lex.proofs.Answers.{lex_end}
use Rattle.lex.proofs.Single.{answer-refused, accepted, some-listed, single-is}
use Rattle.lex.proofs.lex_at.Goals as goal

pub returns-in_err-all : goal.returns-in_err-all
returns-in_err-all c =
    let p = err_from_is_err_and c.from_residual.result c.from_residual.ensures.1 in
    rw (p.1, p.2) (answer-refused _ _ _ _ _ c.list_reads.ensures _ c.in_err-all.was)

pub returns-then-text-at : goal.returns-then-text-at
returns-then-text-at c =
    let o = accepted _ _ _ _ _ c.list_reads.ensures _ c.in_ok-all.was in
    lex_end _ _ o (omega arith)

pub overflow_sub-all : goal.overflow_sub-all
overflow_sub-all c =
    let s : c.saturating_add.result ≡ c.args.at + 1 = omega (arith, c.saturating_add.ensures) in
    some-listed _ _ _ _ _ c.list_reads.ensures _ c.in_ok-all.was s (omega arith)

pub returns : goal.returns
returns c =
    let s : c.saturating_add.result ≡ c.args.at + 1 = omega (arith, c.saturating_add.ensures) in
    rw (c.spanned_at.ensures, c.queue_at.ensures) (single-is c.args.text.now c.args.at _ _ _ c.list_reads.ensures _ c.in_ok-all.was s (omega arith))
