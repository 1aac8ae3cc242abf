-- The call's print, or the line of its refusal.
use native.Mathlib.Omega.{arith}
use Rattle.read.proofs.Replies.{refused-line, too_long, when_refused, printed-whole}
use Rattle.std.proofs.Common.{rules}
use Rattle.read.proofs.reply.Goals as goal

pub returns-then-text-gt-MOST : goal.returns-then-text-gt-MOST
returns-then-text-gt-MOST c = rw (too_long c.args.text.now c.if-text-gt-MOST.true) (refused-line c.args.out.now _ _ 1 (search rules) (omega arith) (rw c.number.ensures at c.put_refusal.ensures))

pub returns-in-Ok : goal.returns-in-Ok
returns-in-Ok c = printed-whole c.args.text.now _ _ _ c.args.out.now (search rules) (search rules) (search rules) (search rules) (search rules) _ _ _ _ _ c.print.ensures _ c.in-Ok.is

pub returns-in-Err : goal.returns-in-Err
returns-in-Err c =
    let w = when_refused c.args.text.now _ _ _ c.args.out.now (search rules) (search rules) (search rules) (search rules) (search rules) _ _ _ _ _ c.print.ensures _ c.in-Err.is in
    rw w.1 (refused-line _ _ _ _ (search rules) w.0 (rw c.number-in-Err.ensures at c.put_refusal-in-Err.ensures))
