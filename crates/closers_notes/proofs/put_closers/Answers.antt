-- `put_closers`: one word after the other, if there is room for all.
use Rattle.std.proofs.Common.{◌++◌, drop, ap, ◌∙◌, arith}
use Rattle.std.proofs.lemmas.List.{length-take-le}
use Rattle.closers_notes.proofs.Notes.{words_are, room-short, room-enough}
use Rattle.closers_notes.proofs.put_closers.Goals as goal

pub returns-then-out-many : goal.returns-then-out-many
returns-then-out-many c = room-short _ _ _ (omega arith)

pub returns : goal.returns
returns c = let n = c.args.n in
    let l = length-take-le n c.args.out.now c.if-out-many.false in
    ap (λ y. y ++ drop n c.args.out.now) (words_are _ _ _ (c.loop-i.auto.word-items ∙ l) (λ j h. c.loop-i.invariant j (omega arith)))
    ∙ room-enough _ _ _ c.if-out-many.false
