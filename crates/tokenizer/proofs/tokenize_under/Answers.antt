-- The tokens are listed into the table at once, or first into the list.
use mathlib.Core.Path.{refl, ◌∙◌}
use Rattle.std.proofs.lemmas.Result.{err_from_is_err_and}
use native.Mathlib.Omega.{arith}
use lib.ListN.{length}
use borrow.Author.Tests.{ltb-true}
use Rattle.tokenizer.proofs.Calls.{answer-refused, answer-tokens, under-refused, all_fit}
use Rattle.tokenizer.proofs.tokenize_under.Goals as goal

pub returns-then-len-room : goal.returns-then-len-room
returns-then-len-room c =
    let a = c.args in
    c.list_all.ensures ∙ all_fit a.text.now a.table.now a.room (omega arith) (ltb-true (length a.text.now) a.room c.if-len-room.true-raw)

pub take_list-requires : goal.take_list-requires
take_list-requires c = answer-tokens c.args.text.now _ c.list_reads.result c.list_reads.new.table c.list_reads.ensures refl _ c.in_ok-all.was

pub returns-in_err-all : goal.returns-in_err-all
returns-in_err-all c =
    let a = c.args in
    let p = err_from_is_err_and c.from_residual.result c.from_residual.ensures.1 in
    rw (p.1, p.2) (under-refused a.text.now a.table.now a.room _ (answer-refused a.text.now _ c.list_reads.result c.list_reads.new.table c.list_reads.ensures _ c.in_err-all.was))
