-- The tokens, or what the tokenizer says of them; then the reading of their list.
use mathlib.Core.Path.{ap, ◌∙◌}
use Rattle.std.specs.Prelude.{Ok}
use Rattle.std.proofs.lemmas.Result.{err_from_is_err_and}
use Rattle.parse.proofs.Calls.{tokens-refused, tokens-many, list-accepted, list-fits, list-not_refused, list-was_read}
use Rattle.parse.proofs.parse.Goals as goal

pub read_list-requires : goal.read_list-requires
read_list-requires c =
    let a = c.args in
    let q = c.in_ok-others.was ∙ ap Ok c.in-Tokens.is in
    record {
      table_value = list-accepted a.text.now a.table.now a.work.now a.tree.now _ _ _ c.tokenize_under.ensures _ _ q c.room_for-room.ensures;
      tree_value = list-fits a.text.now a.table.now a.work.now a.tree.now _ _ _ c.tokenize_under.ensures _ _ q c.room_for-room.ensures;
    }

pub returns-in_err-others : goal.returns-in_err-others
returns-in_err-others c =
    let a = c.args in
    let p = err_from_is_err_and c.from_residual.result c.from_residual.ensures.1 in
    rw (p.1, p.2) (tokens-refused a.text.now a.table.now a.work.now a.tree.now _ _ _ c.tokenize_under.ensures _ c.in_err-others.was)

pub returns-in-Many : goal.returns-in-Many
returns-in-Many c =
    let a = c.args in
    tokens-many a.text.now a.table.now a.work.now a.tree.now _ _ _ c.tokenize_under.ensures _ _ (c.in_ok-others.was ∙ ap Ok c.in-Many.is) c.room_for-room.ensures c.lacking.ensures

pub returns-in_err-read-in-Tokens : goal.returns-in_err-read-in-Tokens
returns-in_err-read-in-Tokens c =
    let a = c.args in
    list-not_refused a.text.now a.table.now a.work.now a.tree.now _ _ _ c.tokenize_under.ensures _ _ (c.in_ok-others.was ∙ ap Ok c.in-Tokens.is) c.room_for-room.ensures _ _ _ c.read_list.ensures _ c.in_err-read-in-Tokens.was

pub returns-in_ok-read-in-Tokens : goal.returns-in_ok-read-in-Tokens
returns-in_ok-read-in-Tokens c =
    let a = c.args in
    list-was_read a.text.now a.table.now a.work.now a.tree.now _ _ _ c.tokenize_under.ensures _ _ (c.in_ok-others.was ∙ ap Ok c.in-Tokens.is) c.room_for-room.ensures _ _ _ c.read_list.ensures _ c.in_ok-read-in-Tokens.was
