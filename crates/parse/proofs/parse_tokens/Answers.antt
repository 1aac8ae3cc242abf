-- The list's refusals, those of the buffers, then the reading.
use mathlib.Core.Path.{sym, ap, ◌∙◌}
use Prim.Native.Nat.{ℕ}
use lib.ListN.{length}
use Rattle.std.proofs.lemmas.Result.{err_from_is_err_and}
use Rattle.tokens.specs.Refusals.{room_refusal}
use Rattle.refusals.specs.Refusal.{numbered}
use Rattle.room.proofs.Lengths.{refusal_in, refusal-in}
use Rattle.lists.proofs.Cases.{checked_refused, checked-accepted}
use Rattle.parse.proofs.Calls.{list-refused, room-refused}
use Rattle.parse.proofs.parse_tokens.Goals as goal

pub read_list-requires : goal.read_list-requires
read_list-requires c =
    let a = c.args in
    let k = checked-accepted a.text.now a.table.now a.count _ c.check_list.ensures _ c.in_ok-others.was in
    record {
      table_value = k.0;
      tree_value = ap (λ (n : ℕ). room_refusal n (length a.work.now) (length a.tree.now)) (sym k.1) ∙ refusal-in _ _ _ _ c.check_room.ensures ∙ ap (λ r. refusal_in (numbered r)) c.in_ok-check_room.was;
    }

pub returns-in_err-others : goal.returns-in_err-others
returns-in_err-others c =
    let a = c.args in
    let p = err_from_is_err_and c.from_residual.result c.from_residual.ensures.1 in
    rw (p.1, p.2) (list-refused a.text.now a.table.now a.count a.work.now a.tree.now _ (checked_refused a.text.now a.table.now a.count _ c.check_list.ensures _ c.in_err-others.was))

pub returns-in_err-check_room : goal.returns-in_err-check_room
returns-in_err-check_room c =
    let a = c.args in
    let k = checked-accepted a.text.now a.table.now a.count _ c.check_list.ensures _ c.in_ok-others.was in
    let p = err_from_is_err_and c.from_residual-in_err-check_room.result c.from_residual-in_err-check_room.ensures.1 in
    rw (p.1, p.2) (room-refused a.text.now a.table.now a.count a.work.now a.tree.now k.0 _ (ap (λ (n : ℕ). room_refusal n (length a.work.now) (length a.tree.now)) (sym k.1) ∙ refusal-in _ _ _ _ c.check_room.ensures ∙ ap (λ r. refusal_in (numbered r)) c.in_err-check_room.was))
