-- `reply` is safe: what the call has found has room in its buffers.
use mathlib.Core.Path.{sym}
use native.Mathlib.Omega.{arith}
use lib.Seq.{length-take-le}
use Rattle.read_brackets.proofs.Room.{found-fits}
use Rattle.std.proofs.Common.{rules}
use Rattle.read_brackets.proofs.reply.Goals as goal

pub overflow_mul-table : goal.overflow_mul-table
overflow_mul-table c =
    let f = found-fits c.args.text.now _ _ _ _ _ c.closers_text.ensures _ c.in-Ok.is in
    search rules

pub slice_bounds-table-end : goal.slice_bounds-table-end
slice_bounds-table-end c =
    let f = found-fits c.args.text.now _ _ _ _ _ c.closers_text.ensures _ c.in-Ok.is in
    search rules

pub slice_bounds-mark_pairs-end : goal.slice_bounds-mark_pairs-end
slice_bounds-mark_pairs-end c =
    let f = found-fits c.args.text.now _ _ _ _ _ c.closers_text.ensures _ c.in-Ok.is in
    sym (length-take-le _ _ (search rules))

pub slice_bounds-closers-end : goal.slice_bounds-closers-end
slice_bounds-closers-end c =
    let f = found-fits c.args.text.now _ _ _ _ _ c.closers_text.ensures _ c.in-Ok.is in
    search rules

pub slice_bounds-mark_pairs-end-in-Ok : goal.slice_bounds-mark_pairs-end-in-Ok
slice_bounds-mark_pairs-end-in-Ok c =
    let f = found-fits c.args.text.now _ _ _ _ _ c.closers_text.ensures _ c.in-Ok.is in
    sym (length-take-le _ _ (search rules))
