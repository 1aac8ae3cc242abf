-- `check_room`: enough, or the refusal of the first that is too short.
use mathlib.Core.Path.{ap, ◌∙◌}
use mathlib.Core.Option.{none, some}
use native.Mathlib.Omega.{arith}
use Rattle.std.specs.Prelude.{Err}
use Rattle.room.specs.Room.{room_of}
use Rattle.room.proofs.Lengths.{room-enough, one-short, answers}
use Rattle.room.proofs.check_room.Goals as goal

pub returns-then-n-room_for : goal.returns-then-n-room_for
unfolding room_of
returns-then-n-room_for c = answers _ _ _ none (room-enough _ _ _ _ (omega arith) (omega arith))

pub returns : goal.returns
unfolding room_of
returns c =
    let a = c.args in
    ap Err c.lacking.ensures
    ∙ answers a.n a.work a.tree (some _) (one-short a.n a.work a.tree (omega arith))
