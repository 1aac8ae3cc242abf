-- `place_of`: what is left to pass, with the tokens other than Space before j, is i.
use Prim.Native.Nat.{◌+◌, ◌≤◌}
use mathlib.Core.Path.{◌≡◌}
use native.Mathlib.Omega.{arith}
use Rattle.tokens.specs.Table.{token_list, count_others}
use Rattle.read_brackets.proofs.Others.{others_same, others-next}
use Rattle.std.proofs.Common.{rules}
use Rattle.read_brackets.proofs.place_of.Goals as goal
use Rattle.read_brackets.proofs.place_of.Goals.{then-table-j-lt-SPACE+else-left-eq0, else-table-j-lt-SPACE}

pub loop-j-init : goal.loop-j-init
unfolding token_list count_others
loop-j-init c = search rules

pub loop-j-preserved : goal.loop-j-preserved
loop-j-preserved c =
    let a = c.args in
    let p = c.loop-j in
    elim c.if-table-j-lt-SPACE.branch [
      | then-table-j-lt-SPACE+else-left-eq0 w ↦ omega (arith, w.if-left-eq0.false, w.left-is, p.invariant, others-next a.table.now p.j w.if-table-j-lt-SPACE.true)
      | else-table-j-lt-SPACE w ↦ omega (arith, w.left-is, p.invariant, others_same a.table.now p.j w.if-table-j-lt-SPACE.false)
    ]
