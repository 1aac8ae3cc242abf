-- 11, then 12, then the bytes.
use native.Mathlib.Omega.{arith}
use Rattle.mathml.proofs.Marks.{tree-refused, tree-fits, tree-whole, tree-short}
use Rattle.mathml.proofs.mark_tree.Goals as goal

pub returns-then-passed : goal.returns-then-passed
returns-then-passed c = let a = c.args in tree-refused a.out.now c.pass_row-passed.ensures c.if-passed.true

pub returns-then-has_room : goal.returns-then-has_room
returns-then-has_room c = let a = c.args in tree-fits a.out.now c.pass_row-passed.ensures c.if-passed.false (omega arith) (c.has_room.ensures c.if-has_room.true) c.put_root.ensures

pub returns-then-need-out : goal.returns-then-need-out
returns-then-need-out c = let a = c.args in tree-whole a.out.now c.pass_row-passed.ensures c.if-passed.false c.put_root-need.ensures (omega arith) c.if-need-out.true c.put_root-then-need-out.ensures

pub returns-else-need-out : goal.returns-else-need-out
returns-else-need-out c = let a = c.args in tree-short a.out.now c.pass_row-passed.ensures c.if-passed.false c.put_root-need.ensures c.if-need-out.false
