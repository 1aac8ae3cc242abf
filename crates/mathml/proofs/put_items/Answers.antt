-- The items of the root, one after the other.
use Rattle.std.proofs.Common.{◌≡◌, ◌+◌, ◌-◌, arith}
use Rattle.mathml.proofs.Items.{begin, more, done}
use Rattle.mathml.proofs.put_items.Goals as goal

pub loop-init : goal.loop-init
loop-init c = let all : c.args.items - 0 ≡ c.args.items = omega arith in rw all (begin _ _ _ _ _ (omega arith) (omega arith))

pub inner_place-p-requires : goal.inner_place-p-requires
inner_place-p-requires c = c.loop.invariant.upto

pub put_node-r-requires : goal.put_node-r-requires
put_node-r-requires c = c.inner_place-p.ensures.upto

pub loop-preserved : goal.loop-preserved
loop-preserved c =
    let next : c.args.items - (c.loop.counter + 1) ≡ c.args.items - c.loop.counter - 1 = omega arith in
    rw next (more _ _ _ _ _ c.loop.invariant c.inner_place-p.ensures (omega arith) c.put_node-r.ensures)

pub shape_of-out : goal.shape_of-out
shape_of-out c = c.loop.invariant.same

pub returns : goal.returns
returns c = done _ _ _ _ _ c.loop.invariant (omega arith)
