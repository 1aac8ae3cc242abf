-- Read by read.
use mathlib.Core.Path.{◌∙◌}
use Prim.Native.Nat.{◌-◌}
use native.Mathlib.Omega.{arith}
use Rattle.lexer.specs.Listing.{listing}
use Rattle.lexer.proofs.Passes.{listing_start, listing_placed, listing_on, listing_next, listing_end}
use Rattle.lexer.proofs.list.list_from.Goals as goal

pub loop-p-init : goal.loop-p-init
loop-p-init c =
    let a = c.args in
    listing_start a.stop a.text.now a.from a.table.now

pub read_token-p-requires : goal.read_token-p-requires
read_token-p-requires c = let a = c.args in
    let l = c.loop-p in
    (listing_placed a.stop a.text.now a.from a.table.now l.p l.table l.invariant c.requires.1 c.requires.2 c.loop-p-test.true, c.requires.0)

pub loop-p-smaller : goal.loop-p-smaller
loop-p-smaller c = let a = c.args in
    let l = c.loop-p in
    omega (arith, listing_on a.stop a.text.now a.from a.table.now l.p l.table l.invariant c.requires.1 c.requires.2 c.loop-p-test.true c.read_token-p.result c.read_token-p.new.table c.read_token-p.ensures.0)

pub loop-p-preserved : goal.loop-p-preserved
loop-p-preserved c = let a = c.args in
    let l = c.loop-p in
    listing_next a.stop a.text.now a.from a.table.now l.p l.table l.invariant c.requires.1 c.requires.2 c.loop-p-test.true c.read_token-p.result c.read_token-p.new.table c.read_token-p.ensures.0 c.read_token-p.ensures.1 c.read_token-p.auto.table

pub returns : goal.returns
returns c = let a = c.args in
    let l = c.loop-p in
    (λ i. (listing l.p.all (l.p.all - l.p.spaces) l.p.next (c.row_in.ensures i), l.table))
    ∙ listing_end a.stop a.text.now a.from a.table.now l.p l.table l.invariant (omega arith)
