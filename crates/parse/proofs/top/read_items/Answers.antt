use Rattle.parse.proofs.Tops.{round_none, round_open, round_drop, round_wrap}
use Rattle.lookahead.proofs.Testing.{test_below}
use Prim.Native.Nat.{◌+◌}
use native.Mathlib.Omega.{arith}
use mathlib.Core.Path.{◌≡◌, sym, ◌∙◌}
use Rattle.parse.proofs.top.read_items.Goals as goal

pub all-init : goal.all-init
all-init c = round_none c.args.list.now.text.now c.args.list.now.tok.now c.args.list.now.n c.args.tree.now c.requires

pub next-cur-requires : goal.next-cur-requires
next-cur-requires c = let b = test_below _ _ _ _ _ (sym c.is_at.ensures ∙ c.if-is_at.true) in omega (arith, c.requires.safe.few)

pub all-smaller-then-wraps-lt-MOST_WRAPS : goal.all-smaller-then-wraps-lt-MOST_WRAPS
all-smaller-then-wraps-lt-MOST_WRAPS c = let b = test_below _ _ _ _ _ (sym c.is_at.ensures ∙ c.if-is_at.true) in let v = c.all.invariant in let m = c.extend-run.ensures.moves in let np : c.next-cur.result.pos ≡ c.extend-run.result.cur.pos + 1 = rw c.next-cur.ensures in omega (arith, m.on)

pub all-preserved-then-wraps-lt-MOST_WRAPS : goal.all-preserved-then-wraps-lt-MOST_WRAPS
all-preserved-then-wraps-lt-MOST_WRAPS c = rw c.next-cur.ensures (round_wrap c.all.invariant c.extend-run.ensures c.requires.room (sym c.is_at.ensures ∙ c.if-is_at.true) c.if-wraps-lt-MOST_WRAPS.true c.note_wrap.ensures)

pub all-smaller : goal.all-smaller
all-smaller c = let b = test_below _ _ _ _ _ (sym c.is_at.ensures ∙ c.if-is_at.true) in let v = c.all.invariant in let m = c.extend-run.ensures.moves in let np : c.next-cur.result.pos ≡ c.extend-run.result.cur.pos + 1 = rw c.next-cur.ensures in omega (arith, m.on)

pub all-preserved : goal.all-preserved
all-preserved c = rw c.next-cur.ensures (round_drop c.all.invariant c.extend-run.ensures c.requires.room (sym c.is_at.ensures ∙ c.if-is_at.true) c.if-wraps-lt-MOST_WRAPS.false)

pub returns : goal.returns
returns c = rw c.look-cur.ensures (round_open c.all.invariant c.extend-run.ensures c.requires.room (sym c.is_at.ensures ∙ c.if-is_at.false))
