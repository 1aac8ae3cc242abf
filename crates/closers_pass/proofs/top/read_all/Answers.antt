-- `read_all`: round by round.
use Rattle.closers_pass.proofs.Tops.{round_none, round_open, round_drop, round_wrap}
use Rattle.lookahead.specs.Tests.{is_kind}
use Rattle.lookahead.proofs.Testing.{test_below}
use borrow.Author.Tests.{not-true, not-false}
use Prim.Native.Nat.{◌+◌}
use native.Mathlib.Omega.{arith}
use mathlib.Core.Path.{◌≡◌, sym, ◌∙◌}
use Rattle.closers_pass.proofs.top.read_all.Goals as goal

pub all-init : goal.all-init
all-init c = round_none _ _ _ _

pub extend-run-requires : goal.extend-run-requires
extend-run-requires c = let v = c.all.invariant in record { few = c.requires.n_bound; fit = omega (arith, c.requires.n_in_bounds, v.kept.long); here = v.within }

pub next-cur-requires : goal.next-cur-requires
next-cur-requires c = let b = test_below _ _ c.args.list.now.n (is_kind 21) _ (sym c.is_at.ensures ∙ not-false _ c.if-not-is_at.false-raw) in omega (arith, c.requires.n_bound)

pub overflow_add-wraps : goal.overflow_add-wraps
overflow_add-wraps c = omega (arith, c.if-wraps-lt-MOST_WRAPS.true)

pub all-smaller-then-wraps-lt-MOST_WRAPS : goal.all-smaller-then-wraps-lt-MOST_WRAPS
all-smaller-then-wraps-lt-MOST_WRAPS c = let b = test_below _ _ c.args.list.now.n (is_kind 21) _ (sym c.is_at.ensures ∙ not-false _ c.if-not-is_at.false-raw) in let m = c.extend-run.ensures.moves in let np : c.next-cur.result.pos ≡ c.extend-run.result.cur.pos + 1 = rw c.next-cur.ensures in omega (arith, m.on)

pub all-preserved-then-wraps-lt-MOST_WRAPS : goal.all-preserved-then-wraps-lt-MOST_WRAPS
all-preserved-then-wraps-lt-MOST_WRAPS c = rw c.next-cur.ensures (round_wrap c.all.invariant c.extend-run.ensures (sym c.is_at.ensures ∙ not-false _ c.if-not-is_at.false-raw) c.if-wraps-lt-MOST_WRAPS.true)

pub all-smaller : goal.all-smaller
all-smaller c = let b = test_below _ _ c.args.list.now.n (is_kind 21) _ (sym c.is_at.ensures ∙ not-false _ c.if-not-is_at.false-raw) in let m = c.extend-run.ensures.moves in let np : c.next-cur.result.pos ≡ c.extend-run.result.cur.pos + 1 = rw c.next-cur.ensures in omega (arith, m.on)

pub all-preserved : goal.all-preserved
all-preserved c = rw c.next-cur.ensures (round_drop c.all.invariant c.extend-run.ensures (sym c.is_at.ensures ∙ not-false _ c.if-not-is_at.false-raw) c.if-wraps-lt-MOST_WRAPS.false)

pub shape_of-work : goal.shape_of-work
shape_of-work c = c.extend-run.ensures.moves.kept.long ∙ c.all.invariant.kept.long

pub returns : goal.returns
returns c = rw c.look-cur.ensures (round_open c.all.invariant c.extend-run.ensures (sym c.is_at.ensures ∙ not-true _ c.if-not-is_at.true-raw))
