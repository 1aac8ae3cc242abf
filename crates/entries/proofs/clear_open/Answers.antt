-- `clear_open`: the brackets still open are cleared, one after the other.
use Rattle.std.proofs.Common.{◌+◌, ◌≡◌, refl, ◌∙◌, arith}
use Rattle.entries.proofs.Clearing.{clearing_next, clearing_done, clearing_low}
use Rattle.entries.proofs.clear_open.Goals as goal

pub loop-bracket-init : goal.loop-bracket-init
loop-bracket-init c = (refl, λ st p. record { stack = st; chain = p; words = refl; low = omega arith })

pub loop-bracket-smaller : goal.loop-bracket-smaller
loop-bracket-smaller c = let p = c.loop-bracket.invariant.1 c.requires.stack c.requires.chain in
    let t : c.loop-bracket.top ≡ c.in-Some.bracket + 1 = omega arith in
    omega (arith, c.after_close-top.ensures, clearing_low p c.in-Some.bracket t)

pub loop-bracket-preserved : goal.loop-bracket-preserved
loop-bracket-preserved c =
    let t : c.loop-bracket.top ≡ c.in-Some.bracket + 1 = omega arith in (
      c.set_close.auto.work ∙ c.loop-bracket.invariant.0,
      λ st p. rw (c.set_close.ensures, c.after_close-top.ensures) (clearing_next (c.loop-bracket.invariant.1 st p) c.in-Some.bracket t),
    )

pub returns : goal.returns
returns c = λ st p. clearing_done (c.loop-bracket.invariant.1 st p) (omega arith)
