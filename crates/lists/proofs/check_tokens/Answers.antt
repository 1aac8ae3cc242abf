-- `check_tokens`: what is refused, and what is counted, from token i on.
use Prim.Native.Nat.{◌≤◌, ◌+◌, ◌*◌}
use mathlib.Core.Path.{sym, ap, ◌∙◌}
use mathlib.Core.Bool.{Bool}
use native.Mathlib.Omega.{arith}
use lib.ListN.{get_or}
use Rattle.tokens.specs.Table.{token_list, count_others}
use Rattle.tokens.proofs.TokenList.{tokens-all, tokens_none, others_same, others-more}
use Rattle.lists.proofs.Checks.{answer-refused, answer-accepted}
use Rattle.tokens.proofs.Tokens.{refusal_from, refusal-all, refusal-none, kind-refused, span-refused, space-refused, space-passed, other-passed}
use Rattle.lists.proofs.check_tokens.Goals as goal
use Rattle.lists.proofs.check_tokens.Goals.{then-kind-eq-SPACE+else-after, else-kind-eq-SPACE}

pub loop-i-init : goal.loop-i-init
loop-i-init c = let a = c.args in
    (omega arith, refusal-all a.size a.count a.table.now, omega (arith, ap count_others (tokens-all a.count a.table.now)))

pub returns-then-kind-gt-SPACE : goal.returns-then-kind-gt-SPACE
returns-then-kind-gt-SPACE c = let a = c.args in
    let p = c.loop-i in
    answer-refused (token_list a.count a.table.now) (p.invariant.1 ∙ kind-refused a.size a.count a.table.now p.after p.i c.loop-i-test.true (omega (arith, c.if-kind-gt-SPACE.true)))

pub returns-then-size-end : goal.returns-then-size-end
returns-then-size-end c = let a = c.args in
    let p = c.loop-i in
    answer-refused (token_list a.count a.table.now) (p.invariant.1 ∙ span-refused a.size a.count a.table.now p.after p.i c.loop-i-test.true (omega arith) (omega (arith, c.if-size-end.true)))

pub returns-then-after : goal.returns-then-after
returns-then-after c = let a = c.args in
    let p = c.loop-i in
    let e : get_or a.table.now (3 * p.i) 0 + get_or a.table.now (3 * p.i + 1) 0 ≤ a.size = omega (arith, c.if-size-end.false) in
    answer-refused (token_list a.count a.table.now) (p.invariant.1 ∙ space-refused a.size a.count a.table.now p.after p.i c.loop-i-test.true c.if-kind-gt-SPACE.false e c.if-after.true c.if-kind-eq-SPACE.true)

pub loop-i-preserved : goal.loop-i-preserved
loop-i-preserved c = let a = c.args in
    let p = c.loop-i in
    let e : get_or a.table.now (3 * p.i) 0 + get_or a.table.now (3 * p.i + 1) 0 ≤ a.size = omega (arith, c.if-size-end.false) in
    let h = c.loop-i-test.true in
    elim c.if-kind-eq-SPACE.branch [
      | then-kind-eq-SPACE+else-after w ↦ (
        omega (arith, w.others-is),
        p.invariant.1 ∙ space-passed a.size a.count a.table.now p.after p.i h c.if-kind-gt-SPACE.false e w.if-after.false w.if-kind-eq-SPACE.true ∙ ap (λ (b : Bool). refusal_from a.size a.count a.table.now b (p.i + 1)) (sym w.after-is),
        omega (arith, p.invariant.2, others_same a.count a.table.now p.i h (omega (arith, w.if-kind-eq-SPACE.true)), w.others-is),
      )
      | else-kind-eq-SPACE w ↦ (
        omega (arith, w.others-is),
        p.invariant.1 ∙ other-passed a.size a.count a.table.now p.after p.i h c.if-kind-gt-SPACE.false e w.if-kind-eq-SPACE.false ∙ ap (λ (b : Bool). refusal_from a.size a.count a.table.now b (p.i + 1)) (sym w.after-is),
        omega (arith, p.invariant.2, others-more a.count a.table.now p.i h (omega (arith, c.if-kind-gt-SPACE.false, w.if-kind-eq-SPACE.false)), w.others-is),
      )
    ]

pub returns : goal.returns
unfolding count_others
returns c = let a = c.args in
    let i = c.loop-i.i in
    let h = c.loop-i-test.false in
    answer-accepted (token_list a.count a.table.now) (c.loop-i.invariant.1 ∙ refusal-none a.size a.count a.table.now c.loop-i.after i h) (omega (arith, c.loop-i.invariant.2, ap count_others (tokens_none a.count a.table.now i h)))
