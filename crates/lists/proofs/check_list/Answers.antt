-- `check_list`: the check of the text, refusal 3 by its two tests, then the tokens.
use mathlib.Core.Path.{sym, ap, ◌∙◌}
use mathlib.Core.Option.{Option}
use Prim.Native.Nat.{ℕ}
use Rattle.tokens.specs.Table.{token_list}
use Rattle.tokens.proofs.Order.{text-first, count-large, table-short, to_tokens}
use Rattle.lists.specs.Checks.{answer, checked}
use Rattle.refusals.proofs.TextChecks.{text-refused, text-accepted}
use Rattle.lists.proofs.Checks.{answer-refused}
use Rattle.std.proofs.lemmas.Result.{err_from_is_err_and}
use Rattle.lists.proofs.check_list.Goals as goal
use Rattle.lists.proofs.check_list.Goals.{then-count-gt-MOST_TOKENS-via-then-count-gt-MOST_TOKENS, then-count-gt-MOST_TOKENS-via-else-count-gt-MOST_TOKENS+then-table-count}

pub returns-in_err-check_text : goal.returns-in_err-check_text
unfolding checked
returns-in_err-check_text c = let a = c.args in
    let p = err_from_is_err_and c.from_residual.result c.from_residual.ensures.1 in
    rw (p.1, p.2)
    (answer-refused (token_list a.count a.table.now) (text-first a.text.now a.table.now a.count _ (text-refused a.text.now _ c.check_text.ensures _ c.in_err-check_text.was)))

pub returns-then-count-gt-MOST_TOKENS : goal.returns-then-count-gt-MOST_TOKENS
unfolding checked
returns-then-count-gt-MOST_TOKENS c = let a = c.args in
    let o = text-accepted a.text.now _ c.check_text.ensures _ c.in_ok-check_text.was in
    answer-refused (token_list a.count a.table.now)
    (elim c.then-count-gt-MOST_TOKENS.branch [
      | then-count-gt-MOST_TOKENS-via-then-count-gt-MOST_TOKENS w ↦ count-large a.text.now a.table.now a.count o w.if-count-gt-MOST_TOKENS.true
      | then-count-gt-MOST_TOKENS-via-else-count-gt-MOST_TOKENS+then-table-count w ↦ table-short a.text.now a.table.now a.count o w.if-count-gt-MOST_TOKENS.false w.if-table-count.true
    ])

pub returns : goal.returns
unfolding checked
returns c = let a = c.args in
    c.check_tokens.ensures ∙ ap (λ (o : Option ℕ). answer o (token_list a.count a.table.now)) (sym (to_tokens a.text.now a.table.now a.count (text-accepted a.text.now _ c.check_text.ensures _ c.in_ok-check_text.was) c.if-count-gt-MOST_TOKENS.false c.if-table-count.false))
