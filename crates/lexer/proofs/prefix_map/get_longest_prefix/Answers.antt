-- A row with more bytes, the byte alone, or none.
use mathlib.Core.Path.{sym, ap, ◌∙◌}
use Prim.Native.Nat.{ℕ}
use native.Mathlib.Omega.{arith}
use Rattle.std.proofs.lemmas.Grind.{common_steps}
use Rattle.std.specs.Prelude.{Some}
use Rattle.lexer.specs.Lookup.{longest}
use Rattle.lexer.proofs.Lookup.{none-past, none-high, none_is, found-longer, answer-none, answer-row}
use Rattle.lexer.proofs.FoundWords.{answer-alone, answer-nothing}
use Rattle.lexer.proofs.prefix_map.get_longest_prefix.Goals as goal

pub returns-then-text-at : goal.returns-then-text-at
returns-then-text-at c = let text = c.args.text.now in
    let at = c.args.at in
    answer-none text at (none-past text at c.if-text-at.true)

pub returns-then-c-gt127 : goal.returns-then-c-gt127
returns-then-c-gt127 c = let text = c.args.text.now in
    let at = c.args.at in
    answer-none text at (none-high text at (omega arith))

pub returns-in-Some : goal.returns-in-Some
returns-in-Some c =
    let w = found-longer c.args.text.now c.args.at c.in-Some.longest (sym c.in-Some.is ∙ c.longer_row.ensures) in
    ap (λ (row : ℕ). Some (longest c.len.result c.from.result row)) c.number.ensures.0
    ∙ answer-row c.args.text.now c.args.at c.in-Some.longest c.len.result c.kind.result c.from.result w.1 c.len.ensures c.kind.ensures.0 c.from.ensures

pub returns-in_err-row : goal.returns-in_err-row
returns-in_err-row c =
    let z = sym c.longer_row.ensures ∙ none_is _ c.in_default.not-Some in
    let e = answer-nothing c.args.text.now c.args.at (omega arith) z c.byte_word-found.ensures (sym c.in_err-row.was ∙ c.row_in.ensures) in
    grind (arith, common_steps, c.from_residual.ensures)

pub returns : goal.returns
returns c =
    let z = sym c.longer_row.ensures ∙ none_is _ c.in_default.not-Some in
    answer-alone c.args.text.now c.args.at (omega arith) z c.byte_word-found.ensures c.in_ok-row.row c.kind_in.result c.from-2.result
    (sym c.in_ok-row.was ∙ c.row_in.ensures) c.kind_in.ensures c.from-2.ensures
