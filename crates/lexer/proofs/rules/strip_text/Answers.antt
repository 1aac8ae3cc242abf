-- A quotation, or the byte alone.
use mathlib.Core.Path.{◌≡◌, refl}
use Prim.Native.Nat.{◌+◌, ◌-◌}
use native.Mathlib.Omega.{arith}
use Rattle.tokens.specs.declared.token.Token.TheVariants.{Text, Operator}
use Rattle.tokens.specs.Lexeme.{lexeme}
use Rattle.lexing.specs.Rules.{alone, other}
use Rattle.lexing.proofs.Runs.{run-from}
use Rattle.lexer.specs.Coded.{from_quotation}
use Rattle.lexer.proofs.RuleCases.{quote_none, quote_open, quote_closed}
use Rattle.lexer.proofs.Adding.{added-read}
use Rattle.lexer.proofs.rules.strip_text.Goals as goal
use Rattle.lexer.proofs.rules.strip_text.Goals.{then-text-at-eq34+else-e-text, else-text-at-eq34}

pub overflow_sub-e : goal.overflow_sub-e
overflow_sub-e c = omega (arith, run-from (other 34) c.args.text.now (c.args.p.next + 1))

pub returns-then-e-text : goal.returns-then-e-text
returns-then-e-text c =
    let text = c.args.text.now in
    let at = c.args.p.next in
    let e = c.find_end-e.result in
    added-read (lexeme (at + 1) (e - (at + 1)) Text) refl (quote_closed text at c.if-text-at-eq34.true e c.find_end-e.ensures c.if-e-text.true) c.put_other.ensures.0 c.put_other.ensures.1

pub returns : goal.returns
returns c =
    let text = c.args.text.now in
    let at = c.args.p.next in
    let q : alone at 1 Operator ≡ from_quotation text at =
    elim c.if-text-at-eq34.branch [
      | then-text-at-eq34+else-e-text w ↦ quote_open text at w.if-text-at-eq34.true w.find_end-e.result w.find_end-e.ensures c.requires.1 w.if-e-text.false
      | else-text-at-eq34 w ↦ quote_none text at c.requires.1 w.if-text-at-eq34.false
    ] in
    added-read (lexeme at 1 Operator) refl q c.put_other-2.ensures.0 c.put_other-2.ensures.1
