-- The two rows, and no other.
use mathlib.Core.Path.{sym, ◌∙◌}
use borrow.Author.Tests.{eq-eqb, ne_eqb}
use Rattle.tokens.proofs.Cases.{by_eq}
use Rattle.lexer.proofs.RuleCases.{command-text, command-mbox, command-other}
use Rattle.lexer.proofs.rules.is_text_command.Goals as goal

pub returns-then-k-eq-TEXT_ROW : goal.returns-then-k-eq-TEXT_ROW
returns-then-k-eq-TEXT_ROW c = eq-eqb c.number-k.result 373 c.if-k-eq-TEXT_ROW.true ∙ sym (command-text c.args.row (sym c.number-k.ensures.0 ∙ c.if-k-eq-TEXT_ROW.true))

pub returns-else-k-eq-TEXT_ROW : goal.returns-else-k-eq-TEXT_ROW
returns-else-k-eq-TEXT_ROW c =
    rw c.number-k.ensures.0
    (by_eq c.args.row 272
    (λ e. eq-eqb c.args.row 272 e ∙ sym (command-mbox c.args.row e))
    (λ f. ne_eqb c.args.row 272 f ∙ sym (command-other c.args.row c.number-k.ensures.1 (λ e. c.if-k-eq-TEXT_ROW.false (c.number-k.ensures.0 ∙ e)) f)))
