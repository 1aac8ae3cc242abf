-- A text command, or another spelling.
use mathlib.Core.Path.{sym, ◌∙◌, ap}
use Prim.Native.Nat.{ℕ}
use native.Mathlib.Omega.{arith}
use Rattle.tokens.specs.Lexeme.{lexeme}
use Rattle.lexer.specs.Constants.{row_of, kind_of, no_row}
use Rattle.lexing.specs.Rules.{alone}
use Rattle.lexing.proofs.Rows.{well_formed}
use Rattle.lexer.proofs.RuleCases.{row_plain, row-command, command-four}
use Rattle.lexer.proofs.Adding.{added-read, added-as}
use Rattle.lexer.proofs.rules.strip_spelling.Goals as goal

pub text_command-requires : goal.text_command-requires
text_command-requires c = (c.requires.0, omega (arith, command-four c.args.row c.args.text.now 0 (sym c.is_text_command.ensures ∙ c.if-is_text_command.true)))

pub returns-then-is_text_command : goal.returns-then-is_text_command
returns-then-is_text_command c = added-as (row-command c.args.row c.args.text.now c.args.p.next (sym c.is_text_command.ensures ∙ c.if-is_text_command.true)) c.text_command.ensures

pub returns : goal.returns
unfolding row_of kind_of
returns c = added-read (lexeme c.args.p.next c.len-len.result (row_of c.args.row).token) (well_formed no_row c.args.row c.kind.ensures.1).no_space (ap (λ (n : ℕ). alone c.args.p.next n (row_of c.args.row).token) c.len-len.ensures ∙ row_plain c.args.row c.args.text.now c.args.p.next (sym c.is_text_command.ensures ∙ c.if-is_text_command.false)) c.put_other.ensures.0 (rw c.kind.ensures.0 at c.put_other.ensures.1)
