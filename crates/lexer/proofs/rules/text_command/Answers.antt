-- Without a bracket, and with one, closed or not: token behind token.
use mathlib.Core.Path.{refl, sym, ap, ◌∙◌}
use Prim.Native.Nat.{◌+◌, ◌-◌}
use native.Mathlib.Omega.{arith}
use Rattle.tokens.specs.declared.token.Token.TheVariants.{Text, Unary, OpenBracket, CloseBracket}
use Rattle.tokens.specs.Lexeme.{lexeme}
use Rattle.lexing.specs.Rules.{blank, other}
use Rattle.lexer.specs.declared.table.Listed.{Listed}
use Rattle.lexing.proofs.Runs.{run-from, run-within}
use Rattle.lexer.proofs.RuleCases.{closing-none, closing-some, command-past, command-none, command-closed, command-open}
use Rattle.lexer.proofs.Adding.{added-other, added-as, added_next}
use Rattle.lexer.proofs.rules.text_command.Goals as goal

pub returns-then-text-b : goal.returns-then-text-b
returns-then-text-b c = added-as (command-past c.args.text.now c.args.p.next c.blanks_end-b.result c.blanks_end-b.ensures c.if-text-b.true) (added-other (lexeme c.args.p.next 4 Unary) refl c.put_other-command.ensures.0 c.put_other-command.ensures.1)

pub returns-in_default : goal.returns-in_default
returns-in_default c = added-as (command-none c.args.text.now c.args.p.next c.blanks_end-b.result c.blanks_end-b.ensures _ refl (closing-none _ _ c.closer_of.ensures c.in_default.not-Some)) (added-other (lexeme c.args.p.next 4 Unary) refl c.put_other-command.ensures.0 c.put_other-command.ensures.1)

pub overflow_sub-e : goal.overflow_sub-e
overflow_sub-e c = omega (arith, run-from (other c.in-Some.c) c.args.text.now (c.blanks_end-b.result + 1))

pub put_other-literal-requires : goal.put_other-literal-requires
put_other-literal-requires c = omega (arith, run-from blank c.args.text.now (c.args.p.next + 4), run-from (other c.in-Some.c) c.args.text.now (c.blanks_end-b.result + 1), run-within (other c.in-Some.c) c.args.text.now (c.blanks_end-b.result + 1) (omega arith), ap (λ (q : Listed). q.all) c.put_other-command.ensures.0, ap (λ (q : Listed). q.all) c.put_other-open.ensures.0)

pub put_other-requires : goal.put_other-requires
put_other-requires c = omega (arith, c.requires.0.short, c.requires.0.fewer, c.requires.0.few, c.requires.1, c.if-e-text.true, run-from blank c.args.text.now (c.args.p.next + 4), run-from (other c.in-Some.c) c.args.text.now (c.blanks_end-b.result + 1), ap (λ (q : Listed). q.all) c.put_other-command.ensures.0, ap (λ (q : Listed). q.all) c.put_other-open.ensures.0, ap (λ (q : Listed). q.all) c.put_other-literal.ensures.0)

pub returns-then-e-text : goal.returns-then-e-text
returns-then-e-text c = let a = added-other (lexeme c.args.p.next 4 Unary) refl c.put_other-command.ensures.0 c.put_other-command.ensures.1 in let b = added_next (lexeme c.blanks_end-b.result 1 OpenBracket) refl a c.put_other-open.ensures.0 c.put_other-open.ensures.1 in let d = added_next (lexeme (c.blanks_end-b.result + 1) (c.find_end-e.result - (c.blanks_end-b.result + 1)) Text) refl b c.put_other-literal.ensures.0 c.put_other-literal.ensures.1 in let f = added_next (lexeme c.find_end-e.result 1 CloseBracket) refl d c.put_other.ensures.0 c.put_other.ensures.1 in added-as (command-closed c.args.text.now c.args.p.next c.blanks_end-b.result c.blanks_end-b.ensures c.in-Some.c (closing-some _ _ (sym c.in-Some.is ∙ c.closer_of.ensures)).0 (closing-some _ _ (sym c.in-Some.is ∙ c.closer_of.ensures)).1 c.find_end-e.result c.find_end-e.ensures c.if-e-text.true) f

pub returns : goal.returns
returns c = let a = added-other (lexeme c.args.p.next 4 Unary) refl c.put_other-command.ensures.0 c.put_other-command.ensures.1 in let b = added_next (lexeme c.blanks_end-b.result 1 OpenBracket) refl a c.put_other-open.ensures.0 c.put_other-open.ensures.1 in let d = added_next (lexeme (c.blanks_end-b.result + 1) (c.find_end-e.result - (c.blanks_end-b.result + 1)) Text) refl b c.put_other-literal.ensures.0 c.put_other-literal.ensures.1 in added-as (command-open c.args.text.now c.args.p.next c.blanks_end-b.result c.blanks_end-b.ensures c.in-Some.c (closing-some _ _ (sym c.in-Some.is ∙ c.closer_of.ensures)).0 (closing-some _ _ (sym c.in-Some.is ∙ c.closer_of.ensures)).1 c.find_end-e.result c.find_end-e.ensures c.if-e-text.false) d
