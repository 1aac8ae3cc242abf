-- A number, or what the next rules read.
use mathlib.Core.Path.{refl}
use Prim.Native.Nat.{◌-◌}
use native.Mathlib.Omega.{arith}
use Rattle.tokens.specs.declared.token.Token.TheVariants.{Number}
use Rattle.tokens.specs.Lexeme.{lexeme}
use Rattle.lexing.proofs.Moves.{past-on, number-inside}
use Rattle.lexer.proofs.RuleCases.{number_is, number-not}
use Rattle.lexer.proofs.Adding.{added-read, added-as}
use Rattle.lexer.proofs.rules.strip_number.Goals as goal

pub overflow_sub-e : goal.overflow_sub-e
overflow_sub-e c = omega (arith, past-on c.args.text.now c.args.p.next)

pub put_other-requires : goal.put_other-requires
put_other-requires c = omega (arith, past-on c.args.text.now c.args.p.next, number-inside c.args.text.now c.args.p.next (omega arith))

pub returns-then-past_point-e : goal.returns-then-past_point-e
returns-then-past_point-e c = added-read (lexeme c.args.p.next (c.number_end-e.result - c.args.p.next) Number) refl (number_is c.args.text.now c.args.p.next c.number_end-e.result c.number_end-e.ensures (omega arith)) c.put_other.ensures.0 c.put_other.ensures.1

pub returns : goal.returns
returns c = added-as (number-not c.args.text.now c.args.p.next (omega arith)) c.strip_text.ensures
