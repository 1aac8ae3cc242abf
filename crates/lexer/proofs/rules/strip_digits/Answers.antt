-- A number that begins with a digit.
use mathlib.Core.Path.{refl}
use Prim.Native.Nat.{◌+◌, ◌-◌}
use native.Mathlib.Omega.{arith}
use Rattle.tokens.specs.declared.token.Token.TheVariants.{Number}
use Rattle.tokens.specs.Lexeme.{lexeme}
use Rattle.lexing.proofs.Moves.{number-inside}
use Rattle.lexer.proofs.RuleCases.{number-from, digit-number}
use Rattle.lexer.proofs.Adding.{added-read}
use Rattle.lexer.proofs.rules.strip_digits.Goals as goal

pub overflow_sub-e : goal.overflow_sub-e
overflow_sub-e c = omega (arith, number-from c.args.text.now (c.args.p.next + 1))

pub put_other-requires : goal.put_other-requires
put_other-requires c = omega (arith, number-inside c.args.text.now (c.args.p.next + 1) (omega arith))

pub returns : goal.returns
returns c = added-read (lexeme c.args.p.next (c.number_end-e.result - c.args.p.next) Number) refl (digit-number c.args.text.now c.args.p.next (omega arith) c.requires.1 c.number_end-e.result c.number_end-e.ensures) c.put_other.ensures.0 c.put_other.ensures.1
