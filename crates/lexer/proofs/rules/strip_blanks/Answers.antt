-- Blanks to their end.
use mathlib.Core.Path.{refl}
use Prim.Native.Nat.{◌+◌, ◌-◌}
use native.Mathlib.Omega.{arith}
use Rattle.tokens.specs.declared.token.Token.TheVariants.{Space}
use Rattle.tokens.specs.Lexeme.{lexeme}
use Rattle.lexing.specs.Rules.{blank}
use Rattle.lexing.proofs.Runs.{run-from, run-within}
use Rattle.lexer.proofs.RuleCases.{read-blank}
use Rattle.lexer.proofs.Adding.{added-space}
use Rattle.lexer.proofs.rules.strip_blanks.Goals as goal

pub overflow_sub-e : goal.overflow_sub-e
overflow_sub-e c = omega (arith, run-from blank c.args.text.now (c.args.p.next + 1))

pub put-requires : goal.put-requires
put-requires c = omega (arith, run-within blank c.args.text.now (c.args.p.next + 1) (omega arith))

pub returns : goal.returns
returns c = let text = c.args.text.now in
    let at = c.args.p.next in
    let end = c.blanks_end-e in
    added-space (lexeme at (end.result - at) Space) refl (read-blank text at (omega arith) c.requires.1 end.result end.ensures) refl c.put.ensures
