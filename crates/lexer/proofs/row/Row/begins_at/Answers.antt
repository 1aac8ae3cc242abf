-- Byte by byte: what is left of both decides as the whole.
use mathlib.Core.Path.{sym, ◌∙◌}
use Prim.Native.Nat.{◌+◌}
use native.Mathlib.Omega.{arith}
use lib.ListN.{drop, length-drop}
use Rattle.lexer.specs.Constants.{spelling_of}
use Rattle.lexing.proofs.Begins.{begins-past, begins-two, begins-next, begins-other, begins-end}
use Rattle.lexer.proofs.row.Row.begins_at.Goals as goal

pub returns-then-text-at : goal.returns-then-text-at
returns-then-text-at c = sym (begins-past (spelling_of c.args.self) (drop c.args.at c.args.text.now) (omega (arith, length-drop c.args.at c.args.text.now)))

pub loop-j-init : goal.loop-j-init
loop-j-init c = begins-two (spelling_of c.args.self) c.args.text.now c.args.at c.requires.0 c.requires.1 c.requires.2 c.requires.3

pub returns-then-byte-text : goal.returns-then-byte-text
returns-then-byte-text c = sym (c.loop-j.invariant ∙ begins-other (spelling_of c.args.self) c.args.text.now c.loop-j.j (c.args.at + c.loop-j.j) (omega arith) (omega arith) (λ e. c.if-byte-text.true (c.byte.ensures ∙ e)))

pub loop-j-preserved : goal.loop-j-preserved
loop-j-preserved c = c.loop-j.invariant ∙ begins-next (spelling_of c.args.self) c.args.text.now c.args.at c.loop-j.j (omega arith) (omega arith) (sym c.byte.ensures ∙ c.if-byte-text.false)

pub returns : goal.returns
returns c = sym (c.loop-j.invariant ∙ begins-end (spelling_of c.args.self) c.args.text.now c.loop-j.j (c.args.at + c.loop-j.j) (omega arith))
