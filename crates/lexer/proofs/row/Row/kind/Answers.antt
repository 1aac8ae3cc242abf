-- What the row's word holds.
use native.Mathlib.Omega.{arith}
use Rattle.lexer.proofs.Flat.{kind-word}
use Rattle.lexer.proofs.row.Row.kind.Goals as goal

pub returns : goal.returns
returns c = (rw (c.row_word.ensures, c.self.view_is) (kind-word c.args.self (omega arith)), rw c.self.view_is at c.self.invariant)
