-- What the words of the byte and of the next one hold.
use Prim.Native.Nat.{◌+◌}
use native.Mathlib.Omega.{arith}
use Rattle.lexer.proofs.Flat.{first_word, longer-word, word-small}
use Rattle.lexer.proofs.spellings.longer_rows.Goals as goal

pub overflow_add-result : goal.overflow_add-result
overflow_add-result c = omega (arith, word-small c.args.c)

pub returns : goal.returns
returns c = (rw c.byte_word.ensures (longer-word c.args.c), rw c.byte_word-2.ensures (first_word (c.args.c + 1)))
