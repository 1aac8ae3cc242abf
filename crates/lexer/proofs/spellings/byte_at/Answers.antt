-- What stands there in the table.
use mathlib.Core.Path.{ap}
use mathlib.Core.List.{List}
use Prim.Native.Nat.{ℕ}
use lib.ListN.{get_or}
use Rattle.lexer.proofs.Arrays.{the_table}
use Rattle.lexer.proofs.spellings.byte_at.Goals as goal

pub returns : goal.returns
returns c = ap (λ (bytes : List ℕ). get_or bytes c.args.i 0) the_table.bytes-are
