-- What stands there in the table.
use mathlib.Core.Path.{ap}
use mathlib.Core.List.{List}
use Prim.Native.Nat.{ℕ}
use lib.ListN.{get_or}
use Rattle.lexer.proofs.Arrays.{the_table}
use Rattle.lexer.proofs.spellings.row_word.Goals as goal

pub returns : goal.returns
returns c = ap (λ (rows : List ℕ). get_or rows c.args.row 0) the_table.rows_are
