-- The bit of 32 says whether there is a row.
use mathlib.Core.Path.{ap}
use Rattle.lexer.specs.Lookup.{token_row}
use Rattle.lexer.proofs.FoundWords.{row-set, row-clear}
use Rattle.lexer.proofs.found.row_in.Goals as goal

pub returns-then-found-eq1 : goal.returns-then-found-eq1
returns-then-found-eq1 c = ap token_row (row-set _ c.if-found-eq1.true)

pub returns-else-found-eq1 : goal.returns-else-found-eq1
returns-else-found-eq1 c = ap token_row (row-clear _ c.if-found-eq1.false)
