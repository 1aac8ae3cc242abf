-- What stands there in the table.
use Rattle.lexer.proofs.Arrays.{second-is}
use Rattle.lexer.proofs.spellings.second_byte.Goals as goal

pub returns : goal.returns
returns c = second-is c.args.row
