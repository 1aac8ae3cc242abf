-- What the row's word holds.
use Rattle.lexer.proofs.Flat.{start_word}
use Rattle.lexer.proofs.row.start_of.Goals as goal

pub returns : goal.returns
returns c = rw c.row_word.ensures (start_word c.args.number c.requires)
