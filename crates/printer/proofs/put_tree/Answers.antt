-- The first line, then the rows of the root.
use Rattle.writer.proofs.Puts.{then}
use Rattle.printer.specs.Call.{print_words}
use Rattle.printer.proofs.put_tree.Goals as goal

pub returns : goal.returns
unfolding print_words
returns c = then c.put_first-end.ensures c.put_row.ensures.put
