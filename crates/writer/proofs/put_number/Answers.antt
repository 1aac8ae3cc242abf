-- A field: its name, then its number.
use Rattle.writer.proofs.Puts.{then}
use Rattle.writer.proofs.put_number.Goals as goal

pub returns : goal.returns
returns c = then c.put_bytes-end.ensures c.put_decimal.ensures
