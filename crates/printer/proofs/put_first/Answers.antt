-- The first line.
use mathlib.Core.List.{append_assoc}
use Rattle.tokens.specs.Bytes.{bytes}
use Rattle.writer.specs.Decimal.{decimal}
use Rattle.writer.proofs.Puts.{then, put_as}
use Rattle.line.specs.Print.{first}
use Rattle.printer.proofs.put_first.Goals as goal

pub returns : goal.returns
unfolding first
returns c = put_as (append_assoc (bytes "text=") (decimal c.args.text) _) (then c.put_number-a.ensures (then c.put_number-b.ensures (then c.put_number-c.ensures (then c.put_number-d.ensures c.put_bytes.ensures))))
