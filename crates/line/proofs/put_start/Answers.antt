-- A line's depth and name.
use mathlib.Core.List.{append_assoc}
use Rattle.tokens.specs.Bytes.{bytes}
use Rattle.writer.specs.Decimal.{decimal}
use Rattle.writer.proofs.Puts.{then, put_as}
use Rattle.line.specs.Lines.{start_of}
use Rattle.line.proofs.put_start.Goals as goal

pub returns : goal.returns
unfolding start_of
returns c = put_as (append_assoc (bytes "depth=") (decimal c.args.depth) _) (then c.put_number-a.ensures (then c.put_bytes-b.ensures (rw (← c.name.ensures) c.put_bytes.ensures)))
