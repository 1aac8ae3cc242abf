-- `refused=` and the number, then the newline.
use Rattle.std.proofs.Common.{append_assoc}
use Rattle.tokens.specs.Bytes.{bytes}
use Rattle.writer.specs.Decimal.{decimal}
use Rattle.line.specs.Print.{newline}
use Rattle.writer.proofs.Puts.{then, put_as}
use Rattle.read_output.specs.Line.{refusal}
use Rattle.read_output.proofs.put_refusal.Goals as goal

pub returns : goal.returns
unfolding refusal
returns c = put_as (append_assoc (bytes "refused=") (decimal c.args.number) newline) (then c.put_number-end.ensures c.put_bytes.ensures)
