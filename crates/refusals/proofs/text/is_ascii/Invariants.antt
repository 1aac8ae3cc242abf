-- `is_ascii`: while no byte before is 128 or more, the rest decides.
use mathlib.Core.Path.{◌≡◌}
use Rattle.tokens.specs.Refusals.{ascii}
use Rattle.refusals.proofs.Ascii.{ascii_from}
use Rattle.refusals.proofs.text.is_ascii.Given as goal

abbrev pub invariant-loop-byte : goal.invariant-loop-byte
invariant-loop-byte l = ascii l.text ≡ ascii_from l.ok l.byte-index l.text
