use Rattle.std.proofs.Common.{◌≤◌, length}
use Rattle.read_input.proofs.fill.Given as goal

-- what was read stands first in the buffer
abbrev pub invariant-loop : goal.invariant-loop
invariant-loop g l = l.done ≤ length l.buf
