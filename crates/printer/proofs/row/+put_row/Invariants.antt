-- The measure is what is left of the words; midway through a row, lines of it are put, and those of the nodes that are left are the others.
use Prim.Native.Nat.{◌-◌}
use lib.ListN.{length}
use Rattle.printer.specs.Rows.{row_of}
use Rattle.printer.proofs.Walks.{Midway}
use Rattle.printer.proofs.row.+put_row.Given as goal

abbrev pub decreases-put_row : goal.decreases-put_row
decreases-put_row l = length l.words.now - l.from

abbrev pub invariant-all : goal.invariant-all
invariant-all l = Midway l.words l.initial.out l.from l.place (row_of l.words l.from l.count l.items l.depth) l.out l.at l.end l.left l.sort l.level

abbrev pub decreases-all : goal.decreases-all
decreases-all l = length l.words - l.at
