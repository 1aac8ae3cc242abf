-- The whole reading by the bracket pass: its takes, marks and closers.
use Rattle.std.specs.Prelude.{ℕ, ◌*◌, ◌%◌, ◌^◌, ◌≡◌, List, true, false, replicate}
use Rattle.reading.specs.Reading.{State, parse_entries}
use Rattle.records.specs.Record.{Kept}
use Rattle.reading_words.specs.Meet.{Input, Given, Marks}
use Rattle.closers_pass.specs.Meet.{Noted}

-- No mark is set, and no entry has a closer.
pub record Blank (n : ℕ) (K : List ℕ) : Type 0 where
  pub marks : Marks n K (replicate (3 * n) false)
  pub noted : Noted n K (replicate n n)

-- The words hold what the reading has come to in the state r; takes are counted round 2^32.
pub record Passed (n : ℕ) (L : List ℕ) (takes : ℕ) (r : State) : Type 0 where
  pub marks : Marks n L r.marks
  pub noted : Noted n L r.closers
  pub count : takes % 2 ^ 32 ≡ r.takes % 2 ^ 32

-- The pass over n records: of any input that they stand for it leaves the whole reading's marks and closers.
pub record Paired (X t : List ℕ) (n : ℕ) (K L : List ℕ) (takes : ℕ) : Type 0 where
  pub kept : Kept K L
  pub means : (I : Input) → Given X t n K I → Blank n K → Passed n L takes (parse_entries I.text I.es true).1
