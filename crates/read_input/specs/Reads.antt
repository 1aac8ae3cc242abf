-- What the answers of reads say of the input.
use Rattle.std.specs.Prelude.{ℕ, zero, suc, ◌+◌, ◌≤◌, ◌≡◌, List, length, take, Option, Some, None, Result, Ok, Err}
use Rattle.std.specs.IoError.{error_kind}
use Rattle.std.specs.declared.io.Error.{Error}
use Rattle.std.specs.declared.io.ErrorKind.{ErrorKind}
use Rattle.std.specs.declared.io.ErrorKind.TheVariants.{Interrupted}

-- after a read that failed, by the error's kind
abbrev pub after_error : ErrorKind → Error → ℕ → Result (Option ℕ) Error
after_error Interrupted e done = Ok (Some done)
after_error kind e done = Err e

-- What follows from a read's answer, where `done` bytes were read before: more bytes, or 0 at the input's end. Of those that answer an error,
-- one that a signal interrupted is made again; any other has failed.
abbrev pub next_of : Result ℕ Error → ℕ → Result (Option ℕ) Error
next_of (Ok zero) done = Ok None
next_of (Ok (suc k)) done = Ok (Some (done + suc k))
next_of (Err e) done = after_error (error_kind e) e done

-- what a read that is handed n bytes may answer: an error, or how many bytes it moved, at most n
abbrev pub Moved : ℕ → Result ℕ Error → Type 0
Moved n (Ok k) = k ≤ n
Moved n (Err e) = Unit {0}

-- no more bytes than the buffer has
abbrev pub Fitting : Result (Option ℕ) Error → ℕ → Type 0
Fitting (Ok (Some n)) most = n ≤ most
Fitting (Ok None) most = Unit {0}
Fitting (Err e) most = Unit {0}

-- the bytes that are counted stand first in the buffer
abbrev pub Standing : Option ℕ → List ℕ → Type 0
Standing (Some n) buf = (n ≤ length buf) × (n ≡ length (take n buf))
Standing None buf = Unit {0}
