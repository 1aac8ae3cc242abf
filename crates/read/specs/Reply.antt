-- What the program writes for the bytes of its input: document 01, 'The printed tree'.
use Rattle.std.specs.Prelude.{ℕ, ◌≤◌, ◌≡◌, true, false, List, ltb, length, take}
use Rattle.std.proofs.Math.Option.{none, some}
use Rattle.tokens.specs.Refusals.{text_refusal}
use Rattle.print.specs.Call.{print_of}
use Rattle.read_output.specs.Line.{refusal}

-- "its print buffer 65,536 bytes long"
abbrev pub print_room : ℕ
print_room = 65536

-- "over 500 bytes"
abbrev pub most : ℕ
most = 500

-- "A program, its print buffer 65,536 bytes long, reads standard input and prints; over 500 bytes it prints `refused=1`", before the
-- bytes are looked at. Its other buffers are never too short: what is left of a call's refusals is 2, and 10.
unfoldable pub reply_to : List ℕ → List ℕ
reply_to text =
    elim (ltb most (length text)) [
      | true ↦ refusal 1
      | false ↦
          elim (text_refusal text) [
            | some k ↦ refusal k
            | none ↦
                elim (ltb print_room (length (print_of text))) [ true ↦ refusal 10 | false ↦ print_of text ]
          ]
    ]

-- the bytes stand first in the buffer, and are counted
pub record Written (line out : List ℕ) (n : ℕ) : Type 0 where
  pub count : n ≡ length line
  pub fits : n ≤ length out
  pub first : take n out ≡ line
