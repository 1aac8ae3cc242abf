-- What is turned back, document 01, 'Turned back, by whoever caused it': each refusal by its number, under exactly its
-- condition, in the order given there.
use Rattle.std.specs.Prelude.{◌≡◌, Bool, true, false, ◌&&◌, List, [], ◌∷◌, ℕ, zero, suc, ◌+◌, ◌*◌, eqb, ltb, length, get_or, drop}
use Rattle.std.proofs.Math.Option.{Option, none, some}

-- An answer in the words of document 01: an accepted call's values, or the number of a refusal.
pub data Answer : Type 0 where
  accepted : List ℕ → Answer
  refused : ℕ → Answer

-- a yes or no among the values
abbrev pub bit : Bool → ℕ
bit true = 1
bit false = 0

-- every byte is below 128
unfoldable pub ascii : List ℕ → Bool
ascii [] = true
ascii (c ∷ s) = elim (ltb c 128) [ true ↦ ascii s | false ↦ false ]

-- "The candidate: 1 text over 4,096 bytes; 2 a byte of 128 or more."
unfoldable pub text_refusal : List ℕ → Option ℕ
text_refusal text =
    elim (ltb 4096 (length text)) [
      | true ↦ some 1
      | false ↦
          elim (ascii text) [ true ↦ none | false ↦ some 2 ]
    ]

-- whether the kind is Space and the span has a byte: what a Space may not directly follow
unfoldable pub long_space : ℕ → ℕ → Bool
long_space len kind = elim (eqb kind 23) [ true ↦ ltb 0 len | false ↦ false ]

-- "token by token 4, 5, 6": "4 a kind above 23; 5 a span past the text, start and length added without wrapping; 6 a Space
-- token directly after a Space of length 1 or more". The text has `size` bytes; `after` says that the token before is such
-- a Space.
unfoldable pub tokens_refusal : ℕ → Bool → ℕ → List ℕ → Option ℕ
tokens_refusal size after zero table = none
tokens_refusal size after (suc count) table =
    let start = get_or table 0 0 in
    let len = get_or table 1 0 in
    let kind = get_or table 2 0 in
    elim (ltb 23 kind) [
      | true ↦ some 4
      | false ↦
          elim (ltb size (start + len)) [
            | true ↦ some 5
            | false ↦
                elim (after && eqb kind 23) [
                  | true ↦ some 6
                  | false ↦
                      tokens_refusal size (long_space len kind) count (drop 3 table)
                ]
          ]
    ]

-- "3 more than 4,096 tokens claimed, or a table with fewer than three words for each", then the tokens
unfoldable pub table_refusal : ℕ → ℕ → List ℕ → Option ℕ
table_refusal size count table =
    elim (ltb 4096 count) [
      | true ↦ some 3
      | false ↦
          elim (ltb (length table) (3 * count)) [ true ↦ some 3 | false ↦ tokens_refusal size false count table ]
    ]

-- "For a token list: 1, 2, 3, then token by token 4, 5, 6": a list of `count` tokens in a table is accepted if none meets it
unfoldable pub list_refusal : List ℕ → ℕ → List ℕ → Option ℕ
list_refusal text count table =
    elim (text_refusal text) [ some k ↦ some k | none ↦ table_refusal (length text) count table ]

-- "Work needs 4 × (n + 1) words, tree 32 × (n + 1)": "8 work too short; 9 tree too short". n is the number of tokens other than
-- Space; the buffers have this many words. 01's 4 is `words` here, the work words of an entry.
unfoldable pub room_refusal_by : ℕ → ℕ → ℕ → ℕ → Option ℕ
room_refusal_by words n work tree =
    elim (ltb work (words * (n + 1))) [
      | true ↦ some 8
      | false ↦
          elim (ltb tree (32 * (n + 1))) [ true ↦ some 9 | false ↦ none ]
    ]

-- "Two words a token, 2 × (n + 1) in all, must do for what four did": "refusal 8 moves to the new length".
abbrev pub entry_words : ℕ
entry_words = 2

abbrev pub room_refusal : ℕ → ℕ → ℕ → Option ℕ
room_refusal n work tree = room_refusal_by entry_words n work tree

-- "For condition 3 a text or token list is accepted if none of the refusals 1 to 6 meets it, whatever the buffers."
abbrev pub AcceptedText : List ℕ → Type 0
AcceptedText text = text_refusal text ≡ none

abbrev pub AcceptedList : List ℕ → ℕ → List ℕ → Type 0
AcceptedList text count table = list_refusal text count table ≡ none
