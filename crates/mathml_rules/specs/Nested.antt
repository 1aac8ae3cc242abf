-- MATHML.md, section 7, 2: "Nesting, over the output bytes": a reader of bytes with a stack of names. It knows nothing of pieces or
-- of the table of elements.
use Rattle.std.specs.Prelude.{Bool, true, false, List, [], ◌∷◌, ◌++◌, ℕ, eqb}
use Rattle.tokens.specs.Bytes.{same}
use Rattle.lexing.specs.Rules.{letter}
use Rattle.mathml_rules.specs.Run.{run}

-- the names of the elements that are open, the innermost first
abbrev pub Stack : Type 0
Stack = List (List ℕ)

-- Where the reader is.
pub data State : Type 0 where
  -- outside tags
  content : Stack → State
  -- behind `<`
  opened : Stack → State
  -- in the name of a start tag, and of an end tag, with the bytes so far
  starting : List ℕ → Stack → State
  ending : List ℕ → Stack → State
  -- in a start tag behind its name
  attributes : Stack → State
  -- behind the end tag that left the stack empty; and where no state allows the byte
  whole wrong : State

-- "at the end the stack is empty, and it was empty at no place before the end but the start": once empty again it is the end
unfoldable pub popped : Stack → State
popped [] = State.whole
popped (t ∷ st) = State.content (t ∷ st)

-- "`</`name`>` must equal the top and pops it"
unfoldable pub closed : List ℕ → Stack → State
closed n [] = State.wrong
closed n (t ∷ st) = elim (same n t) [ true ↦ popped st | false ↦ State.wrong ]

unfoldable pub step : State → ℕ → State
-- "outside tags a byte needs a non-empty stack and is not `>`"
step (State.content []) c = elim (eqb c 60) [ true ↦ State.opened [] | false ↦ State.wrong ]
step (State.content (t ∷ st)) c =
    elim (eqb c 60) [
      | true ↦ State.opened (t ∷ st)
      | false ↦
          elim (eqb c 62) [ true ↦ State.wrong | false ↦ State.content (t ∷ st) ]
    ]
-- names are letters, one at least
step (State.opened st) c =
    elim (letter c) [
      | true ↦ State.starting (c ∷ []) st
      | false ↦
          elim (eqb c 47) [ true ↦ State.ending [] st | false ↦ State.wrong ]
    ]
-- "`<`name, up to byte 32 or `>`, pushes it, then all up to `>` is skipped"
step (State.starting n st) c =
    elim (letter c) [
      | true ↦ State.starting (n ++ (c ∷ [])) st
      | false ↦
          elim (eqb c 62) [
            | true ↦ State.content (n ∷ st)
            | false ↦
                elim (eqb c 32) [ true ↦ State.attributes (n ∷ st) | false ↦ State.wrong ]
          ]
    ]
step (State.ending n st) c =
    elim (letter c) [
      | true ↦ State.ending (n ++ (c ∷ [])) st
      | false ↦
          elim (eqb c 62) [ true ↦ closed n st | false ↦ State.wrong ]
    ]
step (State.attributes st) c =
    elim (eqb c 62) [
      | true ↦ State.content st
      | false ↦
          elim (eqb c 60) [ true ↦ State.wrong | false ↦ State.attributes st ]
    ]
step State.whole c = State.wrong
step State.wrong c = State.wrong

abbrev pub reads : State → List ℕ → State
reads q s = run step q s

unfoldable pub is_whole : State → Bool
is_whole (State.content st) = false
is_whole (State.opened st) = false
is_whole (State.starting n st) = false
is_whole (State.ending n st) = false
is_whole (State.attributes st) = false
is_whole State.whole = true
is_whole State.wrong = false

unfoldable pub nested : List ℕ → Bool
nested s = is_whole (reads (State.content []) s)
