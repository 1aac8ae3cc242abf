-- Bytes that are written whole or not at all.
use Rattle.std.specs.Prelude.{ℕ, true, false, List, [], ◌∷◌, ◌++◌, ltb, length, drop}
use Rattle.tokens.specs.Refusals.{Answer, accepted, refused}

-- Refusal k where the buffer is shorter than the bytes, which leaves it unchanged; else the bytes, their length answered, and the rest of
-- the buffer unchanged.
unfoldable pub fitted_by : ℕ → List ℕ → List ℕ → Answer × List ℕ
fitted_by k bytes out =
    elim (ltb (length out) (length bytes)) [
      | true ↦ (refused k, out)
      | false ↦ (accepted (length bytes ∷ []), bytes ++ drop (length bytes) out)
    ]
