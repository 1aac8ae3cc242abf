-- Words written and moved in a buffer: all of them, or none if one would stand past its end.
use Rattle.std.specs.Prelude.{cond, ℕ, ◌+◌, List, length, leb}
use Rattle.std.proofs.lemmas.List.Edits.{sets}
use Rattle.std.proofs.Math.Seq.{paste}

-- the words ws from i on
unfoldable pub stored : List ℕ → ℕ → List ℕ → List ℕ
stored x i ws = cond (leb (i + length ws) (length x)) (sets x i ws) x

-- the first `end` words, `by` places on
unfoldable pub shifted : List ℕ → ℕ → ℕ → List ℕ
shifted x end by = cond (leb (by + end) (length x)) (paste x by x end) x
