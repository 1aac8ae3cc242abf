-- The line of a refusal: document 01, 'The printed tree'.
use Rattle.std.specs.Prelude.{ℕ, List, ◌++◌}
use Rattle.tokens.specs.Bytes.{bytes}
use Rattle.writer.specs.Decimal.{decimal}
use Rattle.line.specs.Print.{newline}

-- "any other refusal as `refused=` with its number"; "Every line ends in a newline byte."
unfoldable pub refusal : ℕ → List ℕ
refusal k = bytes "refused=" ++ (decimal k ++ newline)
