-- The word as it stands.
use mathlib.Core.Path.{ap, ◌∙◌}
use mathlib.Core.List.{List}
use Prim.Native.Nat.{ℕ}
use lib.ListN.{get_or}
use Rattle.lexer.proofs.Flat.{word-as_is}
use Rattle.lexer.proofs.Arrays.{the_table}
use Rattle.lexer.proofs.spellings.byte_word.Goals as goal

pub returns : goal.returns
returns c = ap (λ (first : List ℕ). get_or first c.args.c 0) the_table.first-are ∙ word-as_is c.args.c c.requires
