-- A row's word has its bit of 32.
use mathlib.Core.Path.{ap, ◌∙◌}
use mathlib.Core.Option.{some}
use Rattle.lexer.proofs.FoundWords.{row_word}
use Rattle.lexer.proofs.found.word_of.Goals as goal

pub returns : goal.returns
returns c = row_word _ ∙ ap some c.number.ensures.0
