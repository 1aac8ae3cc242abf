-- The place is the start, and no token waits.
use Rattle.stepper.proofs.Tokenizer.new.Goals as goal

pub returns : goal.returns
returns c = rw c.no_tokens.ensures
