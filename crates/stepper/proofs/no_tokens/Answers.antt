-- No token waits.
use Rattle.stepper.proofs.no_tokens.Goals as goal

pub returns : goal.returns
returns c = rw (c.no_token.ensures, c.no_token-2.ensures, c.no_token-3.ensures)
