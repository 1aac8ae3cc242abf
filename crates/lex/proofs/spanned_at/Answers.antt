-- The token of the number, and the span as it stands.
use Rattle.lex.proofs.spanned_at.Goals as goal

pub returns : goal.returns
returns c = rw c.from.ensures
