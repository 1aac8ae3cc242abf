-- `List::heads_at`: a function, or a sign where it prefixes.
use Rattle.std.proofs.Common.{eq-eqb, ne_eqb}
use Rattle.lookahead.specs.Tests.{heads_kind}
use Rattle.lookahead.proofs.Testing.{test-next, no_head}
use Rattle.lookahead.proofs.list.List.heads_at.Goals as goal

pub returns-then-k-eq-FUNCTION : goal.returns-then-k-eq-FUNCTION
returns-then-k-eq-FUNCTION c = rw (← test-next _ _ _ (heads_kind c.args.sign) _ (no_head c.args.sign) c.next_kind-k.ensures, eq-eqb _ _ c.if-k-eq-FUNCTION.true)

pub returns-then-sign : goal.returns-then-sign
returns-then-sign c = rw (← test-next _ _ _ (heads_kind c.args.sign) _ (no_head c.args.sign) c.next_kind-k.ensures, ne_eqb _ _ c.if-k-eq-FUNCTION.false, c.if-sign.true)

pub returns-else-sign : goal.returns-else-sign
returns-else-sign c = rw (← test-next _ _ _ (heads_kind c.args.sign) _ (no_head c.args.sign) c.next_kind-k.ensures, ne_eqb _ _ c.if-k-eq-FUNCTION.false, c.if-sign.false)
