-- `List::marks_at`: Super or Sub.
use Rattle.std.proofs.Common.{refl, eq-eqb, ne_eqb}
use Rattle.lookahead.specs.Tests.{marks_kind}
use Rattle.lookahead.proofs.Testing.{test-next}
use Rattle.lookahead.proofs.list.List.marks_at.Goals as goal

pub returns-then-k-eq-SUPER : goal.returns-then-k-eq-SUPER
returns-then-k-eq-SUPER c = rw (← test-next _ _ _ marks_kind _ refl c.next_kind-k.ensures, eq-eqb _ _ c.if-k-eq-SUPER.true)

pub returns-else-k-eq-SUPER : goal.returns-else-k-eq-SUPER
returns-else-k-eq-SUPER c = rw (← test-next _ _ _ marks_kind _ refl c.next_kind-k.ensures, ne_eqb _ _ c.if-k-eq-SUPER.false)
