-- `List::begins_at`: where no entry is, nothing begins.
use Rattle.std.proofs.Common.{refl, ◌∙◌}
use Rattle.lookahead.specs.Tests.{begins_kind}
use Rattle.lookahead.proofs.Testing.{test-next}
use Rattle.lookahead.proofs.list.List.begins_at.Goals as goal

pub returns : goal.returns
returns c = c.begins.ensures ∙ test-next _ _ _ (begins_kind c.args.stop) _ refl c.next_kind.ensures
