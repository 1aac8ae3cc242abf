-- `List::stands_alone`: a leaf, and nothing joins it.
use Rattle.std.proofs.Common.{sym, refl, ◌∙◌, arith}
use Rattle.std.proofs.lemmas.Bool.Decides.{nat_tests}
use Rattle.lookahead.specs.Tests.{leaf_only, joins_kind}
use Rattle.lookahead.proofs.Testing.{test_below, test-next}
use Rattle.lookahead.proofs.list.List.stands_alone.Goals as goal

pub overflow_add-i : goal.overflow_add-i
overflow_add-i c = let below = test_below _ _ _ leaf_only _ (sym (c.is_leaf.ensures ∙ test-next _ _ c.args.self.now.n leaf_only c.args.i refl c.next_kind.ensures) ∙ c.if-is_leaf.true) in omega arith

pub returns-then-is_leaf : goal.returns-then-is_leaf
returns-then-is_leaf c = rw (← test-next _ _ _ leaf_only _ refl c.next_kind.ensures, ← c.is_leaf.ensures, c.if-is_leaf.true, ← test-next _ _ _ joins_kind _ refl c.next_kind-then-is_leaf.ensures) (grind (arith, nat_tests))

pub returns-else-is_leaf : goal.returns-else-is_leaf
returns-else-is_leaf c = rw (← test-next _ _ _ leaf_only _ refl c.next_kind.ensures, ← c.is_leaf.ensures, c.if-is_leaf.false)
