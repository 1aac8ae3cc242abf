-- `List::first_look`: the tests in their order.
use Rattle.std.proofs.Common.{◌+◌, sym, refl, ◌∙◌, arith, le-ltb, lt-ltb}
use Rattle.lookahead.specs.Tests.{leaf_only, joins_kind, begins_kind, plain_at, over_at, look_at}
use Rattle.lookahead.proofs.Testing.{test_below, test-next, leaf-begins}
use Rattle.lookahead.proofs.list.List.first_look.Goals as goal

pub returns-then-depth-ge-MAX_ITEM_DEPTH : goal.returns-then-depth-ge-MAX_ITEM_DEPTH
unfolding plain_at over_at look_at
returns-then-depth-ge-MAX_ITEM_DEPTH c = rw (le-ltb c.args.depth 255 (omega (arith, c.if-depth-ge-MAX_ITEM_DEPTH.true)))

pub overflow_add-i : goal.overflow_add-i
overflow_add-i c = let below = test_below c.args.self.now.tok.now c.args.work.now c.args.self.now.n leaf_only c.args.i (sym (c.is_leaf.ensures ∙ test-next c.args.self.now.tok.now c.args.work.now c.args.self.now.n leaf_only c.args.i refl c.next_kind-k.ensures) ∙ c.if-is_leaf.true) in omega arith

pub returns-then-next_kind-lt-SEP : goal.returns-then-next_kind-lt-SEP
unfolding plain_at over_at look_at
returns-then-next_kind-lt-SEP c = let l = sym (c.is_leaf.ensures ∙ test-next c.args.self.now.tok.now c.args.work.now c.args.self.now.n leaf_only c.args.i refl c.next_kind-k.ensures) ∙ c.if-is_leaf.true in rw (lt-ltb c.args.depth 255 (omega (arith, c.if-depth-ge-MAX_ITEM_DEPTH.false)), l, sym (test-next c.args.self.now.tok.now c.args.work.now c.args.self.now.n joins_kind (c.args.i + 1) refl c.next_kind.ensures) ∙ lt-ltb _ _ c.if-next_kind-lt-SEP.true, leaf-begins c.args.self.now.tok.now c.args.work.now c.args.self.now.n c.args.stop c.args.i l)

pub returns-then-is_leaf : goal.returns-then-is_leaf
unfolding plain_at over_at look_at
returns-then-is_leaf c = rw (lt-ltb c.args.depth 255 (omega (arith, c.if-depth-ge-MAX_ITEM_DEPTH.false)), sym (c.is_leaf.ensures ∙ test-next c.args.self.now.tok.now c.args.work.now c.args.self.now.n leaf_only c.args.i refl c.next_kind-k.ensures) ∙ c.if-is_leaf.true, sym (test-next c.args.self.now.tok.now c.args.work.now c.args.self.now.n joins_kind (c.args.i + 1) refl c.next_kind.ensures) ∙ le-ltb _ _ c.if-next_kind-lt-SEP.false)

pub returns-then-begins : goal.returns-then-begins
unfolding plain_at over_at look_at
returns-then-begins c = rw (lt-ltb c.args.depth 255 (omega (arith, c.if-depth-ge-MAX_ITEM_DEPTH.false)), sym (c.is_leaf.ensures ∙ test-next c.args.self.now.tok.now c.args.work.now c.args.self.now.n leaf_only c.args.i refl c.next_kind-k.ensures) ∙ c.if-is_leaf.false, sym (c.begins.ensures ∙ test-next c.args.self.now.tok.now c.args.work.now c.args.self.now.n (begins_kind c.args.stop) c.args.i refl c.next_kind-k.ensures) ∙ c.if-begins.true)

pub returns : goal.returns
unfolding plain_at over_at look_at
returns c = rw (lt-ltb c.args.depth 255 (omega (arith, c.if-depth-ge-MAX_ITEM_DEPTH.false)), sym (c.is_leaf.ensures ∙ test-next c.args.self.now.tok.now c.args.work.now c.args.self.now.n leaf_only c.args.i refl c.next_kind-k.ensures) ∙ c.if-is_leaf.false, sym (c.begins.ensures ∙ test-next c.args.self.now.tok.now c.args.work.now c.args.self.now.n (begins_kind c.args.stop) c.args.i refl c.next_kind-k.ensures) ∙ c.if-begins.false)
