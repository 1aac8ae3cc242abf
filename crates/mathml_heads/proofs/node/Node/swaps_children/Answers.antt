-- Whether the children are exchanged.
use Rattle.std.proofs.Common.{◌∙◌}
use borrow.Author.Tests.{ne_eqb}
use Rattle.mathml_rules.specs.declared.Mode.TheVariants as mode
use Rattle.mathml_heads.proofs.Belows.{swaps-binary, swaps-other}
use Rattle.mathml_heads.proofs.node.Node.swaps_children.Goals as goal

pub returns-then-self-eq-NODE_BINARY : goal.returns-then-self-eq-NODE_BINARY
returns-then-self-eq-NODE_BINARY c = c.is_exchanging.ensures ∙ swaps-binary _ _ _ _ mode.Keep 0 c.left_text.ensures c.if-self-eq-NODE_BINARY.true

pub returns-else-self-eq-NODE_BINARY : goal.returns-else-self-eq-NODE_BINARY
returns-else-self-eq-NODE_BINARY c = ne_eqb _ 12 c.if-self-eq-NODE_BINARY.false ∙ swaps-other _ _ _ _ mode.Keep 0 c.if-self-eq-NODE_BINARY.false
