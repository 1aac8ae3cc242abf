-- The columns of a matrix.
use mathlib.Core.List.{[]}
use Rattle.mathml_rules.specs.declared.Mode.TheVariants as mode
use Rattle.mathml_heads.proofs.Belows.{cols_matrix, cols_other}
use Rattle.mathml_heads.proofs.node.Node.columns.Goals as goal

pub returns-then-self-eq-NODE_MATRIX : goal.returns-then-self-eq-NODE_MATRIX
returns-then-self-eq-NODE_MATRIX c = cols_matrix _ [] _ _ mode.Keep 0 c.word.ensures c.if-self-eq-NODE_MATRIX.true

pub returns-else-self-eq-NODE_MATRIX : goal.returns-else-self-eq-NODE_MATRIX
returns-else-self-eq-NODE_MATRIX c = cols_other _ [] _ _ mode.Keep 0 c.if-self-eq-NODE_MATRIX.false
