-- Whether a node is refused, by its kind.
use Rattle.std.proofs.Common.{◌∙◌, arith}
use Rattle.mathml_heads.proofs.Refusals.{refuses-plain, refuses-unary, refuses-binary, refuses-group, refuses-matrix, refuses-other}
use Rattle.mathml_heads.proofs.node.Node.is_refused.Goals as goal

pub returns-in-1-to-9 : goal.returns-in-1-to-9
returns-in-1-to-9 c = c.has_control.ensures ∙ refuses-plain _ _ _ _ c.left_text-s.ensures (λ n1 n2 n3 n4 n5 n6 n7 n8 n9 n11 n14. grind arith)

pub returns-in-10 : goal.returns-in-10
returns-in-10 c = c.refuses_unary.ensures ∙ refuses-unary _ _ _ _ c.left_text-s.ensures c.in-10.is

pub returns-in-12 : goal.returns-in-12
returns-in-12 c = c.refuses_binary.ensures ∙ refuses-binary _ _ _ _ c.left_text-s.ensures c.in-12.is

pub returns-in-15 : goal.returns-in-15
returns-in-15 c = c.refuses_brackets.ensures ∙ refuses-group _ _ _ _ c.left_text-s.ensures c.right_text.ensures c.in-15.is

pub returns-in-16 : goal.returns-in-16
returns-in-16 c = c.refuses_matrix.ensures ∙ refuses-matrix _ _ _ _ c.left_text-s.ensures c.right_text-in-16.ensures c.word.ensures c.lines_at.ensures c.in-16.is

pub returns-in_default : goal.returns-in_default
returns-in_default c = refuses-other _ _ _ _ c.left_text-s.ensures (λ e. grind arith) (λ e. grind arith) (λ e. grind arith) (λ e. grind arith) (λ e. grind arith) (λ e. grind arith) (λ e. grind arith) (λ e. grind arith) (λ e. grind arith) (λ e. grind arith) (λ e. grind arith) (λ e. grind arith) (λ e. grind arith) (λ e. grind arith) (λ e. grind arith)

pub returns-in_default-2 : goal.returns-in_default-2
returns-in_default-2 c = refuses-other _ _ _ _ c.left_text-s.ensures (λ e. grind arith) (λ e. grind arith) (λ e. grind arith) (λ e. grind arith) (λ e. grind arith) (λ e. grind arith) (λ e. grind arith) (λ e. grind arith) (λ e. grind arith) (λ e. grind arith) (λ e. grind arith) (λ e. grind arith) (λ e. grind arith) (λ e. grind arith) (λ e. grind arith)
