-- The mode of a child.
use Rattle.std.proofs.Common.{◌∙◌, arith}
use mathlib.Core.Logic.{⊎_elim}
use Rattle.mathml_heads.proofs.Belows.{mode-unary, mode-binary, mode-simple, mode-func, mode-frac, mode-other}
use Rattle.mathml_heads.proofs.node.Node.mode_below.Goals as goal

pub returns-in-10 : goal.returns-in-10
returns-in-10 c = c.text_mode.ensures ∙ mode-unary _ _ _ _ _ _ c.left_text.ensures c.in-10.is

pub returns-in-12 : goal.returns-in-12
returns-in-12 c = ⊎_elim (λ e. mode-binary _ _ _ _ _ _ e) (λ e. mode-frac _ _ _ _ _ _ e) c.in-12.is

pub returns-in-13 : goal.returns-in-13
returns-in-13 c = c.simple_mode.ensures ∙ mode-simple _ _ _ _ _ _ c.word.ensures c.in-13.is

pub returns-in-14 : goal.returns-in-14
returns-in-14 c = c.func_mode.ensures ∙ mode-func _ _ _ _ _ _ c.word-in-14.ensures c.in-14.is

pub returns-in_default : goal.returns-in_default
returns-in_default c = mode-other _ _ _ _ _ _ (λ e. grind arith) (λ e. grind arith) (λ e. grind arith) (λ e. grind arith) (λ e. grind arith)
