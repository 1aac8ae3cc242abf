-- The invariant: the lines before i are let pass.
use native.Mathlib.Numerals.{add-one}
use mathlib.Core.Path.{sym, ◌∙◌}
use Rattle.mathml_commands.proofs.Boundaries.{first, higher, lower, at_zero, at_cols, at_both, all-passed}
use Rattle.mathml_commands.proofs.refused.refuses_lines.Goals.{then-line-highest, else-line-highest+else-has_line}
use Rattle.mathml_commands.proofs.refused.refuses_lines.Goals as goal

pub loop-i-init : goal.loop-i-init
loop-i-init c = first _ _

pub returns-then-line-eq0 : goal.returns-then-line-eq0
returns-then-line-eq0 c =
    let a = c.args in
    let l = c.loop-i in
    at_zero a.cols a.lines.now l.i c.loop-i-test.true c.if-line-eq0.true

pub returns-then-line-cols : goal.returns-then-line-cols
returns-then-line-cols c =
    let a = c.args in
    let l = c.loop-i in
    at_cols a.cols a.lines.now l.i c.loop-i-test.true c.if-line-cols.true

pub returns-then-has_line : goal.returns-then-has_line
returns-then-has_line c =
    let a = c.args in
    let l = c.loop-i in
    at_both a.cols a.lines.now l.i c.loop-i-test.true (sym c.if-has_line.true ∙ c.has_line.ensures)

pub loop-i-preserved : goal.loop-i-preserved
loop-i-preserved c =
    let a = c.args in
    let l = c.loop-i in
    let h = c.loop-i-test.true in
    let z = c.if-line-eq0.false in
    let y = c.if-line-cols.false in
    rw add-one
    (elim c.if-line-highest.branch [
      | then-line-highest w ↦ rw w.highest-is (higher a.cols a.lines.now l.highest l.i l.invariant h z y w.if-line-highest.true)
      | else-line-highest+else-has_line w ↦ rw w.highest-is (lower a.cols a.lines.now l.highest l.i l.invariant h z y w.if-line-highest.false (sym w.if-has_line.false ∙ w.has_line.ensures))
    ])

pub returns : goal.returns
returns c = let l = c.loop-i in all-passed _ _ l.highest l.i l.invariant c.loop-i-test.false
