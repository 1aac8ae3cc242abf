-- The column lines with commas, or none.
use Rattle.std.proofs.Common.{ℕ, ◌≡◌, ◌-◌, List, length, take, drop, ap, sym, ◌∙◌, add-one, arith}
use Rattle.std.proofs.lemmas.List.{take_all, length-drop}
use borrow.Author.Tests.{eqb-true, eqb-false}
use Rattle.line.specs.Print.{field, more}
use Rattle.writer.proofs.Puts.{none, then, put_as}
use Rattle.line.proofs.Fields.{commas-none, more-take, commas-all}
use Rattle.line.proofs.put_lines.Goals as goal

rest : (l : List ℕ) → take (length l - 1) (drop 1 l) ≡ drop 1 l
rest l = take_all (length l - 1) (drop 1 l) (omega (arith, length-drop 1 l))

pub returns-then-is_empty : goal.returns-then-is_empty
returns-then-is_empty c = put_as (ap (λ (v : List ℕ). field "lines" v) (commas-none _ (eqb-true _ 0 (sym c.is_empty.ensures ∙ c.if-is_empty.true)))) c.put_bytes.ensures

pub loop-line-init : goal.loop-line-init
unfolding more
loop-line-init c = none _ _ (omega arith) (omega arith)

pub loop-line-preserved : goal.loop-line-preserved
loop-line-preserved c =
    rw add-one (put_as (more-take (drop 1 c.args.lines.now) c.loop-line.line-index (rw (rest c.args.lines.now) at c.loop-line-test.true)) (then c.loop-line.invariant (rw (rest c.args.lines.now) at c.put_number-end-in-loop-line.ensures)))

pub shape_of-out : goal.shape_of-out
shape_of-out c = c.loop-line.invariant.same ∙ c.put_number-end.ensures.same

pub returns : goal.returns
returns c =
    put_as (ap (λ (v : List ℕ). field "lines" v) (commas-all c.args.lines.now c.loop-line.line-index (eqb-false _ 0 (sym c.is_empty.ensures ∙ c.if-is_empty.false)) (rw (rest c.args.lines.now) at c.loop-line-test.false)))
    (then c.put_number-end.ensures c.loop-line.invariant)
