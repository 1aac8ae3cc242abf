use mathlib.Core.Path.{sym, ap}
use mathlib.Core.List.{List}
use Prim.Native.Nat.{ℕ}
use Rattle.tokens.specs.Refusals.{Answer}
use Rattle.asciimath_answers.proofs.Passing.{given-as}
use Rattle.asciimath.proofs.asciimath_mathml.Goals as goal

pub returns : goal.returns
returns c =
    let e = c.mathml.ensures in
    let g = given-as (ap (λ (p : Answer × List ℕ × List ℕ × List ℕ × List ℕ). p.0) (sym e)) c.give.ensures in
    (g.code, ap (λ (p : Answer × List ℕ × List ℕ × List ℕ × List ℕ). p.1) e, ap (λ (p : Answer × List ℕ × List ℕ × List ℕ × List ℕ). p.2) e, ap (λ (p : Answer × List ℕ × List ℕ × List ℕ × List ℕ). p.3) e, ap (λ (p : Answer × List ℕ × List ℕ × List ℕ × List ℕ). p.4) e, g.values)
