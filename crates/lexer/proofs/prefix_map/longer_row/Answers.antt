-- Downwards: no row from `past` on with more bytes begins the text.
use mathlib.Core.Path.{sym, ap, ◌∙◌}
use Prim.Native.Nat.{ℕ, ◌-◌}
use native.Mathlib.Omega.{arith}
use lib.ListN.{get_or}
use Rattle.std.specs.Prelude.{Some}
use Rattle.lexer.specs.Constants.{spelling_of}
use Rattle.tokens.proofs.Cases.{by_eq, clash}
use Rattle.lexer.proofs.Lookup.{longer-row, seconds_rise, fits_at, longer-none, longer-found}
use Rattle.lexer.proofs.prefix_map.longer_row.Goals as goal
use Rattle.lexer.proofs.prefix_map.longer_row.Goals.{then-past-low-via-then-past-low, then-past-low-via-else-past-low+then-text-at-lt2}

pub returns-then-past-low : goal.returns-then-past-low
returns-then-past-low c =
    longer-none c.args.text.now c.args.at
    (λ k f. elim c.then-past-low.branch [
      | then-past-low-via-then-past-low w ↦ omega (arith, f.low, f.high, w.if-past-low.true)
      | then-past-low-via-else-past-low+then-text-at-lt2 w ↦ omega (arith, w.if-text-at-lt2.true, f.inside)
    ])

pub new-requires : goal.new-requires
new-requires c = (longer-row (get_or c.args.text.now c.args.at 0) c.longer_rows-low.result.0 (omega arith) (omega arith)).below

pub returns-then-x-second : goal.returns-then-x-second
returns-then-x-second c = let b = get_or c.args.text.now c.args.at 0 in longer-none c.args.text.now c.args.at (λ k f. omega (arith, f.second_is, rw c.new.ensures at c.second.ensures, seconds_rise b c.longer_rows-low.result.0 k (longer-row b c.longer_rows-low.result.0 (omega arith) (omega arith)) (longer-row b k f.low f.high) (omega (arith, f.low))))

pub new-row-requires : goal.new-row-requires
new-row-requires c = (longer-row (get_or c.args.text.now c.args.at 0) (c.loop-number.number - 1) (omega arith) (omega arith)).below

pub returns-then-b-x-2 : goal.returns-then-b-x-2
returns-then-b-x-2 c = let b = get_or c.args.text.now c.args.at 0 in longer-none c.args.text.now c.args.at (λ k f. omega (arith, f.second_is, rw c.new-row.ensures at c.second-b.ensures, seconds_rise b k (c.loop-number.number - 1) (longer-row b k f.low f.high) (longer-row b (c.loop-number.number - 1) (omega arith) (omega arith)) (omega (arith, c.loop-number.invariant k f))))

pub begins_at-requires : goal.begins_at-requires
begins_at-requires c = let w = longer-row (get_or c.args.text.now c.args.at 0) (c.loop-number.number - 1) (omega arith) (omega arith) in rw c.new-row.ensures (w.second, omega arith, w.first-is, sym (rw c.new-row.ensures at c.second-b.ensures) ∙ omega arith)

pub returns-then-begins_at : goal.returns-then-begins_at
unfolding fits_at
returns-then-begins_at c = let w = longer-row (get_or c.args.text.now c.args.at 0) (c.loop-number.number - 1) (omega arith) (omega arith) in ap (λ (k : ℕ). Some k) c.new-row.ensures ∙ longer-found c.args.text.now c.args.at (c.loop-number.number - 1) w.below (sym (rw c.new-row.ensures at c.begins_at.ensures) ∙ c.if-begins_at.true) w.second (λ j f. omega (arith, c.loop-number.invariant j f))

pub loop-number-preserved-else-begins_at : goal.loop-number-preserved-else-begins_at
unfolding fits_at
loop-number-preserved-else-begins_at c = λ k f. by_eq k (c.loop-number.number - 1)
    (λ q. clash (fits_at c.args.text.now c.args.at k) f.fits-is (ap (fits_at c.args.text.now c.args.at) q ∙ sym (rw c.new-row.ensures at c.begins_at.ensures) ∙ c.if-begins_at.false))
    (λ q. omega (arith, c.loop-number.invariant k f))

pub loop-number-preserved : goal.loop-number-preserved
loop-number-preserved c = λ k f. by_eq k (c.loop-number.number - 1)
    (λ q. absurd (omega (arith, rw c.new-row.ensures at c.second-b.ensures, ap (λ (j : ℕ). get_or (spelling_of j) 1 0) q, f.second_is)))
    (λ q. omega (arith, c.loop-number.invariant k f))

pub returns : goal.returns
returns c = longer-none c.args.text.now c.args.at (λ k f. omega (arith, c.loop-number.invariant k f, f.low))
