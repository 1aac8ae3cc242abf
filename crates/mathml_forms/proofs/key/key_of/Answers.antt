-- The key is made from the last byte to the first. The invariant: it is the key of the bytes from i on.
use Prim.Native.Nat.{◌-◌}
use native.Mathlib.Omega.{arith}
use Rattle.mathml_forms.proofs.Keys.{key_fits, keyed-first, keyed-next, keyed-all, too_long, too_high}
use Rattle.mathml_forms.proofs.key.key_of.Goals as goal

pub returns-then-s-gt-MOST_BYTES : goal.returns-then-s-gt-MOST_BYTES
returns-then-s-gt-MOST_BYTES c = too_long _ (omega arith)

pub loop-i-init : goal.loop-i-init
loop-i-init c = keyed-first _ (omega arith)

pub bounds-s-i : goal.bounds-s-i
bounds-s-i c = omega (arith, c.loop-i.invariant.inside)

pub overflow_cast-b : goal.overflow_cast-b
overflow_cast-b c = omega (arith, c.shared_slice_known-1.given (c.loop-i.i - 1))

pub returns-then-b-ge128 : goal.returns-then-b-ge128
returns-then-b-ge128 c = too_high _ _ (omega (arith, c.loop-i.invariant.inside)) c.if-b-ge128.true

pub overflow_mul-key : goal.overflow_mul-key
overflow_mul-key c = omega (arith, key_fits c.loop-i.invariant c.loop-i-test.true)

pub overflow_add-key : goal.overflow_add-key
overflow_add-key c = omega (arith, key_fits c.loop-i.invariant c.loop-i-test.true)

pub loop-i-preserved : goal.loop-i-preserved
loop-i-preserved c = keyed-next c.loop-i.invariant c.loop-i-test.true c.if-b-ge128.false

pub returns : goal.returns
returns c = keyed-all c.loop-i.invariant c.loop-i-test.false
