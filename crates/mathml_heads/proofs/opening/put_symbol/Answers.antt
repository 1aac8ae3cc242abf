-- A symbol by its class.
use native.Mathlib.Omega.{arith}
use mathlib.Core.Path.{ap}
use Rattle.writer.proofs.Puts.{put_as}
use Rattle.mathml_rules.specs.Forms.{shown}
use Rattle.mathml_rules.specs.Pieces.{written, L}
use Prim.Native.Nat.{ℕ}
use mathlib.Core.List.{List}
use mathlib.Core.Path.{◌≡◌}
use Rattle.mathml_heads.proofs.Parts.{glyph, lettered}
use Rattle.mathml_heads.proofs.opening.put_symbol.Goals as goal

drawn-as : (s : List ℕ) {e f : ℕ} → e ≡ f → written (L e (shown s)) ≡ written (L f (shown s))
drawn-as s u = ap (λ (e : ℕ). written (L e (shown s))) u

pub returns-in-2-to-5 : goal.returns-in-2-to-5
returns-in-2-to-5 c = put_as (drawn-as _ (lettered _ (λ n2 n3 n4 n5 n7. grind arith))) c.put_drawn-in-2-to-5.ensures

pub returns-in_default : goal.returns-in_default
returns-in_default c = put_as (drawn-as _ (glyph _ (λ e. grind arith) (λ e. grind arith) (λ e. grind arith) (λ e. grind arith) (λ e. grind arith))) c.put_drawn.ensures
