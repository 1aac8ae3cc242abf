use Rattle.parse.proofs.Wrapping.{parsed}
use lib.ListN.{length, replicate}
use Prim.Native.Nat.{ℕ, ◌-◌}
use native.Mathlib.Omega.{arith}
use mathlib.Core.Path.{◌≡◌, refl, ap, ◌∙◌}
use Rattle.parse.proofs.top.build_tree.Goals as goal

pub returns : goal.returns
returns c = let r = c.read_items-run.ensures in let hy = c.read_items-run.auto.tree in let z : length c.read_items-run.new.work - 0 ≡ length c.args.work.now = omega (arith, c.read_items-run.auto.work) in (record { reads = parsed c.wrap_items.new.tree c.requires.safe.few c.struct_known-1.given.0.1.1.0.fits r refl (c.wrap_items.ensures r.noted) hy (c.wrap_items.auto.tree ∙ hy) c.clear_from.ensures; work_after = c.clear_from-2.ensures ∙ ap (λ (k : ℕ). replicate k 0) z })
