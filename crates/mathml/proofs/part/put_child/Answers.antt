-- What stands before a child.
use mathlib.Core.Path.{refl, ap, ◌∙◌}
use Prim.Native.Nat.{ℕ}
use Rattle.mathml_rules.specs.Parts.{cells_left}
use Rattle.mathml.proofs.part.put_child.Goals as goal

pub inner_place-child-requires : goal.inner_place-child-requires
inner_place-child-requires c = c.requires

pub returns : goal.returns
returns c = let a = c.args in record { more = refl; place = c.inner_place-child.ensures; mode = c.mode_below.ensures; row = c.cells_left.ensures ∙ ap (λ (z : ℕ). cells_left z a.left) c.columns.ensures; put = c.put_before-end.ensures }
