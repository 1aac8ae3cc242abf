-- The marks one by one, or none.
use mathlib.Core.Path.{◌≡◌, refl, ap, sym}
use native.Mathlib.Omega.{arith}
use Rattle.writer.proofs.Puts.{none, put_as}
use Rattle.mathml_rules.specs.Utf8.{utf8, encoded}
use Rattle.mathml_rules.specs.Pieces.{written}
use Rattle.mathml_rules.specs.Commands.{mark}
use Rattle.mathml_commands.specs.declared.unary.Command.{Command}
use Rattle.mathml_commands.specs.Spelled.{left_mark}
use Rattle.mathml_commands.specs.declared.unary.Command.TheVariants as variant
use Rattle.mathml_commands.specs.contracts.unary.Command as command
use Rattle.mathml_commands.proofs.Keyed.{in_one}
use Rattle.mathml_rules.specs.Mathml.{has}
use Rattle.tokens.proofs.Cases.{clash}
use Prim.Native.Nat.{ℕ}
use mathlib.Core.Bool.{true, false}
use mathlib.Core.List.{[], ◌∷◌}
use denote.Enum.Declared as declared
use types.Run.{OneOf}
use borrow.Enum.Refused.{opened}
use Rattle.mathml_commands.proofs.unary.put_left.Goals as goal

abbrev tag_of : Command → ℕ
tag_of c = declared.tag_of command.the_type c

-- the commands without such a mark
none_left : (c : Command) → has (tag_of c) (0 ∷ 1 ∷ 2 ∷ 7 ∷ 8 ∷ 9 ∷ 10 ∷ 11 ∷ 12 ∷ 13 ∷ 14 ∷ 15 ∷ 16 ∷ []) ≡ true → [] ≡ left_mark c
unfolding has left_mark
none_left variant.Unknown e = refl
none_left variant.Sqrt e = refl
none_left variant.Cancel e = refl
none_left variant.Abs e = clash false e refl
none_left variant.Norm e = clash false e refl
none_left variant.Floor e = clash false e refl
none_left variant.Ceil e = clash false e refl
none_left variant.Hat e = refl
none_left variant.Bar e = refl
none_left variant.Vec e = refl
none_left variant.Dot e = refl
none_left variant.Ddot e = refl
none_left variant.Tilde e = refl
none_left variant.Arc e = refl
none_left variant.Underline e = refl
none_left variant.Ubrace e = refl
none_left variant.Obrace e = refl

no-left : (c : Command) → OneOf (0 ∷ 1 ∷ 2 ∷ 7 ∷ 8 ∷ 9 ∷ 10 ∷ 11 ∷ 12 ∷ 13 ∷ 14 ∷ 15 ∷ 16 ∷ []) (tag_of c) → [] ≡ written (mark (left_mark c))
unfolding written mark has
no-left c h = rw (sym (none_left c (in_one (0 ∷ 1 ∷ 2 ∷ 7 ∷ 8 ∷ 9 ∷ 10 ∷ 11 ∷ 12 ∷ 13 ∷ 14 ∷ 15 ∷ 16 ∷ []) (0 ∷ 1 ∷ 2 ∷ 7 ∷ 8 ∷ 9 ∷ 10 ∷ 11 ∷ 12 ∷ 13 ∷ 14 ∷ 15 ∷ 16 ∷ []) (tag_of c) refl h)))

pub returns-in-Abs : goal.returns-in-Abs
unfolding mark left_mark utf8 encoded
returns-in-Abs c = put_as (ap (λ (d : Command). written (mark (left_mark d))) (sym c.in-Abs.is)) c.put_leaf.ensures

pub returns-in-Norm : goal.returns-in-Norm
unfolding mark left_mark utf8 encoded
returns-in-Norm c = put_as (ap (λ (d : Command). written (mark (left_mark d))) (sym c.in-Norm.is)) c.put_leaf-in-Norm.ensures

pub returns-in-Floor : goal.returns-in-Floor
unfolding mark left_mark utf8 encoded
returns-in-Floor c = put_as (ap (λ (d : Command). written (mark (left_mark d))) (sym c.in-Floor.is)) c.put_leaf-in-Floor.ensures

pub returns-in-Ceil : goal.returns-in-Ceil
unfolding mark left_mark utf8 encoded
returns-in-Ceil c = put_as (ap (λ (d : Command). written (mark (left_mark d))) (sym c.in-Ceil.is)) c.put_leaf-in-Ceil.ensures

pub returns-in_default : goal.returns-in_default
returns-in_default c = put_as (no-left c.args.c (opened c.in_default.in_default-own.keys5)) (none _ _ (omega arith) (omega arith))
