-- The marks one by one, or none.
use mathlib.Core.Path.{◌≡◌, refl, ap, sym}
use native.Mathlib.Omega.{arith}
use Rattle.writer.proofs.Puts.{none, put_as}
use Rattle.mathml_rules.specs.Utf8.{utf8, encoded}
use Rattle.mathml_rules.specs.Pieces.{written}
use Rattle.mathml_rules.specs.Commands.{mark}
use Rattle.mathml_commands.specs.declared.unary.Command.{Command}
use Rattle.mathml_commands.specs.Spelled.{right_mark}
use Rattle.mathml_commands.specs.declared.unary.Command.TheVariants as variant
use Rattle.mathml_commands.specs.contracts.unary.Command as command
use Rattle.mathml_commands.proofs.Keyed.{in_one}
use Rattle.mathml_rules.specs.Mathml.{has}
use Rattle.tokens.proofs.Cases.{clash}
use Prim.Native.Nat.{ℕ}
use mathlib.Core.Bool.{true, false}
use mathlib.Core.List.{[], ◌∷◌}
use denote.Enum.Declared as declared
use types.Run.{OneOf}
use Rattle.mathml_commands.proofs.unary.put_right.Goals as goal

abbrev tag_of : Command → ℕ
tag_of c = declared.tag_of command.the_type c

-- the commands without such a mark
none_right : (c : Command) → has (tag_of c) (0 ∷ 1 ∷ 2 ∷ []) ≡ true → [] ≡ right_mark c
unfolding has right_mark
none_right variant.Unknown e = refl
none_right variant.Sqrt e = refl
none_right variant.Cancel e = refl
none_right variant.Abs e = clash false e refl
none_right variant.Norm e = clash false e refl
none_right variant.Floor e = clash false e refl
none_right variant.Ceil e = clash false e refl
none_right variant.Hat e = clash false e refl
none_right variant.Bar e = clash false e refl
none_right variant.Vec e = clash false e refl
none_right variant.Dot e = clash false e refl
none_right variant.Ddot e = clash false e refl
none_right variant.Tilde e = clash false e refl
none_right variant.Arc e = clash false e refl
none_right variant.Underline e = clash false e refl
none_right variant.Ubrace e = clash false e refl
none_right variant.Obrace e = clash false e refl

no-right : (c : Command) → OneOf (0 ∷ 1 ∷ 2 ∷ []) (tag_of c) → [] ≡ written (mark (right_mark c))
unfolding written mark has
no-right c h = rw (sym (none_right c (in_one (0 ∷ 1 ∷ 2 ∷ []) (0 ∷ 1 ∷ 2 ∷ []) (tag_of c) refl h)))

pub returns-in-Abs : goal.returns-in-Abs
unfolding mark right_mark utf8 encoded
returns-in-Abs c = put_as (ap (λ (d : Command). written (mark (right_mark d))) (sym c.in-Abs.is)) c.put_leaf.ensures

pub returns-in-Norm : goal.returns-in-Norm
unfolding mark right_mark utf8 encoded
returns-in-Norm c = put_as (ap (λ (d : Command). written (mark (right_mark d))) (sym c.in-Norm.is)) c.put_leaf-in-Norm.ensures

pub returns-in-Floor : goal.returns-in-Floor
unfolding mark right_mark utf8 encoded
returns-in-Floor c = put_as (ap (λ (d : Command). written (mark (right_mark d))) (sym c.in-Floor.is)) c.put_leaf-in-Floor.ensures

pub returns-in-Ceil : goal.returns-in-Ceil
unfolding mark right_mark utf8 encoded
returns-in-Ceil c = put_as (ap (λ (d : Command). written (mark (right_mark d))) (sym c.in-Ceil.is)) c.put_leaf-in-Ceil.ensures

pub returns-in-Hat : goal.returns-in-Hat
unfolding mark right_mark utf8 encoded
returns-in-Hat c = put_as (ap (λ (d : Command). written (mark (right_mark d))) (sym c.in-Hat.is)) c.put_leaf-in-Hat.ensures

pub returns-in-Bar : goal.returns-in-Bar
unfolding mark right_mark utf8 encoded
returns-in-Bar c = put_as (ap (λ (d : Command). written (mark (right_mark d))) (sym c.in-Bar.is)) c.put_leaf-in-Bar.ensures

pub returns-in-Vec : goal.returns-in-Vec
unfolding mark right_mark utf8 encoded
returns-in-Vec c = put_as (ap (λ (d : Command). written (mark (right_mark d))) (sym c.in-Vec.is)) c.put_leaf-in-Vec.ensures

pub returns-in-Dot : goal.returns-in-Dot
unfolding mark right_mark utf8 encoded
returns-in-Dot c = put_as (ap (λ (d : Command). written (mark (right_mark d))) (sym c.in-Dot.is)) c.put_leaf-in-Dot.ensures

pub returns-in-Ddot : goal.returns-in-Ddot
unfolding mark right_mark utf8 encoded
returns-in-Ddot c = put_as (ap (λ (d : Command). written (mark (right_mark d))) (sym c.in-Ddot.is)) c.put_leaf-in-Ddot.ensures

pub returns-in-Tilde : goal.returns-in-Tilde
unfolding mark right_mark utf8 encoded
returns-in-Tilde c = put_as (ap (λ (d : Command). written (mark (right_mark d))) (sym c.in-Tilde.is)) c.put_leaf-in-Tilde.ensures

pub returns-in-Arc : goal.returns-in-Arc
unfolding mark right_mark utf8 encoded
returns-in-Arc c = put_as (ap (λ (d : Command). written (mark (right_mark d))) (sym c.in-Arc.is)) c.put_leaf-in-Arc.ensures

pub returns-in-Underline : goal.returns-in-Underline
unfolding mark right_mark utf8 encoded
returns-in-Underline c = put_as (ap (λ (d : Command). written (mark (right_mark d))) (sym c.in-Underline.is)) c.put_leaf-in-Underline.ensures

pub returns-in-Ubrace : goal.returns-in-Ubrace
unfolding mark right_mark utf8 encoded
returns-in-Ubrace c = put_as (ap (λ (d : Command). written (mark (right_mark d))) (sym c.in-Ubrace.is)) c.put_leaf-in-Ubrace.ensures

pub returns-in-Obrace : goal.returns-in-Obrace
unfolding mark right_mark utf8 encoded
returns-in-Obrace c = put_as (ap (λ (d : Command). written (mark (right_mark d))) (sym c.in-Obrace.is)) c.put_leaf-in-Obrace.ensures

pub returns-in_default : goal.returns-in_default
returns-in_default c = put_as (no-right c.args.c c.in_default.in_default-own.keys15) (none _ _ (omega arith) (omega arith))
