-- Right mark and end tag, if the command has an element.
use mathlib.Core.Path.{refl}
use native.Mathlib.Omega.{arith}
use Rattle.writer.proofs.Puts.{none, then, put_as}
use Rattle.mathml_commands.proofs.Spellings.{is_none, is_some_of, finish-none, finish-some}
use Rattle.mathml_commands.proofs.unary.put_finish_unary.Goals as goal

pub returns-in_default : goal.returns-in_default
returns-in_default c =
    put_as (finish-none _ _ 0 c.command_of-c.ensures (is_none _ _ c.element_of.ensures c.in_default.is) refl) (none _ _ (omega arith) (omega arith))

pub returns : goal.returns
returns c =
    let some = is_some_of _ _ c.in-Some.e c.element_of.ensures c.in-Some.is in
    put_as (finish-some _ _ _ c.command_of-c.ensures some.0 some.1) (then c.put_right-end.ensures c.put_end.ensures)
