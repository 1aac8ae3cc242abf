-- There is no element past the table.
use mathlib.Core.Path.{sym}
use native.Mathlib.Omega.{arith}
use borrow.Author.Tests.{le-ltb}
use Rattle.std.proofs.lemmas.List.{get_or_past}
use Rattle.mathml_rules.specs.Elements.{element, elements, element_of}
use Rattle.mathml_tags.proofs.elements.ElementFromUsize.from.Goals as goal

pub returns-in-33-to-max : goal.returns-in-33-to-max
unfolding element_of elements
returns-in-33-to-max c = (sym (get_or_past elements c.args.n (element "mrow" "") (omega arith)), rw (le-ltb c.args.n 33 (omega arith)))
