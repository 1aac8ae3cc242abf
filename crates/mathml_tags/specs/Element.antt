-- The elements by their numbers (crates/mathml_rules/specs/Elements.antt).
use Rattle.std.specs.Prelude.{ℕ, cond, ltb}
use Rattle.mathml_tags.specs.declared.elements.Element.{Element}
use Rattle.mathml_tags.specs.declared.elements.Element.TheVariants as element

abbrev pub element_number : Element → ℕ
element_number element.MrowMissing = 0
element_number element.Mn = 1
element_number element.Mtext = 2
element_number element.Mi = 3
element_number element.Mo = 4
element_number element.MoSign = 5
element_number element.Mspace = 6
element_number element.MoSymbol = 7
element_number element.MrowSigned = 8
element_number element.MrowSsigned = 9
element_number element.MrowFenced = 10
element_number element.MrowSfunc = 11
element_number element.MfracCommand = 12
element_number element.Msub = 13
element_number element.MrowFunc = 14
element_number element.MrowGroup = 15
element_number element.MrowMatrix = 16
element_number element.Mtd = 17
element_number element.Mfrac = 18
element_number element.Math = 19
element_number element.Msup = 20
element_number element.Msubsup = 21
element_number element.MoTight = 22
element_number element.MoSpaced = 23
element_number element.Msqrt = 24
element_number element.Menclose = 25
element_number element.MoverAccent = 26
element_number element.MunderAccent = 27
element_number element.Mover = 28
element_number element.Munder = 29
element_number element.Mroot = 30
element_number element.Mtable = 31
element_number element.Mtr = 32

-- the number by which an element stands for a number: itself in the table, past it that of an mrow
abbrev pub number_in_table : ℕ → ℕ
number_in_table n = cond (ltb n 33) n 0
