-- The key of a spelling, or none.
use mathlib.Core.Path.{refl, ap}
use mathlib.Core.Logic.{inl, inr, ⊎_elim}
use native.Mathlib.Omega.{arith}
use Rattle.tokens.specs.Bytes.{bytes, same}
use Rattle.mathml_rules.specs.Commands.{exchanging}
use Rattle.mathml_rules.specs.Parts.{binary_element}
use Rattle.mathml_forms.specs.Keys.{key, ascii, key_of}
use Rattle.mathml_commands.proofs.Keyed.{spelled, other_key}
use Rattle.mathml_commands.proofs.Spellings.{no_binary}
use Rattle.mathml_commands.proofs.binary.binary_element.Goals as goal

pub returns-in-513538034 : goal.returns-in-513538034
unfolding binary_element exchanging same key_of key ascii
returns-in-513538034 c = ap (binary_element exchanging) (spelled c.args.s.now (bytes "root") _ 513538034 c.key_of.ensures c.in-513538034.is refl (omega arith))

pub returns-in-133304337647041139 : goal.returns-in-133304337647041139
unfolding binary_element exchanging same key_of key ascii
returns-in-133304337647041139 c = ⊎_elim (λ k. ap (binary_element exchanging) (spelled c.args.s.now (bytes "overset") _ 1076624793107311 c.key_of.ensures k refl (omega arith))) (λ k. ap (binary_element exchanging) (spelled c.args.s.now (bytes "stackrel") _ 133304337647041139 c.key_of.ensures k refl (omega arith))) c.in-133304337647041139.is

pub returns-in-137807973517440885 : goal.returns-in-137807973517440885
unfolding binary_element exchanging same key_of key ascii
returns-in-137807973517440885 c = ap (binary_element exchanging) (spelled c.args.s.now (bytes "underset") _ 137807973517440885 c.key_of.ensures c.in-137807973517440885.is refl (omega arith))

pub returns-in_default : goal.returns-in_default
unfolding exchanging key_of key ascii
returns-in_default c =
    let s = c.args.s.now in
    let r = c.in_default.in_default-own.rest in
    no_binary s exchanging (other_key s (bytes "root") _ 513538034 c.key_of.ensures r.0.0.1 refl, (other_key s (bytes "stackrel") _ 133304337647041139 c.key_of.ensures (λ k. r.0.1 (inr k)) refl, (other_key s (bytes "overset") _ 1076624793107311 c.key_of.ensures (λ k. r.0.1 (inl k)) refl, (other_key s (bytes "underset") _ 137807973517440885 c.key_of.ensures r.1 refl, tt))))
