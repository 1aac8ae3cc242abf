-- The key is one of the two, or none of them.
use mathlib.Core.Path.{refl, ◌∙◌}
use mathlib.Core.List.{[], ◌∷◌}
use Rattle.mathml_rules.specs.Mathml.{has}
use Rattle.mathml_forms.specs.Keys.{key, ascii, key_of}
use Rattle.mathml_commands.proofs.Keyed.{textual, one-of, none_of, two-of}
use Rattle.mathml_commands.proofs.unary.is_text.Goals as goal

pub returns-in-513684212 : goal.returns-in-513684212
unfolding textual has key_of key ascii
returns-in-513684212 c =
    let s = c.args.s.now in
    one-of textual (513684212 ∷ 521924973 ∷ []) s _ c.key_of.ensures refl refl c.in-513684212.is ∙ two-of s

pub returns-in_default : goal.returns-in_default
unfolding textual has key_of key ascii
returns-in_default c =
    let s = c.args.s.now in
    none_of textual (513684212 ∷ 521924973 ∷ []) s _ c.key_of.ensures refl refl c.in_default.in_default-own.rest.1 ∙ two-of s
