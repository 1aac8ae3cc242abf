-- The key is one of the spellings', or none of them.
use Prim.Native.Nat.{ℕ}
use mathlib.Core.Path.{refl}
use mathlib.Core.List.{List, [], ◌∷◌}
use Rattle.mathml_rules.specs.Mathml.{has}
use Rattle.mathml_rules.specs.Refusal.{fonts}
use Rattle.mathml_forms.specs.Keys.{key, ascii, key_of}
use Rattle.mathml_commands.proofs.Keyed.{one-of, none_of}
use Rattle.mathml_commands.proofs.refused.is_refused_unary.Goals as goal

-- as the match has them
abbrev keys : List ℕ
keys = 29026 ∷ 29155 ∷ 29555 ∷ 31078 ∷ 31337 ∷ 31348 ∷ 3715426 ∷ 477688162 ∷ 484241762 ∷ 509194594 ∷ 513438050 ∷ 513438579 ∷ 7791827562733 ∷ 7929266516205 ∷ 7933829918957 ∷ 8412177690978 ∷ 8412181901549 ∷ 8415134691565 ∷ 1041298666369261 ∷ 132723794176192749 ∷ []

pub returns-in-29026 : goal.returns-in-29026
unfolding fonts has key_of key ascii
returns-in-29026 c = one-of fonts keys c.args.s.now _ c.key_of.ensures refl refl c.in-29026.is

pub returns-in_default : goal.returns-in_default
unfolding fonts has key_of key ascii
returns-in_default c = none_of fonts keys c.args.s.now _ c.key_of.ensures refl refl c.in_default.in_default-own.rest.1
