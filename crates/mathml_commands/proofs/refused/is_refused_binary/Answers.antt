-- The key is one of the spellings', or none of them.
use Prim.Native.Nat.{ℕ}
use mathlib.Core.Path.{refl}
use mathlib.Core.List.{List, [], ◌∷◌}
use Rattle.mathml_rules.specs.Mathml.{has}
use Rattle.mathml_rules.specs.Refusal.{refused_binaries}
use Rattle.mathml_forms.specs.Keys.{key, ascii, key_of}
use Rattle.mathml_commands.proofs.Keyed.{one-of, none_of}
use Rattle.mathml_commands.proofs.refused.is_refused_binary.Goals as goal

-- as the match has them
abbrev keys : List ℕ
keys = 29289 ∷ 65195948003 ∷ 65472591459 ∷ []

pub returns-in-29289 : goal.returns-in-29289
unfolding refused_binaries has key_of key ascii
returns-in-29289 c = one-of refused_binaries keys c.args.s.now _ c.key_of.ensures refl refl c.in-29289.is

pub returns-in_default : goal.returns-in_default
unfolding refused_binaries has key_of key ascii
returns-in_default c = none_of refused_binaries keys c.args.s.now _ c.key_of.ensures refl refl c.in_default.in_default-own.rest.1
