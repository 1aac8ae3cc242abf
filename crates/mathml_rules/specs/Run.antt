-- A reader goes through a list step by step. Nested.antt, Children.antt and Wellcoded.antt have one each.
use Rattle.std.specs.Prelude.{Bool, true, ◌&&◌, List, [], ◌∷◌}

unfoldable pub run : {Q A : Type 0} → (Q → A → Q) → Q → List A → Q
run step q [] = q
run step q (a ∷ l) = run step (step q a) l

-- a test of every element
abbrev pub every : {A : Type 0} → (A → Bool) → List A → Bool
every test [] = true
every test (a ∷ l) = test a && every test l
