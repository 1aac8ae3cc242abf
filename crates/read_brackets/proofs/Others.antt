-- The tokens other than Space in the first tokens of a table, counted one token further.
use Prim.Native.Nat.{ℕ, zero, suc, ◌+◌, ◌*◌, ◌≤◌, ◌<◌}
use mathlib.Core.Path.{◌≡◌, ap, ◌∙◌}
use mathlib.Core.List.{List, [], ◌∷◌}
use native.Mathlib.Omega.{arith}
use native.Mathlib.Numerals.{add-one}
use lib.ListN.{get_or, drop}
use lib.Seq.{get_or-drop}
use Rattle.tokens.specs.Kinds.{number_of, token_of}
use Rattle.tokens.specs.Lexeme.{Lexeme, lexeme}
use Rattle.tokens.specs.Table.{token_list, count_others}
use Rattle.tokens.proofs.Cases.{by_eq}
use Rattle.tokens.proofs.TokenList.{kind-space, kind-other, count-space, count-other}

abbrev kind_at : List ℕ → ℕ → ℕ
kind_at table j = get_or table (3 * j + 2) 0

-- the kind of the token behind the first
behind : (table : List ℕ) (j : ℕ) → kind_at (drop 3 table) j ≡ kind_at table (suc j)
behind table j = let e : 3 + (3 * j + 2) ≡ 3 * suc j + 2 = omega arith in get_or-drop 3 table (3 * j + 2) 0 ∙ ap (λ (k : ℕ). get_or table k 0) e

module _ (table : List ℕ) where
  abbrev first : Lexeme
  first = lexeme (get_or table 0 0) (get_or table 1 0) (token_of (get_or table 2 0))

  -- what one token more adds to the others behind the first, it adds to all
  more : (a b : List Lexeme) (d : ℕ) → count_others b ≡ d + count_others a → count_others (first ∷ b) ≡ d + count_others (first ∷ a)
  more a b d h =
      by_eq (number_of first.token) 23
      (λ z. omega (arith, count-space first a z, count-space first b z))
      (λ z. omega (arith, count-other first a z, count-other first b z))

same : (table : List ℕ) (j : ℕ) → 23 ≤ kind_at table j → count_others (token_list (suc j) table) ≡ 0 + count_others (token_list j table)
unfolding token_list
same table zero h = omega (arith, count-space (first table) [] (kind-space (kind_at table 0) h))
same table (suc j) h = more table _ _ 0 (same (drop 3 table) j (rw (behind table j) h))

next : (table : List ℕ) (j : ℕ) → kind_at table j < 23 → count_others (token_list (suc j) table) ≡ 1 + count_others (token_list j table)
unfolding token_list
next table zero h = omega (arith, count-other (first table) [] (kind-other (kind_at table 0) h))
next table (suc j) h = more table _ _ 1 (next (drop 3 table) j (rw (behind table j) h))

pub others_same : (table : List ℕ) (j : ℕ) → 23 ≤ kind_at table j → count_others (token_list (j + 1) table) ≡ count_others (token_list j table)
others_same table j h = rw add-one (omega (arith, same table j h))

pub others-next : (table : List ℕ) (j : ℕ) → kind_at table j < 23 → count_others (token_list (j + 1) table) ≡ suc (count_others (token_list j table))
others-next table j h = rw add-one (omega (arith, next table j h))
