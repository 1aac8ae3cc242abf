-- The numbers of the token kinds and the tokens are inverse to each other.
use mathlib.Core.Path.{◌≡◌, refl, sym, ap, ◌∙◌}
use mathlib.Core.List.{List, [], ◌∷◌, map}
use Prim.Native.Nat.{ℕ, zero, suc, ◌+◌, ◌≤◌, ◌<◌}
use native.Mathlib.Omega.{arith}
use native.Mathlib.Nat.{zero-add, not-suc-le-zero, le_of_suc-le-suc}
use lib.ListN.{get_or, get_or-map, get_or-eq_default}
use Rattle.tokens.specs.declared.token.SymbolClass.TheVariants as class
use Rattle.tokens.specs.declared.token.Token.{Token}
use Rattle.tokens.specs.declared.token.Token.TheVariants.{Frac, Super, Sub, Sep, Number, Text, Ident, Operator, Symbol, Sign, Function, Unary, Binary, OpenBracket, CloseBracket, OpenCloseBracket, Space}
use Rattle.tokens.specs.Kinds.{number_of, kinds, token_of}
use Rattle.tokens.proofs.Cases.{by_lt}

-- the n numbers from i on
numbers_from : ℕ → ℕ → List ℕ
numbers_from i zero = []
numbers_from i (suc n) = i ∷ numbers_from (suc i) n

numbers_at : (i n k d : ℕ) → k < n → get_or (numbers_from i n) k d ≡ i + k
unfolding numbers_from
numbers_at i zero k d h = absurd (not-suc-le-zero h)
numbers_at i (suc n) zero d h = omega arith
numbers_at i (suc n) (suc k) d h = omega (arith, numbers_at (suc i) n k d (le_of_suc-le-suc h))

kinds-count : map number_of kinds ≡ numbers_from 0 24
unfolding numbers_from
kinds-count = refl

pub number-of_token : (n : ℕ) → n < 24 → number_of (token_of n) ≡ n
number-of_token n h =
    sym (get_or-map number_of kinds n Space)
    ∙ ap (λ (l : List ℕ). get_or l n 23) kinds-count
    ∙ numbers_at 0 24 n 23 h
    ∙ zero-add n

pub token-of_number : (t : Token) → token_of (number_of t) ≡ t
token-of_number Frac = refl
token-of_number Super = refl
token-of_number Sub = refl
token-of_number Sep = refl
token-of_number Number = refl
token-of_number Text = refl
token-of_number Ident = refl
token-of_number Operator = refl
token-of_number (Symbol class.Glyph) = refl
token-of_number (Symbol class.Name) = refl
token-of_number (Symbol class.Joining) = refl
token-of_number (Symbol class.JoiningName) = refl
token-of_number (Symbol class.Leading) = refl
token-of_number (Symbol class.LeadingName) = refl
token-of_number (Symbol class.Space) = refl
token-of_number (Symbol class.Separator) = refl
token-of_number Sign = refl
token-of_number Function = refl
token-of_number Unary = refl
token-of_number Binary = refl
token-of_number OpenBracket = refl
token-of_number CloseBracket = refl
token-of_number OpenCloseBracket = refl
token-of_number Space = refl

-- past the 24 kinds, token_of answers Space, whose number is 23
pub number_small : (t : Token) → number_of t ≤ 23
number_small t =
    by_lt 23 (number_of t)
    (λ l.
    let e = ap number_of (sym (token-of_number t) ∙ get_or-eq_default kinds Space {n = number_of t} l) in
    omega arith)
    (λ l. l)
