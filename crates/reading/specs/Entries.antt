-- What the parser of parse.rs reads: the tokens other than Space, each with the Space before it, and the bracket precompute.
use Rattle.std.specs.Prelude.{ℕ, zero, suc, List, [], ◌∷◌, Bool, true, false, ◌&&◌, ◌||◌, eqb}
use Rattle.std.proofs.Math.Option.{Option, none, some}
use Rattle.tokens.specs.declared.token.Token.{Token}
use Rattle.tokens.specs.declared.token.Token.TheVariants as token
use Rattle.tokens.specs.Kinds.{number_of}
use Rattle.tokens.specs.Lexeme.{Span, Lexeme}
use Rattle.tree.specs.Tree.{nowhere}

-- Entry of parse.rs: a token other than Space, with the span of the Space directly before it (of length 0: none).
pub record Entry : Type 0 where
  pub token : Token
  pub span : Span
  pub space : Span

unfoldable pub is : Token → Entry → Bool
is t e = eqb (number_of t) (number_of e.token)

-- Parser::new. "A Space token is never taken, and of neighbouring Space tokens only the last can leave an item." `space` is the
-- Space before the next token.
unfoldable pub entries : Span → List Lexeme → List Entry
entries space [] = []
entries space (t ∷ ts) =
    elim (eqb (number_of t.token) (number_of token.Space)) [
      | true ↦ entries t.span ts
      | false ↦ record { token = t.token; span = t.span; space = space } ∷ entries nowhere ts
    ]

-- Entry's `close`: how many entries on the CloseBracket stands that closes a bracket, `depth` others being closed before it.
-- Brackets are matched by OpenBracket and CloseBracket alone, whatever their texts.
unfoldable pub close_after : ℕ → List Entry → Option ℕ
close_after depth [] = none
close_after depth (e ∷ es) =
    elim (is token.OpenBracket e) [
      | true ↦ further (close_after (suc depth) es)
      | false ↦ elim (is token.CloseBracket e) [
        | true ↦ elim depth [ zero ↦ some zero | suc d ↦ further (close_after d es) ]
        | false ↦ further (close_after depth es)
      ]
    ]
  where
    further : Option ℕ → Option ℕ
    further none = none
    further (some n) = some (suc n)

-- Entry's `has_sep`: whether a Sep stands directly in the bracket, not in one inside it.
unfoldable pub has_sep : ℕ → List Entry → Bool
has_sep depth [] = false
has_sep depth (e ∷ es) =
    elim (is token.OpenBracket e) [
      | true ↦ has_sep (suc depth) es
      | false ↦ elim (is token.CloseBracket e) [
        | true ↦ elim depth [ zero ↦ false | suc d ↦ has_sep d es ]
        | false ↦ (is token.Sep e && eqb depth zero) || has_sep depth es
      ]
    ]
