-- A token with its place in the text. The Rust has a pair of a &str and a Token.
use Rattle.std.specs.Prelude.{ℕ}
use Rattle.tokens.specs.declared.token.Token.{Token}

-- start and length in the caller's text
pub record Span : Type 0 where
  pub start : ℕ
  pub len : ℕ

pub record Lexeme : Type 0 where
  pub token : Token
  pub span : Span

abbrev pub lexeme : ℕ → ℕ → Token → Lexeme
lexeme s n t = record { token = t; span = record { start = s; len = n } }
