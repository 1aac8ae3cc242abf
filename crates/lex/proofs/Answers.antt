-- One read as the code's answer: a refusal, what is read, or the end.
use mathlib.Core.Path.{◌≡◌, sym}
use mathlib.Core.List.{List}
use mathlib.Core.Option.{none, some}
use Prim.Native.Nat.{ℕ, ◌≤◌, ◌<◌}
use lib.ListN.{length}
use borrow.Author.Tests.{lt-ltb, le-ltb}
use Rattle.lexing.specs.Rules.{byte_at, read_at, token_row_at}
use Rattle.lexer.specs.Listing.{place_refusal}
use Rattle.std.specs.Prelude.{Ok, Err, Some, None}
use Rattle.lex.specs.Lex.{lexing, lexed_at}

module _ (text : List ℕ) (at : ℕ) where
  pub lex_refused : (k : ℕ) → place_refusal text at ≡ some k → Err k ≡ lexed_at text at
  unfolding lexed_at
  lex_refused k e = sym (rw (e, lexed_at))

  module _ (a : place_refusal text at ≡ none) where
    pub lex_end : length text ≤ at → Ok None ≡ lexed_at text at
    unfolding lexed_at
    lex_end l = sym (rw (a, lexed_at) (rw (le-ltb at (length text) l)))

    pub lex_read : at < length text → Ok (Some (lexing (read_at byte_at text at) (token_row_at text at))) ≡ lexed_at text at
    unfolding lexed_at
    lex_read l = sym (rw (a, lexed_at) (rw (lt-ltb at (length text) l)))
