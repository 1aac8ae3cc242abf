-- The token table, document 01, 'Buffers and counts': "Token table: three u32 words a token: start, length, kind."
use Rattle.std.specs.Prelude.{true, false, List, [], ◌∷◌, ℕ, zero, suc, eqb, get_or, drop}
use Rattle.tokens.specs.declared.token.Token.TheVariants.{Space}
use Rattle.tokens.specs.Kinds.{number_of, token_of}
use Rattle.tokens.specs.Lexeme.{Lexeme, lexeme}

-- the words of a token list
unfoldable pub table_words : List Lexeme → List ℕ
table_words [] = []
table_words (t ∷ ts) = t.span.start ∷ t.span.len ∷ number_of t.token ∷ table_words ts

-- the token list in the first words of a table: `count` tokens
unfoldable pub token_list : ℕ → List ℕ → List Lexeme
token_list zero table = []
token_list (suc count) table =
    lexeme (get_or table 0 0) (get_or table 1 0) (token_of (get_or table 2 0)) ∷ token_list count (drop 3 table)

-- n of document 01: "the tokens other than Space"
unfoldable pub count_others : List Lexeme → ℕ
count_others [] = 0
count_others (t ∷ ts) = elim (eqb (number_of t.token) (number_of Space)) [ true ↦ count_others ts | false ↦ suc (count_others ts) ]
