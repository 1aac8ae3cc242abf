-- The starred strings of document 01, 'Strings to try', as one equation between two tables, computed from the texts' bytes: for each
-- text its whole token list, its whole tree and its takes. Behind them a second table, of misreadings.
use Prim.Native.Nat.{ℕ}
use Prim.Native.String.{String}
use mathlib.Core.Path.{◌≡◌, refl}
use mathlib.Core.List.{List, [], ◌∷◌, map}
use Rattle.tokens.specs.declared.token.SymbolClass.TheVariants as class
use Rattle.tokens.specs.declared.token.Token.TheVariants.{Super, Sep, Sign, Number, Text, Ident, Operator, Symbol, Unary, OpenBracket, CloseBracket, OpenCloseBracket}
use Rattle.tokens.specs.Bytes.{bytes, same}
use Rattle.tokens.specs.Lexeme.{Span, Lexeme, lexeme}
use Rattle.lexing.specs.Spellings.{rows}
use Rattle.lexing.specs.Longest as longest
use Rattle.lexing.specs.Rules as rules
use Rattle.lexing.specs.Rules.{tokens}
use Rattle.tree.specs.Tree.{nowhere, Script, Head, Atom, Prefix, Node, node, Nodes, end, ◌▸◌, leaf, one}
use Rattle.reading.specs.Entries.{is, entries, close_after, has_sep}
use Rattle.reading.specs.Reading.{Reading, unscripted, read_text, stops, any, marks_script, heads, begins, slot, return, ◌>>=◌, when◌then◌else◌, here, current, closed, prefixes, text_of, is_byte, same_text, is_at, close_of, is_bar, closes, could_be_matrix, advance, failed, give_up, attempt, is_bar_symbol, is_unscripted, is_column_line, line_cells, both_lines, line_cols, kept_cols, column_lines, keep_cells, join_rows, row_brackets, alike, split_column_lines, argument, next_script, next_script_func, next_intermediate, spaced, at_open_close, intermediates, row_cells, next_matrix_row, more_rows, next_matrix_rows, makes_matrix, matrix_body, try_matrix, next_open_group, bar_body, next_open_close_group, next_bracket, begun, next_simple, step, level, last_of, parse, parse_entries, reading_by, ends_operand, atom_ends, look}

-- What a text's reading is: its tokens, and its tree and takes.
pub record Whole : Type 0 where
  pub list : List Lexeme
  pub reading : Reading

pub record Case : Type 0 where
  pub text : String
  pub list : List Lexeme
  pub tree : Nodes
  pub takes : ℕ

abbrev at : ℕ → ℕ → Span
at s n = record { start = s; len = n }

-- a tree's parts: a leaf of one byte, an unscripted item
abbrev byte : Atom → ℕ → Node
byte a s = leaf (Head.atom a (at s 1))

abbrev item : Atom → ℕ → Node
item a s = unscripted (byte a s)

abbrev comma : ℕ → Node
comma s = item (Atom.symbol class.Separator) s

abbrev cell : Atom → ℕ → Node
cell a s = one Head.cell (item a s)

-- The strings, with what document 01 says of each.
unfoldable pub starred : List Case
starred =
    -- no items, 0 takes
    record { text = ""; list = []; tree = end; takes = 0 } ∷
    -- Number `1.`, Operator, Operator
    record {
      text = "1...";
      list = lexeme 0 2 Number ∷ lexeme 2 1 Operator ∷ lexeme 3 1 Operator ∷ [];
      tree = unscripted (leaf (Head.atom Atom.number (at 0 2))) ▸ item Atom.operator 2 ▸ item Atom.operator 3 ▸ end;
      takes = 10;
    } ∷
    -- Symbol(Joining)
    record {
      text = "\\";
      list = lexeme 0 1 (Symbol class.Joining) ∷ [];
      tree = item (Atom.symbol class.Joining) 0 ▸ end;
      takes = 2;
    } ∷
    -- Unary, OpenBracket, Text `a b`, CloseBracket, Ident
    record {
      text = "text (a b)c";
      list = lexeme 0 4 Unary ∷ lexeme 5 1 OpenBracket ∷ lexeme 6 3 Text ∷ lexeme 9 1 CloseBracket ∷ lexeme 10 1 Ident ∷ [];
      tree =
          unscripted
          (one (Head.prefix Prefix.unary (at 0 4))
          (one (Head.group (at 5 1) (at 9 1)) (unscripted (leaf (Head.atom Atom.text (at 6 3)))))) ▸
          item Atom.ident 10 ▸ end;
      takes = 14;
    } ∷
    -- the third token has length 0
    record {
      text = "text(";
      list = lexeme 0 4 Unary ∷ lexeme 4 1 OpenBracket ∷ lexeme 5 0 Text ∷ [];
      tree =
          unscripted
          (one (Head.prefix Prefix.unary (at 0 4))
          (one (Head.group (at 4 1) nowhere) (unscripted (leaf (Head.atom Atom.text (at 5 0)))))) ▸ end;
      takes = 5;
    } ∷
    -- Operator, Ident, Ident
    record {
      text = "\"ab";
      list = lexeme 0 1 Operator ∷ lexeme 1 1 Ident ∷ lexeme 2 1 Ident ∷ [];
      tree = item Atom.operator 0 ▸ item Atom.ident 1 ▸ item Atom.ident 2 ▸ end;
      takes = 10;
    } ∷
    -- matrix, 2 columns, 4 cells
    record {
      text = "[[1,2],[3,4]]";
      list =
          lexeme 0 1 OpenBracket ∷ lexeme 1 1 OpenBracket ∷ lexeme 2 1 Number ∷ lexeme 3 1 Sep ∷ lexeme 4 1 Number ∷
          lexeme 5 1 CloseBracket ∷ lexeme 6 1 Sep ∷ lexeme 7 1 OpenBracket ∷ lexeme 8 1 Number ∷ lexeme 9 1 Sep ∷
          lexeme 10 1 Number ∷ lexeme 11 1 CloseBracket ∷ lexeme 12 1 CloseBracket ∷ [];
      tree =
          unscripted
          (node (Head.matrix (at 0 1) (at 12 1) 2 [])
          (cell Atom.number 2 ▸ cell Atom.number 4 ▸ cell Atom.number 8 ▸ cell Atom.number 10 ▸ end)) ▸ end;
      takes = 34;
    } ∷
    -- group
    record {
      text = "{(a,b),(c,d)}";
      list =
          lexeme 0 1 OpenBracket ∷ lexeme 1 1 OpenBracket ∷ lexeme 2 1 Ident ∷ lexeme 3 1 Sep ∷ lexeme 4 1 Ident ∷
          lexeme 5 1 CloseBracket ∷ lexeme 6 1 Sep ∷ lexeme 7 1 OpenBracket ∷ lexeme 8 1 Ident ∷ lexeme 9 1 Sep ∷
          lexeme 10 1 Ident ∷ lexeme 11 1 CloseBracket ∷ lexeme 12 1 CloseBracket ∷ [];
      tree =
          unscripted
          (node (Head.group (at 0 1) (at 12 1))
          (unscripted (node (Head.group (at 1 1) (at 5 1)) (item Atom.ident 2 ▸ comma 3 ▸ item Atom.ident 4 ▸ end)) ▸
          comma 6 ▸
          unscripted (node (Head.group (at 7 1) (at 11 1)) (item Atom.ident 8 ▸ comma 9 ▸ item Atom.ident 10 ▸ end)) ▸ end)) ▸ end;
      takes = 78;
    } ∷
    -- 2 columns, 4 cells, lines 1
    record {
      text = "[(a,|,b),(c,|,d)]";
      list =
          lexeme 0 1 OpenBracket ∷ lexeme 1 1 OpenBracket ∷ lexeme 2 1 Ident ∷ lexeme 3 1 Sep ∷ lexeme 4 1 OpenCloseBracket ∷
          lexeme 5 1 Sep ∷ lexeme 6 1 Ident ∷ lexeme 7 1 CloseBracket ∷ lexeme 8 1 Sep ∷ lexeme 9 1 OpenBracket ∷
          lexeme 10 1 Ident ∷ lexeme 11 1 Sep ∷ lexeme 12 1 OpenCloseBracket ∷ lexeme 13 1 Sep ∷ lexeme 14 1 Ident ∷
          lexeme 15 1 CloseBracket ∷ lexeme 16 1 CloseBracket ∷ [];
      tree =
          unscripted
          (node (Head.matrix (at 0 1) (at 16 1) 2 (1 ∷ []))
          (cell Atom.ident 2 ▸ cell Atom.ident 6 ▸ cell Atom.ident 10 ▸ cell Atom.ident 14 ▸ end)) ▸ end;
      takes = 52;
    } ∷
    -- group
    record {
      text = "|x|";
      list = lexeme 0 1 OpenCloseBracket ∷ lexeme 1 1 Ident ∷ lexeme 2 1 OpenCloseBracket ∷ [];
      tree = unscripted (one (Head.group (at 0 1) (at 2 1)) (item Atom.ident 1)) ▸ end;
      takes = 7;
    } ∷
    -- super Missing
    record {
      text = "x^";
      list = lexeme 0 1 Ident ∷ lexeme 1 1 Super ∷ [];
      tree = node (Head.simple Script.super) (byte Atom.ident 0 ▸ leaf Head.missing ▸ end) ▸ end;
      takes = 3;
    } ∷
    -- right bracket empty
    record {
      text = "(a";
      list = lexeme 0 1 OpenBracket ∷ lexeme 1 1 Ident ∷ [];
      tree = unscripted (one (Head.group (at 0 1) nowhere) (item Atom.ident 1)) ▸ end;
      takes = 4;
    } ∷
    []

unfoldable pub read : Case → Whole
read c = record { list = tokens (bytes c.text); reading = read_text (bytes c.text) }

unfoldable pub said : Case → Whole
said c = record { list = c.list; reading = record { tree = c.tree; takes = c.takes } }

pub starred-strings : map read starred ≡ map said starred
unfolding read said starred rows longest.begins longest.longest_of longest.longest_at rules.run rules.run_end rules.blank rules.digit rules.letter rules.other rules.blanks_at rules.closer rules.literal_at rules.command_at same rules.is_text_command rules.spelling_at rules.number_end rules.past_point rules.number_at rules.quotation_at rules.byte_at rules.read_at rules.tokens_from rules.tokens_by is stops any marks_script heads begins entries close_after has_sep slot return ◌>>=◌ when◌then◌else◌ here current closed prefixes text_of is_byte same_text is_at close_of is_bar closes could_be_matrix advance failed give_up attempt is_bar_symbol is_unscripted is_column_line line_cells both_lines line_cols kept_cols column_lines keep_cells join_rows row_brackets alike split_column_lines argument next_script next_script_func next_intermediate spaced at_open_close intermediates row_cells next_matrix_row more_rows next_matrix_rows makes_matrix matrix_body try_matrix next_open_group bar_body next_open_close_group next_bracket begun next_simple step level last_of parse parse_entries reading_by ends_operand atom_ends look
starred-strings = refl

-- Of document 01's 'Misreadings' those that the starred strings do not show.
unfoldable pub misread : List Case
misread =
    -- "One mark per bar for both stops": the bar fails with the stop Sep, in a row of a set, and is read again with none
    record {
      text = "{(|a,b|)}";
      list =
          lexeme 0 1 OpenBracket ∷ lexeme 1 1 OpenBracket ∷ lexeme 2 1 OpenCloseBracket ∷ lexeme 3 1 Ident ∷ lexeme 4 1 Sep ∷
          lexeme 5 1 Ident ∷ lexeme 6 1 OpenCloseBracket ∷ lexeme 7 1 CloseBracket ∷ lexeme 8 1 CloseBracket ∷ [];
      tree =
          unscripted
          (one (Head.group (at 0 1) (at 8 1))
          (unscripted
          (one (Head.group (at 1 1) (at 7 1))
          (unscripted (node (Head.group (at 2 1) (at 6 1)) (item Atom.ident 3 ▸ comma 4 ▸ item Atom.ident 5 ▸ end)))))) ▸ end;
      takes = 60;
    } ∷
    -- "`a-b` has a plain sign, `-b` a signed node"
    record {
      text = "a-b";
      list = lexeme 0 1 Ident ∷ lexeme 1 1 Sign ∷ lexeme 2 1 Ident ∷ [];
      tree = item Atom.ident 0 ▸ item Atom.sign 1 ▸ item Atom.ident 2 ▸ end;
      takes = 10;
    } ∷
    record {
      text = "-b";
      list = lexeme 0 1 Sign ∷ lexeme 1 1 Ident ∷ [];
      tree = one (Head.prefix Prefix.signed (at 0 1)) (item Atom.ident 1) ▸ end;
      takes = 3;
    } ∷
    []

pub misreadings : map read misread ≡ map said misread
unfolding read said misread rows longest.begins longest.longest_of longest.longest_at rules.run rules.run_end rules.blank rules.digit rules.letter rules.other rules.blanks_at rules.closer rules.literal_at rules.command_at same rules.is_text_command rules.spelling_at rules.number_end rules.past_point rules.number_at rules.quotation_at rules.byte_at rules.read_at rules.tokens_from rules.tokens_by is stops any marks_script heads begins entries close_after has_sep slot return ◌>>=◌ when◌then◌else◌ here current closed prefixes text_of is_byte same_text is_at close_of is_bar closes could_be_matrix advance failed give_up attempt is_bar_symbol is_unscripted is_column_line line_cells both_lines line_cols kept_cols column_lines keep_cells join_rows row_brackets alike split_column_lines argument next_script next_script_func next_intermediate spaced at_open_close intermediates row_cells next_matrix_row more_rows next_matrix_rows makes_matrix matrix_body try_matrix next_open_group bar_body next_open_close_group next_bracket begun next_simple step level last_of parse parse_entries reading_by ends_operand atom_ends look
misreadings = refl
