-- Closers, computed from the texts' bytes.
use Prim.Native.Nat.{ℕ}
use Prim.Native.String.{String}
use mathlib.Core.Path.{◌≡◌, refl}
use mathlib.Core.List.{List, [], ◌∷◌, map}
use Rattle.tokens.specs.Bytes.{bytes, same}
use Rattle.lexing.specs.Spellings.{rows}
use Rattle.lexing.specs.Longest as longest
use Rattle.lexing.specs.Rules as rules
use Rattle.lexing.specs.Rules.{tokens}
use Rattle.reading.specs.Entries.{is, entries, close_after, has_sep}
use Rattle.reading.specs.Reading.{closers_of, stops, any, marks_script, heads, begins, slot, return, ◌>>=◌, when◌then◌else◌, here, current, closed, prefixes, text_of, is_byte, same_text, is_at, close_of, is_bar, closes, could_be_matrix, advance, failed, give_up, attempt, is_bar_symbol, is_unscripted, is_column_line, line_cells, both_lines, line_cols, kept_cols, column_lines, keep_cells, join_rows, row_brackets, alike, split_column_lines, argument, next_script, next_script_func, next_intermediate, spaced, at_open_close, intermediates, row_cells, next_matrix_row, more_rows, next_matrix_rows, makes_matrix, matrix_body, try_matrix, next_open_group, bar_body, next_open_close_group, next_bracket, begun, next_simple, step, level, last_of, parse, parse_entries, reading_by, ends_operand, atom_ends, look}

pub record Closers : Type 0 where
  pub text : String
  pub closers : List ℕ

unfoldable pub cases : List Closers
cases =
    record { text = ""; closers = [] } ∷
    -- nothing closes it
    record { text = "(a"; closers = 2 ∷ 2 ∷ [] } ∷
    -- a matrix and its rows; a set of groups
    record { text = "[[1,2],[3,4]]"; closers = 12 ∷ 5 ∷ 13 ∷ 13 ∷ 13 ∷ 13 ∷ 13 ∷ 11 ∷ 13 ∷ 13 ∷ 13 ∷ 13 ∷ 13 ∷ [] } ∷
    record { text = "{(a,b),(c,d)}"; closers = 12 ∷ 5 ∷ 13 ∷ 13 ∷ 13 ∷ 13 ∷ 13 ∷ 11 ∷ 13 ∷ 13 ∷ 13 ∷ 13 ∷ 13 ∷ [] } ∷
    record { text = "|x|"; closers = 2 ∷ 3 ∷ 3 ∷ [] } ∷
    -- in the attempt at a matrix, which is given back, the second bar opens a group that the third ends; now the first opens one
    record { text = "{(a|b,|c|,d)}"; closers = 12 ∷ 11 ∷ 13 ∷ 6 ∷ 13 ∷ 13 ∷ 13 ∷ 13 ∷ 13 ∷ 13 ∷ 13 ∷ 13 ∷ 13 ∷ [] } ∷
    -- a group that no token opens
    record { text = "a)(b"; closers = 4 ∷ 4 ∷ 4 ∷ 4 ∷ [] } ∷
    record { text = "[(|a,b)|"; closers = 8 ∷ 6 ∷ 8 ∷ 8 ∷ 8 ∷ 8 ∷ 8 ∷ 8 ∷ [] } ∷
    []

unfoldable pub found : Closers → List ℕ
found c = closers_of (bytes c.text) (tokens (bytes c.text))

unfoldable pub told : Closers → List ℕ
told c = c.closers

pub closers-of_texts : map found cases ≡ map told cases
unfolding found told cases closers_of rows longest.begins longest.longest_of longest.longest_at rules.run rules.run_end rules.blank rules.digit rules.letter rules.other rules.blanks_at rules.closer rules.literal_at rules.command_at same rules.is_text_command rules.spelling_at rules.number_end rules.past_point rules.number_at rules.quotation_at rules.byte_at rules.read_at rules.tokens_from rules.tokens_by is stops any marks_script heads begins entries close_after has_sep slot return ◌>>=◌ when◌then◌else◌ here current closed prefixes text_of is_byte same_text is_at close_of is_bar closes could_be_matrix advance failed give_up attempt is_bar_symbol is_unscripted is_column_line line_cells both_lines line_cols kept_cols column_lines keep_cells join_rows row_brackets alike split_column_lines argument next_script next_script_func next_intermediate spaced at_open_close intermediates row_cells next_matrix_row more_rows next_matrix_rows makes_matrix matrix_body try_matrix next_open_group bar_body next_open_close_group next_bracket begun next_simple step level last_of parse parse_entries reading_by ends_operand atom_ends look
closers-of_texts = refl
