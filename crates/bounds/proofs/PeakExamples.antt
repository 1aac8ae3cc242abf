-- The peak of some texts, from their bytes. Each number in the counts of Peak.antt shows in one of them. Behind the last item a next
-- one is looked for, with 7 words: the word in front and the own words of a scripted part.
use Prim.Native.Nat.{ℕ}
use Prim.Native.String.{String}
use mathlib.Core.Path.{◌≡◌, refl}
use mathlib.Core.List.{List, [], ◌∷◌, map}
use Rattle.tokens.specs.Bytes.{bytes, same}
use Rattle.lexing.specs.Spellings.{rows}
use Rattle.lexing.specs.Longest as longest
use Rattle.lexing.specs.Rules as rules
use Rattle.lexing.specs.Rules.{tokens}
use Rattle.tree.specs.Words.{encode}
use Rattle.reading.specs.Entries.{is, entries, close_after, has_sep}
use Rattle.reading.specs.Reading.{stops, any, marks_script, heads, begins, slot, return, ◌>>=◌, when◌then◌else◌, here, current, closed, prefixes, text_of, is_byte, same_text, is_at, close_of, is_bar, closes, could_be_matrix, advance, failed, give_up, attempt, is_bar_symbol, is_unscripted, is_column_line, line_cells, both_lines, line_cols, kept_cols, column_lines, keep_cells, join_rows, row_brackets, alike, split_column_lines, argument, next_script, next_script_func, next_intermediate, spaced, at_open_close, intermediates, row_cells, next_matrix_row, more_rows, next_matrix_rows, makes_matrix, matrix_body, try_matrix, next_open_group, bar_body, next_open_close_group, next_bracket, begun, next_simple, step, level, last_of, parse, ends_operand, atom_ends, look}
use Rattle.bounds.specs.Peak.{peak, attempt-counted, argument-counted, next_script-counted, next_script_func-counted, next_intermediate-counted, intermediates-counted, row_cells-counted, next_matrix_row-counted, more_rows-counted, next_matrix_rows-counted, matrix_body-counted, try_matrix-counted, next_open_group-counted, bar_body-counted, next_open_close_group-counted, next_bracket-counted, begun-counted, next_simple-counted, step-counted, level-counted, parse-counted, peak_of}

pub record Case : Type 0 where
  pub text : String
  pub peak : ℕ

unfoldable pub cases : List Case
cases =
    record { text = ""; peak = 7 } ∷
    -- an item of 13 words
    record { text = "a"; peak = 20 } ∷
    -- a Space between two
    record { text = "a b"; peak = 40 } ∷
    -- a wrap
    record { text = "a)"; peak = 33 } ∷
    -- an item's 7 words, a matrix's eight, six for each of its eight cells, and eight flags
    record { text = "((,,,,,,,))"; peak = 71 } ∷
    -- the same in a group that stays open, and between bars: 13 words more
    record { text = "(((,,,,,,,))"; peak = 84 } ∷
    record { text = "|((,,,,,,,))|"; peak = 84 } ∷
    -- in the second cell of another matrix: an item's 7 words, a matrix's eight, a cell of 19, and the own words of the second
    record { text = "((a,((,,,,,,,))))"; peak = 111 } ∷
    -- six words more for each of seven nodes that stand before it: a, the argument of sin, root, b, the sign, sqrt and cos
    record { text = "sin_a root b - sqrt cos ((,,,,,,,))"; peak = 113 } ∷
    []

unfoldable pub read : Case → ℕ
read c = peak_of (bytes c.text) (tokens (bytes c.text))

pub peaks : map read cases ≡ map (λ (c : Case). c.peak) cases
unfolding read cases encode rows longest.begins longest.longest_of longest.longest_at rules.run rules.run_end rules.blank rules.digit rules.letter rules.other rules.blanks_at rules.closer rules.literal_at rules.command_at same rules.is_text_command rules.spelling_at rules.number_end rules.past_point rules.number_at rules.quotation_at rules.byte_at rules.read_at rules.tokens_from rules.tokens_by is stops any marks_script heads begins entries close_after has_sep slot return ◌>>=◌ when◌then◌else◌ here current closed prefixes text_of is_byte same_text is_at close_of is_bar closes could_be_matrix advance failed give_up attempt is_bar_symbol is_unscripted is_column_line line_cells both_lines line_cols kept_cols column_lines keep_cells join_rows row_brackets alike split_column_lines argument next_script next_script_func next_intermediate spaced at_open_close intermediates row_cells next_matrix_row more_rows next_matrix_rows makes_matrix matrix_body try_matrix next_open_group bar_body next_open_close_group next_bracket begun next_simple step level last_of parse ends_operand atom_ends look peak attempt-counted argument-counted next_script-counted next_script_func-counted next_intermediate-counted intermediates-counted row_cells-counted next_matrix_row-counted more_rows-counted next_matrix_rows-counted matrix_body-counted try_matrix-counted next_open_group-counted bar_body-counted next_open_close_group-counted next_bracket-counted begun-counted next_simple-counted step-counted level-counted parse-counted peak_of
peaks = refl
