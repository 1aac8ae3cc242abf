-- The example of document 01, `x^2/3`, from its bytes to the bytes of its print.
use mathlib.Core.Path.{◌≡◌, refl}
use mathlib.Core.List.{[], ◌∷◌}
use Rattle.tokens.specs.Bytes.{bytes, same}
use Rattle.lexing.specs.Spellings.{rows}
use Rattle.lexing.specs.Longest as longest
use Rattle.lexing.specs.Rules as rules
use Rattle.tree.specs.Visits.{visits}
use Rattle.writer.specs.Decimal.{digits, decimal}
use Rattle.reading.specs.Entries.{is, entries, close_after, has_sep}
use Rattle.reading.specs.Reading.{stops, any, marks_script, heads, begins, slot, return, ◌>>=◌, when◌then◌else◌, here, current, closed, prefixes, text_of, is_byte, same_text, is_at, close_of, is_bar, closes, could_be_matrix, advance, failed, give_up, attempt, is_bar_symbol, is_unscripted, is_column_line, line_cells, both_lines, line_cols, kept_cols, column_lines, keep_cells, join_rows, row_brackets, alike, split_column_lines, argument, next_script, next_script_func, next_intermediate, spaced, at_open_close, intermediates, row_cells, next_matrix_row, more_rows, next_matrix_rows, makes_matrix, matrix_body, try_matrix, next_open_group, bar_body, next_open_close_group, next_bracket, begun, next_simple, step, level, last_of, parse, parse_entries, reading_by, ends_operand, atom_ends, look}
use Rattle.line.specs.Print.{names, name_of, left, right, script_name, script, class, more, commas, fields, name, line, lines, first, printed}
use Rattle.line.proofs.Example.{text}
use Rattle.print.specs.Call.{print_of}

pub example :
    print_of (bytes "x^2/3") ≡
    text (
    "text=5 tokens=5 takes=7 items=1" ∷
    "depth=0 node=frac" ∷
    "depth=1 node=simple script=super" ∷
    "depth=2 node=ident at=0 len=1" ∷
    "depth=2 node=number at=2 len=1" ∷
    "depth=1 node=simple script=none" ∷
    "depth=2 node=number at=4 len=1" ∷ []
    )
unfolding print_of visits digits decimal names name_of left right script_name script class more commas fields name line lines first printed rows longest.begins longest.longest_of longest.longest_at rules.run rules.run_end rules.blank rules.digit rules.letter rules.other rules.blanks_at rules.closer rules.literal_at rules.command_at same rules.is_text_command rules.spelling_at rules.number_end rules.past_point rules.number_at rules.quotation_at rules.byte_at rules.read_at rules.tokens_from rules.tokens_by is stops any marks_script heads begins entries close_after has_sep slot return ◌>>=◌ when◌then◌else◌ here current closed prefixes text_of is_byte same_text is_at close_of is_bar closes could_be_matrix advance failed give_up attempt is_bar_symbol is_unscripted is_column_line line_cells both_lines line_cols kept_cols column_lines keep_cells join_rows row_brackets alike split_column_lines argument next_script next_script_func next_intermediate spaced at_open_close intermediates row_cells next_matrix_row more_rows next_matrix_rows makes_matrix matrix_body try_matrix next_open_group bar_body next_open_close_group next_bracket begun next_simple step level last_of parse parse_entries reading_by ends_operand atom_ends look
example = refl
