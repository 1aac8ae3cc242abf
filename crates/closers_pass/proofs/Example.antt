-- The pass over two lists, from the words of their token tables (docs/LAYOUT.md). In `(|a)` the bracket's closer is entry 3 of 4, so 1 is
-- noted, above the marks; the bar's group has failed, which is its mark 1; the two words past the records stay. In `(a)` no attempt can
-- be made, and the records are as `prepare` makes them.
use mathlib.Core.Path.{◌≡◌, refl}
use mathlib.Core.Bool.{false}
use mathlib.Core.List.{List, [], ◌∷◌}
use Rattle.std.proofs.Common.{Result, Ok}
use Prim.Native.Nat.{ℕ}
use Rattle.tokens.specs.Table.{token_list, count_others}
use Rattle.records.specs.Record.{record_of, place_of, after_close, sep_of, is_placed, kind_of, with_field}
use Rattle.reading.specs.Entries.{is, entries, close_after, has_sep}
use Rattle.reading.specs.Reading.{stops, any, marks_script, heads, begins, slot, return, ◌>>=◌, when◌then◌else◌, here, current, closed, prefixes, text_of, is_byte, same_text, is_at, close_of, is_bar, closes, could_be_matrix, advance, failed, give_up, attempt, is_bar_symbol, is_unscripted, is_column_line, line_cells, both_lines, line_cols, kept_cols, column_lines, keep_cells, join_rows, row_brackets, alike, split_column_lines, argument, next_script, next_script_func, next_intermediate, spaced, at_open_close, intermediates, row_cells, next_matrix_row, more_rows, next_matrix_rows, makes_matrix, matrix_body, try_matrix, next_open_group, bar_body, next_open_close_group, next_bracket, begun, next_simple, step, level, last_of, parse, parse_entries, reading_by, ends_operand, atom_ends, look}
use Rattle.entries.specs.Prepared.{places, close_from, of_bracket, records, work_words, prepared}
use Rattle.lookahead.specs.Tests.{test_at}
use Rattle.brackets.specs.Brackets.{tries_at, could_be_matrix_at, closes_at, bar_at, attempts_from}
use Rattle.closers_pass.specs.declared.top.Pass.{Pass}
use Rattle.closers_pass.specs.declared.top.Pass.TheVariants.{Read, Plain}
use Rattle.closers_pass.specs.Call.{noted, pass_over, paired_list}

pub example : ◌≡◌ {A = List (Result Pass ℕ × List ℕ)}
    (paired_list (40 ∷ 124 ∷ 97 ∷ 41 ∷ []) (0 ∷ 1 ∷ 20 ∷ 1 ∷ 1 ∷ 22 ∷ 2 ∷ 1 ∷ 6 ∷ 3 ∷ 1 ∷ 21 ∷ []) 4 false
    (9 ∷ 9 ∷ 9 ∷ 9 ∷ 9 ∷ 9 ∷ 9 ∷ 9 ∷ 9 ∷ 9 ∷ []) ∷
    paired_list (40 ∷ 97 ∷ 41 ∷ []) (0 ∷ 1 ∷ 20 ∷ 1 ∷ 1 ∷ 6 ∷ 2 ∷ 1 ∷ 21 ∷ []) 3 false (9 ∷ 9 ∷ 9 ∷ 9 ∷ 9 ∷ 9 ∷ 9 ∷ 9 ∷ []) ∷
    [])
    ((Ok (Read 4 19), 262144 ∷ 524288 ∷ 1 ∷ 65536 ∷ 2 ∷ 0 ∷ 3 ∷ 0 ∷ 9 ∷ 9 ∷ []) ∷
    (Ok (Plain 3), 196608 ∷ 0 ∷ 1 ∷ 0 ∷ 2 ∷ 0 ∷ 9 ∷ 9 ∷ []) ∷
    [])
unfolding paired_list pass_over noted prepared token_list count_others work_words records places close_from of_bracket record_of place_of after_close sep_of is_placed kind_of with_field test_at tries_at could_be_matrix_at closes_at bar_at attempts_from is entries close_after has_sep stops any marks_script heads begins slot return ◌>>=◌ when◌then◌else◌ here current closed prefixes text_of is_byte same_text is_at close_of is_bar closes could_be_matrix advance failed give_up attempt is_bar_symbol is_unscripted is_column_line line_cells both_lines line_cols kept_cols column_lines keep_cells join_rows row_brackets alike split_column_lines argument next_script next_script_func next_intermediate spaced at_open_close intermediates row_cells next_matrix_row more_rows next_matrix_rows makes_matrix matrix_body try_matrix next_open_group bar_body next_open_close_group next_bracket begun next_simple step level last_of parse parse_entries reading_by ends_operand atom_ends look
example = refl
