-- Examples of mathml-examples.txt as one equation between two tables, computed from the texts' bytes, through tokens and reading.
use Prim.Native.Nat.{ℕ}
use Prim.Native.String.{String}
use mathlib.Core.Path.{◌≡◌, refl}
use mathlib.Core.Bool.{true, false}
use mathlib.Core.List.{List, [], ◌∷◌, ◌++◌, map}
use mathlib.Core.Option.{Option, none, some}
use Rattle.tokens.specs.Bytes.{bytes, same}
use Rattle.lexing.specs.Spellings.{rows}
use Rattle.lexing.specs.Longest as longest
use Rattle.lexing.specs.Rules as rules
use Rattle.tree.specs.Tree.{Nodes}
use Rattle.reading.specs.Entries.{is, entries, close_after, has_sep}
use Rattle.reading.specs.Reading.{read_text, stops, any, marks_script, heads, begins, slot, return, ◌>>=◌, when◌then◌else◌, here, current, closed, prefixes, text_of, is_byte, same_text, is_at, close_of, is_bar, closes, could_be_matrix, advance, failed, give_up, attempt, is_bar_symbol, is_unscripted, is_column_line, line_cells, both_lines, line_cols, kept_cols, column_lines, keep_cells, join_rows, row_brackets, alike, split_column_lines, argument, next_script, next_script_func, next_intermediate, spaced, at_open_close, intermediates, row_cells, next_matrix_row, more_rows, next_matrix_rows, makes_matrix, matrix_body, try_matrix, next_open_group, bar_body, next_open_close_group, next_bracket, begun, next_simple, step, level, last_of, parse, parse_entries, reading_by, ends_operand, atom_ends, look}
use Rattle.mathml_rules.specs.Utf8.{encoded, utf8}
use Rattle.mathml_rules.specs.Forms.{forms, shown_by, shown}
use Rattle.mathml_rules.specs.Elements.{elements, element_of}
use Rattle.mathml_rules.specs.Pieces.{escapes, escaped_by, esc, bytes_of, written, within}
use Rattle.mathml_rules.specs.Commands.{unaries, mark, unary_by, unary, exchanging, binary_by, binary}
use Rattle.mathml_rules.specs.Mathml.{own, together, symbol_element, atom, S, arguments, A, B, pair, dropped, group, has, line_entry, line_entries, columnlines, table_rows, table, text_mode, simple_mode, func_mode, handed, join, outs, root, mathml_of}
use Rattle.mathml_rules.specs.Refusal.{one_of, refused_binaries, fonts, twice, refused_lines, control, controls, refused_prefix, refused_head, refusal11}

-- a text, and its MathML or, for 11, none
pub record Case : Type 0 where
  pub text : String
  pub answer : Option (List ℕ)

-- what stands inside `<math …>`
abbrev gives : String → String → Case
gives t m = record {
  text = t;
  answer = some (utf8 "<math xmlns=\"http://www.w3.org/1998/Math/MathML\" display=\"block\">" ++ (utf8 m ++ utf8 "</math>"));
}

abbrev refuses : String → Case
refuses t = record { text = t; answer = none }

unfoldable pub marked : List ℕ → Nodes → Option (List ℕ)
marked text tree = elim (refusal11 text tree) [ true ↦ none | false ↦ some (mathml_of text tree) ]

unfoldable pub read : Case → Option (List ℕ)
read c = marked (bytes c.text) (read_text (bytes c.text)).tree

abbrev said : Case → Option (List ℕ)
said c = c.answer

unfoldable pub examples : List Case
examples =
    gives "" "" ∷
    gives "\"if x\"" "<mtext>if\u{a0}x</mtext>" ∷
    gives "alpha" "<mo lspace=\"0\" rspace=\"0\">α</mo>" ∷
    gives "x_1^2" "<msubsup><mi>x</mi><mn>1</mn><mn>2</mn></msubsup>" ∷
    gives "x^" "<msup><mi>x</mi><mrow></mrow></msup>" ∷
    gives "x^[2]" "<msup><mi>x</mi><mrow><mo>[</mo><mn>2</mn><mo>]</mo></mrow></msup>" ∷
    gives "(x)^2" "<msup><mrow><mo>(</mo><mi>x</mi><mo>)</mo></mrow><mn>2</mn></msup>" ∷
    gives "(a+b)/c" "<mfrac><mrow><mi>a</mi><mo>+</mo><mi>b</mi></mrow><mi>c</mi></mfrac>" ∷
    gives "[a]/(b]" "<mfrac><mrow><mo>[</mo><mi>a</mi><mo>]</mo></mrow><mrow><mo>(</mo><mi>b</mi><mo>]</mo></mrow></mfrac>" ∷
    gives "-(a)/b" "<mfrac><mrow><mo>-</mo><mrow><mo>(</mo><mi>a</mi><mo>)</mo></mrow></mrow><mi>b</mi></mfrac>" ∷
    gives "f(x)" "<mrow><mi>f</mi><mo>\u{2061}</mo><mrow><mo>(</mo><mi>x</mi><mo>)</mo></mrow></mrow>" ∷
    gives "log_2 8" "<mrow><msub><mi>log</mi><mn>2</mn></msub><mo rspace=\"0.1667em\">\u{2061}</mo><mn>8</mn></mrow>" ∷
    gives "sqrt(x)" "<msqrt><mrow><mi>x</mi></mrow></msqrt>" ∷
    gives "root(3)(x)" "<mroot><mrow><mi>x</mi></mrow><mrow><mn>3</mn></mrow></mroot>" ∷
    gives "floor(x)" "<mrow><mo>⌊</mo><mrow><mi>x</mi></mrow><mo>⌋</mo></mrow>" ∷
    gives "hat x" "<mover accent=\"true\"><mi>x</mi><mo>^</mo></mover>" ∷
    gives "text[a]" "<mrow><mtext>a</mtext></mrow>" ∷
    gives "{:a)" "<mrow><mi>a</mi><mo>)</mo></mrow>" ∷
    gives "(:a,b:)" "<mrow><mo>⟨</mo><mi>a</mi><mo>,</mo><mi>b</mi><mo>⟩</mo></mrow>" ∷
    gives "2 3" "<mn>2</mn><mspace width=\"0.25em\"></mspace><mn>3</mn>" ∷
    gives "a<b&c" "<mi>a</mi><mo>&lt;</mo><mi>b</mi><mo>&amp;</mo><mi>c</mi>" ∷
    gives "[(1,2,|,3),(4,5,|,6)]" "<mrow><mo>[</mo><mtable columnlines=\"none solid\"><mtr><mtd><mn>1</mn></mtd><mtd><mn>2</mn></mtd><mtd><mn>3</mn></mtd></mtr><mtr><mtd><mn>4</mn></mtd><mtd><mn>5</mn></mtd><mtd><mn>6</mn></mtd></mtr></mtable><mo>]</mo></mrow>" ∷
    refuses "[(|,a,b),(|,c,d)]" ∷
    refuses "[(a,|,|,b)]" ∷
    refuses "bb x" ∷
    refuses "color(red)(x)" ∷
    refuses "a\u{b}b" ∷
    gives "\u{b}a" "<mi>a</mi>" ∷
    -- and texts that a wrong way of writing would show
    gives "(a)^2/b" "<mfrac><msup><mrow><mo>(</mo><mi>a</mi><mo>)</mo></mrow><mn>2</mn></msup><mi>b</mi></mfrac>" ∷
    gives "a gt b" "<mi>a</mi><mspace width=\"0.25em\"></mspace><mo>&gt;</mo><mspace width=\"0.25em\"></mspace><mi>b</mi>" ∷
    gives "text(:a" "<mrow><mo>(</mo><mtext>:a</mtext></mrow>" ∷
    gives "\"a\rb\"" "<mtext>a\u{a0}b</mtext>" ∷
    refuses "[(a,b,|),(c,d,|)]" ∷
    []

pub examples-marked : map read examples ≡ map said examples
unfolding read examples marked encoded utf8 forms shown_by shown elements element_of escapes escaped_by esc bytes_of written within unaries mark unary_by unary exchanging binary_by binary own together symbol_element atom S arguments A B pair dropped group has line_entry line_entries columnlines table_rows table text_mode simple_mode func_mode handed join outs root mathml_of one_of refused_binaries fonts twice refused_lines control controls refused_prefix refused_head refusal11 rows longest.begins longest.longest_of longest.longest_at rules.run rules.run_end rules.blank rules.digit rules.letter rules.other rules.blanks_at rules.closer rules.literal_at rules.command_at same rules.is_text_command rules.spelling_at rules.number_end rules.past_point rules.number_at rules.quotation_at rules.byte_at rules.read_at rules.tokens_from rules.tokens_by is stops any marks_script heads begins entries close_after has_sep slot return ◌>>=◌ when◌then◌else◌ here current closed prefixes text_of is_byte same_text is_at close_of is_bar closes could_be_matrix advance failed give_up attempt is_bar_symbol is_unscripted is_column_line line_cells both_lines line_cols kept_cols column_lines keep_cells join_rows row_brackets alike split_column_lines argument next_script next_script_func next_intermediate spaced at_open_close intermediates row_cells next_matrix_row more_rows next_matrix_rows makes_matrix matrix_body try_matrix next_open_group bar_body next_open_close_group next_bracket begun next_simple step level last_of parse parse_entries reading_by ends_operand atom_ends look
examples-marked = refl
