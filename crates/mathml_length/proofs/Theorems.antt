-- The MathML of a text has at most 72 bytes, and 48 more for each of the text's. Both are reached.
use Prim.Native.Nat.{ℕ, ◌≤◌}
use mathlib.Core.Path.{◌≡◌, refl}
use mathlib.Core.Bool.{true}
use mathlib.Core.List.{List, []}
use native.Mathlib.Omega.{arith}
use lib.ListN.{length}
use Rattle.tokens.specs.Bytes.{bytes, same}
use Rattle.lexing.specs.Spellings.{rows}
use Rattle.lexing.specs.Longest as longest
use Rattle.lexing.specs.Rules as rules
use Rattle.lexing.specs.Rules.{tokens}
use Rattle.tree.specs.Tree.{nowhere}
use Rattle.reading.specs.Entries.{is, entries}
use Rattle.reading.specs.Reading.{read_text, heads, return, ◌>>=◌, when◌then◌else◌, here, advance, next_script, next_script_func, next_intermediate, spaced, at_open_close, intermediates, next_simple, step, level, last_of, parse, parse_entries, reading_by}
use Rattle.mathml_rules.specs.Utf8.{encoded, utf8}
use Rattle.mathml_rules.specs.Elements.{elements, element_of}
use Rattle.mathml_rules.specs.Pieces.{escapes, escaped_by, esc, bytes_of, written, within}
use Rattle.mathml_rules.specs.Mathml.{own, together, S, arguments, A, join, outs, root, mathml_of}
use Rattle.mathml_length.specs.Length.{longest}
use Rattle.mathml_length.proofs.Costs.{mathml_length}
use Rattle.mathml_length.proofs.Prices.{text-pays}
use Rattle.mathml_length.proofs.Paid.{tree-paid}

pub length-within : (text : List ℕ) → length (mathml_of text (read_text text).tree) ≤ longest (length text)
unfolding reading_by
length-within text =
    let es = entries nowhere (tokens text) in
    omega (
      arith,
      mathml_length text (read_text text).tree,
      tree-paid text es true,
      text-pays text (parse_entries text es true).1.pos,
    )

-- the empty text, and `f`: a function of one byte without its argument
pub length-reached :
    (length (mathml_of [] (read_text []).tree) ≡ 72) × (length (mathml_of (bytes "f") (read_text (bytes "f")).tree) ≡ 120)
unfolding encoded utf8 elements element_of escapes escaped_by esc bytes_of written within own together S arguments A join outs root mathml_of rows longest.longest_of longest.longest_at rules.run rules.run_end rules.blank rules.blanks_at same rules.is_text_command rules.spelling_at rules.read_at rules.tokens_from rules.tokens_by is heads entries return ◌>>=◌ when◌then◌else◌ here advance next_script next_script_func next_intermediate spaced at_open_close intermediates next_simple step level last_of parse parse_entries reading_by
length-reached = (refl, refl)
