-- The bracket pass over a token list: Parser::new, and what the whole reading has come to, in the records of the entries.
use Rattle.std.specs.Prelude.{ℕ, zero, suc, ◌+◌, ◌*◌, ◌-◌, Bool, true, false, cond, ◌||◌, List, get_or, Result, Ok, Err}
use Rattle.tokens.specs.Lexeme.{Lexeme}
use Rattle.tokens.specs.Table.{token_list}
use Rattle.tree.specs.Tree.{nowhere}
use Rattle.reading.specs.Entries.{entries}
use Rattle.reading.specs.Reading.{State, parse_entries}
use Rattle.records.specs.Record.{with_marks, with_closer}
use Rattle.entries.specs.Prepared.{prepared}
use Rattle.brackets.specs.Brackets.{has_attempts}
use Rattle.reading_words.specs.Entry.{marks_word}
use Rattle.closers_pass.specs.declared.top.Pass.{Pass}
use Rattle.closers_pass.specs.declared.top.Pass.TheVariants.{Read, Plain}

-- the words K, in which the first k of n records have these marks and closers; a closer is n less its place
unfoldable pub noted : ℕ → ℕ → List Bool → List ℕ → List ℕ → List ℕ
noted zero n m c K = K
noted (suc k) n m c K =
    with_closer
    (with_marks (noted k n m c K) k (marks_word (get_or m (3 * k) false) (get_or m (3 * k + 1) false) (get_or m (3 * k + 2) false)))
    k (n - get_or c k n)

-- where the whole reading of a token list ends
abbrev pub read_to : List ℕ → List Lexeme → State
read_to text ts = (parse_entries text (entries nowhere ts) true).1

-- The refusals are those of `prepare`. With its records K: the takes of the whole reading, with its marks and closers in them; but
-- where no attempt can be made nothing more is done unless it is asked for.
unfoldable pub pass_over : List ℕ → List ℕ → List Lexeme → Bool → Result ℕ ℕ → List ℕ → Result Pass ℕ × List ℕ
pass_over text table ts always (Err k) K = (Err k, K)
pass_over text table ts always (Ok n) K =
    cond (always || has_attempts text table K n)
    (Ok (Read n (read_to text ts).takes), noted n n (read_to text ts).marks (read_to text ts).closers K)
    (Ok (Plain n), K)

unfoldable pub paired_list : List ℕ → List ℕ → ℕ → Bool → List ℕ → Result Pass ℕ × List ℕ
paired_list text table count always work =
    pass_over text table (token_list count table) always (prepared table count work).0 (prepared table count work).1
