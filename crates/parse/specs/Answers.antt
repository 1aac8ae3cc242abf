-- What is promised of an accepted call's answer: takes, the root's items and blank, and the words it leaves in the tree buffer, where
-- the list ts was read over the text.
use Rattle.std.specs.Prelude.{ℕ, ◌+◌, ◌*◌, ◌≤◌, ◌≡◌, List}
use Rattle.tokens.specs.Lexeme.{Lexeme}
use Rattle.tokens.specs.Table.{count_others}
use Rattle.tree.specs.Decode.{decode}
use Rattle.reading.specs.Reading.{read_tokens, read_plain, blank}
use Rattle.grammar.specs.Grammar.{E, others, Short, tree_e}
use Rattle.grammar.specs.Strip.{strip}
use Rattle.tokens.specs.Refusals.{bit}

pub record Answered (text : List ℕ) (ts : List Lexeme) (takes items blankness : ℕ) (words : List ℕ) : Type 0 where
  -- "The whole reading of any list is what this definition gives for it, takes and tree."
  pub whole_takes : takes ≡ (read_tokens text ts).takes
  pub whole-tree : decode items words ≡ (read_tokens text ts).tree
  -- "blank": the root has no items
  pub whole-blank : blankness ≡ bit (blank text (decode items words))
  -- "the whole reading of condition 2 takes tokens at most 32 × (n + 1) × (n + 1) times, takes given back included"
  pub few-takes : takes ≤ 32 * ((count_others ts + 1) * (count_others ts + 1))
  -- "where n is at most 127, its tree equals the tree read without remembering any failed attempt"
  pub memory : count_others ts ≤ 127 → decode items words ≡ (read_plain text ts).tree
  -- "There the tree is that derivation, Space items aside": of every derivation of the list, whether or not an OpenBracket directly
  -- precedes another
  pub derived : (d : E (others ts)) → Short ts → strip (decode items words) ≡ tree_e d
