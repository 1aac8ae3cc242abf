-- What is promised of a reading: condition 3 of the tender and the room for the tree. The list ts is read over the text, and n is the
-- number of its tokens other than Space.
use Rattle.std.specs.Prelude.{ℕ, ◌+◌, ◌*◌, ◌≤◌, ◌≡◌, List, ◌++◌, length}
use Rattle.tokens.specs.Lexeme.{Lexeme}
use Rattle.tokens.specs.Table.{count_others}
use Rattle.tree.specs.Tree.{count}
use Rattle.tree.specs.Words.{encode_items}
use Rattle.tree.specs.Decode.{decode}
use Rattle.tree.specs.WellFormed.{WellFormed}
use Rattle.reading.specs.Reading.{read_tokens, read_plain}
use Rattle.bounds.specs.Peak.{peak_of}

pub record Bounds (text : List ℕ) (ts : List Lexeme) : Type 0 where
  -- "the whole reading of condition 2 takes tokens at most 32 × (n + 1) × (n + 1) times, takes given back included"
  pub takes : (read_tokens text ts).takes ≤ 32 * ((count_others ts + 1) * (count_others ts + 1))
  -- "where n is at most 127, its tree equals the tree read without remembering any failed attempt", every node with all its fields
  pub memory : count_others ts ≤ 127 → (read_tokens text ts).tree ≡ (read_plain text ts).tree
  -- "tree 32 × (n + 1)": the tree's words fit, and so do those of any partial tree on the way, also at the peak of attempts that are
  -- given back
  pub partial : peak_of text ts ≤ 32 * (count_others ts + 1)
  pub room : length (encode_items (read_tokens text ts).tree) ≤ 32 * (count_others ts + 1)
  -- the tree is one of tree.rs, and decoding its words, whatever follows them, gives it back
  pub well_formed : WellFormed (read_tokens text ts).tree
  pub decoded :
      (rest : List ℕ) →
      decode (count (read_tokens text ts).tree) (encode_items (read_tokens text ts).tree ++ rest) ≡ (read_tokens text ts).tree
