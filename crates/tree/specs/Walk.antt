-- What a step of a walk over tree words finds, by the layout of docs/LAYOUT.md. A word past the end counts as 0.
use Rattle.std.specs.Prelude.{ℕ, zero, suc, ◌+◌, min, Bool, true, false, cond, Option, Some, None, List, length, get_or, take, drop, eqb, ltb, leb}
use Rattle.tree.specs.declared.walk.Opened.{Opened}
use Rattle.tree.specs.Tree.{Head, Node, Nodes}
use Rattle.tree.specs.Words.{head_words, encode, encodes, encode_item, encode_items}
use Rattle.tree.specs.Decode.{kind_head}

-- the words of a row, which is of items or not, and of one node of it
abbrev pub row_words : Bool → Nodes → List ℕ
row_words items l = cond items (encode_items l) (encodes l)

abbrev pub node_words : Bool → Node → List ℕ
node_words items x = cond items (encode_item x) (encode x)

abbrev pub kind_of : Head → ℕ
kind_of h = get_or (head_words h 0 0) 0 0

-- how many arguments the script with this number has
abbrev pub arguments_of : ℕ → ℕ
arguments_of script = cond (eqb script 0) 0 (cond (eqb script 3) 2 1)

-- how many nodes stand below one of this kind whose word 3 is `held`
abbrev pub below_of : ℕ → ℕ → ℕ
below_of kind held =
    cond (ltb kind 8) 0
    (cond (ltb kind 12) 1
    (cond (ltb kind 13) 2 (cond (ltb kind 15) (1 + arguments_of held) (cond (ltb kind 18) held 2))))

-- the node whose own words begin at `head`
unfoldable pub headed_at : List ℕ → ℕ → Opened
headed_at words head =
    let kind = get_or words head 0 in
    record {
      kind = kind;
      head = head;
      from = head + cond (eqb kind 16) 8 6;
      count = below_of kind (get_or words (head + 3) 0);
      items = cond (eqb kind 15) true (eqb kind 17);
      tail = cond (eqb kind 16) (get_or words (head + 7) 0) 0;
    }

-- a fraction whose word stands at `at`
abbrev pub fraction_at : ℕ → Opened
fraction_at at = record { kind = 18; head = at; from = at + 1; count = 2; items = false; tail = 0 }

-- the node at a place of a row of items, or of nodes that are none
unfoldable pub placed_at : List ℕ → ℕ → Bool → Opened
placed_at words at items =
    cond items (cond (eqb (get_or words at 0) 1) (fraction_at at) (headed_at words (at + 1))) (headed_at words at)

-- the same, if its own words are there
unfoldable pub step_at : List ℕ → ℕ → Bool → Option Opened
step_at words at items =
    let o = placed_at words at items in
    cond (ltb at (length words)) (cond (leb o.from (length words)) (Some o) None) None

-- the end of so many cells
unfoldable pub cells_end : List ℕ → ℕ → ℕ → ℕ
cells_end words zero at = at
cells_end words (suc count) at =
    cond (ltb at (length words)) (cells_end words count (at + 6 + get_or words (at + 4) 0)) at

-- `tail` words on from `at`, but not past the end
abbrev pub past_of : (size at tail : ℕ) → ℕ
past_of size at tail = min (at + tail) size

-- the column lines of an opened node
unfoldable pub lines_of : List ℕ → Opened → List ℕ
lines_of words o = take o.tail (drop (cells_end words o.count o.from) words)

-- the head of a node of this kind whose own words begin at `head`
unfoldable pub head_at : List ℕ → ℕ → ℕ → Head
head_at words kind head = kind_head kind (drop head words) (lines_of words (headed_at words head))
