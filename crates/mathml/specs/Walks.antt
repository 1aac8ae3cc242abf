-- What the walks over tree words answer: they go on, stay within the words, and where the words are those of a tree, they have read it.
use Rattle.std.specs.Prelude.{Some, None, ℕ, ◌+◌, ◌≤◌, ◌<◌, ◌≡◌, Bool, true, false, List, [], ◌++◌, eqb, length, drop}
use Rattle.writer.specs.Put.{Put, most}
use Rattle.tree.specs.Tree.{Head, Node, Nodes, count}
use Rattle.tree.specs.Words.{encode}
use Rattle.tree.specs.declared.walk.Opened.{Opened}
use Rattle.tree.specs.Walk.{row_words, node_words, headed_at, placed_at, step_at, past_of, head_at}
use Rattle.tree.specs.Laid.{Laid, Laids}
use Rattle.mathml_rules.specs.declared.Mode.{Mode}
use Rattle.mathml_rules.specs.declared.Mode.TheVariants as mode
use Rattle.mathml_rules.specs.Pieces.{Piece, written}
use Rattle.mathml_rules.specs.Mathml.{together, handed, out, outs, mathml_of}
use Rattle.mathml_rules.specs.Refusal.{refused_node, refusal11}
use Rattle.mathml_rules.specs.Parts as parts
use Rattle.mathml_rules.specs.Parts.{opening, closing, cols_of, cells_left, swaps, Whole, Wholes}
use Rattle.mathml.specs.declared.pass.Passed.{Passed}
use Rattle.mathml.specs.declared.place.Place.{Place}
use Rattle.mathml.specs.declared.part.Part.{Part}
use Rattle.mathml.specs.declared.node.Reached.{Reached}

-- a row is passed over, and it is told whether one of its nodes, or of those below them, is refused
pub record RowPassed (words text : List ℕ) (from number : ℕ) (items : Bool) (r : Passed) : Type 0 where
  pub least : from ≤ r.at
  pub upto : r.at ≤ length words
  pub read : (l : Nodes) (rest : List ℕ) → Laids l → drop from words ≡ row_words items l ++ rest → number ≡ count l
      → (r.at ≡ from + length (row_words items l)) × (r.refused ≡ refusal11 text l)

-- where a node's words end
pub record NodeEnds (words : List ℕ) (at end : ℕ) : Type 0 where
  pub least : at ≤ end
  pub upto : end ≤ length words
  pub read : (x : Node) (rest : List ℕ) → Laid x → drop at words ≡ encode x ++ rest → end ≡ at + length (encode x)

-- What stands before child i of a node h beside what stands between children: what opens h, before child 0.
unfoldable pub begun : List ℕ → Mode → Head → ℕ → List Piece
begun text m h i = elim (eqb i 0) [ true ↦ opening text m h | false ↦ [] ]

-- how many cells are left in the row of child i
unfoldable pub row_left : Head → ℕ → ℕ → ℕ
row_left h i left = elim (eqb i 0) [ true ↦ cols_of h | false ↦ left ]

-- Where child i of a node begins whose children begin at `from`, if the child before it ends at `next`; and where i is their number, where
-- the last one ends. Exchanged children: the second, the first, and behind the second.
pub record ChildPlace (words : List ℕ) (swapped : Bool) (from i next at : ℕ) : Type 0 where
  pub least : from ≤ at
  pub upto : at ≤ length words
  pub start : swapped ≡ false → next ≤ from → at ≡ from
  pub on : swapped ≡ false → from ≤ next → at ≡ next
  pub second : swapped ≡ true → i ≡ 0 → NodeEnds words from at
  pub first : swapped ≡ true → i ≡ 1 → at ≡ from
  pub behind : swapped ≡ true → 1 < i → (e : ℕ) × (NodeEnds words from e × NodeEnds words e at)

-- Where the own words of the node at a place begin, or the end of all words.
pub record OwnPlace (words : List ℕ) (at : ℕ) (items : Bool) (head : ℕ) : Type 0 where
  pub upto : head ≤ length words
  pub read : head < length words → (at < length words) × (placed_at words at items ≡ headed_at words head)

-- A node that stands for x, which begins at `at`: it ends where x ends, is written as x is, and is refused where x is.
pub record Inner (words : List ℕ) (at : ℕ) (items : Bool) (x : Node) (more : List ℕ) (p : Place) : Type 0 where
  pub node : Node
  pub laid : Laid node
  pub whole : Whole x → Whole node
  pub here : drop p.at words ≡ node_words p.items node ++ more
  pub ends : p.at + length (node_words p.items node) ≡ at + length (node_words items x)
  pub same : (text : List ℕ) (m : Mode) → out text m node ≡ out text m x
  pub refused : (text : List ℕ) → refused_node text node ≡ refused_node text x

-- Where such a node begins: the one in a simple without script, or the node itself.
pub record InnerPlace (words : List ℕ) (at : ℕ) (items : Bool) (p : Place) : Type 0 where
  pub least : at ≤ p.at
  pub upto : p.at ≤ length words
  pub read : (x : Node) (more : List ℕ) → Laid x → drop at words ≡ node_words items x ++ more → Inner words at items x more p

-- a part of a node of this kind whose own words begin at `head`: what stands before child i, and what closes it
pub record ChildPut (words text before : List ℕ) (from kind head : ℕ) (m : Mode) (i left at : ℕ) (items : Bool) (after : List ℕ) (p : Part) : Type 0 where
  pub more : p.more ≡ true
  pub place : InnerPlace words at items (record { at = p.at; items = p.items })
  pub mode : p.mode ≡ handed text m (head_at words kind head) i
  pub row : p.left ≡ cells_left (cols_of (head_at words kind head)) left
  pub put : Put before from after p.end (written (parts.before text (head_at words kind head) i left))

pub record LastPut (words text before : List ℕ) (place kind head : ℕ) (m : Mode) (at tail : ℕ) (after : List ℕ) (p : Part) : Type 0 where
  pub more : p.more ≡ false
  pub ends : p.at ≡ past_of (length words) at tail
  pub put : Put before place after p.end (written (closing text m (head_at words kind head)))

-- the last part of a node that ends at `at`
abbrev pub last_part : ℕ → ℕ → Mode → Part
last_part at end m = record { more = false; at = at; items = false; mode = m; left = 0; end = end }

-- how many children the node at a place has
unfoldable pub count_at : List ℕ → ℕ → Bool → ℕ
count_at words at items = elim (step_at words at items) [ None ↦ 0 | Some o ↦ o.count ]

-- a part of the node at a place
pub record PartPut (words text before : List ℕ) (place at : ℕ) (items : Bool) (m : Mode) (i left next : ℕ) (after : List ℕ) (p : Part) : Type 0 where
  pub least : at ≤ p.at
  pub upto : p.at ≤ length words
  pub fits : p.end ≤ most
  pub deeper : p.more ≡ true → (at < p.at) × ((i < count_at words at items) × (i < most))
  pub same : length after ≡ length before
  pub child : (o : Opened) → Some o ≡ step_at words at items → i < o.count →
      let h = head_at words o.kind o.head in
      (p.more ≡ true) × (p.mode ≡ handed text m h i) × (p.left ≡ cells_left (cols_of h) (row_left h i left))
      × ((at : ℕ) × (ChildPlace words (swaps text h) o.from i next at × InnerPlace words at o.items (record { at = p.at; items = p.items })))
      × Put before place after p.end (written (begun text m h i ++ parts.before text h i (row_left h i left)))
  pub last : (o : Opened) → Some o ≡ step_at words at items → o.count ≤ i →
      let h = head_at words o.kind o.head in
      (p.more ≡ false)
      × ((end : ℕ) × (ChildPlace words (swaps text h) o.from i next end × (p.at ≡ past_of (length words) end o.tail)))
      × Put before place after p.end (written (begun text m h i ++ closing text m h))

-- a node is read to its end, and what it is written as is put
pub record NodePut (words text before : List ℕ) (at : ℕ) (items : Bool) (place : ℕ) (m : Mode) (after : List ℕ) (r : Reached) : Type 0 where
  pub least : at ≤ r.at
  pub upto : r.at ≤ length words
  pub same : length after ≡ length before
  pub read : (x : Node) (rest : List ℕ) → Laid x → Whole x → drop at words ≡ node_words items x ++ rest
      → (r.at ≡ at + length (node_words items x)) × Put before place after r.end (written (out text m x))

-- The items of the root, and the whole, from words that begin with those of a tree.
abbrev pub Begins : List ℕ → Nodes → ℕ → Type 0
Begins words l items = Laids l × (Wholes l × ((rest : List ℕ) × ((words ≡ row_words true l ++ rest) × (items ≡ count l))))

pub record ItemsPut (words text before : List ℕ) (place items : ℕ) (after : List ℕ) (end : ℕ) : Type 0 where
  pub same : length after ≡ length before
  pub read : (l : Nodes) → Begins words l items → Put before place after end (written (together (outs text mode.Keep Head.cell 0 l)))

pub record RootPut (words text before : List ℕ) (items : ℕ) (after : List ℕ) (end : ℕ) : Type 0 where
  pub same : length after ≡ length before
  pub read : (l : Nodes) → Begins words l items → Put before 0 after end (mathml_of text l)
