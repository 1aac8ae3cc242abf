-- The second part as a whole, from any marks: closing brackets that nothing opened, noted in their own records, and what it gives.
use Rattle.std.specs.Prelude.{ℕ, suc, ◌+◌, ◌-◌, ◌*◌, ◌%◌, ◌≤◌, ◌<◌, ◌^◌, ◌≡◌, List, [], ◌∷◌, ◌++◌, Bool, true, length, take, replicate}
use Rattle.tree.specs.Tree.{Nodes, end, count}
use Rattle.tree.specs.Words.{encode_items}
use Rattle.reading.specs.Reading.{State, parse}
use Rattle.parse.specs.declared.top.Wrapped.{Wrapped}
use Rattle.parse.specs.declared.top.Reading.{Reading}
use Rattle.records.specs.Record.{after_close, sep_of, start_of, len_of}
use Rattle.reading_words.specs.Entry.{Safe, Placed}
use Rattle.reading_words.specs.Meet.{Input, Given, Marks}

-- A wrap: the entry of its closing bracket, and its items.
pub record Wrap : Type 0 where
  pub closer : ℕ
  pub items : ℕ

-- The wraps up to the one that `last` closes, the last first: the close field of each closing bracket leads to the one before it,
-- and its Sep field has the items.
abbrev pub Chained : List ℕ → ℕ → ℕ → List Wrap → Type 0
Chained K b last [] = Unit
Chained K b last (w ∷ ws) = (w.closer ≡ last) × (last < b) × (sep_of K last ≡ w.items) × Chained K last (after_close K last) ws

-- The words of the wraps' headers: an item, a simple part and a group each.
abbrev pub wrap_words : ℕ → ℕ → ℕ → List ℕ
wrap_words k a l = 0 ∷ 13 ∷ 0 ∷ 0 ∷ 0 ∷ 0 ∷ 0 ∷ 15 ∷ 0 ∷ 0 ∷ k ∷ a ∷ l ∷ []

unfoldable pub wraps_words : List ℕ → List ℕ → List Wrap → List ℕ
wraps_words t K [] = []
wraps_words t K (w ∷ ws) = wrap_words w.items (start_of t K w.closer) (len_of t K w.closer) ++ wraps_words t K ws

pub record Noted (n : ℕ) (t K : List ℕ) (wraps last : ℕ) : Type 0 where
  pub list : List Wrap
  pub number : length list ≡ wraps
  pub chain : Chained K n last list
  pub placed : (i : ℕ) → i < n → Placed t K i

-- The reading from these marks.
abbrev pub read_from : Input → List Bool → Nodes × State
read_from I m =
    parse I.text I.es true (suc (length I.es)) 256 end
    (record { pos = 0; takes = 0; marks = m; closers = replicate (length I.es) (length I.es) })

-- What it needs: records of an input, their marks, and room for any tree.
pub record TopReady (n : ℕ) (X t K tree : List ℕ) : Type 0 where
  pub safe : Safe n X t K
  pub input : Input
  pub given : Given X t n K input
  pub marked : List Bool
  pub marks : Marks n K marked
  pub room : 32 * (n + 1) ≤ length tree

-- The items are those that the definition reads from the marks m, their wraps' headers aside.
pub record Tops (X t : List ℕ) (n : ℕ) (L : List ℕ) (ws : List Wrap) (I : Input) (m : List Bool) (y : List ℕ) (g : Wrapped) : Type 0 where
  pub words : encode_items (read_from I m).0 ≡ wraps_words t L ws ++ take g.end y
  pub number : g.count ≡ count (read_from I m).0
  pub takes : g.cur.takes % 2 ^ 32 ≡ (read_from I m).1.takes % 2 ^ 32
  pub marks : Marks n L (read_from I m).1.marks

pub record Topped (X t : List ℕ) (n : ℕ) (K L y : List ℕ) (g : Wrapped) : Type 0 where
  pub noted : Noted n t L g.wraps g.last
  -- "The 257th and later unmatched closers at top level are dropped."
  pub few : g.wraps ≤ 256
  pub fits : g.end + 13 * g.wraps ≤ length y
  pub means : (I : Input) → Given X t n K I → (m : List Bool) → Marks n K m → Tops X t n L noted.list I m y g

-- The words of the tree that the definition reads from the marks m, zeros behind them, and its takes.
pub record Reads (I : Input) (m : List Bool) (len : ℕ) (y : List ℕ) (r : Reading) : Type 0 where
  pub end : r.end ≡ length (encode_items (read_from I m).0)
  pub tree : y ≡ encode_items (read_from I m).0 ++ replicate (len - r.end) 0
  pub items : r.items ≡ count (read_from I m).0
  pub takes : r.takes ≡ (read_from I m).1.takes % 2 ^ 32

-- The same of each input and its marks.
abbrev pub ReadsEach : (n : ℕ) (X t K : List ℕ) (len : ℕ) (y : List ℕ) (r : Reading) → Type 0
ReadsEach n X t K len y r = (I : Input) → Given X t n K I → (m : List Bool) → Marks n K m → Reads I m len y r
