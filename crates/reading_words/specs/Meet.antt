-- How the work words meet the definition's reading. X is the text, t the words of the token table, n the number of entries, K the work
-- words.
use Rattle.std.specs.Prelude.{ℕ, zero, suc, ◌+◌, ◌-◌, ◌*◌, ◌%◌, ◌≤◌, ◌<◌, ◌^◌, ◌≡◌, List, Bool, true, false, cond, ◌&&◌, length, drop, get_or}
use Rattle.std.proofs.Math.Option.{Option, none, some}
use Rattle.std.proofs.Math.ListN.{get_elem?}
use Rattle.tokens.specs.declared.token.Token.TheVariants as token
use Rattle.tokens.specs.Kinds.{number_of}
use Rattle.tree.specs.Tree.{Head, Prefix, Node, node, Nodes, end, ◌▸◌, ◌⧺◌, one, count}
use Rattle.reading.specs.Stop.{Stop}
use Rattle.reading.specs.Entries.{Entry, is, has_sep}
use Rattle.reading.specs.Reading.{State, M, return, ◌>>=◌, when◌then◌else◌, Readers, Scripted, level, close_of, next_script, next_intermediate, intermediates, row_cells, next_matrix_row, more_rows, next_matrix_rows, next_open_close_group, next_bracket, attempt, open_mark, bar_body, or_missing_part, or_glyph, is_byte}
use Rattle.reading.specs.Reading as reading
use Rattle.records.specs.Record.{after_close, sep_of, marks_of, kind_of, start_of, len_of, space_start, space_len}
use Rattle.tokens.specs.Refusals.{bit}
use Rattle.reading_words.specs.Entry.{marks_word}

-- What the definition reads.
pub record Input : Type 0 where
  pub text : List ℕ
  pub es : List Entry

abbrev pub stop_of : Bool → Stop
stop_of true = Stop.sep
stop_of false = Stop.none

-- The entry at i is the definition's.
pub record Row (t K : List ℕ) (i : ℕ) (e : Entry) : Type 0 where
  pub kind : kind_of t K i ≡ number_of e.token
  pub start : start_of t K i ≡ e.span.start
  pub len : len_of t K i ≡ e.span.len
  pub space : space_start t K i ≡ e.space.start
  pub space_size : space_len t K i ≡ e.space.len

pub record Stands (t K : List ℕ) (es : List Entry) (i : ℕ) : Type 0 where
  pub entry : Entry
  pub there : get_elem? es i ≡ some entry
  pub row : Row t K i entry

-- The words of an opening bracket say where it closes, and whether it has a Sep.
abbrev pub link_number : Option ℕ → ℕ
link_number none = 0
link_number (some k) = suc k

pub record Linked (K : List ℕ) (I : Input) (i : ℕ) : Type 0 where
  pub close : after_close K i ≡ link_number (close_of I.text I.es i)
  pub sep : sep_of K i ≡ bit (has_sep zero (drop (suc i) I.es))

-- The words are the input's.
pub record Given (X t : List ℕ) (n : ℕ) (K : List ℕ) (I : Input) : Type 0 where
  pub text : I.text ≡ X
  pub size : length I.es ≡ n
  pub stands : (i : ℕ) → i < n → Stands t K I.es i
  pub linked : (i : ℕ) → i < n → kind_of t K i ≡ 20 → Linked K I i

-- The marks in the work words are these.
pub record Marks (n : ℕ) (K : List ℕ) (m : List Bool) : Type 0 where
  pub held : length m ≡ 3 * n
  pub words : (i : ℕ) → i < n → marks_of K i ≡ marks_word (get_or m (3 * i) false) (get_or m (3 * i + 1) false) (get_or m (3 * i + 2) false)

-- The words and the position stand where the definition does; takes are counted round 2^32.
pub record At (X t : List ℕ) (n : ℕ) (K : List ℕ) (p u : ℕ) (I : Input) (s : State) : Type 0 where
  pub given : Given X t n K I
  pub marks : Marks n K s.marks
  pub pos : p ≡ s.pos
  pub takes : u % 2 ^ 32 ≡ s.takes % 2 ^ 32

-- The work words stand for some input and some marks.
pub record Known (X t : List ℕ) (n : ℕ) (K : List ℕ) : Type 0 where
  pub input : Input
  pub marked : List Bool
  pub given : Given X t n K input
  pub marks : Marks n K marked

-- The brackets of a row are round ones, or else square ones.
abbrev pub is_pair : Input → Bool → reading.Row → Bool
is_pair I round r =
    cond round
    (is_byte I.text I.es 40 r.left.span && is_byte I.text I.es 41 r.right.span)
    (is_byte I.text I.es 91 r.left.span && is_byte I.text I.es 93 r.right.span)

-- the readers at depth d
abbrev pub readers : ℕ → Input → Readers
readers d I = level I.text I.es true (256 - d)

-- The last item of those, or the one before them.
abbrev pub last_after : Option Node → Nodes → Option Node
last_after b end = b
last_after b (x ▸ l) = last_after (some x) l

abbrev pub is_none : Option Node → Bool
is_none none = true
is_none (some x) = false

-- The bar that the items end at, by its entry u; none, if no entry is there.
abbrev pub Until : ℕ → Input → ℕ → Option Entry → Type 0
Until n I u none = n ≤ u
Until n I u (some o) = (u < n) × (get_elem? I.es u ≡ some o)

-- The definition's readers, with the code's arguments.
abbrev pub simple_at : ℕ → Bool → Bool → Input → M (Option Node)
simple_at d stop sg I = (readers d I).simple (stop_of stop) sg

abbrev pub script_func_at : ℕ → Bool → Bool → Input → M (Option Node)
script_func_at d stop sg I = (readers d I).script_func (stop_of stop) sg

abbrev pub intermediate_at : ℕ → Bool → Bool → Input → M (Option Node)
intermediate_at d stop sg I = next_intermediate I.text I.es true (readers d I) (stop_of stop) sg

abbrev pub script_at : ℕ → Input → M Scripted
script_at d I = next_script I.text I.es true (readers d I)

abbrev pub items_at : ℕ → ℕ → Option Entry → Bool → Option Node → Input → M Nodes
items_at d f until stop before I = intermediates I.text I.es true (readers d I) f until (stop_of stop) before

-- The same for the code, which looks for the bar behind an item only: with f turns behind the first item, if none stands before.
abbrev pub items_from : ℕ → ℕ → Option Entry → Bool → Option Node → Input → M Nodes
items_from d f until stop none I =
    intermediate_at d stop true I >>= λ a. elim a [
      | none ↦ return end
      | some x ↦ items_at d f until stop (some x) I >>= λ l. return (x ▸ l)
    ]
items_from d f until stop (some b) I = items_at d (suc f) until stop (some b) I

-- next_script_func, behind the look for a head
abbrev pub term_at : ℕ → Bool → Bool → Input → M (Option Node)
term_at d stop sg I =
    simple_at d stop sg I >>= λ a. elim a [
      | none ↦ return none
      | some x ↦ script_at d I >>= λ q. return (some (node (Head.simple q.0) (x ▸ q.1)))
    ]

abbrev pub headed_at : ℕ → Bool → Input → Entry → M (Option Node)
headed_at d stop I en =
    when is token.Function en
    then (script_at d I >>= λ q. (readers d I).script_func Stop.none true >>= λ a.
    return (some (node (Head.func en.span q.0) (q.1 ⧺ (or_missing_part a ▸ end)))))
    else (readers d I).script_func (stop_of stop) true >>= λ a.
    return (some (one (Head.prefix Prefix.signed en.span) (or_missing_part a)))

abbrev pub bars_at : ℕ → Bool → ℕ → Input → Entry → M Node
bars_at d stop i I o =
    attempt I.text I.es true (open_mark (stop_of stop)) i (bar_body I.text I.es true (readers d I) o i (stop_of stop)) >>= λ g.
    return (or_glyph o g)

-- What an opening bracket begins, or else a bar.
abbrev pub bracket_at : Bool → ℕ → Bool → ℕ → Input → Entry → M Node
bracket_at true d stop i I o = next_bracket I.text I.es true (readers d I) o i
bracket_at false d stop i I o = next_open_close_group I.text I.es true (readers d I) o i (stop_of stop)

-- The cells of a row, a row, the rows behind the first one h, and all rows.
abbrev pub cells_at : ℕ → Input → M (Option (Nodes × Entry))
cells_at d I = row_cells I.text I.es true (readers d I) (suc (length I.es))

abbrev pub row_at : ℕ → Input → M (Option reading.Row)
row_at d I = next_matrix_row I.text I.es true (readers d I)

abbrev pub more_at : ℕ → reading.Row → Input → M (Option (List Nodes))
more_at d h I = more_rows I.text I.es true (readers d I) (suc (length I.es)) h

abbrev pub rows_at : ℕ → Input → M (Option reading.Rows)
rows_at d I = next_matrix_rows I.text I.es true (readers d I)

-- the first row, h: of `cols` cells between round brackets, or else square ones
pub record First (I : Input) (cols : ℕ) (round : Bool) (h : reading.Row) : Type 0 where
  pub pair : is_pair I round h ≡ true
  pub number : cols ≡ count h.cells
