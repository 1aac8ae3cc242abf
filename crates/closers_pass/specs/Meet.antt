-- What the readers' contracts say: what a call needs, and how its answer meets the definition's reading. X is the text, t the words
-- of the token table, n the number of entries; K and L are the work words before and after.
use Rattle.std.specs.Prelude.{Some, None, ℕ, ◌+◌, ◌-◌, ◌%◌, ◌≤◌, ◌<◌, ◌^◌, ◌≡◌, List, Bool, true, false, ◌&&◌, length, get_or, eqb}
use Rattle.std.proofs.Math.Option.{Option, none, some}
use Rattle.std.proofs.Math.ListN.{get_elem?}
use Rattle.tree.specs.Tree.{Script, Head, Node, node, Nodes, end, ◌▸◌}
use Rattle.reading.specs.Entries.{Entry}
use Rattle.reading.specs.Reading.{State, M, next_open_group, try_matrix, begun, ends_operand, prefixes, is_bar_symbol, is_unscripted, is_column_line}
use Rattle.reading_cursor.specs.declared.Cursor.{Cursor}
use Rattle.closers_pass.specs.declared.cursor.Part.{Part}
use Rattle.closers_pass.specs.declared.cursor.Node as part
use Rattle.std.specs.declared.option.Option as rust
use Rattle.closers_pass.specs.declared.cursor.Scripted as code
use Rattle.closers_pass.specs.declared.cursor.Items.{Items}
use Rattle.closers_pass.specs.declared.cursor.Tried.{Tried}
use Rattle.records.specs.Record.{record_words, closer_of, kind_of, Kept}
use Rattle.reading_cursor.specs.Moves.{onward, seen, at_depth}
use Rattle.leaves.specs.Leaves.{leaf_ends, leaf_bar}
use Rattle.brackets.specs.Brackets.{bar_at}
use Rattle.tokens.specs.Refusals.{bit}
use Rattle.reading_words.specs.Meet.{Input, stop_of, Given, Marks, readers, last_after, is_none, Until, simple_at, script_func_at, intermediate_at, script_at, items_from, term_at, headed_at, bars_at, bracket_at}

-- The closers in the work words are these.
pub record Noted (n : ℕ) (K c : List ℕ) : Type 0 where
  pub words : (i : ℕ) → i < n → closer_of K i ≡ n - get_or c i n

-- The closers so far: none behind the position p.
pub record Closed (n p : ℕ) (c : List ℕ) : Type 0 where
  pub size : length c ≡ n
  pub few : (i : ℕ) → get_or c i n ≤ n
  pub free : (j : ℕ) → p ≤ j → get_or c j n ≡ n

-- The words and the position stand where the definition does; takes are counted round 2^32.
pub record At (X t : List ℕ) (n : ℕ) (K : List ℕ) (p u : ℕ) (I : Input) (s : State) : Type 0 where
  pub given : Given X t n K I
  pub marks : Marks n K s.marks
  pub noted : Noted n K s.closers
  pub closed : Closed n s.pos s.closers
  pub pos : p ≡ s.pos
  pub takes : u % 2 ^ 32 ≡ s.takes % 2 ^ 32

-- What each call needs.
pub record Ready (n : ℕ) (K : List ℕ) (c : Cursor) : Type 0 where
  pub few : n ≤ 4096
  pub fit : record_words n ≤ length K
  pub here : c.pos ≤ n

-- The numbers of an answer: from c to d, `gain` tokens on at least.
pub record Moves (gain n : ℕ) (K L : List ℕ) (c d : Cursor) : Type 0 where
  pub within : d.pos ≤ n
  pub on : c.pos + gain ≤ d.pos
  pub depth : d.depth ≡ c.depth
  pub kept : Kept K L

-- what an answer says of its node: whether there is one, whether it ends an operand, whether it is a bar by itself
abbrev pub has : rust.Option part.Node → Bool
has None = false
has (Some x) = true

abbrev pub ends_in : rust.Option part.Node → Bool
ends_in None = false
ends_in (Some x) = x.ends

abbrev pub bar_in : rust.Option part.Node → Bool
bar_in None = false
bar_in (Some x) = x.bar

-- What it should say: whether there is a node, whether it ends an operand, whether it is a lone symbol `|`; the same of a
-- scripted part or an item.
abbrev pub is_some : Option Node → Bool
is_some none = false
is_some (some x) = true

abbrev pub ends_of : Option Node → Bool
ends_of none = false
ends_of (some x) = ends_operand x

abbrev pub bar_of : Input → Option Node → Bool
bar_of I none = false
bar_of I (some x) = is_bar_symbol I.text I.es x

abbrev pub line_part : Input → Node → Bool
line_part I (node h end) = false
line_part I (node h (x ▸ l)) = is_unscripted h && is_bar_symbol I.text I.es x

abbrev pub line_of : Input → Option Node → Bool
line_of I none = false
line_of I (some x) = line_part I x

pub record Says (bars : Option Node → Bool) (g : Part) (a : Option Node) : Type 0 where
  pub some : has g.node ≡ is_some a
  pub ends : ends_in g.node ≡ ends_of a
  pub bar : bar_in g.node ≡ bars a

-- there is an item
abbrev pub is_more : Nodes → Bool
is_more end = false
is_more (x ▸ l) = true

-- there is a script
abbrev pub scripts : Script → Bool
scripts Script.none = false
scripts Script.sub = true
scripts Script.super = true
scripts Script.subsuper = true

module _ (X t : List ℕ) (n : ℕ) where
  -- The definition's reader m, run from s, gives an answer and a state: the cursor stands there.
  pub record Gives {A : Type 0} (L : List ℕ) (m : M A) (also : A → Type 0) (I : Input) (s : State) (d : Cursor) : Type 0 where
    pub answer : A
    pub state : State
    pub runs : m s ≡ (answer, state)
    pub at : At X t n L d.pos d.takes I state
    pub besides : also answer

  -- For each input and state that the words and the cursor stand for.
  abbrev pub Each : List ℕ → Cursor → (Input → State → Type 0) → Type 0
  Each K c P = (I : Input) (s : State) → At X t n K c.pos c.takes I s → P I s

  pub record Gave {A : Type 0} (K L : List ℕ) (gain : ℕ) (m : Input → M A) (also : Input → A → Type 0) (c d : Cursor) : Type 0 where
    pub moves : Moves gain n K L c d
    pub means : Each K c (λ I s. Gives L (m I) (also I) I s d)

  -- A reader of a part: where it finds no node, it stays.
  pub record Found (K L : List ℕ) (m : Input → M (Option Node)) (bars : Input → Option Node → Bool) (c : Cursor) (g : Part) : Type 0 where
    pub moves : Moves (bit (has g.node)) n K L c g.cur
    pub stays : has g.node ≡ false → g.cur.pos ≡ c.pos
    pub means : Each K c (λ I s. Gives L (m I) (Says (bars I) g) I s g.cur)

  -- What the entry i begins, which the reader has just taken.
  abbrev pub EachOf : List ℕ → ℕ → Cursor → (Input → State → Entry → Type 0) → Type 0
  EachOf K i c P = (I : Input) (s : State) → At X t n K c.pos c.takes I s → (en : Entry) → get_elem? I.es i ≡ some en → P I s en

  pub record Began {A : Type 0} (K L : List ℕ) (i : ℕ) (m : Input → Entry → M A) (also : Input → A → Type 0) (c d : Cursor) : Type 0 where
    pub moves : Moves 0 n K L c d
    pub means : EachOf K i c (λ I s en. Gives L (m I en) (also I) I s d)

  -- The readers' contracts.
  abbrev pub Simple : List ℕ → List ℕ → Bool → Bool → Cursor → Part → Type 0
  Simple K L stop sg c g = Found K L (simple_at c.depth stop sg) bar_of c g

  abbrev pub ScriptFunc : List ℕ → List ℕ → Bool → Bool → Cursor → Part → Type 0
  ScriptFunc K L stop sg c g = Found K L (script_func_at c.depth stop sg) line_of c g

  abbrev pub Term : List ℕ → List ℕ → Bool → Bool → Cursor → Part → Type 0
  Term K L stop sg c g = Found K L (term_at c.depth stop sg) line_of c g

  abbrev pub Intermediate : List ℕ → List ℕ → Bool → Bool → Cursor → Part → Type 0
  Intermediate K L stop sg c g = Found K L (intermediate_at c.depth stop sg) line_of c g

  abbrev pub Scripts : List ℕ → List ℕ → Cursor → code.Scripted → Type 0
  Scripts K L c g = Gave K L 0 (script_at c.depth) (λ I q. g.some ≡ scripts q.0) c g.cur

  -- The items behind the item `before`, if there is one, in turns enough: the code knows of it whether it is there, and whether a
  -- sign behind it prefixes.
  pub record Listed (I : Input) (before : Option Node) (g : Items) (l : Nodes) : Type 0 where
    pub some : g.some ≡ is_more l
    pub line : is_none before ≡ true → g.line ≡ is_column_line I.text I.es (node Head.cell l)
    pub sign : g.sign ≡ prefixes (last_after before l)

  pub record Intermediates (K L : List ℕ) (u : ℕ) (stop first sign : Bool) (c : Cursor) (g : Items) : Type 0 where
    pub moves : Moves 0 n K L c g.cur
    pub met : g.some ≡ true → g.met ≡ bar_at X t L n u g.cur.pos
    pub means : Each K c (λ I s. (f : ℕ) → n - c.pos ≤ f → (until : Option Entry) → Until n I u until → (before : Option Node) → first ≡ is_none before → sign ≡ prefixes before → Gives L (items_from c.depth f until stop before I) (Listed I before g) I s g.cur)

  abbrev pub Headed : List ℕ → List ℕ → ℕ → Bool → Cursor → Cursor → Type 0
  Headed K L i stop c d = Began K L i (headed_at c.depth stop) (λ I a. (true ≡ is_some a) × (true ≡ ends_of a) × (false ≡ line_of I a)) c d

  abbrev pub Begun : List ℕ → List ℕ → ℕ → Bool → Bool → Cursor → Part → Type 0
  Begun K L i stop sg c g = (has g.node ≡ true) × Began K L i (λ I en. begun I.text I.es true (readers c.depth I) en.token en i (stop_of stop) sg) (λ I. Says (bar_of I) g) c g.cur

  -- a group, a matrix or a bar
  pub record Bracketed (I : Input) (g : Part) (x : Node) : Type 0 where
    pub ends : ends_in g.node ≡ ends_operand x
    pub bar : bar_in g.node ≡ is_bar_symbol I.text I.es x

  pub record Grouped (I : Input) (x : Node) : Type 0 where
    pub ends : true ≡ ends_operand x
    pub bar : false ≡ is_bar_symbol I.text I.es x

  abbrev pub OpenGroup : List ℕ → List ℕ → ℕ → Cursor → Cursor → Type 0
  OpenGroup K L i c d = Began K L i (λ I en. next_open_group I.text I.es true (readers c.depth I) en i) Grouped c d

  abbrev pub Bracket : List ℕ → List ℕ → ℕ → ℕ → Bool → Cursor → Part → Type 0
  Bracket K L i k stop c g = (has g.node ≡ true) × Began K L i (bracket_at (eqb k 20) c.depth stop i) (λ I. Bracketed I g) c g.cur

  abbrev pub TryMatrix : List ℕ → List ℕ → ℕ → Cursor → Tried → Type 0
  TryMatrix K L i c g = Began K L i (λ I en. try_matrix I.text I.es true (readers c.depth I) en i) (λ I a. (g.made ≡ is_some a) × ((x : Node) → a ≡ some x → Grouped I x)) c g.cur

  abbrev pub Bars : List ℕ → List ℕ → ℕ → Bool → Cursor → Part → Type 0
  Bars K L i stop c g = (has g.node ≡ true) × Began K L i (bars_at c.depth stop i) (λ I. Bracketed I g) c g.cur

-- Answers.
abbrev pub nothing_at : Cursor → Part
nothing_at c = record { cur = c; node = None }

abbrev pub operation_at : Cursor → Part
operation_at c = record { cur = c; node = Some (record { ends = true; bar = false }) }

abbrev pub part_at : ℕ → Part → Part
part_at d g = record { cur = at_depth d g.cur; node = g.node }

-- the leaf of the entry i, of kind k
abbrev pub leaf_at : List ℕ → List ℕ → List ℕ → ℕ → ℕ → Cursor → Part
leaf_at X t K i k c = record { cur = c; node = Some (record { ends = leaf_ends k; bar = leaf_bar X t K i k }) }

-- an item that is the leaf at the cursor alone
abbrev pub plain_part : List ℕ → List ℕ → List ℕ → ℕ → Cursor → Part
plain_part X t K n c = leaf_at X t K c.pos (kind_of t K c.pos) (seen n (seen n (onward (seen n c))))
