-- What the readers' contracts say: what a call needs, and how its answer and the tree's words meet the definition's reading. X is
-- the text, t the words of the token table, n the number of entries; K and L are the work words before and after, x and y the
-- tree's.
use Rattle.std.specs.Prelude.{ℕ, ◌+◌, ◌-◌, ◌*◌, ◌≤◌, ◌≡◌, List, [], ◌∷◌, Bool, true, cond, length, eqb, Result, Ok, Err}
use Rattle.std.proofs.Math.Option.{Option, none, some}
use Rattle.std.proofs.Math.ListN.{get_elem?}
use Rattle.tree.specs.Tree.{Head, Prefix, Node, node, end, ◌▸◌, count, one}
use Rattle.tree.specs.Words.{encode, encodes, encode_item, encode_items, script_number}
use Rattle.reading.specs.Entries.{Entry}
use Rattle.reading.specs.Reading.{State, M, return, ◌>>=◌, argument, next_open_group, try_matrix, begun, or_missing, or_missing_part, ends_operand, prefixes}
use Rattle.reading_cursor.specs.declared.Cursor.{Cursor}
use Rattle.parse.specs.declared.cursor.Part.{Part}
use Rattle.parse.specs.declared.cursor.Missed.{Missed}
use Rattle.parse.specs.declared.cursor.Scripted as code
use Rattle.parse.specs.declared.cursor.Items.{Items}
use Rattle.parse.specs.declared.cursor.Gap.{Gap}
use Rattle.parse.specs.Buffer.{Wrote}
use Rattle.nodes.specs.Nodes.{gap_words, gap_items}
use Rattle.reading_cursor.specs.Moves.{at_depth}
use Rattle.records.specs.Record.{Kept}
use Rattle.reading_words.specs.Entry.{Safe}
use Rattle.reading_words.specs.Meet.{Input, stop_of, At, Known, readers, last_after, is_none, Until, simple_at, script_func_at, intermediate_at, script_at, items_from, term_at, headed_at, bars_at, bracket_at}

-- What each call needs: slack words more than 32 for each token left.
pub record Ready (slack n : ℕ) (X t K tree : List ℕ) (c : Cursor) (e : ℕ) : Type 0 where
  pub safe : Safe n X t K
  pub known : Known X t n K
  pub here : c.pos ≤ n
  pub room : e + slack + 32 * (n - c.pos) ≤ length tree

-- The numbers of an answer: from c and e to d and E, `gain` tokens on at least, `more` words above 32 a token at most, `spare`
-- below.
pub record Moves (X t : List ℕ) (gain more spare n : ℕ) (K L : List ℕ) (c : Cursor) (e : ℕ) (x y : List ℕ) (d : Cursor) (E : ℕ) : Type 0 where
  pub within : d.pos ≤ n
  pub on : c.pos + gain ≤ d.pos
  pub depth : d.depth ≡ c.depth
  pub room : E + spare + 32 * (n - d.pos) ≤ e + more + 32 * (n - c.pos)
  pub long : length y ≡ length x
  pub kept : Kept K L
  pub known : Known X t n L

-- What a reader answers that may find no node: the node, or where the cursor stands.
abbrev pub Step : Type 0
Step = Result Part Missed

-- The flag says whether the node ends an operand; a scripted part is no fraction besides.
abbrev pub Ending : Bool → Node → Type 0
Ending f x = f ≡ ends_operand x

abbrev pub Scripting : Bool → Node → Type 0
Scripting f x = (f ≡ ends_operand x) × (encode_item x ≡ 0 ∷ encode x)

-- The definition's reading of two arguments.
abbrev pub binary_at : ℕ → Input → Entry → M (Option Node)
binary_at d I en =
    argument I.text I.es true (readers d I) >>= λ a.
    argument I.text I.es true (readers d I) >>= λ b.
    return (some (node (Head.prefix Prefix.binary en.span) (a ▸ b ▸ end)))

abbrev pub prefix_of : ℕ → Prefix
prefix_of k = cond (eqb k 9) Prefix.ssigned (cond (eqb k 10) Prefix.unary Prefix.sfunc)

abbrev pub words_of : Option Node → List ℕ
words_of none = []
words_of (some x) = encode x

-- some node, whose flag is f
abbrev pub With : (Bool → Node → Type 0) → Bool → Option Node → Type 0
With also f none = ⊥
With also f (some x) = also f x

module _ (X t : List ℕ) (n : ℕ) where
  -- The definition's reader m, run from s, gives an answer and a state: the cursor stands there, and the answer's words are written.
  pub record Gives {A : Type 0} (L : List ℕ) (m : M A) (words : A → List ℕ) (also : A → Type 0) (I : Input) (s : State) (e : ℕ) (x y : List ℕ) (d : Cursor) (E : ℕ) : Type 0 where
    pub answer : A
    pub state : State
    pub runs : m s ≡ (answer, state)
    pub at : At X t n L d.pos d.takes I state
    pub tree : Wrote x e y E (words answer)
    pub besides : also answer

  -- The same of a reader that finds a node, and of one that finds none.
  pub record Finds (L : List ℕ) (m : M (Option Node)) (words : Node → List ℕ) (also : Bool → Node → Type 0) (I : Input) (s : State) (e : ℕ) (x y : List ℕ) (d : Cursor) (E : ℕ) (f : Bool) : Type 0 where
    pub node : Node
    pub state : State
    pub runs : m s ≡ (some node, state)
    pub at : At X t n L d.pos d.takes I state
    pub tree : Wrote x e y E (words node)
    pub besides : also f node

  pub record Misses (L : List ℕ) (m : M (Option Node)) (I : Input) (s : State) (e : ℕ) (x y : List ℕ) (d : Cursor) : Type 0 where
    pub state : State
    pub runs : m s ≡ (none, state)
    pub at : At X t n L d.pos d.takes I state
    pub tree : Wrote x e y e []

  -- For each input and state that the words and the cursor stand for.
  abbrev pub Each : List ℕ → Cursor → (Input → State → Type 0) → Type 0
  Each K c P = (I : Input) (s : State) → At X t n K c.pos c.takes I s → P I s

  pub record Gave {A : Type 0} (K L : List ℕ) (gain more spare : ℕ) (m : Input → M A) (words : A → List ℕ) (also : A → Type 0) (c : Cursor) (e : ℕ) (x y : List ℕ) (d : Cursor) (E : ℕ) : Type 0 where
    pub moves : Moves X t gain more spare n K L c e x y d E
    pub means : Each K c (λ I s. Gives L (m I) words also I s e x y d E)

  abbrev pub Met : List ℕ → List ℕ → ℕ → (Input → M (Option Node)) → (Node → List ℕ) → (Bool → Node → Type 0) → Cursor → ℕ → List ℕ → List ℕ → Step → Type 0
  Met K L spare m words also c e x y (Ok g) = Moves X t 1 0 spare n K L c e x y g.cur g.end × Each K c (λ I s. Finds L (m I) words also I s e x y g.cur g.end g.ends)
  Met K L spare m words also c e x y (Err d) = Moves X t 0 0 0 n K L c e x y d.cur e × Each K c (λ I s. Misses L (m I) I s e x y d.cur)

  -- What the entry i begins, which the reader has just taken.
  abbrev pub EachOf : List ℕ → ℕ → Cursor → (Input → State → Entry → Type 0) → Type 0
  EachOf K i c P = (I : Input) (s : State) → At X t n K c.pos c.takes I s → (en : Entry) → get_elem? I.es i ≡ some en → P I s en

  pub record Began {A : Type 0} (K L : List ℕ) (more i : ℕ) (m : Input → Entry → M A) (words : Entry → A → List ℕ) (also : Entry → A → Type 0) (c : Cursor) (e : ℕ) (x y : List ℕ) (d : Cursor) (E : ℕ) : Type 0 where
    pub moves : Moves X t 0 more 0 n K L c e x y d E
    pub means : EachOf K i c (λ I s en. Gives L (m I en) (words en) (also en) I s e x y d E)

  abbrev pub MetOf : List ℕ → List ℕ → ℕ → ℕ → (Input → Entry → M (Option Node)) → Cursor → ℕ → List ℕ → List ℕ → Step → Type 0
  MetOf K L more i m c e x y (Ok g) = Moves X t 1 more 0 n K L c e x y g.cur g.end × EachOf K i c (λ I s en. Finds L (m I en) encode Ending I s e x y g.cur g.end g.ends)
  MetOf K L more i m c e x y (Err d) = Moves X t 0 0 0 n K L c e x y d.cur e × EachOf K i c (λ I s en. Misses L (m I en) I s e x y d.cur)

  -- The readers' contracts. A simple expression leaves 14 of its tokens' words: 6 for the part around it, 1 for the item, 7 for a
  -- Space before it; so a part leaves 8, an item 7. Missing has no token: 6 words, 12 as a part.
  abbrev pub Simple : List ℕ → List ℕ → Bool → Bool → Cursor → ℕ → List ℕ → List ℕ → Step → Type 0
  Simple K L stop sg c = Met K L 14 (simple_at c.depth stop sg) encode Ending c

  abbrev pub ScriptFunc : List ℕ → List ℕ → Bool → Bool → Cursor → ℕ → List ℕ → List ℕ → Step → Type 0
  ScriptFunc K L stop sg c = Met K L 8 (script_func_at c.depth stop sg) encode Scripting c

  abbrev pub Term : List ℕ → List ℕ → Bool → Bool → Cursor → ℕ → List ℕ → List ℕ → Step → Type 0
  Term K L stop sg c = Met K L 8 (term_at c.depth stop sg) encode Scripting c

  abbrev pub Intermediate : List ℕ → List ℕ → Bool → Bool → Cursor → ℕ → List ℕ → List ℕ → Step → Type 0
  Intermediate K L stop sg c = Met K L 7 (intermediate_at c.depth stop sg) encode_item Ending c

  abbrev pub Argument : List ℕ → List ℕ → Bool → Cursor → ℕ → List ℕ → List ℕ → Part → Type 0
  Argument K L stop c e x y g = Gave K L 0 6 0 (simple_at c.depth stop true) (λ a. encode (or_missing a)) (λ a. g.ends ≡ ends_operand (or_missing a)) c e x y g.cur g.end

  abbrev pub Operand : List ℕ → List ℕ → Bool → Cursor → ℕ → List ℕ → List ℕ → Part → Type 0
  Operand K L stop c e x y g = Gave K L 0 12 0 (script_func_at c.depth stop true) (λ a. encode (or_missing_part a)) (λ a. g.ends ≡ ends_operand (or_missing_part a)) c e x y g.cur g.end

  abbrev pub Scripts : List ℕ → List ℕ → Cursor → ℕ → List ℕ → List ℕ → code.Scripted → Type 0
  Scripts K L c e x y g = Gave K L 0 0 0 (script_at c.depth) (λ q. encodes q.1) (λ q. g.script ≡ script_number q.0) c e x y g.cur g.end

  -- The items behind the item `before`, if there is one, in turns enough: the code knows of it whether it is there, and whether a
  -- sign behind it prefixes.
  pub record Intermediates (K L : List ℕ) (u : ℕ) (stop first sign : Bool) (c : Cursor) (e : ℕ) (x y : List ℕ) (g : Items) : Type 0 where
    pub moves : Moves X t 0 0 0 n K L c e x y g.cur g.end
    pub few : g.count + 2 * c.pos ≤ 2 * g.cur.pos
    pub means : Each K c (λ I s. (f : ℕ) → n - c.pos ≤ f → (until : Option Entry) → Until n I u until → (before : Option Node) → first ≡ is_none before → sign ≡ prefixes before → Gives L (items_from c.depth f until stop before I) encode_items (λ l. (g.count ≡ count l) × (g.sign ≡ prefixes (last_after before l))) I s e x y g.cur g.end)

  abbrev pub Headed : List ℕ → List ℕ → ℕ → Bool → Cursor → ℕ → List ℕ → List ℕ → Part → Type 0
  Headed K L i stop c e x y g = Began K L 18 i (headed_at c.depth stop) (λ en a. words_of a) (λ en. With Scripting g.ends) c e x y g.cur g.end

  abbrev pub Begun : List ℕ → List ℕ → ℕ → Bool → Bool → Cursor → ℕ → List ℕ → List ℕ → Part → Type 0
  Begun K L i stop sg c e x y g = Began K L 18 i (λ I en. begun I.text I.es true (readers c.depth I) en.token en i (stop_of stop) sg) (λ en a. words_of a) (λ en. With Ending g.ends) c e x y g.cur g.end

  abbrev pub OpenGroup : List ℕ → List ℕ → ℕ → Cursor → ℕ → List ℕ → List ℕ → Part → Type 0
  OpenGroup K L i c e x y g = Began K L 6 i (λ I en. next_open_group I.text I.es true (readers c.depth I) en i) (λ en. encode) (λ en a. g.ends ≡ ends_operand a) c e x y g.cur g.end

  abbrev pub Bracket : List ℕ → List ℕ → ℕ → ℕ → Bool → Cursor → ℕ → List ℕ → List ℕ → Part → Type 0
  Bracket K L i k stop c e x y g = Began K L 8 i (bracket_at (eqb k 20) c.depth stop i) (λ en. encode) (λ en a. g.ends ≡ ends_operand a) c e x y g.cur g.end

  abbrev pub TryMatrix : List ℕ → List ℕ → ℕ → Cursor → ℕ → List ℕ → List ℕ → Step → Type 0
  TryMatrix K L i c = MetOf K L 8 i (λ I en. try_matrix I.text I.es true (readers c.depth I) en i) c

  abbrev pub Bars : List ℕ → List ℕ → ℕ → Bool → Cursor → ℕ → List ℕ → List ℕ → Part → Type 0
  Bars K L i stop c e x y g = Began K L 6 i (bars_at c.depth stop i) (λ en. encode) (λ en a. g.ends ≡ ends_operand a) c e x y g.cur g.end

  abbrev pub Unary : List ℕ → List ℕ → ℕ → ℕ → Bool → Cursor → ℕ → List ℕ → List ℕ → Part → Type 0
  Unary K L i kind stop c e x y g = Began K L 12 i (λ I en. simple_at c.depth stop true I) (λ en a. encode (one (Head.prefix (prefix_of kind) en.span) (or_missing a))) (λ en a. g.ends ≡ true) c e x y g.cur g.end

  abbrev pub Binary : List ℕ → List ℕ → ℕ → Cursor → ℕ → List ℕ → List ℕ → Part → Type 0
  Binary K L i c e x y g = Began K L 18 i (binary_at c.depth) (λ en a. words_of a) (λ en. With Ending g.ends) c e x y g.cur g.end

-- The Space before the entry i.
pub record Gapped (t K : List ℕ) (n : ℕ) (first : Bool) (i e : ℕ) (x y : List ℕ) (g : Gap) : Type 0 where
  pub tree : Wrote x e y g.end (gap_words t K n first i)
  pub items : g.items ≡ gap_items t K n first i
  pub few : g.items ≤ 1
  pub short : g.end ≤ e + 7

-- The same answer in the reader of that depth.
abbrev pub part_at : ℕ → Part → Part
part_at d g = record { cur = at_depth d g.cur; end = g.end; ends = g.ends }

abbrev pub missed_at : Cursor → Missed
missed_at c = record { cur = c; aligned = [] }

abbrev pub step_at : ℕ → Step → Step
step_at d (Ok g) = Ok (part_at d g)
step_at d (Err m) = Err (missed_at (at_depth d m.cur))
