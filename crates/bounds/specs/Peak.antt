-- How many words stand in the tree's buffer while a list is read: those of any partial tree, of all readers that are open, in an
-- attempt that is given back too. It is here so that "tree 32 × (n + 1)" can be shown to be enough at every step, and not for the
-- finished tree alone. It is a count over the definition: each reader of Reading.antt is counted step by step, and that a count is of
-- its reader, and leaves no step out, is in its type. No theorem ties it to the code, which could write elsewhere or more; that the code
-- stays inside the buffer is in the contracts of its own functions (crates/parse/specs/Buffer.antt, Meet.antt), at every write. The
-- numbers are those of docs/LAYOUT.md; a node's own words stand in front of the nodes below it, so they are put before those are read.
use Prim.Native.Nat.{ℕ, zero, suc, ◌+◌, max}
use Rattle.std.specs.Prelude.{List, [], ◌∷◌, Bool, length}
use Rattle.std.proofs.Math.Option.{Option, none, some}
use Rattle.std.proofs.Math.Bool.{true, false}
use Rattle.tokens.specs.declared.token.Token.{Token}
use Rattle.tokens.specs.declared.token.Token.TheVariants as token
use Rattle.tokens.specs.Lexeme.{Lexeme}
use Rattle.tree.specs.Tree.{nowhere, Node, Nodes, end, count}
use Rattle.tree.specs.Words.{encode, encodes, encode_item, encode_items}
use Rattle.reading.specs.Stop.{Stop}
use Rattle.reading.specs.Entries.{Entry, entries}
use Rattle.reading.specs.Reading.{State, M, return, ◌>>=◌, when◌then◌else◌, here, current, closed, Mark, open_mark, matrix_mark, Try, made, lost, nought, Readers, Scripted, Row, Rows, entry_at, advance, failed, give_up, attempt, argument, next_script, next_script_func, next_intermediate, intermediates, row_cells, next_matrix_row, more_rows, next_matrix_rows, matrix_body, try_matrix, next_open_group, bar_body, next_open_close_group, next_bracket, begun, next_simple, step, level, parse, start}

-- How many words an answer has. One without a node has none: what was read for it is given back.
abbrev pub words : Node → ℕ
words x = length (encode x)

abbrev pub all_words : Nodes → ℕ
all_words l = length (encodes l)

abbrev pub item_words : Node → ℕ
item_words x = length (encode_item x)

abbrev pub items_words : Nodes → ℕ
items_words l = length (encode_items l)

abbrev pub rows_words : List Nodes → ℕ
rows_words [] = 0
rows_words (r ∷ rs) = all_words r + rows_words rs

abbrev pub perhaps : {A : Type 0} → (A → ℕ) → Option A → ℕ
perhaps d none = 0
perhaps d (some x) = d x

abbrev pub try_words : Try → ℕ
try_words (made x) = words x
try_words lost = 0
try_words nought = 0

abbrev pub no_words : {A : Type 0} → A → ℕ
no_words x = 0

-- The Space before an item has the word in front and six of its own. Like `spaced`: it is kept between items only.
abbrev pub space_words : Option Node → Option Entry → ℕ
space_words none e = 0
space_words (some p) none = 0
space_words (some p) (some e) = elim e.space.len [ zero ↦ 0 | suc n ↦ 7 ]

module _ (text : List ℕ) (es : List Entry) (remember : Bool) where
  -- Counted A w d m: the reader m, from where w words of its own stand. Its answer x has d x words, which alone stand when it ends.
  pub data Counted : (A : Type 0) → ℕ → (A → ℕ) → M A → Type 1 where
    -- n words more
    more : {A : Type 0} {w : ℕ} {d : A → ℕ} {m : M A} (n : ℕ) → Counted A (w + n) d m → Counted A w d m
    -- The w words stand while m is run, and then the words of its answer with them.
    ran :
        {A B : Type 0} {w : ℕ} {d : A → ℕ} {e : B → ℕ} {m : M A} {f : A → M B} →
        Counted A 0 d m → ((x : A) → Counted B (w + d x) e (f x)) → Counted B w e (m >>= f)
    either :
        {A : Type 0} {w : ℕ} {d : A → ℕ} {m n : M A} (b : Bool) →
        Counted A w d m → Counted A w d n → Counted A w d (when b then m else n)
    -- the words that stood, or those of the answer, whichever are more
    answer : {A : Type 0} {w : ℕ} {d : A → ℕ} (x : A) → Counted A w d (return x)
    answer_closed : {A : Type 0} {w : ℕ} {d : A → ℕ} (i : ℕ) (x : A) → Counted A w d (closed i x)
    -- the steps that put no words
    place : Counted ℕ 0 no_words here
    whole : Counted State 0 no_words current
    take : (ok : Entry → Bool) → Counted (Option Entry) 0 no_words (advance text es ok)
    known : (m : Mark) (i : ℕ) → Counted Bool 0 no_words (failed text es remember m i)
    back : {d : Option Node → ℕ} (m : Mark) (i : ℕ) (o : State) → Counted (Option Node) 0 d (give_up text es remember m i o)

  -- the first two as functions: their m and f are then found from the reader that is counted
  abbrev pub put : {A : Type 0} {w : ℕ} {d : A → ℕ} {m : M A} (n : ℕ) → Counted A (w + n) d m → Counted A w d m
  put n c = more n c

  abbrev pub run :
      {A B : Type 0} {w : ℕ} {d : A → ℕ} {e : B → ℕ} {m : M A} {f : A → M B} → Counted A 0 d m →
      ((x : A) → Counted B (w + d x) e (f x)) → Counted B w e (m >>= f)
  run c k = ran c k

  -- The most words that stand at one time while m is run from the state s.
  unfoldable pub peak : {A : Type 0} {w : ℕ} {d : A → ℕ} {m : M A} → Counted A w d m → State → ℕ
  peak (more n c) s = peak c s
  peak (ran {w} {m} c k) s = max (w + peak c s) (peak (k (m s).0) (m s).1)
  peak (either b c k) s = elim b [ true ↦ peak c s | false ↦ peak k s ]
  peak (answer {w} {d} x) s = max w (d x)
  peak (answer_closed {w} {d} i x) s = max w (d x)
  peak place s = 0
  peak whole s = 0
  peak (take ok) s = 0
  peak (known m i) s = 0
  peak (back {d} m i o) s = d none

  unfoldable pub attempt-counted : (m : Mark) (i : ℕ) {body : M Try} → Counted Try 0 try_words body →
      Counted (Option Node) 0 (perhaps words) (attempt text es remember m i body)
  unfolding attempt
  attempt-counted m i body =
      run whole λ o.
      run (known m i) λ failed.
      either _ (answer _) (run body (elim [ made x ↦ answer _ | lost ↦ back m i o | nought ↦ answer _ ]))

  pub record CountedReaders (R : Readers) : Type 1 where
    pub simple : (stop : Stop) (sg : Bool) → Counted (Option Node) 0 (perhaps words) (R.simple stop sg)
    pub script_func : (stop : Stop) (sg : Bool) → Counted (Option Node) 0 (perhaps words) (R.script_func stop sg)

  module _ (R : Readers) (counted : CountedReaders R) where
    unfoldable pub argument-counted : Counted Node 0 words (argument text es remember R)
    unfolding argument
    argument-counted = run (counted.simple Stop.none true) λ a. answer _

    unfoldable pub next_script-counted : Counted Scripted 0 (λ q. all_words q.1) (next_script text es remember R)
    unfolding next_script
    next_script-counted =
        run (take _) (elim [
          | none ↦ answer _
          | some e ↦ either _ (run argument-counted λ a. answer _)
              (run argument-counted λ a. run (take _) (elim [
                | none ↦ answer _
                | some e' ↦ run argument-counted λ b. answer _
              ]))
        ])

    -- the own words of the scripted part
    unfoldable pub next_script_func-counted : (stop : Stop) (sg : Bool) →
        Counted (Option Node) 0 (perhaps words) (next_script_func text es remember R stop sg)
    unfolding next_script_func
    next_script_func-counted stop sg =
        put 6 (run (take _) (elim [
          | none ↦ run (counted.simple stop sg) (elim [
            | none ↦ answer _
            | some x ↦ run next_script-counted λ q. answer _
          ])
          | some e ↦ either _ (run next_script-counted λ q. run (counted.script_func Stop.none true) λ a. answer _)
              (run (counted.script_func stop true) λ a. answer _)
        ]))

    -- the word in front of the item
    unfoldable pub next_intermediate-counted : (stop : Stop) (sg : Bool) →
        Counted (Option Node) 0 (perhaps item_words) (next_intermediate text es remember R stop sg)
    unfolding next_intermediate
    next_intermediate-counted stop sg =
        put 1 (run (counted.script_func stop sg) (elim [
          | none ↦ answer _
          | some x ↦ run (take _) (elim [
            | none ↦ answer _
            | some e ↦ run (counted.script_func Stop.none true) λ b. answer _
          ])
        ]))

    -- the Space before each item, before the item is read
    unfoldable pub intermediates-counted : (f : ℕ) (until : Option Entry) (stop : Stop) (before : Option Node) →
        Counted Nodes 0 items_words (intermediates text es remember R f until stop before)
    unfolding intermediates
    intermediates-counted zero until stop before = answer _
    intermediates-counted (suc f) until stop before =
        run place λ p.
        either _ (answer _)
        (put (space_words before (entry_at text es p)) (run (next_intermediate-counted stop _) (elim [
          | none ↦ answer _
          | some x ↦ run (intermediates-counted f until stop (some x)) λ l. answer _
        ])))

    -- the own words of each cell
    unfoldable pub row_cells-counted : (f : ℕ) →
        Counted (Option (Nodes × Entry)) 0 (perhaps (λ q. all_words q.0)) (row_cells text es remember R f)
    unfolding row_cells
    row_cells-counted zero = answer _
    row_cells-counted (suc f) =
        put 6 (run (intermediates-counted _ none Stop.sep none) λ l. run (take _) (elim [
          | none ↦ answer _
          | some e ↦ either _ (run (row_cells-counted f) (elim [ none ↦ answer _ | some m ↦ answer _ ]))
              (either _ (answer _) (answer _))
        ]))

    unfoldable pub next_matrix_row-counted :
        Counted (Option Row) 0 (perhaps (λ r. all_words r.cells)) (next_matrix_row text es remember R)
    unfolding next_matrix_row
    next_matrix_row-counted =
        run place λ i. run (take _) (elim [
          | none ↦ answer _
          | some o ↦ either _ (run (row_cells-counted _) (elim [ none ↦ answer _ | some m ↦ answer_closed i _ ])) (answer _)
        ])

    unfoldable pub more_rows-counted : (f : ℕ) (h : Row) →
        Counted (Option (List Nodes)) 0 (perhaps rows_words) (more_rows text es remember R f h)
    unfolding more_rows
    more_rows-counted zero h = answer _
    more_rows-counted (suc f) h =
        run place λ p.
        either _
        (run (take _) λ t. run next_matrix_row-counted (elim [
          | none ↦ answer _
          | some r ↦ either _ (run (more_rows-counted f h) (elim [ none ↦ answer _ | some m ↦ answer _ ])) (answer _)
        ]))
        (answer _)

    unfoldable pub next_matrix_rows-counted :
        Counted (Option Rows) 0 (perhaps (λ r. rows_words (r.head.cells ∷ r.others))) (next_matrix_rows text es remember R)
    unfolding next_matrix_rows
    next_matrix_rows-counted =
        run next_matrix_row-counted (elim [
          | none ↦ answer _
          | some h ↦ either _ (run (more_rows-counted _ h) (elim [ none ↦ answer _ | some m ↦ answer _ ])) (answer _)
        ])

    -- A matrix's own words; then, behind its rows, a flag for each column while column lines are looked for.
    unfoldable pub matrix_body-counted : (o : Entry) (i : ℕ) → Counted Try 0 try_words (matrix_body text es remember R o i)
    unfolding matrix_body
    matrix_body-counted o i =
        put 8 (run next_matrix_rows-counted (elim [
          | none ↦ answer _
          | some r ↦ put (count r.head.cells) (run place λ p.
              either _ (run (take _) (elim [ none ↦ answer _ | some c ↦ answer_closed i _ ])) (answer _))
        ]))

    unfoldable pub try_matrix-counted : (o : Entry) (i : ℕ) →
        Counted (Option Node) 0 (perhaps words) (try_matrix text es remember R o i)
    unfolding try_matrix
    try_matrix-counted o i = either _ (attempt-counted matrix_mark i (matrix_body-counted o i)) (answer _)

    -- a group's own words
    unfoldable pub next_open_group-counted : (o : Entry) (i : ℕ) → Counted Node 0 words (next_open_group text es remember R o i)
    unfolding next_open_group
    next_open_group-counted o i =
        put 6 (run (intermediates-counted _ none Stop.none none) λ l. run (take _) (elim [
          | none ↦ answer _
          | some c ↦ answer_closed i _
        ]))

    unfoldable pub bar_body-counted : (o : Entry) (i : ℕ) (stop : Stop) → Counted Try 0 try_words (bar_body text es remember R o i stop)
    unfolding bar_body
    bar_body-counted o i stop =
        put 6 (run (next_intermediate-counted stop true) (elim [
          | none ↦ answer _
          | some x ↦ run (intermediates-counted _ (some o) stop (some x)) λ l.
              run place λ p.
              either _ (run (take _) (elim [ none ↦ answer _ | some c ↦ answer_closed i _ ])) (answer _)
        ]))

    unfoldable pub next_open_close_group-counted : (o : Entry) (i : ℕ) (stop : Stop) →
        Counted Node 0 words (next_open_close_group text es remember R o i stop)
    unfolding next_open_close_group
    next_open_close_group-counted o i stop =
        run (try_matrix-counted o i) (elim [
          | some x ↦ answer _
          | none ↦ run (attempt-counted (open_mark stop) i (bar_body-counted o i stop)) λ g. answer _
        ])

    unfoldable pub next_bracket-counted : (o : Entry) (i : ℕ) → Counted Node 0 words (next_bracket text es remember R o i)
    unfolding next_bracket
    next_bracket-counted o i =
        run (try_matrix-counted o i) (elim [
          | some x ↦ answer _
          | none ↦ next_open_group-counted o i
        ])

    -- the own words of a node with arguments
    unfoldable pub begun-counted : (k : Token) (e : Entry) (i : ℕ) (stop : Stop) (sg : Bool) →
        Counted (Option Node) 0 (perhaps words) (begun text es remember R k e i stop sg)
    unfolding begun
    begun-counted token.Number e i stop sg = answer _
    begun-counted token.Text e i stop sg = answer _
    begun-counted token.Ident e i stop sg = answer _
    begun-counted token.Operator e i stop sg = answer _
    begun-counted (token.Symbol c) e i stop sg = answer _
    begun-counted token.Sign e i stop true = put 6 (run (counted.simple stop true) λ a. answer _)
    begun-counted token.Sign e i stop false = answer _
    begun-counted token.Unary e i stop sg = put 6 (run argument-counted λ a. answer _)
    begun-counted token.Function e i stop sg = put 6 (run argument-counted λ a. answer _)
    begun-counted token.Binary e i stop sg = put 6 (run argument-counted λ a. run argument-counted λ b. answer _)
    begun-counted token.OpenBracket e i stop sg = run (next_bracket-counted e i) λ a. answer _
    begun-counted token.OpenCloseBracket e i stop sg = run (next_open_close_group-counted e i stop) λ a. answer _
    begun-counted token.Sep e i stop sg = answer _
    begun-counted token.Frac e i stop sg = answer _
    begun-counted token.Super e i stop sg = answer _
    begun-counted token.Sub e i stop sg = answer _
    begun-counted token.CloseBracket e i stop sg = answer _
    begun-counted token.Space e i stop sg = answer _

    unfoldable pub next_simple-counted : (stop : Stop) (sg : Bool) →
        Counted (Option Node) 0 (perhaps words) (next_simple text es remember R stop sg)
    unfolding next_simple
    next_simple-counted stop sg =
        run place λ i. run (take _) (elim [
          | none ↦ answer _
          | some e ↦ begun-counted e.token e i stop sg
        ])

    unfoldable pub step-counted : CountedReaders (step text es remember R)
    unfolding step
    step-counted = record { simple = next_simple-counted; script_func = next_script_func-counted }

  unfoldable pub level-counted : (r : ℕ) → CountedReaders (level text es remember r)
  unfolding level
  level-counted zero = record { simple = λ stop sg. answer _; script_func = λ stop sg. answer _ }
  level-counted (suc r) = step-counted (level text es remember r) (level-counted r)

  -- What was read before stands. A wrap has 13 words: the word in front, a scripted part's six and a group's six.
  unfoldable pub parse-counted : (w f wraps : ℕ) (inters : Nodes) → Counted Nodes w items_words (parse text es remember f wraps inters)
  unfolding parse
  parse-counted w zero wraps inters = answer _
  parse-counted w (suc f) zero inters =
      run (intermediates-counted _ (level-counted 256) _ none Stop.none _) λ l. run (take _) (elim [
        | none ↦ answer _
        | some c ↦ parse-counted (w + items_words l + no_words (some c)) f zero _
      ])
  parse-counted w (suc f) (suc v) inters =
      run (intermediates-counted _ (level-counted 256) _ none Stop.none _) λ l. run (take _) (elim [
        | none ↦ answer _
        | some c ↦ put 13 (parse-counted _ f v _)
      ])

-- The most words that stand at one time while the list ts is read over the text.
unfoldable pub peak_of : List ℕ → List Lexeme → ℕ
peak_of text ts =
    let es = entries nowhere ts in
    peak text es true (parse-counted text es true 0 (suc (length es)) 256 end)
    (start text es true)
