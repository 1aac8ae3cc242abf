-- The reading of a token list: parse.rs function by function, with its takes counted and its closers noted. Documents 01 and 02 (2.8),
-- src/parse.rs.
use Rattle.std.specs.Prelude.{ℕ, zero, suc, ◌+◌, ◌-◌, ◌*◌, List, [], ◌∷◌, Bool, true, false, not, ◌&&◌, ◌||◌, length, get_or, take, drop, set, replicate, eqb, ltb}
use Rattle.std.proofs.Math.Option.{Option, none, some}
use Rattle.std.proofs.Math.ListN.{get_elem?}
use Rattle.tokens.specs.declared.token.SymbolClass.TheVariants as class
use Rattle.tokens.specs.declared.token.Token.{Token}
use Rattle.tokens.specs.declared.token.Token.TheVariants as token
use Rattle.tokens.specs.Lexeme.{Span, Lexeme}
use Rattle.tokens.specs.Bytes.{same}
use Rattle.lexing.specs.Rules.{tokens}
use Rattle.tree.specs.Tree.{nowhere, Script, Head, Atom, Prefix, Node, node, Nodes, end, ◌▸◌, ◌⧺◌, count, leaf, one}
use Rattle.reading.specs.Stop.{Stop}
use Rattle.reading.specs.Entries.{Entry, is, entries, close_after, has_sep}

-- whether the entry is the token that the reader stops at
unfoldable pub stops : Stop → Entry → Bool
stops Stop.none e = false
stops Stop.sep e = is token.Sep e

-- What the readers look for at the next token: anything; a script marker; the head of a scripted part (a function, or a sign
-- that prefixes); whatever begins a simple expression. (No entry is a Space.)
unfoldable pub any : Entry → Bool
any e = true

unfoldable pub marks_script : Entry → Bool
marks_script e = is token.Super e || is token.Sub e

unfoldable pub heads : Bool → Entry → Bool
heads prefixSign e = is token.Function e || (prefixSign && is token.Sign e)

unfoldable pub begins : Stop → Entry → Bool
begins stop e = not (stops stop e || is token.CloseBracket e || is token.Space e)

-- Where the reading is, the takes so far, what has failed: three marks for each entry, failed_opens for each of the two
-- stops and failed_matrices; and for each entry the place of its closer, or the number of entries if it has none.
pub record State : Type 0 where
  pub pos : ℕ
  pub takes : ℕ
  pub marks : List Bool
  pub closers : List ℕ

-- a mark of failed_opens, by the stop, or of failed_matrices
pub data Mark : Type 0 where
  open_mark : Stop → Mark
  matrix_mark : Mark

-- "An open mark is separate for the stops "none" and Sep."
unfoldable pub slot : Mark → ℕ → ℕ
slot (open_mark Stop.none) i = 3 * i
slot (open_mark Stop.sep) i = 3 * i + 1
slot matrix_mark i = 3 * i + 2

-- A reader: from a state to an answer and the state after it.
abbrev pub M : Type 0 → Type 0
M A = State → A × State

unfoldable pub return : {A : Type 0} → A → M A
return a s = (a, s)

unfoldable pub ◌>>=◌ : {A B : Type 0} → M A → (A → M B) → M B
◌>>=◌ m f s = let r = m s in f r.0 r.1

infixl 10 ◌>>=◌
infix 5 when◌then◌else◌
unfoldable pub when◌then◌else◌ : {A : Type 0} → Bool → M A → M A → M A
when true then m else n = m
when false then m else n = n

-- the position
unfoldable pub here : M ℕ
here s = (s.pos, s)

-- the state
unfoldable pub current : M State
current s = (s, s)

-- "A token's closer is the token that ends the group, matrix or matrix row it opens": the answer a, the token just taken being
-- the closer of the entry i.
unfoldable pub closed : {A : Type 0} → ℕ → A → M A
closed i a s = (a, record { pos = s.pos; takes = s.takes; marks = s.marks; closers = set s.closers i (s.pos - 1) })

-- What an attempt comes to: a node; a failure, which is remembered; or nothing was there to attempt.
pub data Try : Type 0 where
  made : Node → Try
  lost nought : Try

-- The two readers that call one another back, next_simple and next_script_func.
pub record Readers : Type 0 where
  pub simple : Stop → Bool → M (Option Node)
  pub script_func : Stop → Bool → M (Option Node)

-- "an absent argument is Missing"
abbrev pub or_missing : Option Node → Node
or_missing none = leaf Head.missing
or_missing (some a) = a

-- a simple expression without a script
abbrev pub unscripted : Node → Node
unscripted a = one (Head.simple Script.none) a

-- the same for an operand that is a scripted part
abbrev pub or_missing_part : Option Node → Node
or_missing_part none = unscripted (leaf Head.missing)
or_missing_part (some a) = a

-- simple_ends_operand for the nodes without children
unfoldable pub atom_ends : Atom → Bool
atom_ends Atom.number = true
atom_ends Atom.text = true
atom_ends Atom.ident = true
atom_ends Atom.operator = false
atom_ends Atom.sign = false
atom_ends Atom.space = false
atom_ends (Atom.symbol class.Glyph) = true
atom_ends (Atom.symbol class.Name) = true
atom_ends (Atom.symbol class.Joining) = false
atom_ends (Atom.symbol class.JoiningName) = false
atom_ends (Atom.symbol class.Leading) = false
atom_ends (Atom.symbol class.LeadingName) = false
atom_ends (Atom.symbol class.Space) = false
atom_ends (Atom.symbol class.Separator) = false

-- whether a node ends an operand by itself, or as its first child does (the simple of a scripted part), or as its second does
-- (the denominator of a fraction)
pub data Look : Type 0 where
  answer : Bool → Look
  first second : Look

unfoldable pub look : Head → Look
look Head.missing = answer false
look (Head.atom a sp) = answer (atom_ends a)
look (Head.prefix p sp) = answer true
look (Head.simple sc) = first
look (Head.func sp sc) = answer true
look Head.frac = second
look Head.cell = answer false
look (Head.group l r) = answer true
look (Head.matrix l r c ls) = answer true

-- ends_operand: whether a sign after this item joins the operands around it
unfoldable mutual
  pub ends_operand : Node → Bool
  ends_operand (node h l) = elim (look h) [ answer b ↦ b | first ↦ ends_first l | second ↦ ends_second l ]

  pub ends_first : Nodes → Bool
  ends_first end = false
  ends_first (x ▸ l) = ends_operand x

  pub ends_second : Nodes → Bool
  ends_second end = false
  ends_second (x ▸ l) = ends_first l

-- push_intermediate's `prefix_sign`, after the item before
unfoldable pub prefixes : Option Node → Bool
prefixes none = true
prefixes (some a) = not (ends_operand a)

-- A script and its arguments.
abbrev pub Scripted : Type 0
Scripted = Script × Nodes

-- A matrix row: its brackets and its cells. The rows of a matrix: the first, and the cells of the others.
pub record Row : Type 0 where
  pub left : Entry
  pub right : Entry
  pub cells : Nodes

pub record Rows : Type 0 where
  pub head : Row
  pub others : List Nodes

-- for is_column_line: a simple expression without a script
unfoldable pub is_unscripted : Head → Bool
is_unscripted Head.missing = false
is_unscripted (Head.atom a sp) = false
is_unscripted (Head.prefix p sp) = false
is_unscripted (Head.simple Script.none) = true
is_unscripted (Head.simple Script.sub) = false
is_unscripted (Head.simple Script.super) = false
is_unscripted (Head.simple Script.subsuper) = false
is_unscripted (Head.func sp sc) = false
is_unscripted Head.frac = false
is_unscripted Head.cell = false
is_unscripted (Head.group a b) = false
is_unscripted (Head.matrix a b c ls) = false

-- the columns that are lines in one row and in those behind it
unfoldable pub both_lines : List Bool → List Bool → List Bool
both_lines [] m = []
both_lines (a ∷ l) [] = []
both_lines (a ∷ l) (b ∷ m) = (a && b) ∷ both_lines l m

-- split_column_lines: how many columns are kept, the boundaries (from b on) where the others were, and the cells kept of a row
unfoldable pub kept_cols : List Bool → ℕ
kept_cols [] = zero
kept_cols (true ∷ l) = kept_cols l
kept_cols (false ∷ l) = suc (kept_cols l)

unfoldable pub column_lines : ℕ → List Bool → List ℕ
column_lines b [] = []
column_lines b (true ∷ l) = b ∷ column_lines b l
column_lines b (false ∷ l) = column_lines (suc b) l

unfoldable pub keep_cells : List Bool → Nodes → Nodes
keep_cells [] l = end
keep_cells (b ∷ bs) end = end
keep_cells (true ∷ bs) (x ▸ l) = keep_cells bs l
keep_cells (false ∷ bs) (x ▸ l) = x ▸ keep_cells bs l

-- the cells of all rows, what f keeps of each
unfoldable pub join_rows : (Nodes → Nodes) → List Nodes → Nodes
join_rows f [] = end
join_rows f (r ∷ rs) = f r ⧺ join_rows f rs

-- push_intermediate: the Space before an item is kept between items only
unfoldable pub spaced : Option Node → Option Entry → Node → Nodes → Nodes
spaced none e x l = x ▸ l
spaced (some p) none x l = x ▸ l
spaced (some p) (some e) x l =
    elim e.space.len [ zero ↦ x ▸ l | suc n ↦ leaf (Head.atom Atom.space e.space) ▸ x ▸ l ]

-- a bar that opens nothing, and a stray mark of a script or a fraction: a symbol of class Glyph
abbrev pub glyph_of : Entry → Node
glyph_of o = leaf (Head.atom (Atom.symbol class.Glyph) o.span)

abbrev pub or_glyph : Entry → Option Node → Node
or_glyph o none = glyph_of o
or_glyph o (some x) = x

-- the last item, if there is one
unfoldable pub last_of : Nodes → Option Node
last_of end = none
last_of (x ▸ end) = some x
last_of (x ▸ (y ▸ l)) = last_of (y ▸ l)

-- The reading of the entries es over the text.
module _ (text : List ℕ) (es : List Entry) where
  -- the bytes of a span
  unfoldable pub text_of : Span → List ℕ
  text_of sp = take sp.len (drop sp.start text)

  -- "by their text": texts are compared by their bytes. This one is the byte b, one of ( ) [ ] } |
  unfoldable pub is_byte : ℕ → Span → Bool
  is_byte b sp = same (text_of sp) (b ∷ [])

  unfoldable pub same_text : Span → Span → Bool
  same_text a b = same (text_of a) (text_of b)

  -- the entry at a position, and whether one is there that passes the test
  abbrev pub entry_at : ℕ → Option Entry
  entry_at i = get_elem? es i

  unfoldable pub is_at : (Entry → Bool) → ℕ → Bool
  is_at ok i = elim (entry_at i) [ none ↦ false | some e ↦ ok e ]

  -- the index of the bracket that closes the one at i
  unfoldable pub close_of : ℕ → Option ℕ
  close_of i = elim (close_after zero (drop (suc i) es)) [ none ↦ none | some n ↦ some (suc (i + n)) ]

  -- an OpenCloseBracket with the text of o
  unfoldable pub is_bar : Entry → Entry → Bool
  is_bar o e = is token.OpenCloseBracket e && same_text o.span e.span

  -- closes: whether the token at j closes the bracket o at i
  unfoldable pub closes : Entry → ℕ → ℕ → Bool
  closes o i j =
      elim (is token.OpenBracket o) [
        | true ↦ elim (close_of i) [ none ↦ false | some k ↦ eqb k j ]
        | false ↦ is_at (is_bar o) j
      ]

  -- could_be_matrix, for the bracket o at i
  unfoldable pub could_be_matrix : Entry → ℕ → Bool
  could_be_matrix o i =
      elim (is_at (is token.OpenBracket) (suc i)) [
        | false ↦ false
        | true ↦ elim (close_of (suc i)) [
          | none ↦ false
          | some c ↦ elim (is_at (is token.Sep) (suc c)) [
            | true ↦ true
            | false ↦ closes o i (suc c) && has_sep zero (drop (suc (suc i)) es)
          ]
        ]
      ]

  -- advance, and the rewind that follows where the token is not as wanted. "A take is each step of the position over one token":
  -- one that is given back is a take all the same.
  unfoldable pub advance : (Entry → Bool) → M (Option Entry)
  advance ok s =
      elim (entry_at s.pos) [
        | none ↦ (none, s)
        | some e ↦ elim (ok e) [
          | true ↦ (some e, record { pos = suc s.pos; takes = suc s.takes; marks = s.marks; closers = s.closers })
          | false ↦ (none, record { pos = s.pos; takes = suc s.takes; marks = s.marks; closers = s.closers })
        ]
      ]

  -- is_column_line: "a lone unscripted `|` symbol"
  unfoldable pub is_bar_symbol : Node → Bool
  is_bar_symbol (node Head.missing l) = false
  is_bar_symbol (node (Head.atom Atom.number sp) l) = false
  is_bar_symbol (node (Head.atom Atom.text sp) l) = false
  is_bar_symbol (node (Head.atom Atom.ident sp) l) = false
  is_bar_symbol (node (Head.atom Atom.operator sp) l) = false
  is_bar_symbol (node (Head.atom Atom.sign sp) l) = false
  is_bar_symbol (node (Head.atom Atom.space sp) l) = false
  is_bar_symbol (node (Head.atom (Atom.symbol c) sp) l) = is_byte 124 sp
  is_bar_symbol (node (Head.prefix p sp) l) = false
  is_bar_symbol (node (Head.simple sc) l) = false
  is_bar_symbol (node (Head.func sp sc) l) = false
  is_bar_symbol (node Head.frac l) = false
  is_bar_symbol (node Head.cell l) = false
  is_bar_symbol (node (Head.group a b) l) = false
  is_bar_symbol (node (Head.matrix a b c ls) l) = false

  unfoldable pub is_column_line : Node → Bool
  is_column_line (node c end) = false
  is_column_line (node c (node h end ▸ m)) = false
  is_column_line (node c (node h (x ▸ l) ▸ end)) = is_unscripted h && is_bar_symbol x
  is_column_line (node c (node h (x ▸ l) ▸ (y ▸ m))) = false

  -- which cells of a row are such lines
  unfoldable pub line_cells : Nodes → List Bool
  line_cells end = []
  line_cells (x ▸ l) = is_column_line x ∷ line_cells l

  -- "Columns whose every cell is" such a line
  unfoldable pub line_cols : Nodes → List Nodes → List Bool
  line_cols r [] = line_cells r
  line_cols r (q ∷ qs) = both_lines (line_cells r) (line_cols q qs)

  -- MATRIX_ROW_BRACKETS: "Matrix rows are `(` `)` or `[` `]` by their text, so `left(` opens no row."
  unfoldable pub row_brackets : Row → Bool
  row_brackets r =
      (is_byte 40 r.left.span && is_byte 41 r.right.span)
      || (is_byte 91 r.left.span && is_byte 93 r.right.span)

  -- a row with the brackets of the first, by their text, and as many cells
  unfoldable pub alike : Row → Row → Bool
  alike a b =
      same_text a.left.span b.left.span
      && eqb (count a.cells) (count b.cells)
      && same_text a.right.span b.right.span

  -- split_column_lines: "become column lines, if some but not all columns are such". The matrix of these rows, still without its
  -- brackets, and how many cells it has.
  unfoldable pub split_column_lines : Rows → (Span → Span → Node) × ℕ
  split_column_lines r =
      let mask = line_cols r.head.cells r.others in
      let kept = kept_cols mask in
      let all = count r.head.cells in
      elim (eqb kept zero || eqb kept all) [
        | true ↦ made all [] (join_rows (λ l. l) (r.head.cells ∷ r.others))
        | false ↦ made kept (column_lines zero mask) (join_rows (keep_cells mask) (r.head.cells ∷ r.others))
      ]
    where
      made : ℕ → List ℕ → Nodes → (Span → Span → Node) × ℕ
      made cols lines cells = ((λ a b. node (Head.matrix a b cols lines) cells), count cells)

  -- at_open_close: the position p is at the bar that the items end at, if they end at one
  unfoldable pub at_open_close : Option Entry → ℕ → Bool
  at_open_close none p = false
  at_open_close (some o) p = is_at (is_bar o) p

  -- try_matrix: whether these rows, and the token at p behind them, make a matrix of the bracket o at i. "Rows of `(` before text
  -- `}` make no matrix"; "One cell left after that is no matrix."
  unfoldable pub makes_matrix : Entry → ℕ → Rows → ℕ → Bool
  makes_matrix o i r p =
      is_at (λ e. not (is_byte 40 r.head.left.span && is_byte 125 e.span)) p
      && (ltb 1 (split_column_lines r).1 && closes o i p)

  -- enough for any loop over the entries: each turn takes one
  abbrev fuel : ℕ
  fuel = suc (length es)

  -- With `remember` false, every mark of failed_opens and failed_matrices is read as unset: the reading without memory.
  module _ (remember : Bool) where
    -- An attempt behind the bracket at i: made only if it has not failed before; one that fails is marked and given back, to where
    -- the reading was and the closers that it had. This is the only use of the marks.
    unfoldable pub failed : Mark → ℕ → M Bool
    failed m i s = (remember && get_or s.marks (slot m i) false, s)

    unfoldable pub give_up : Mark → ℕ → State → M (Option Node)
    give_up m i o s = (none, record { pos = o.pos; takes = s.takes; marks = set s.marks (slot m i) true; closers = o.closers })

    unfoldable pub attempt : Mark → ℕ → M Try → M (Option Node)
    attempt m i body =
        current >>= λ o.
        failed m i >>= λ known.
        when known then return none
        else body >>= λ t. elim t [
          | made x ↦ return (some x)
          | lost ↦ give_up m i o
          | nought ↦ return none
        ]

    -- The readers at one depth, given those one deeper.
    module _ (R : Readers) where
      -- next_script_arg, and the argument of a unary, binary or simple function
      unfoldable pub argument : M Node
      argument = R.simple Stop.none true >>= λ a. return (or_missing a)

      -- next_script
      unfoldable pub next_script : M Scripted
      next_script =
          advance marks_script >>= λ t. elim t [
            | none ↦ return (Script.none, end)
            | some e ↦
                when is token.Super e then (argument >>= λ a. return (Script.super, a ▸ end))
                else argument >>= λ a. advance (is token.Super) >>= λ u. elim u [
                  | none ↦ return (Script.sub, a ▸ end)
                  | some e' ↦ argument >>= λ b. return (Script.subsuper, a ▸ b ▸ end)
                ]
          ]

      -- next_script_func
      unfoldable pub next_script_func : Stop → Bool → M (Option Node)
      next_script_func stop prefixSign =
          advance (heads prefixSign) >>= λ t. elim t [
            | none ↦ R.simple stop prefixSign >>= λ a. elim a [
              | none ↦ return none
              | some x ↦ next_script >>= λ q. return (some (node (Head.simple q.0) (x ▸ q.1)))
            ]
            | some e ↦
                when is token.Function e
                then (next_script >>= λ q. R.script_func Stop.none true >>= λ a.
                return (some (node (Head.func e.span q.0) (q.1 ⧺ (or_missing_part a ▸ end)))))
                else R.script_func stop true >>= λ a.
                return (some (one (Head.prefix Prefix.signed e.span) (or_missing_part a)))
          ]

      -- next_intermediate
      unfoldable pub next_intermediate : Stop → Bool → M (Option Node)
      next_intermediate stop prefixSign =
          R.script_func stop prefixSign >>= λ a. elim a [
            | none ↦ return none
            | some x ↦ advance (is token.Frac) >>= λ t. elim t [
              | none ↦ return (some x)
              | some e ↦ R.script_func Stop.none true >>= λ b.
                  return (some (node Head.frac (x ▸ or_missing_part b ▸ end)))
            ]
          ]

      -- extend_intermediates: items until none is left, or the bar `until` is met; `before` is the item before them
      unfoldable pub intermediates : ℕ → Option Entry → Stop → Option Node → M Nodes
      intermediates zero until stop before = return end
      intermediates (suc f) until stop before =
          here >>= λ p.
          when at_open_close until p then return end
          else next_intermediate stop (prefixes before) >>= λ a. elim a [
            | none ↦ return end
            | some x ↦ intermediates f until stop (some x) >>= λ l. return (spaced before (entry_at p) x l)
          ]

      -- next_expression
      abbrev pub next_expression : Stop → M Nodes
      next_expression stop = intermediates fuel none stop none

      -- next_matrix_row: the cells from the next on, with the closing bracket
      unfoldable pub row_cells : ℕ → M (Option (Nodes × Entry))
      row_cells zero = return none
      row_cells (suc f) =
          next_expression Stop.sep >>= λ l.
          advance any >>= λ t. elim t [
            | none ↦ return none
            | some e ↦
                when is token.Sep e
                then (row_cells f >>= λ q. elim q [
                  | none ↦ return none
                  | some m ↦ return (some (node Head.cell l ▸ m.0, m.1))
                ])
                else when is token.CloseBracket e then return (some (node Head.cell l ▸ end, e))
                else return none
          ]

      -- next_matrix_row; a token that opens no row is taken too
      unfoldable pub next_matrix_row : M (Option Row)
      next_matrix_row =
          here >>= λ i. advance any >>= λ t. elim t [
            | none ↦ return none
            | some o ↦
                when is token.OpenBracket o
                then (row_cells fuel >>= λ q. elim q [
                  | none ↦ return none
                  | some m ↦ closed i (some (record { left = o; right = m.1; cells = m.0 }))
                ])
                else return none
          ]

      -- next_matrix_rows, behind the first row: "the row loop is left at the first row that differs from the first". The Sep
      -- between rows is a take.
      unfoldable pub more_rows : ℕ → Row → M (Option (List Nodes))
      more_rows zero h = return none
      more_rows (suc f) h =
          here >>= λ p.
          when is_at (is token.Sep) p
          then (advance any >>= λ t. next_matrix_row >>= λ q. elim q [
            | none ↦ return none
            | some r ↦
                when alike h r
                then (more_rows f h >>= λ l. elim l [
                  | none ↦ return none
                  | some m ↦ return (some (r.cells ∷ m))
                ])
                else return none
          ])
          else return (some [])

      -- next_matrix_rows
      unfoldable pub next_matrix_rows : M (Option Rows)
      next_matrix_rows =
          next_matrix_row >>= λ q. elim q [
            | none ↦ return none
            | some h ↦
                when row_brackets h
                then (more_rows fuel h >>= λ l. elim l [
                  | none ↦ return none
                  | some m ↦ return (some (record { head = h; others = m }))
                ])
                else return none
          ]

      -- try_matrix, for the bracket o at i
      unfoldable pub matrix_body : Entry → ℕ → M Try
      matrix_body o i =
          next_matrix_rows >>= λ q. elim q [
            | none ↦ return lost
            | some r ↦
                here >>= λ p.
                when makes_matrix o i r p
                then (advance any >>= λ t. elim t [
                  | none ↦ return lost
                  | some c ↦ closed i (made ((split_column_lines r).0 o.span c.span))
                ])
                else return lost
          ]

      unfoldable pub try_matrix : Entry → ℕ → M (Option Node)
      try_matrix o i = when could_be_matrix o i then attempt matrix_mark i (matrix_body o i) else return none

      -- next_open_group
      unfoldable pub next_open_group : Entry → ℕ → M Node
      next_open_group o i =
          next_expression Stop.none >>= λ l.
          advance (is token.CloseBracket) >>= λ t. elim t [
            | none ↦ return (node (Head.group o.span nowhere) l)
            | some c ↦ closed i (node (Head.group o.span c.span) l)
          ]

      -- next_open_close_group: the group that the bar o opens, if such a bar closes it
      unfoldable pub bar_body : Entry → ℕ → Stop → M Try
      bar_body o i stop =
          next_intermediate stop true >>= λ a. elim a [
            | none ↦ return nought
            | some x ↦
                intermediates fuel (some o) stop (some x) >>= λ l.
                here >>= λ p.
                when is_at (is_bar o) p
                then (advance any >>= λ t. elim t [
                  | none ↦ return lost
                  | some c ↦ closed i (made (node (Head.group o.span c.span) (x ▸ l)))
                ])
                else return lost
          ]

      unfoldable pub next_open_close_group : Entry → ℕ → Stop → M Node
      next_open_close_group o i stop =
          try_matrix o i >>= λ m. elim m [
            | some x ↦ return x
            | none ↦ attempt (open_mark stop) i (bar_body o i stop) >>= λ g. return (or_glyph o g)
          ]

      -- the matrix or the group that the OpenBracket o at i opens
      unfoldable pub next_bracket : Entry → ℕ → M Node
      next_bracket o i =
          try_matrix o i >>= λ m. elim m [
            | some x ↦ return x
            | none ↦ next_open_group o i
          ]

      -- next_simple: what the token e, just taken at i, begins
      unfoldable pub begun : Token → Entry → ℕ → Stop → Bool → M (Option Node)
      begun token.Number e i stop sg = return (some (leaf (Head.atom Atom.number e.span)))
      begun token.Text e i stop sg = return (some (leaf (Head.atom Atom.text e.span)))
      begun token.Ident e i stop sg = return (some (leaf (Head.atom Atom.ident e.span)))
      begun token.Operator e i stop sg = return (some (leaf (Head.atom Atom.operator e.span)))
      begun (token.Symbol c) e i stop sg = return (some (leaf (Head.atom (Atom.symbol c) e.span)))
      begun token.Sign e i stop true =
          R.simple stop true >>= λ a. return (some (one (Head.prefix Prefix.ssigned e.span) (or_missing a)))
      begun token.Sign e i stop false = return (some (leaf (Head.atom Atom.sign e.span)))
      begun token.Unary e i stop sg = argument >>= λ a. return (some (one (Head.prefix Prefix.unary e.span) a))
      begun token.Function e i stop sg = argument >>= λ a. return (some (one (Head.prefix Prefix.sfunc e.span) a))
      begun token.Binary e i stop sg =
          argument >>= λ a. argument >>= λ b. return (some (node (Head.prefix Prefix.binary e.span) (a ▸ b ▸ end)))
      begun token.OpenBracket e i stop sg = next_bracket e i >>= λ a. return (some a)
      begun token.OpenCloseBracket e i stop sg = next_open_close_group e i stop >>= λ a. return (some a)
      begun token.Sep e i stop sg = return (some (leaf (Head.atom (Atom.symbol class.Separator) e.span)))
      begun token.Frac e i stop sg = return (some (glyph_of e))
      begun token.Super e i stop sg = return (some (glyph_of e))
      begun token.Sub e i stop sg = return (some (glyph_of e))
      begun token.CloseBracket e i stop sg = return none
      begun token.Space e i stop sg = return none

      -- next_simple
      unfoldable pub next_simple : Stop → Bool → M (Option Node)
      next_simple stop prefixSign =
          here >>= λ i.
          advance (begins stop) >>= λ t. elim t [
            | none ↦ return none
            | some e ↦ begun e.token e i stop prefixSign
          ]

      -- the two readers at this depth
      unfoldable pub step : Readers
      step = record { simple = next_simple; script_func = next_script_func }

    -- "next_simple and next_script_func give nothing and consume nothing at depth 256": the readers at depth d are level 256 − d.
    unfoldable pub level : ℕ → Readers
    level zero = record { simple = λ stop sg. return none; script_func = λ stop sg. return none }
    level (suc r) = step (level r)

    -- parse: an unmatched closer wraps all that was read before it. "The 257th and later unmatched closers at top level are
    -- dropped." `wraps` more wraps are allowed.
    unfoldable pub parse : ℕ → ℕ → Nodes → M Nodes
    parse zero wraps inters = return inters
    parse (suc f) wraps inters =
        intermediates (level 256) (suc (length es)) none Stop.none (last_of inters) >>= λ l.
        advance (is token.CloseBracket) >>= λ t. elim t [
          | none ↦ return (inters ⧺ l)
          | some c ↦ elim wraps [
            | zero ↦ parse f zero (inters ⧺ l)
            | suc w ↦ parse f w (unscripted (node (Head.group nowhere c.span) (inters ⧺ l)) ▸ end)
          ]
        ]

    -- Parser::new(..).parse(): from the first entry, with no take, no mark and no closer
    abbrev pub start : State
    start = record { pos = zero; takes = zero; marks = replicate (3 * length es) false; closers = replicate (length es) (length es) }

    unfoldable pub parse_entries : Nodes × State
    parse_entries = parse (suc (length es)) 256 end start

-- What a reading gives.
pub record Reading : Type 0 where
  pub tree : Nodes
  pub takes : ℕ

-- parse_tokens: the reading of a token list, with or without memory
unfoldable pub reading_by : Bool → List ℕ → List Lexeme → Reading
reading_by remember text ts =
    let r = parse_entries text (entries nowhere ts) remember in record { tree = r.0; takes = r.1.takes }

-- "The whole reading of any list is what this definition gives for it, takes and tree; that of a text is that of its token
-- list."
abbrev pub read_tokens : List ℕ → List Lexeme → Reading
read_tokens text ts = reading_by true text ts

-- "for each token other than Space the place of its closer, counted from 0 among those tokens, or n for none"
unfoldable pub closers_of : List ℕ → List Lexeme → List ℕ
closers_of text ts = (parse_entries text (entries nowhere ts) true).1.closers

abbrev pub read_text : List ℕ → Reading
read_text text = read_tokens text (tokens text)

-- "The reading without memory is the same definition with every mark of failed_opens and failed_matrices read as unset."
abbrev pub read_plain : List ℕ → List Lexeme → Reading
read_plain text ts = reading_by false text ts

-- ""blank" (the root has no items)", over text and tree
unfoldable pub blank : List ℕ → Nodes → Bool
blank text end = true
blank text (x ▸ l) = false
