-- Which trees are trees of tree.rs. Each data type here is the type of that name there, and its cases are that type's; a node is
-- well formed if its fields are.
use Rattle.std.specs.Prelude.{ℕ, ◌*◌, ◌≤◌, ◌<◌, ◌≡◌, Bool, true, false, List, [], ◌∷◌}
use Rattle.tokens.specs.Lexeme.{Span}
use Rattle.tree.specs.Tree.{Script, Head, Atom, Prefix, Node, node, Nodes, end, ◌▸◌, ◌⧺◌, count, leaf, one}

abbrev pub is_space : Atom → Bool
is_space Atom.number = false
is_space Atom.text = false
is_space Atom.ident = false
is_space Atom.operator = false
is_space Atom.sign = false
is_space Atom.space = true
is_space (Atom.symbol c) = false

-- Column boundaries with a line, in order: none before b, none behind the last column. A boundary may have several lines.
pub data Lines (cols : ℕ) : ℕ → List ℕ → Type 0 where
  none : {b : ℕ} → Lines cols b []
  line : {b c : ℕ} {lines : List ℕ} → b ≤ c → c ≤ cols → Lines cols c lines → Lines cols b (c ∷ lines)

mutual
  pub data Simple : Node → Type 0 where
    missing : Simple (leaf Head.missing)
    atom : {a : Atom} {sp : Span} → is_space a ≡ false → Simple (leaf (Head.atom a sp))
    ssigned : {sp : Span} {x : Node} → Simple x → Simple (one (Head.prefix Prefix.ssigned sp) x)
    unary : {sp : Span} {x : Node} → Simple x → Simple (one (Head.prefix Prefix.unary sp) x)
    sfunc : {sp : Span} {x : Node} → Simple x → Simple (one (Head.prefix Prefix.sfunc sp) x)
    binary : {sp : Span} {x y : Node} → Simple x → Simple y → Simple (node (Head.prefix Prefix.binary sp) (x ▸ y ▸ end))
    group : {left right : Span} {l : Nodes} → Expression l → Simple (node (Head.group left right) l)
    -- whole rows, two cells at least
    matrix :
        {left right : Span} {cols : ℕ} {lines : List ℕ} {l : Nodes} → Cells l → (rows : ℕ) → count l ≡ rows * cols →
        1 < count l → Lines cols 0 lines → Simple (node (Head.matrix left right cols lines) l)

  pub data Cells : Nodes → Type 0 where
    no_more_cells : Cells end
    cell : {l m : Nodes} → Expression l → Cells m → Cells (node Head.cell l ▸ m)

  -- Script: its arguments
  pub data Arguments : Script → Nodes → Type 0 where
    no_script : Arguments Script.none end
    sub : {x : Node} → Simple x → Arguments Script.sub (x ▸ end)
    super : {x : Node} → Simple x → Arguments Script.super (x ▸ end)
    subsuper : {x y : Node} → Simple x → Simple y → Arguments Script.subsuper (x ▸ y ▸ end)

  pub data ScriptFunc : Node → Type 0 where
    simple : {sc : Script} {x : Node} {l : Nodes} → Simple x → Arguments sc l → ScriptFunc (node (Head.simple sc) (x ▸ l))
    -- its script arguments before its argument
    func :
        {sp : Span} {sc : Script} {x : Node} {l m : Nodes} → Arguments sc l → ScriptFunc x → m ≡ l ⧺ (x ▸ end) →
        ScriptFunc (node (Head.func sp sc) m)
    signed : {sp : Span} {x : Node} → ScriptFunc x → ScriptFunc (one (Head.prefix Prefix.signed sp) x)

  -- Intermediate, but for its Space
  pub data Intermediate : Node → Type 0 where
    script_func : {x : Node} → ScriptFunc x → Intermediate x
    frac : {x y : Node} → ScriptFunc x → ScriptFunc y → Intermediate (node Head.frac (x ▸ y ▸ end))

  -- A Space stands between two other items only, and is not empty.
  pub data Expression : Nodes → Type 0 where
    empty : Expression end
    items : {x : Node} {l : Nodes} → Intermediate x → Behind l → Expression (x ▸ l)

  -- what stands behind an item
  pub data Behind : Nodes → Type 0 where
    no_more : Behind end
    item : {x : Node} {l : Nodes} → Intermediate x → Behind l → Behind (x ▸ l)
    space :
        {sp : Span} {x : Node} {l : Nodes} → 0 < sp.len → Intermediate x → Behind l →
        Behind (leaf (Head.atom Atom.space sp) ▸ x ▸ l)

-- The tree is the Expression of the root.
abbrev pub WellFormed : Nodes → Type 0
WellFormed l = Expression l
