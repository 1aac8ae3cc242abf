-- The print of the tree of `[(a,|,b),(c,|,d)]`, computed whole. (Document 01's own example, from its bytes: crates/print/proofs/Example.antt.)
use Prim.Native.Nat.{ℕ}
use Prim.Native.String.{String}
use mathlib.Core.Path.{◌≡◌, refl}
use mathlib.Core.List.{List, [], ◌∷◌, ◌++◌}
use Rattle.tokens.specs.Bytes.{bytes}
use Rattle.tokens.specs.Lexeme.{Span}
use Rattle.tree.specs.Tree.{Script, Head, Atom, Node, node, end, ◌▸◌, leaf, one}
use Rattle.tree.specs.Visits.{visits}
use Rattle.writer.specs.Decimal.{digits, decimal}
use Rattle.line.specs.Print.{names, name_of, left, right, script_name, script, class, more, commas, fields, name, line, lines, first, printed}

-- these lines, each with its newline byte
abbrev pub text : List String → List ℕ
text [] = []
text (s ∷ l) = bytes s ++ (10 ∷ text l)

abbrev at : ℕ → ℕ → Span
at start len = record { start = start; len = len }

abbrev cell : ℕ → Node
cell start = node Head.cell (one (Head.simple Script.none) (leaf (Head.atom Atom.ident (at start 1))) ▸ end)

pub matrix-example :
    printed 17 17 52 (
    one (Head.simple Script.none)
    (node (Head.matrix (at 0 1) (at 16 1) 2 (1 ∷ [])) (cell 2 ▸ cell 6 ▸ cell 10 ▸ cell 14 ▸ end))
    ▸ end
    ) ≡
    text (
    "text=17 tokens=17 takes=52 items=1" ∷
    "depth=0 node=simple script=none" ∷
    "depth=1 node=matrix at=0 len=1 rat=16 rlen=1 cols=2 cells=4 lines=1" ∷
    "depth=2 node=cell items=1" ∷
    "depth=3 node=simple script=none" ∷
    "depth=4 node=ident at=2 len=1" ∷
    "depth=2 node=cell items=1" ∷
    "depth=3 node=simple script=none" ∷
    "depth=4 node=ident at=6 len=1" ∷
    "depth=2 node=cell items=1" ∷
    "depth=3 node=simple script=none" ∷
    "depth=4 node=ident at=10 len=1" ∷
    "depth=2 node=cell items=1" ∷
    "depth=3 node=simple script=none" ∷
    "depth=4 node=ident at=14 len=1" ∷ []
    )
unfolding visits digits decimal names name_of left right script_name script class more commas fields name line lines first printed
matrix-example = refl
