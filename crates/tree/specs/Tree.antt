-- The tree of tree.rs as one type. A node is a head, which is the node's line in the printed tree of document 01, and the
-- nodes below it. docs/LAYOUT.md says kind by kind which type of tree.rs each is.
use Rattle.std.specs.Prelude.{ℕ, zero, suc, List}
use Rattle.tokens.specs.declared.token.SymbolClass.{SymbolClass}
use Rattle.tokens.specs.Lexeme.{Span}

-- The span of a bracket that stands for no token: "start 0, length 0".
abbrev pub nowhere : Span
nowhere = record { start = 0; len = 0 }

-- "Script is none, sub, super or subsuper; children are the simple, sub, super."
pub data Script : Type 0 where
  none sub super subsuper : Script

-- The nodes without children that stand for a token or a Space before one.
pub data Atom : Type 0 where
  number text ident operator sign space : Atom
  symbol : SymbolClass → Atom

-- The nodes of a token with its arguments: a sign before a scripted part (signed) or before a simple one (ssigned), a unary
-- operation, a function in a simple place (sfunc), a binary operation.
pub data Prefix : Type 0 where
  signed ssigned unary sfunc binary : Prefix

-- What a node is, with all its fields but the nodes below it.
pub data Head : Type 0 where
  missing : Head
  atom : Atom → Span → Head
  prefix : Prefix → Span → Head
  simple : Script → Head
  func : Span → Script → Head
  frac cell : Head
  -- left and right bracket
  group : Span → Span → Head
  -- left and right bracket, columns, and the boundaries that have a line
  matrix : Span → Span → ℕ → List ℕ → Head

mutual
  pub data Node : Type 0 where
    node : Head → Nodes → Node

  pub data Nodes : Type 0 where
    end : Nodes
    ◌▸◌ : Node → Nodes → Nodes

infixr 40 ◌▸◌
infixr 40 ◌⧺◌
abbrev pub ◌⧺◌ : Nodes → Nodes → Nodes
end ⧺ m = m
(x ▸ l) ⧺ m = x ▸ (l ⧺ m)

abbrev pub count : Nodes → ℕ
count end = zero
count (x ▸ l) = suc (count l)

abbrev pub leaf : Head → Node
leaf h = node h end

abbrev pub one : Head → Node → Node
one h a = node h (a ▸ end)
