-- The grammar of asciimath.org over token lists, the tree of a derivation, and the lists that it settles. Document 01, the
-- paragraph "Grammar". Nothing of the reader is used here.
use Rattle.std.specs.Prelude.{◌≤◌, ◌≡◌, List, [], ◌∷◌, ◌++◌, Bool, true, false, not, ◌&&◌, eqb}
use Rattle.tokens.specs.declared.token.SymbolClass.{SymbolClass}
use Rattle.tokens.specs.declared.token.Token.{Token}
use Rattle.tokens.specs.declared.token.Token.TheVariants as token
use Rattle.tokens.specs.Kinds.{number_of}
use Rattle.tokens.specs.Lexeme.{Span, Lexeme}
use Rattle.tokens.specs.Table.{count_others}
use Rattle.tree.specs.Tree.{Script, Head, Atom, Prefix, Node, node, Nodes, end, ◌▸◌, leaf, one}

-- "Number, Text, Ident, Operator and Symbol as constants", each with its node.
pub data Constant : Token → Atom → Type 0 where
  number : Constant token.Number Atom.number
  text : Constant token.Text Atom.text
  ident : Constant token.Ident Atom.ident
  operator : Constant token.Operator Atom.operator
  symbol : (c : SymbolClass) → Constant (token.Symbol c) (Atom.symbol c)

abbrev pub tok : Token → Span → Lexeme
tok k sp = record { token = k; span = sp }

-- The derivations of a list ts. "S is a constant, bracket E bracket, unary S, or binary S S; I is S with optional sub, then
-- optional super; E is I E or I/I; [...] here I alone is a third form of E." Each rule ends in how the list is put together.
mutual
  pub data S : List Lexeme → Type 0 where
    const : {ts : List Lexeme} {k : Token} {a : Atom} (sp : Span) → Constant k a →
        ts ≡ tok k sp ∷ [] → S ts
    bracketed : {ts us : List Lexeme} (l : Span) → E us → (r : Span) →
        ts ≡ tok token.OpenBracket l ∷ (us ++ (tok token.CloseBracket r ∷ [])) → S ts
    unary : {ts us : List Lexeme} (sp : Span) → S us →
        ts ≡ tok token.Unary sp ∷ us → S ts
    binary : {ts us vs : List Lexeme} (sp : Span) → S us → S vs →
        ts ≡ tok token.Binary sp ∷ (us ++ vs) → S ts

  pub data I : List Lexeme → Type 0 where
    bare : {ts : List Lexeme} → S ts → I ts
    sub : {ts us vs : List Lexeme} → S us → (sp : Span) → S vs →
        ts ≡ us ++ (tok token.Sub sp ∷ vs) → I ts
    super : {ts us vs : List Lexeme} → S us → (sp : Span) → S vs →
        ts ≡ us ++ (tok token.Super sp ∷ vs) → I ts
    subsuper : {ts us vs ws : List Lexeme} → S us → (sp : Span) → S vs → (sq : Span) → S ws →
        ts ≡ us ++ (tok token.Sub sp ∷ (vs ++ (tok token.Super sq ∷ ws))) → I ts

  pub data E : List Lexeme → Type 0 where
    more : {ts us vs : List Lexeme} → I us → E vs →
        ts ≡ us ++ vs → E ts
    fraction : {ts us vs : List Lexeme} → I us → (sp : Span) → I vs →
        ts ≡ us ++ (tok token.Frac sp ∷ vs) → E ts
    alone : {ts : List Lexeme} → I ts → E ts

-- "There the tree is that derivation": a node for each S and I, and the items of an E.
unfoldable mutual
  pub tree_s : {ts : List Lexeme} → S ts → Node
  tree_s (const {a} sp c p) = leaf (Head.atom a sp)
  tree_s (bracketed l d r p) = node (Head.group l r) (tree_e d)
  tree_s (unary sp d p) = one (Head.prefix Prefix.unary sp) (tree_s d)
  tree_s (binary sp d e p) = node (Head.prefix Prefix.binary sp) (tree_s d ▸ tree_s e ▸ end)

  pub tree_i : {ts : List Lexeme} → I ts → Node
  tree_i (bare d) = one (Head.simple Script.none) (tree_s d)
  tree_i (sub d sp e p) = node (Head.simple Script.sub) (tree_s d ▸ tree_s e ▸ end)
  tree_i (super d sp e p) = node (Head.simple Script.super) (tree_s d ▸ tree_s e ▸ end)
  tree_i (subsuper d sp e sq f p) = node (Head.simple Script.subsuper) (tree_s d ▸ tree_s e ▸ tree_s f ▸ end)

  pub tree_e : {ts : List Lexeme} → E ts → Nodes
  tree_e (more d e p) = tree_i d ▸ tree_e e
  tree_e (fraction d sp e p) = node Head.frac (tree_i d ▸ tree_i e ▸ end) ▸ end
  tree_e (alone d) = tree_i d ▸ end

unfoldable pub of_kind : Token → Lexeme → Bool
of_kind k t = eqb (number_of t.token) (number_of k)

-- "Space passed over"
unfoldable pub others : List Lexeme → List Lexeme
others [] = []
others (t ∷ ts) = elim (of_kind token.Space t) [ true ↦ others ts | false ↦ t ∷ others ts ]

-- "no OpenBracket directly precedes another"
unfoldable pub apart : List Lexeme → Bool
apart [] = true
apart (t ∷ []) = true
apart (t ∷ (u ∷ ts)) = not (of_kind token.OpenBracket t && of_kind token.OpenBracket u) && apart (u ∷ ts)

-- "a token list of at most 127 tokens other than Space"
abbrev pub Short : List Lexeme → Type 0
Short ts = count_others ts ≤ 127

-- The token lists that the grammar settles.
pub record Settled (ts : List Lexeme) : Type 0 where
  pub derivation : E (others ts)
  pub short : Short ts
  pub brackets : apart (others ts) ≡ true
