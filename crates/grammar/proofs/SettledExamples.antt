-- Three texts that the grammar settles, with their derivations and their trees as read: a fraction; sub and super, and an item
-- behind a Space; a binary operation in the brackets of a unary one. A fourth shows what the theorem holds for besides.
use Prim.Native.Nat.{ℕ}
use Prim.Native.String.{String}
use mathlib.Core.Path.{◌≡◌, refl}
use mathlib.Core.List.{List, [], ◌∷◌}
use native.Mathlib.Omega.{arith}
use Rattle.tokens.specs.declared.token.Token.TheVariants as token
use Rattle.tokens.specs.Bytes.{bytes, same}
use Rattle.tokens.specs.Lexeme.{Span, Lexeme, lexeme}
use Rattle.lexing.specs.Longest.{begins, longest_of, longest_at}
use Rattle.lexing.specs.Spellings.{rows}
use Rattle.lexing.specs.Rules.{run, run_end, blank, digit, letter, blanks_at, is_text_command, spelling_at, number_end}
use Rattle.lexing.specs.Rules.{past_point, number_at, quotation_at, byte_at, read_at, tokens_from, tokens_by, tokens}
use Rattle.tokens.specs.Table.{count_others}
use Rattle.tree.specs.Tree.{Script, Head, Atom, Prefix, Node, node, end, ◌▸◌, leaf, one}
use Rattle.grammar.specs.Grammar.{Constant, const, bracketed, unary, binary, bare, subsuper, more, fraction, alone}
use Rattle.grammar.specs.Grammar.{E, tree_s, tree_e, of_kind, others, apart, Settled}
use Rattle.grammar.specs.Strip.{strip}
use Rattle.reading.specs.Reading.{read_text, unscripted}
use Rattle.grammar.proofs.Settled.{settled-tree, settled}

abbrev at : ℕ → ℕ → Span
at start len = record { start = start; len = len }

-- `a/b`
abbrev ratio : List Lexeme
ratio = lexeme 0 1 token.Ident ∷ lexeme 1 1 token.Frac ∷ lexeme 2 1 token.Ident ∷ []

ratio-settled : Settled ratio
unfolding others of_kind apart count_others
ratio-settled = record {
  derivation =
      fraction (bare (const (at 0 1) Constant.ident refl)) (at 1 1) (bare (const (at 2 1) Constant.ident refl)) refl;
  short = omega arith;
  brackets = refl;
}

-- `x_1^2 y`
abbrev scripts : List Lexeme
scripts =
    lexeme 0 1 token.Ident ∷ lexeme 1 1 token.Sub ∷ lexeme 2 1 token.Number ∷ lexeme 3 1 token.Super
    ∷ lexeme 4 1 token.Number ∷ lexeme 5 1 token.Space ∷ lexeme 6 1 token.Ident ∷ []

scripts-settled : Settled scripts
unfolding others of_kind apart count_others
scripts-settled = record {
  derivation =
      more
      (subsuper (const (at 0 1) Constant.ident refl) (at 1 1) (const (at 2 1) Constant.number refl) (at 3 1)
      (const (at 4 1) Constant.number refl) refl)
      (alone (bare (const (at 6 1) Constant.ident refl)))
      refl;
  short = omega arith;
  brackets = refl;
}

-- `sqrt(root 3 (x))`
abbrev nested : List Lexeme
nested =
    lexeme 0 4 token.Unary ∷ lexeme 4 1 token.OpenBracket ∷ lexeme 5 4 token.Binary ∷ lexeme 9 1 token.Space
    ∷ lexeme 10 1 token.Number ∷ lexeme 11 1 token.Space ∷ lexeme 12 1 token.OpenBracket ∷ lexeme 13 1 token.Ident
    ∷ lexeme 14 1 token.CloseBracket ∷ lexeme 15 1 token.CloseBracket ∷ []

nested-settled : Settled nested
unfolding others of_kind apart count_others
nested-settled = record {
  derivation =
      alone (bare (unary (at 0 4)
      (bracketed (at 4 1)
      (alone (bare (binary (at 5 4) (const (at 10 1) Constant.number refl)
      (bracketed (at 12 1) (alone (bare (const (at 13 1) Constant.ident refl))) (at 14 1) refl) refl)))
      (at 15 1) refl)
      refl));
  short = omega arith;
  brackets = refl;
}

-- `[(a)]`, which is derived too, but has an OpenBracket directly before another
abbrev adjacent : List Lexeme
adjacent =
    lexeme 0 1 token.OpenBracket ∷ lexeme 1 1 token.OpenBracket ∷ lexeme 2 1 token.Ident
    ∷ lexeme 3 1 token.CloseBracket ∷ lexeme 4 1 token.CloseBracket ∷ []

adjacent-derived : E (others adjacent)
unfolding others of_kind
adjacent-derived =
    alone (bare (bracketed (at 0 1)
    (alone (bare (bracketed (at 1 1) (alone (bare (const (at 2 1) Constant.ident refl))) (at 3 1) refl)))
    (at 4 1) refl))

-- The lists are those of the texts.
lexed : (tokens (bytes "a/b") ≡ ratio) × (tokens (bytes "x_1^2 y") ≡ scripts)
    × (tokens (bytes "sqrt(root 3 (x))") ≡ nested) × (tokens (bytes "[(a)]") ≡ adjacent)
unfolding begins longest_of longest_at rows run run_end blank digit letter blanks_at same is_text_command spelling_at number_end
    past_point number_at quotation_at byte_at read_at tokens_from tokens_by
lexed = (refl, refl, refl, refl)

read_as : {ts : List Lexeme} (text : String) (s : Settled ts) → tokens (bytes text) ≡ ts →
    strip (read_text (bytes text)).tree ≡ tree_e s.derivation
read_as {ts} text s e = rw e (settled (bytes text) ts s)

abbrev ident : ℕ → ℕ → Node
ident start len = leaf (Head.atom Atom.ident (at start len))

abbrev number : ℕ → ℕ → Node
number start len = leaf (Head.atom Atom.number (at start len))

abbrev root : Node
root =
    node (Head.prefix Prefix.binary (at 5 4))
    (number 10 1 ▸ node (Head.group (at 12 1) (at 14 1)) (unscripted (ident 13 1) ▸ end) ▸ end)

pub ratio-read : strip (read_text (bytes "a/b")).tree
    ≡ node Head.frac (unscripted (ident 0 1) ▸ unscripted (ident 2 1) ▸ end) ▸ end
unfolding tree_s ratio-settled
ratio-read = read_as "a/b" ratio-settled lexed.0

pub scripts-read : strip (read_text (bytes "x_1^2 y")).tree
    ≡ node (Head.simple Script.subsuper) (ident 0 1 ▸ number 2 1 ▸ number 4 1 ▸ end) ▸ unscripted (ident 6 1) ▸ end
unfolding tree_s scripts-settled
scripts-read = read_as "x_1^2 y" scripts-settled lexed.1

pub nested-read : strip (read_text (bytes "sqrt(root 3 (x))")).tree
    ≡ unscripted (one (Head.prefix Prefix.unary (at 0 4)) (node (Head.group (at 4 1) (at 15 1)) (unscripted root ▸ end))) ▸ end
unfolding tree_s nested-settled
nested-read = read_as "sqrt(root 3 (x))" nested-settled lexed.2

pub adjacent-read : strip (read_text (bytes "[(a)]")).tree
    ≡ unscripted (node (Head.group (at 0 1) (at 4 1)) (unscripted (node (Head.group (at 1 1) (at 3 1))
    (unscripted (ident 2 1) ▸ end)) ▸ end)) ▸ end
unfolding tree_s adjacent-derived others of_kind count_others
adjacent-read = rw lexed.3 (settled-tree (bytes "[(a)]") adjacent adjacent-derived (omega arith))
