-- A token is known by its number; what a token that is a leaf begins.
use Prim.Native.Nat.{ℕ, ◌<◌}
use mathlib.Core.Path.{◌≡◌, refl}
use mathlib.Core.Option.{some}
use mathlib.Core.Bool.{Bool, true, false}
use native.Mathlib.Omega.{arith}
use Rattle.tokens.specs.declared.token.SymbolClass.{SymbolClass}
use Rattle.tokens.specs.declared.token.SymbolClass.TheVariants as class
use Rattle.tokens.specs.declared.token.Token.{Token}
use Rattle.tokens.specs.declared.token.Token.TheVariants as token
use Rattle.tokens.specs.Kinds.{number_of, class_number}
use Rattle.tree.specs.Tree.{Head, Atom, leaf}
use Rattle.tree.specs.Words.{atom_kind, class_word}
use Rattle.reading.specs.Entries.{Entry}
use Rattle.reading.specs.Reading.{State, return, Readers, begun, atom_ends}
use Rattle.leaves.specs.Leaves.{leaf_kind, leaf_class, leaf_ends}
use Rattle.reading_words.specs.Meet.{Input, stop_of}

class-small : (c : SymbolClass) → class_number c < 8
class-small class.Glyph = omega arith
class-small class.Name = omega arith
class-small class.Joining = omega arith
class-small class.JoiningName = omega arith
class-small class.Leading = omega arith
class-small class.LeadingName = omega arith
class-small class.Space = omega arith
class-small class.Separator = omega arith

pub is-Sign : (k : Token) → number_of k ≡ 16 → k ≡ token.Sign
is-Sign token.Frac h = absurd (omega arith)
is-Sign token.Super h = absurd (omega arith)
is-Sign token.Sub h = absurd (omega arith)
is-Sign token.Sep h = absurd (omega arith)
is-Sign token.Number h = absurd (omega arith)
is-Sign token.Text h = absurd (omega arith)
is-Sign token.Ident h = absurd (omega arith)
is-Sign token.Operator h = absurd (omega arith)
is-Sign (token.Symbol c) h = absurd (omega (arith, class-small c))
is-Sign token.Sign h = refl
is-Sign token.Function h = absurd (omega arith)
is-Sign token.Unary h = absurd (omega arith)
is-Sign token.Binary h = absurd (omega arith)
is-Sign token.OpenBracket h = absurd (omega arith)
is-Sign token.CloseBracket h = absurd (omega arith)
is-Sign token.OpenCloseBracket h = absurd (omega arith)
is-Sign token.Space h = absurd (omega arith)

pub is-Function : (k : Token) → number_of k ≡ 17 → k ≡ token.Function
is-Function token.Frac h = absurd (omega arith)
is-Function token.Super h = absurd (omega arith)
is-Function token.Sub h = absurd (omega arith)
is-Function token.Sep h = absurd (omega arith)
is-Function token.Number h = absurd (omega arith)
is-Function token.Text h = absurd (omega arith)
is-Function token.Ident h = absurd (omega arith)
is-Function token.Operator h = absurd (omega arith)
is-Function (token.Symbol c) h = absurd (omega (arith, class-small c))
is-Function token.Sign h = absurd (omega arith)
is-Function token.Function h = refl
is-Function token.Unary h = absurd (omega arith)
is-Function token.Binary h = absurd (omega arith)
is-Function token.OpenBracket h = absurd (omega arith)
is-Function token.CloseBracket h = absurd (omega arith)
is-Function token.OpenCloseBracket h = absurd (omega arith)
is-Function token.Space h = absurd (omega arith)

pub is-Unary : (k : Token) → number_of k ≡ 18 → k ≡ token.Unary
is-Unary token.Frac h = absurd (omega arith)
is-Unary token.Super h = absurd (omega arith)
is-Unary token.Sub h = absurd (omega arith)
is-Unary token.Sep h = absurd (omega arith)
is-Unary token.Number h = absurd (omega arith)
is-Unary token.Text h = absurd (omega arith)
is-Unary token.Ident h = absurd (omega arith)
is-Unary token.Operator h = absurd (omega arith)
is-Unary (token.Symbol c) h = absurd (omega (arith, class-small c))
is-Unary token.Sign h = absurd (omega arith)
is-Unary token.Function h = absurd (omega arith)
is-Unary token.Unary h = refl
is-Unary token.Binary h = absurd (omega arith)
is-Unary token.OpenBracket h = absurd (omega arith)
is-Unary token.CloseBracket h = absurd (omega arith)
is-Unary token.OpenCloseBracket h = absurd (omega arith)
is-Unary token.Space h = absurd (omega arith)

pub is-Binary : (k : Token) → number_of k ≡ 19 → k ≡ token.Binary
is-Binary token.Frac h = absurd (omega arith)
is-Binary token.Super h = absurd (omega arith)
is-Binary token.Sub h = absurd (omega arith)
is-Binary token.Sep h = absurd (omega arith)
is-Binary token.Number h = absurd (omega arith)
is-Binary token.Text h = absurd (omega arith)
is-Binary token.Ident h = absurd (omega arith)
is-Binary token.Operator h = absurd (omega arith)
is-Binary (token.Symbol c) h = absurd (omega (arith, class-small c))
is-Binary token.Sign h = absurd (omega arith)
is-Binary token.Function h = absurd (omega arith)
is-Binary token.Unary h = absurd (omega arith)
is-Binary token.Binary h = refl
is-Binary token.OpenBracket h = absurd (omega arith)
is-Binary token.CloseBracket h = absurd (omega arith)
is-Binary token.OpenCloseBracket h = absurd (omega arith)
is-Binary token.Space h = absurd (omega arith)

pub is-Open_bracket : (k : Token) → number_of k ≡ 20 → k ≡ token.OpenBracket
is-Open_bracket token.Frac h = absurd (omega arith)
is-Open_bracket token.Super h = absurd (omega arith)
is-Open_bracket token.Sub h = absurd (omega arith)
is-Open_bracket token.Sep h = absurd (omega arith)
is-Open_bracket token.Number h = absurd (omega arith)
is-Open_bracket token.Text h = absurd (omega arith)
is-Open_bracket token.Ident h = absurd (omega arith)
is-Open_bracket token.Operator h = absurd (omega arith)
is-Open_bracket (token.Symbol c) h = absurd (omega (arith, class-small c))
is-Open_bracket token.Sign h = absurd (omega arith)
is-Open_bracket token.Function h = absurd (omega arith)
is-Open_bracket token.Unary h = absurd (omega arith)
is-Open_bracket token.Binary h = absurd (omega arith)
is-Open_bracket token.OpenBracket h = refl
is-Open_bracket token.CloseBracket h = absurd (omega arith)
is-Open_bracket token.OpenCloseBracket h = absurd (omega arith)
is-Open_bracket token.Space h = absurd (omega arith)

pub is-Open_close_bracket : (k : Token) → number_of k ≡ 22 → k ≡ token.OpenCloseBracket
is-Open_close_bracket token.Frac h = absurd (omega arith)
is-Open_close_bracket token.Super h = absurd (omega arith)
is-Open_close_bracket token.Sub h = absurd (omega arith)
is-Open_close_bracket token.Sep h = absurd (omega arith)
is-Open_close_bracket token.Number h = absurd (omega arith)
is-Open_close_bracket token.Text h = absurd (omega arith)
is-Open_close_bracket token.Ident h = absurd (omega arith)
is-Open_close_bracket token.Operator h = absurd (omega arith)
is-Open_close_bracket (token.Symbol c) h = absurd (omega (arith, class-small c))
is-Open_close_bracket token.Sign h = absurd (omega arith)
is-Open_close_bracket token.Function h = absurd (omega arith)
is-Open_close_bracket token.Unary h = absurd (omega arith)
is-Open_close_bracket token.Binary h = absurd (omega arith)
is-Open_close_bracket token.OpenBracket h = absurd (omega arith)
is-Open_close_bracket token.CloseBracket h = absurd (omega arith)
is-Open_close_bracket token.OpenCloseBracket h = refl
is-Open_close_bracket token.Space h = absurd (omega arith)

-- A token that is a leaf.
pub record Leaf (I : Input) (R : Readers) (k : Token) (en : Entry) (i : ℕ) (stop sg : Bool) (s : State) : Type 0 where
  pub atom : Atom
  pub runs : begun I.text I.es true R k en i (stop_of stop) sg s ≡ (some (leaf (Head.atom atom en.span)), s)
  pub kind : leaf_kind (number_of k) ≡ atom_kind atom
  pub class : leaf_class (number_of k) ≡ class_word atom
  pub flag : leaf_ends (number_of k) ≡ atom_ends atom

pub leaf-of : (I : Input) (R : Readers) (k : Token) (en : Entry) (i : ℕ) (stop sg : Bool) (s : State) → (number_of k ≡ 20 → ⊥) → (number_of k ≡ 18 → ⊥) → (number_of k ≡ 17 → ⊥) → (number_of k ≡ 19 → ⊥) → (number_of k ≡ 22 → ⊥)
    → (number_of k ≡ 16 → sg ≡ false) → (number_of k ≡ 21 → ⊥) → (number_of k ≡ 23 → ⊥) → Leaf I R k en i stop sg s
unfolding atom_ends begun return
leaf-of I R token.Frac en i stop sg s a b f g o h j l = record { atom = Atom.symbol class.Glyph; runs = refl; kind = refl; class = refl; flag = refl }
leaf-of I R token.Super en i stop sg s a b f g o h j l = record { atom = Atom.symbol class.Glyph; runs = refl; kind = refl; class = refl; flag = refl }
leaf-of I R token.Sub en i stop sg s a b f g o h j l = record { atom = Atom.symbol class.Glyph; runs = refl; kind = refl; class = refl; flag = refl }
leaf-of I R token.Sep en i stop sg s a b f g o h j l = record { atom = Atom.symbol class.Separator; runs = refl; kind = refl; class = refl; flag = refl }
leaf-of I R token.Number en i stop sg s a b f g o h j l = record { atom = Atom.number; runs = refl; kind = refl; class = refl; flag = refl }
leaf-of I R token.Text en i stop sg s a b f g o h j l = record { atom = Atom.text; runs = refl; kind = refl; class = refl; flag = refl }
leaf-of I R token.Ident en i stop sg s a b f g o h j l = record { atom = Atom.ident; runs = refl; kind = refl; class = refl; flag = refl }
leaf-of I R token.Operator en i stop sg s a b f g o h j l = record { atom = Atom.operator; runs = refl; kind = refl; class = refl; flag = refl }
leaf-of I R (token.Symbol class.Glyph) en i stop sg s a b f g o h j l = record { atom = Atom.symbol class.Glyph; runs = refl; kind = refl; class = refl; flag = refl }
leaf-of I R (token.Symbol class.Name) en i stop sg s a b f g o h j l = record { atom = Atom.symbol class.Name; runs = refl; kind = refl; class = refl; flag = refl }
leaf-of I R (token.Symbol class.Joining) en i stop sg s a b f g o h j l = record { atom = Atom.symbol class.Joining; runs = refl; kind = refl; class = refl; flag = refl }
leaf-of I R (token.Symbol class.JoiningName) en i stop sg s a b f g o h j l = record { atom = Atom.symbol class.JoiningName; runs = refl; kind = refl; class = refl; flag = refl }
leaf-of I R (token.Symbol class.Leading) en i stop sg s a b f g o h j l = record { atom = Atom.symbol class.Leading; runs = refl; kind = refl; class = refl; flag = refl }
leaf-of I R (token.Symbol class.LeadingName) en i stop sg s a b f g o h j l = record { atom = Atom.symbol class.LeadingName; runs = refl; kind = refl; class = refl; flag = refl }
leaf-of I R (token.Symbol class.Space) en i stop sg s a b f g o h j l = record { atom = Atom.symbol class.Space; runs = refl; kind = refl; class = refl; flag = refl }
leaf-of I R (token.Symbol class.Separator) en i stop sg s a b f g o h j l = record { atom = Atom.symbol class.Separator; runs = refl; kind = refl; class = refl; flag = refl }
leaf-of I R token.Sign en i stop true s a b f g o h j l = let z : ◌≡◌ {A = ℕ} 0 1 = cc (h refl) in absurd (omega arith)
leaf-of I R token.Sign en i stop false s a b f g o h j l = record { atom = Atom.sign; runs = refl; kind = refl; class = refl; flag = refl }
leaf-of I R token.Function en i stop sg s a b f g o h j l = absurd (f refl)
leaf-of I R token.Unary en i stop sg s a b f g o h j l = absurd (b refl)
leaf-of I R token.Binary en i stop sg s a b f g o h j l = absurd (g refl)
leaf-of I R token.OpenBracket en i stop sg s a b f g o h j l = absurd (a refl)
leaf-of I R token.CloseBracket en i stop sg s a b f g o h j l = absurd (j refl)
leaf-of I R token.OpenCloseBracket en i stop sg s a b f g o h j l = absurd (o refl)
leaf-of I R token.Space en i stop sg s a b f g o h j l = absurd (l refl)
