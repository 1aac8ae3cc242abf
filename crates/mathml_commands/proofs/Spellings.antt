-- What the commands put.
use Prim.Native.Nat.{ℕ, zero, suc}
use native.Mathlib.Omega.{arith}
use Rattle.std.proofs.Common.{Option, Some, None, option_map}
use mathlib.Core.Path.{◌≡◌, refl, ap, sym, ◌∙◌}
use mathlib.Core.Bool.{Bool, true, false, not}
use mathlib.Core.List.{List, [], ◌∷◌, ◌++◌, append-nil}
use lib.Dec.{eqb}
use borrow.Author.Tests.{eq-eqb, ne_eqb, not-true}
use Rattle.tokens.specs.Bytes.{same}
use Rattle.tokens.proofs.Cases.{by_test}
use Rattle.mathml_rules.specs.Utf8.{utf8, encoded}
use Rattle.mathml_rules.specs.Pieces.{Piece, bytes_of, written}
use Rattle.mathml_rules.specs.Commands.{unaries, exchanging, mark}
use Rattle.mathml_rules.specs.Commands as rules
use Rattle.mathml_rules.specs.Parts.{begin, finish, begin_unary, finish_unary, binary_element, exchanges}
use Rattle.mathml_rules.proofs.Escapes.{written-append}
use Rattle.mathml_rules.proofs.Lists.{All, both, every}
use Rattle.mathml_commands.specs.declared.unary.Command.{Command}
use Rattle.mathml_commands.specs.declared.unary.Command.TheVariants as variant
use Rattle.mathml_tags.specs.declared.elements.Element.{Element}
use Rattle.mathml_tags.specs.declared.elements.Element.TheVariants as element
use Rattle.mathml_tags.specs.Element.{element_number}
use Rattle.mathml_commands.specs.Spelled.{Row, rows, command_in, command_of, element_for, number_if, left_mark, right_mark}

-- a row as the definition has it
abbrev ruled : Row → rules.Command
ruled r = record { name = r.spelling; element = element_for r.command; left = left_mark r.command; right = right_mark r.command }

abbrev ruled_all : List Row → List rules.Command
ruled_all [] = []
ruled_all (r ∷ l) = ruled r ∷ ruled_all l

all-rows : ruled_all rows ≡ unaries
unfolding rows unaries utf8 encoded left_mark right_mark
all-rows = refl

abbrev known : Row → Bool
known r = not (eqb (element_for r.command) 0)

abbrev begin_for : Command → List Piece
begin_for c = elim (eqb (element_for c) 0) [ true ↦ [] | false ↦ begin (element_for c) ++ mark (left_mark c) ]

abbrev finish_for : Command → List Piece
finish_for c = elim (eqb (element_for c) 0) [ true ↦ [] | false ↦ mark (right_mark c) ++ finish (element_for c) ]

begin-known : (c : Command) → eqb (element_for c) 0 ≡ false → begin (element_for c) ++ mark (left_mark c) ≡ begin_for c
begin-known c k = rw (k, begin_for)

begin-unknown : (c : Command) → eqb (element_for c) 0 ≡ true → [] ≡ begin_for c
begin-unknown c k = rw (k, begin_for)

begin-in : (l : List Row) (s : List ℕ) → every known l ≡ true → begin_unary (ruled_all l) s ≡ begin_for (command_in l s)
unfolding begin_unary command_in
begin-in [] s e = refl
begin-in (r ∷ l) s e =
    let h = both (known r) (every known l) e in
    let k = not-true (eqb (element_for r.command) 0) h.0 in
    by_test (same r.spelling s)
    (λ d.
    let a : command_in (r ∷ l) s ≡ r.command = rw (d, command_in) in
    let b : begin_unary (ruled_all (r ∷ l)) s ≡ begin (element_for r.command) ++ mark (left_mark r.command) = rw (d, begin_unary) in
    b ∙ begin-known r.command k ∙ ap begin_for (sym a))
    (λ d.
    let a : command_in (r ∷ l) s ≡ command_in l s = rw (d, command_in) in
    let b : begin_unary (ruled_all (r ∷ l)) s ≡ begin_unary (ruled_all l) s = rw (d, begin_unary) in
    b ∙ begin-in l s h.1 ∙ ap begin_for (sym a))

finish-known : (c : Command) → eqb (element_for c) 0 ≡ false → mark (right_mark c) ++ finish (element_for c) ≡ finish_for c
finish-known c k = rw (k, finish_for)

finish-unknown : (c : Command) → eqb (element_for c) 0 ≡ true → [] ≡ finish_for c
finish-unknown c k = rw (k, finish_for)

finish-in : (l : List Row) (s : List ℕ) → every known l ≡ true → finish_unary (ruled_all l) s ≡ finish_for (command_in l s)
unfolding finish_unary command_in
finish-in [] s e = refl
finish-in (r ∷ l) s e =
    let h = both (known r) (every known l) e in
    let k = not-true (eqb (element_for r.command) 0) h.0 in
    by_test (same r.spelling s)
    (λ d.
    let a : command_in (r ∷ l) s ≡ r.command = rw (d, command_in) in
    let b : finish_unary (ruled_all (r ∷ l)) s ≡ mark (right_mark r.command) ++ finish (element_for r.command) = rw (d, finish_unary) in
    b ∙ finish-known r.command k ∙ ap finish_for (sym a))
    (λ d.
    let a : command_in (r ∷ l) s ≡ command_in l s = rw (d, command_in) in
    let b : finish_unary (ruled_all (r ∷ l)) s ≡ finish_unary (ruled_all l) s = rw (d, finish_unary) in
    b ∙ finish-in l s h.1 ∙ ap finish_for (sym a))

begin-is : (s : List ℕ) → begin_unary unaries s ≡ begin_for (command_of s)
unfolding command_of rows
begin-is s = ap (λ (l : List rules.Command). begin_unary l s) (sym all-rows) ∙ begin-in rows s refl

finish-is : (s : List ℕ) → finish_unary unaries s ≡ finish_for (command_of s)
unfolding command_of rows
finish-is s = ap (λ (l : List rules.Command). finish_unary l s) (sym all-rows) ∙ finish-in rows s refl

-- what an element or none says of the number
number-none : (k : ℕ) → None ≡ number_if k → 0 ≡ k
number-none zero h = refl
number-none (suc n) h = let z : ◌≡◌ {A = ℕ} 0 1 = cc in absurd (omega arith)

number-some : (k e : ℕ) → Some e ≡ number_if k → (e ≡ k) × (e ≡ 0 → ⊥)
number-some zero e h = let z : ◌≡◌ {A = ℕ} 0 1 = cc in absurd (omega arith)
number-some (suc n) e h = let q : e ≡ suc n = cc in (q, λ z. omega arith)

pub is_none : (o : Option Element) (c : Command) → option_map element_number o ≡ number_if (element_for c) → o ≡ None → 0 ≡ element_for c
is_none o c h n = number-none (element_for c) (ap (option_map element_number) (sym n) ∙ h)

pub is_some_of : (o : Option Element) (c : Command) (e : Element) → option_map element_number o ≡ number_if (element_for c) → o ≡ Some e →
    (element_number e ≡ element_for c) × (element_number e ≡ 0 → ⊥)
is_some_of o c e h n = number-some (element_for c) (element_number e) (ap (option_map element_number) (sym n) ∙ h)

-- of a text with this command and this element
module _ (s : List ℕ) (c : Command) (e : ℕ) (found : c ≡ command_of s) (has : e ≡ element_for c) where
  module _ (none : e ≡ 0) where
    pub begin-none : [] ≡ written (begin_unary unaries s)
    unfolding written
    begin-none = ap written (begin-unknown c (eq-eqb (element_for c) 0 (sym has ∙ none)) ∙ ap begin_for found ∙ sym (begin-is s))

    pub finish-none : [] ≡ written (finish_unary unaries s)
    unfolding written
    finish-none = ap written (finish-unknown c (eq-eqb (element_for c) 0 (sym has ∙ none)) ∙ ap finish_for found ∙ sym (finish-is s))

  module _ (some : e ≡ 0 → ⊥) where
    pub begin-some : bytes_of (Piece.start e []) ++ written (mark (left_mark c)) ≡ written (begin_unary unaries s)
    unfolding written
    begin-some = rw has (ap written (begin-known c (ne_eqb (element_for c) 0 (λ z. some (has ∙ z))) ∙ ap begin_for found ∙ sym (begin-is s)))

    pub finish-some : written (mark (right_mark c)) ++ bytes_of (Piece.end e) ≡ written (finish_unary unaries s)
    unfolding written
    finish-some =
        let a = append-nil (bytes_of (Piece.end (element_for c))) in
        let k = ne_eqb (element_for c) 0 (λ z. some (has ∙ z)) in
        rw has
        (ap (λ (v : List ℕ). written (mark (right_mark c)) ++ v) (sym a) ∙
        sym (written-append (mark (right_mark c)) (finish (element_for c))) ∙
        ap written (finish-known c k ∙ ap finish_for found ∙ sym (finish-is s)))

-- a text that is no row's
pub no_command : (s : List ℕ) (l : List Row) → All (λ r. same r.spelling s ≡ false) l → variant.Unknown ≡ command_in l s
unfolding command_in
no_command s [] h = refl
no_command s (r ∷ l) h =
    let a : command_in l s ≡ command_in (r ∷ l) s = rw (h.0, command_in) in no_command s l h.1 ∙ a

pub no_binary : (s : List ℕ) (l : List rules.Command) → All (λ r. same r.name s ≡ false) l → 12 ≡ binary_element l s
unfolding binary_element
no_binary s [] h = refl
no_binary s (r ∷ l) h =
    let a : binary_element l s ≡ binary_element (r ∷ l) s = rw (h.0, binary_element) in no_binary s l h.1 ∙ a

-- each of these commands but frac exchanges its children
exchanges-in : (s : List ℕ) (l : List rules.Command) → every (λ r. not (eqb r.element 12)) l ≡ true → not (eqb (binary_element l s) 12) ≡ exchanges l s
unfolding binary_element exchanges
exchanges-in s [] e = refl
exchanges-in s (r ∷ l) e =
    let h = both (not (eqb r.element 12)) (every (λ r. not (eqb r.element 12)) l) e in
    by_test (same r.name s)
    (λ d.
    let a : binary_element (r ∷ l) s ≡ r.element = rw (d, binary_element) in
    let b : exchanges (r ∷ l) s ≡ true = rw (d, exchanges) in
    rw (a, not-true (eqb r.element 12) h.0) (sym b))
    (λ d.
    let a : binary_element (r ∷ l) s ≡ binary_element l s = rw (d, binary_element) in
    let b : exchanges (r ∷ l) s ≡ exchanges l s = rw (d, exchanges) in
    rw a (exchanges-in s l h.1 ∙ sym b))

pub exchanges-is : (s : List ℕ) (e : ℕ) → e ≡ binary_element exchanging s → not (eqb e 12) ≡ exchanges exchanging s
unfolding exchanging
exchanges-is s e h = rw h (exchanges-in s exchanging refl)

pub not-frac : (e : Element) → (e ≡ element.MfracCommand → ⊥) → eqb (element_number e) 12 ≡ false
not-frac element.MrowMissing n = refl
not-frac element.Mn n = refl
not-frac element.Mtext n = refl
not-frac element.Mi n = refl
not-frac element.Mo n = refl
not-frac element.MoSign n = refl
not-frac element.Mspace n = refl
not-frac element.MoSymbol n = refl
not-frac element.MrowSigned n = refl
not-frac element.MrowSsigned n = refl
not-frac element.MrowFenced n = refl
not-frac element.MrowSfunc n = refl
not-frac element.MfracCommand n = absurd (n refl)
not-frac element.Msub n = refl
not-frac element.MrowFunc n = refl
not-frac element.MrowGroup n = refl
not-frac element.MrowMatrix n = refl
not-frac element.Mtd n = refl
not-frac element.Mfrac n = refl
not-frac element.Math n = refl
not-frac element.Msup n = refl
not-frac element.Msubsup n = refl
not-frac element.MoTight n = refl
not-frac element.MoSpaced n = refl
not-frac element.Msqrt n = refl
not-frac element.Menclose n = refl
not-frac element.MoverAccent n = refl
not-frac element.MunderAccent n = refl
not-frac element.Mover n = refl
not-frac element.Munder n = refl
not-frac element.Mroot n = refl
not-frac element.Mtable n = refl
not-frac element.Mtr n = refl
