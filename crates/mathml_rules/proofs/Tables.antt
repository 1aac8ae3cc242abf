-- The table of display forms against the table of spellings: the same spellings in the same order, the counts of MATHML.md, and each
-- row answered for its own spelling.
use Prim.Native.Nat.{ℕ, suc, ◌+◌}
use mathlib.Core.Path.{◌≡◌, refl}
use mathlib.Core.Bool.{Bool, true}
use mathlib.Core.List.{List, [], ◌∷◌, map}
use mathlib.Core.Option.{Option, none, some}
use lib.Dec.{leb}
use lib.ListN.{length, get_or}
use Rattle.tokens.specs.Bytes.{same}
use Rattle.lexing.specs.Spellings.{Row, rows}
use Rattle.lexing.proofs.Moves.{same-is}
use Rattle.mathml_rules.specs.Utf8.{encoded, utf8}
use Rattle.mathml_rules.specs.Forms.{Form, typed, form_or, forms, shown_by, shown}
use Rattle.mathml_rules.proofs.Lists.{all-at, every, passed}

abbrev spelled : Row → List ℕ
spelled r = r.spelling

abbrev spelt : Form → List ℕ
spelt f = f.spelling

pub same-spellings : map spelt forms ≡ map spelled rows
unfolding forms rows
same-spellings = refl

-- "301 of the 429 rows have a form, 806 bytes in all, at most 6 each"
abbrev form_length : Option (List ℕ) → ℕ
form_length none = 0
form_length (some s) = length s

abbrev drawn_rows : List Form → ℕ
drawn_rows [] = 0
drawn_rows (f ∷ l) = elim f.form [ none ↦ drawn_rows l | some s ↦ suc (drawn_rows l) ]

abbrev drawn_bytes : List Form → ℕ
drawn_bytes [] = 0
drawn_bytes (f ∷ l) = form_length f.form + drawn_bytes l

pub forms-counted : (length forms ≡ 429) × (drawn_rows forms ≡ 301) × (drawn_bytes forms ≡ 806) × (every (λ f. leb (form_length f.form) 6) forms ≡ true)
unfolding forms utf8 encoded
forms-counted = (refl, refl, refl, refl)

-- each row's form is what its own spelling shows
answered : Form → Bool
answered f = same (shown f.spelling) (form_or f.spelling f.form)

all-answered : every answered forms ≡ true
unfolding answered shown shown_by forms same utf8 encoded
all-answered = refl

pub shown-row : (k : ℕ) → let f = get_or forms k (typed "\\") in shown f.spelling ≡ form_or f.spelling f.form
unfolding answered shown shown_by forms same
shown-row k =
    let f = get_or forms k (typed "\\") in
    same-is (shown f.spelling) (form_or f.spelling f.form)
    (all-at (λ g. answered g ≡ true) forms (typed "\\") (passed answered forms all-answered) refl k)

-- a bracket that stands for no token shows nothing
pub shown-empty : shown [] ≡ []
unfolding shown shown_by forms same
shown-empty = refl
