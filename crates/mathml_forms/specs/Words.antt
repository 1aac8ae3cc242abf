-- A display form as one number: its bytes in base 256 behind a 1, at most six of them.
use Rattle.std.specs.Prelude.{true, false, List, [], ◌∷◌, ℕ, ◌+◌, ◌*◌, eqb}
use Rattle.std.proofs.Math.Option.{Option, none, some}
use Rattle.tokens.specs.Bytes.{same}
use Rattle.mathml_rules.specs.Forms.{Form, forms}
use Rattle.mathml_forms.specs.Keys.{key_of}

-- the number n with the bytes behind it
unfoldable pub packed : ℕ → List ℕ → ℕ
packed n [] = n
packed n (b ∷ l) = packed (256 * n + b) l

-- the empty form is 1, and 0 is no form
abbrev pub word_of : Option (List ℕ) → ℕ
word_of none = 0
word_of (some t) = packed 1 t

-- the form of the row whose spelling is s; 0 if it has none, or there is no such row
unfoldable pub form_word_by : List Form → List ℕ → ℕ
form_word_by [] s = 0
form_word_by (r ∷ rs) s = elim (same r.spelling s) [ true ↦ word_of r.form | false ↦ form_word_by rs s ]

unfoldable pub form_word : List ℕ → ℕ
form_word s = form_word_by forms s

-- the same by the key of a short spelling; 0 is no key
unfoldable pub key_word_by : List Form → ℕ → ℕ
key_word_by [] k = 0
key_word_by (r ∷ rs) k = elim (eqb (key_of r.spelling) k) [ true ↦ word_of r.form | false ↦ key_word_by rs k ]

unfoldable pub key_word : ℕ → ℕ
key_word k = elim (eqb k 0) [ true ↦ 0 | false ↦ key_word_by forms k ]
