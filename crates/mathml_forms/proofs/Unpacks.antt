-- A form is what its number unpacks to, and what a text is shown as is what its form's number draws.
use mathlib.Core.Path.{◌≡◌, refl, sym, ap, ◌∙◌}
use mathlib.Core.Bool.{Bool, true, false}
use mathlib.Core.List.{List, [], ◌∷◌, ◌++◌, append_assoc, append-nil}
use mathlib.Core.Option.{Option, none, some}
use Prim.Native.Nat.{ℕ, zero, suc, ◌+◌, ◌*◌, ◌/◌, ◌%◌, ◌≤◌, ◌<◌}
use native.Mathlib.Omega.{arith}
use lib.Dec.{ltb}
use lib.ListN.{length, length-append}
use borrow.Author.Tests.{ltb-true, ltb-false, lt-ltb, le-ltb, eq-eqb, ne_eqb}
use Rattle.tokens.proofs.Cases.{by_test, by_lt, by_eq}
use Rattle.tokens.specs.Bytes.{same}
use Rattle.mathml_rules.specs.Utf8.{encoded, utf8}
use Rattle.mathml_rules.specs.Forms.{Form, form_or, forms, shown_by, shown}
use Rattle.mathml_rules.specs.Pieces.{esc, written, L}
use Rattle.mathml_rules.specs.Commands.{mark}
use Rattle.mathml_rules.specs.Mathml.{B}
use Rattle.mathml_rules.proofs.Lists.{both, every}
use Rattle.mathml_rules.proofs.Tables.{shown-empty}
use Rattle.mathml_forms.specs.Words.{packed, word_of, form_word_by, form_word}
use Rattle.mathml_forms.specs.Drawn.{unpacked_by, unpacked, drawn_as}

-- more fuel than the number needs changes nothing
enough : (f g n : ℕ) → n ≤ f → n ≤ g → unpacked_by f n ≡ unpacked_by g n
unfolding unpacked_by
enough zero zero n h k = refl
enough zero (suc g) n h k = let z : n ≡ 0 = omega arith in rw z
enough (suc f) zero n h k = let z : n ≡ 0 = omega arith in rw z
enough (suc f) (suc g) n h k = go (ltb n 256) refl λ l. enough f g (n / 256) (omega arith) (omega arith)
  where
    go : (b : Bool) → ltb n 256 ≡ b → (256 ≤ n → unpacked_by f (n / 256) ≡ unpacked_by g (n / 256)) → unpacked_by (suc f) n ≡ unpacked_by (suc g) n
    go true e front = rw (e, unpacked_by)
    go false e front = rw (e, front (ltb-false n 256 e), unpacked_by)

pub unpack_none : (n : ℕ) → n < 256 → unpacked n ≡ []
unfolding unpacked_by unpacked
unpack_none zero h = refl
unpack_none (suc n) h = rw (lt-ltb (suc n) 256 h, unpacked_by)

pub unpack_last : (n : ℕ) → 256 ≤ n → unpacked n ≡ unpacked (n / 256) ++ (n % 256 ∷ [])
unfolding unpacked_by unpacked
unpack_last zero h = absurd (omega arith)
unpack_last (suc n) h = rw (le-ltb (suc n) 256 h, enough n (suc n / 256) (suc n / 256) (omega arith) (omega arith), unpacked_by)

byte : ℕ → Bool
byte b = ltb b 256

unpack_packed : (n : ℕ) (l : List ℕ) → 0 < n → every byte l ≡ true → unpacked (packed n l) ≡ unpacked n ++ l
unfolding packed byte
unpack_packed n [] p h = sym (append-nil (unpacked n))
unpack_packed n (b ∷ l) p h =
    let g = both (ltb b 256) (every byte l) h in
    let k = ltb-true b 256 g.0 in
    let d : (256 * n + b) / 256 ≡ n = omega arith in
    let m : (256 * n + b) % 256 ≡ b = omega arith in
    let e : unpacked (256 * n + b) ≡ unpacked n ++ (b ∷ []) = rw (unpack_last (256 * n + b) (omega arith), d, m) in
    rw (unpack_packed (256 * n + b) l (omega arith) g.1, e, append_assoc)

packed-least : (n : ℕ) (l : List ℕ) → n ≤ packed n l
unfolding packed
packed-least n [] = omega arith
packed-least n (b ∷ l) = let h = packed-least (256 * n + b) l in omega arith

byte_form : Option (List ℕ) → Bool
byte_form none = true
byte_form (some t) = every byte t

forms-bytes : every (λ r. byte_form r.form) forms ≡ true
unfolding forms byte_form byte utf8 encoded
forms-bytes = refl

draws : (s : List ℕ) (o : Option (List ℕ)) → byte_form o ≡ true → drawn_as (word_of o) s ≡ form_or s o
unfolding drawn_as byte_form
draws s none h = refl
draws s (some t) h =
    let p = packed-least 1 t in
    rw (ne_eqb (packed 1 t) 0 (λ z. omega arith), drawn_as, unpack_packed 1 t (omega arith) h, unpack_none 1 (omega arith))

draws_by : (rs : List Form) (s : List ℕ) → every (λ r. byte_form r.form) rs ≡ true → drawn_as (form_word_by rs s) s ≡ shown_by rs s
unfolding form_word_by shown_by drawn_as
draws_by [] s h = refl
draws_by (r ∷ rs) s h =
    let g = both (byte_form r.form) (every (λ q. byte_form q.form) rs) h in
    by_test (same r.spelling s) (λ e. rw (e, form_word_by, shown_by) (draws s r.form g.0))
    (λ e. rw (e, form_word_by, shown_by) (draws_by rs s g.1))

pub shown-is : (s : List ℕ) → drawn_as (form_word s) s ≡ shown s
unfolding form_word shown
shown-is s = draws_by forms s forms-bytes

pub esc-append : (a b : List ℕ) → esc (a ++ b) ≡ esc a ++ esc b
unfolding esc
esc-append [] b = refl
esc-append (c ∷ a) b = rw (esc-append a b, append_assoc)

pub esc-none : (n : ℕ) → n < 256 → [] ≡ esc (unpacked n)
unfolding esc
esc-none n h = rw (unpack_none n h)

pub esc-last : (n : ℕ) → 256 ≤ n → esc (unpacked (n / 256)) ++ esc (n % 256 ∷ []) ≡ esc (unpacked n)
esc-last n h = rw (unpack_last n h) (sym (esc-append (unpacked (n / 256)) (n % 256 ∷ [])))

pub by_none : (n : ℕ) (s : List ℕ) → n ≡ 0 → esc s ≡ esc (drawn_as n s)
unfolding drawn_as
by_none n s z = rw (eq-eqb n 0 z, drawn_as)

pub by_form : (n : ℕ) (s : List ℕ) → (n ≡ 0 → ⊥) → esc (unpacked n) ≡ esc (drawn_as n s)
unfolding drawn_as
by_form n s z = rw (ne_eqb n 0 z, drawn_as)

pub esc-shown : (n : ℕ) (s : List ℕ) → n ≡ form_word s → esc (drawn_as n s) ≡ esc (shown s)
esc-shown n s e = rw (e, shown-is s)

-- A bracket is shown as nothing if it has no bytes or the empty form, and in no other case: any other word is 0 or at least 256.
word-large : (o : Option (List ℕ)) → word_of o < 256 → word_of o ≤ 1
unfolding packed
word-large none h = omega arith
word-large (some []) h = omega arith
word-large (some (b ∷ l)) h = absurd (omega (arith, packed-least (256 + b) l))

words-large : (rs : List Form) (s : List ℕ) → form_word_by rs s < 256 → form_word_by rs s ≤ 1
unfolding form_word_by
words-large [] s h = omega arith
words-large (r ∷ rs) s h =
    by_test (same r.spelling s) (λ e. rw (e, form_word_by) (word-large r.form (rw (e, form_word_by) at h)))
    (λ e. rw (e, form_word_by) (words-large rs s (rw (e, form_word_by) at h)))

unpack_some : (n : ℕ) → 256 ≤ n → 0 < length (unpacked n)
unpack_some n h = rw (unpack_last n h, length-append) (omega arith)

drawn-some : (n : ℕ) (s : List ℕ) → n ≡ form_word s → (length s ≡ 0 → ⊥) → (n ≡ 1 → ⊥) → 0 < length (drawn_as n s)
unfolding drawn_as form_word
drawn-some n s e f g =
    by_eq n 0 (λ z. rw (eq-eqb n 0 z, drawn_as) (omega arith))
    (λ z.
    rw (ne_eqb n 0 z, drawn_as)
    (unpack_some n (by_lt n 256 (λ l. absurd (omega (arith, words-large forms s (rw e at l)))) (λ l. l))))

mark-some : (l : List ℕ) → 0 < length l → L 4 l ≡ mark l
unfolding mark
mark-some [] h = absurd (omega arith)
mark-some (b ∷ l) h = refl

module _ (n : ℕ) (s : List ℕ) (e : n ≡ form_word s) where
  pub bracket-some : (length s ≡ 0 → ⊥) → (n ≡ 1 → ⊥) → written (L 4 (drawn_as n s)) ≡ written (B s)
  unfolding B
  bracket-some f g =
      let d : drawn_as n s ≡ shown s = rw e (shown-is s) in
      ap written (mark-some (drawn_as n s) (drawn-some n s e f g) ∙ ap mark d)

  pub bracket-empty : n ≡ 1 → [] ≡ written (B s)
  unfolding B mark written drawn_as
  bracket-empty g =
      let d : shown s ≡ [] = sym (shown-is s) ∙ rw (← e, g) (unpack_none 1 (omega arith)) in
      rw d

pub bracket-none : (s : List ℕ) → length s ≡ 0 → [] ≡ written (B s)
unfolding B mark written
bracket-none [] h = rw shown-empty
bracket-none (b ∷ s) h = absurd (omega arith)
