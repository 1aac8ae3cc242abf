-- The search by a spelling is the search by its key, if it has one.
use mathlib.Core.Path.{◌≡◌, refl, sym, ap, ◌∙◌}
use mathlib.Core.Bool.{Bool, true, false}
use mathlib.Core.List.{List, [], ◌∷◌}
use mathlib.Core.Option.{none, some}
use Prim.Native.Nat.{ℕ, ◌≤◌, ◌<◌}
use native.Mathlib.Omega.{arith}
use lib.Dec.{eqb, ltb}
use lib.ListN.{length}
use borrow.Author.Tests.{ltb-false, eqb-true, eq-eqb, ne_eqb, le-leb}
use Rattle.tokens.proofs.Cases.{by_test, by_eq, by_option, clash}
use Rattle.tokens.specs.Bytes.{same}
use Rattle.lexing.proofs.Moves.{same-is}
use Rattle.mathml_rules.specs.Forms.{Form, forms}
use Rattle.mathml_rules.proofs.Lists.{All, both, every}
use Rattle.mathml_forms.specs.Keys.{ascii, key_of}
use Rattle.mathml_forms.specs.Words.{form_word_by, form_word, key_word_by, key_word}
use Rattle.mathml_forms.proofs.Keys.{key-some, key_one}
use Rattle.mathml_forms.proofs.Same.{same_self, not_same, is_not}

-- k is the key of no row with a form, in the shape in which a `match` gives it, behind other facts N
unfoldable pub NoRow : Type 0 → List Form → ℕ → Type 0
NoRow N [] k = N
NoRow N (r ∷ rs) k =
    elim r.form [
      | none ↦ NoRow N rs k
      | some t ↦
          elim (eqb (key_of r.spelling) 0) [ true ↦ NoRow N rs k | false ↦ NoRow (N × (k ≡ key_of r.spelling → ⊥)) rs k ]
    ]

passed : (r : Form) (rs : List Form) (k : ℕ) → (key_of r.spelling ≡ k → ⊥) → key_word_by (r ∷ rs) k ≡ key_word_by rs k
unfolding key_word_by
passed r rs k n = rw (ne_eqb (key_of r.spelling) k n, key_word_by)

no_row_by : (N : Type 0) (rs : List Form) (k : ℕ) → 0 < k → NoRow N rs k → N × (key_word_by rs k ≡ 0)
unfolding NoRow key_word_by
no_row_by N [] k p h = (h, refl)
no_row_by N (r ∷ rs) k p h =
    by_option r.form
    (λ o.
    let q = no_row_by N rs k p (rw (o, NoRow) at h) in
    (q.0, by_eq (key_of r.spelling) k (λ e. rw (eq-eqb (key_of r.spelling) k e, key_word_by, o)) (λ n. passed r rs k n ∙ q.1)))
    (λ t o.
    by_test (eqb (key_of r.spelling) 0)
    (λ z.
    let q = no_row_by N rs k p (rw (o, z, NoRow) at h) in
    (q.0, passed r rs k (λ e. omega (arith, eqb-true (key_of r.spelling) 0 z)) ∙ q.1))
    (λ z.
    let q = no_row_by (N × (k ≡ key_of r.spelling → ⊥)) rs k p (rw (o, z, NoRow) at h) in
    (q.0.0, passed r rs k (λ e. q.0.1 (sym e)) ∙ q.1)))

pub no_row : (k : ℕ) → NoRow (Unit {0}) forms k → 0 ≡ key_word k
unfolding key_word
no_row k h =
    by_eq k 0 (λ e. rw (eq-eqb k 0 e, key_word))
    (λ n. rw (ne_eqb k 0 n, key_word) (sym (no_row_by (Unit {0}) forms k (omega arith) h).1))

-- a text with a key: its row is the row of its key
by_key : (rs : List Form) (s : List ℕ) → 0 < key_of s → form_word_by rs s ≡ key_word_by rs (key_of s)
unfolding form_word_by key_word_by
by_key [] s p = refl
by_key (r ∷ rs) s p =
    by_eq (key_of r.spelling) (key_of s)
    (λ e.
    let i : r.spelling ≡ s = key_one r.spelling s e (omega arith) in
    let j : same r.spelling s ≡ true = rw i (same_self s) in
    rw (eq-eqb (key_of r.spelling) (key_of s) e, key_word_by, j, form_word_by))
    (λ n.
    rw
    (ne_eqb (key_of r.spelling) (key_of s) n, key_word_by, not_same r.spelling s (λ i. n (ap key_of i)), form_word_by)
    (by_key rs s p))

-- a text that is not ASCII has no row
not_ascii : (rs : List Form) (s : List ℕ) → every (λ r. ascii r.spelling) rs ≡ true → ascii s ≡ false → form_word_by rs s ≡ 0
unfolding form_word_by
not_ascii [] s a e = refl
not_ascii (r ∷ rs) s a e =
    let h = both (ascii r.spelling) (every (λ q. ascii q.spelling) rs) a in
    rw (not_same r.spelling s (λ i. clash (ascii s) (rw i at h.0) e), form_word_by) (not_ascii rs s h.1 e)

forms-ascii : every (λ r. ascii r.spelling) forms ≡ true
unfolding forms ascii
forms-ascii = refl

no_key : (s : List ℕ) → length s ≤ 9 → key_of s ≡ 0 → ascii s ≡ false
unfolding key_of
no_key s h z =
    by_test (ascii s)
    (λ e. absurd (omega (arith, key-some s, rw (le-leb (length s) 9 h, e, key_of) at z)))
    (λ e. e)

pub short-is : (s : List ℕ) → length s ≤ 9 → form_word s ≡ key_word (key_of s)
unfolding form_word key_word
short-is s h =
    by_eq (key_of s) 0 (λ z. rw (eq-eqb (key_of s) 0 z, key_word) (not_ascii forms s forms-ascii (no_key s h z)))
    (λ n. rw (ne_eqb (key_of s) 0 n, key_word) (by_key forms s (omega arith)))

-- a longer text is a row's spelling, or it is none of the long ones that have a form
pub is_row : {b : Bool} {w : ℕ} (s t : List ℕ) → w ≡ form_word t → b ≡ same s t → b ≡ true → w ≡ form_word s
is_row s t e f g = rw (same-is s t (sym f ∙ g)) e

unfoldable pub long : List Form → List (List ℕ)
long [] = []
long (r ∷ rs) =
    elim r.form [
      | none ↦ long rs
      | some t ↦ elim (ltb 9 (length r.spelling)) [ true ↦ r.spelling ∷ long rs | false ↦ long rs ]
    ]

no_long_by : (rs : List Form) (s : List ℕ) → 9 < length s → All (λ t. same s t ≡ false) (long rs) → form_word_by rs s ≡ 0
unfolding form_word_by long
no_long_by [] s h a = refl
no_long_by (r ∷ rs) s h a =
    by_option r.form
    (λ o.
    by_test (same r.spelling s) (λ e. rw (e, form_word_by, o))
    (λ e. rw (e, form_word_by) (no_long_by rs s h (rw (o, long) at a))))
    (λ t o.
    by_test (ltb 9 (length r.spelling))
    (λ l.
    let p = rw (o, l, long) at a in
    rw (not_same r.spelling s (λ i. is_not s r.spelling p.0 (sym i)), form_word_by) (no_long_by rs s h p.1))
    (λ l.
    rw (not_same r.spelling s (λ i. omega (arith, ltb-false 9 (length r.spelling) l, ap length i)), form_word_by)
    (no_long_by rs s h (rw (o, l, long) at a))))

pub no_long : (s : List ℕ) → 9 < length s → All (λ t. same s t ≡ false) (long forms) → 0 ≡ form_word s
unfolding form_word
no_long s h a = sym (no_long_by forms s h a)
