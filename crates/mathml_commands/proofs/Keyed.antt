-- Spellings told apart by their keys.
use Prim.Native.Nat.{ℕ, ◌<◌}
use Prim.Native.String.{String}
use mathlib.Core.Path.{◌≡◌, refl, ap, sym, ◌∙◌}
use mathlib.Core.Bool.{Bool, true, false, ◌&&◌, ◌||◌}
use mathlib.Core.List.{List, [], ◌∷◌}
use mathlib.Core.Logic.{inl, inr}
use native.Mathlib.Omega.{arith}
use lib.Dec.{eqb, ltb}
use borrow.Author.Tests.{eq-eqb, eqb-true, ltb-true}
use types.Run.{OneOf}
use Rattle.tokens.specs.Bytes.{bytes, same}
use Rattle.tokens.proofs.Cases.{by_test, clash}
use Rattle.lexing.proofs.Moves.{same-is}
use Rattle.mathml_rules.specs.Mathml.{has}
use Rattle.mathml_rules.specs.Refusal.{one_of}
use Rattle.mathml_rules.proofs.Lists.{both, every}
use Rattle.mathml_forms.specs.Keys.{key_of}
use Rattle.mathml_forms.proofs.Keys.{key_one}
use Rattle.mathml_commands.proofs.Compared.{same_self}

-- the spelling with the key that was found
pub spelled : (s t : List ℕ) (k n : ℕ) → k ≡ key_of s → k ≡ n → key_of t ≡ n → 0 < n → t ≡ s
spelled s t k n e f g h = key_one t s (g ∙ sym f ∙ e) (omega arith)

-- a spelling with another key
pub other_key : (s t : List ℕ) (k n : ℕ) → k ≡ key_of s → (k ≡ n → ⊥) → key_of t ≡ n → same t s ≡ false
other_key s t k n e f g =
    by_test (same t s) (λ d. absurd (f (e ∙ ap key_of (sym (same-is t s d)) ∙ g))) (λ d. d)

-- the keys of some spellings
abbrev keys_of : List String → List ℕ
keys_of [] = []
keys_of (n ∷ l) = key_of (bytes n) ∷ keys_of l

abbrev keyed : List String → Bool
keyed [] = true
keyed (n ∷ l) = ltb 0 (key_of (bytes n)) && keyed l

by_key : (s t : List ℕ) → 0 < key_of t → same s t ≡ eqb (key_of s) (key_of t)
by_key s t h =
    by_test (eqb (key_of s) (key_of t))
    (λ e. rw (sym (key_one t s (sym (eqb-true (key_of s) (key_of t) e)) h)) (same_self t ∙ sym (eq-eqb (key_of t) (key_of t) refl)))
    (λ e. by_test (same s t) (λ d. clash (eqb (key_of s) (key_of t)) (eq-eqb (key_of s) (key_of t) (ap key_of (same-is s t d))) e) (λ d. d ∙ sym e))

one-of_keys : (l : List String) (s : List ℕ) → keyed l ≡ true → one_of l s ≡ has (key_of s) (keys_of l)
unfolding one_of has
one-of_keys [] s e = refl
one-of_keys (n ∷ l) s e =
    let h = both (ltb 0 (key_of (bytes n))) (keyed l) e in
    rw (by_key s (bytes n) (ltb-true 0 (key_of (bytes n)) h.0), one-of_keys l s h.1)

-- a number among others
abbrev Among : List ℕ → List ℕ → Type 0
Among ks l = every (λ k. has k l) ks ≡ true

pub in_one : (ks l : List ℕ) (x : ℕ) → Among ks l → OneOf ks x → has x l ≡ true
in_one [] l x e h = absurd h
in_one (k ∷ []) l x e h = rw h (both (has k l) true e).0
in_one (k ∷ j ∷ ks) l x e (inl h) = rw h (both (has k l) (every (λ k. has k l) (j ∷ ks)) e).0
in_one (k ∷ j ∷ ks) l x e (inr h) = in_one (j ∷ ks) l x (both (has k l) (every (λ k. has k l) (j ∷ ks)) e).1 h

one_in : (ks : List ℕ) (x : ℕ) → has x ks ≡ true → OneOf ks x
unfolding has
one_in [] x e = clash false e refl
one_in (k ∷ []) x e = by_test (eqb x k) (λ d. eqb-true x k d) (λ d. clash false (rw d at e) refl)
one_in (k ∷ j ∷ ks) x e = by_test (eqb x k) (λ d. inl (eqb-true x k d)) (λ d. inr (one_in (j ∷ ks) x (rw d at e)))

module _ (l : List String) (ks : List ℕ) (s : List ℕ) (k : ℕ) (found : k ≡ key_of s) (all : keyed l ≡ true) where
  pub one-of : Among ks (keys_of l) → OneOf ks k → true ≡ one_of l s
  one-of e h = sym (one-of_keys l s all ∙ rw (sym found) (in_one ks (keys_of l) k e h))

  pub none_of : Among (keys_of l) ks → (OneOf ks k → ⊥) → false ≡ one_of l s
  none_of e h =
      sym (one-of_keys l s all ∙
      rw (sym found)
      (by_test (has k (keys_of l)) (λ d. absurd (h (one_in ks k (in_one (keys_of l) ks k e (one_in (keys_of l) k d))))) (λ d. d)))

-- the commands whose argument is text
unfoldable pub textual : List String
textual = "text" ∷ "mbox" ∷ []

pub two-of : (s : List ℕ) → one_of textual s ≡ (same s (bytes "text") || same s (bytes "mbox"))
unfolding one_of textual
two-of s = ap (λ (b : Bool). same s (bytes "text") || b) (by_test (same s (bytes "mbox")) (λ e. rw e) (λ e. rw e))
