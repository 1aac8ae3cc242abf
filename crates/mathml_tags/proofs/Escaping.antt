-- A byte that is escaped by none of the rows, and the escape of one byte more.
use Prim.Native.Nat.{ℕ, suc, ◌<◌}
use mathlib.Core.Path.{◌≡◌, refl, ap, sym, ◌∙◌}
use mathlib.Core.List.{List, [], ◌∷◌, ◌++◌, append_assoc, append-nil}
use lib.ListN.{length, get_or, take}
use lib.Seq.{take-suc}
use borrow.Author.Tests.{ne_eqb}
use Rattle.tokens.proofs.Cases.{by_eq}
use Rattle.mathml_rules.specs.Utf8.{utf8, encoded}
use Rattle.mathml_rules.specs.Pieces.{Escape, escapes, escaped_by, escaped, esc}

module _ (c : ℕ) where
  abbrev NoneOf : List Escape → Type 0
  NoneOf [] = Unit {0}
  NoneOf (r ∷ rs) = (c ≡ r.byte → ⊥) × NoneOf rs

  miss : (r : Escape) (rs : List Escape) → (c ≡ r.byte → ⊥) → escaped_by rs c ≡ escaped_by (r ∷ rs) c
  unfolding escaped_by
  miss r rs h = rw (ne_eqb c r.byte h, escaped_by)

  misses : (rs : List Escape) → NoneOf rs → c ∷ [] ≡ escaped_by rs c
  unfolding escaped_by
  misses [] h = refl
  misses (r ∷ rs) h = misses rs h.1 ∙ miss r rs h.0

  pub itself : (c ≡ 60 → ⊥) → (c ≡ 62 → ⊥) → (c ≡ 38 → ⊥) → (c ≡ 9 → ⊥) → (c ≡ 10 → ⊥) → (c ≡ 13 → ⊥) → (c ≡ 32 → ⊥) → c ∷ [] ≡ escaped c
  unfolding escaped_by escapes
  itself a b d e f g h = misses escapes (a, (b, (d, (e, (f, (g, (h, tt)))))))

esc-append : (s t : List ℕ) → esc (s ++ t) ≡ esc s ++ esc t
unfolding esc
esc-append [] t = refl
esc-append (c ∷ s) t = ap (λ (x : List ℕ). escaped c ++ x) (esc-append s t) ∙ sym (append_assoc (escaped c) (esc s) (esc t))

esc-one : (c : ℕ) → esc (c ∷ []) ≡ escaped c
unfolding esc
esc-one c = append-nil (escaped c)

pub esc-take : (s : List ℕ) (i : ℕ) → i < length s → esc (take i s) ++ escaped (get_or s i 0) ≡ esc (take (suc i) s)
esc-take s i h =
    sym (ap esc (take-suc s i 0 h) ∙ esc-append (take i s) (get_or s i 0 ∷ []) ∙ ap (λ (x : List ℕ). esc (take i s) ++ x) (esc-one (get_or s i 0)))

pub esc-none : [] ≡ esc []
unfolding esc
esc-none = refl

-- a byte that is one of the blanks
pub blank : (c : ℕ) → ((c ≡ 9 → ⊥) → (c ≡ 10 → ⊥) → (c ≡ 13 → ⊥) → (c ≡ 32 → ⊥) → ⊥) → 194 ∷ 160 ∷ [] ≡ escaped c
unfolding escaped_by escapes utf8 encoded
blank c n =
    by_eq c 9 (λ e. ap escaped (sym e))
    (λ f. by_eq c 10 (λ e. ap escaped (sym e))
    (λ g. by_eq c 13 (λ e. ap escaped (sym e))
    (λ h. by_eq c 32 (λ e. ap escaped (sym e)) (λ k. absurd (n f g h k)))))
