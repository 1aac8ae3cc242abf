-- Whether a node is refused, kind by kind.
use Prim.Native.Nat.{ℕ}
use mathlib.Core.Path.{◌≡◌, refl, sym}
use mathlib.Core.Bool.{Bool, false, or-false}
use mathlib.Core.List.{List}
use lib.ListN.{get_or, drop}
use Rattle.tokens.proofs.Cases.{by_eq}
use Rattle.tree.specs.Decode.{kind_head}
use Rattle.tree.specs.Walk.{headed_at, lines_of, head_at}
use Rattle.mathml_rules.specs.declared.Mode.{Mode}
use Rattle.mathml_rules.specs.declared.Mode.TheVariants as mode
use Rattle.mathml_rules.specs.Mathml.{own}
use Rattle.mathml_rules.specs.Refusal.{controls, refused_prefix, refused_head}
use Rattle.mathml_heads.specs.Spans.{left_span, right_span, unary_refused, binary_refused, brackets_refused, matrix_refused}
use Rattle.mathml_heads.proofs.ByKind.{by_kinds}

refuses-none : (text words lines : List ℕ) (m : Mode) (k : ℕ) → (k ≡ 1 → ⊥) → (k ≡ 2 → ⊥) → (k ≡ 3 → ⊥) → (k ≡ 4 → ⊥) → (k ≡ 5 → ⊥) → (k ≡ 6 → ⊥) → (k ≡ 7 → ⊥) → (k ≡ 8 → ⊥) → (k ≡ 9 → ⊥) → (k ≡ 10 → ⊥) → (k ≡ 11 → ⊥) → (k ≡ 12 → ⊥) → (k ≡ 14 → ⊥) → (k ≡ 15 → ⊥) → (k ≡ 16 → ⊥) → false ≡ refused_head text (kind_head k words lines)
unfolding kind_head refused_head
refuses-none text words lines m =
    by_kinds (λ k. (k ≡ 1 → ⊥) → (k ≡ 2 → ⊥) → (k ≡ 3 → ⊥) → (k ≡ 4 → ⊥) → (k ≡ 5 → ⊥) → (k ≡ 6 → ⊥) → (k ≡ 7 → ⊥) → (k ≡ 8 → ⊥) → (k ≡ 9 → ⊥) → (k ≡ 10 → ⊥) → (k ≡ 11 → ⊥) → (k ≡ 12 → ⊥) → (k ≡ 14 → ⊥) → (k ≡ 15 → ⊥) → (k ≡ 16 → ⊥) → false ≡ refused_head text (kind_head k words lines))
    (λ n1 n2 n3 n4 n5 n6 n7 n8 n9 n10 n11 n12 n14 n15 n16. refl)
    (λ n1 n2 n3 n4 n5 n6 n7 n8 n9 n10 n11 n12 n14 n15 n16. absurd (n1 refl))
    (λ n1 n2 n3 n4 n5 n6 n7 n8 n9 n10 n11 n12 n14 n15 n16. absurd (n2 refl))
    (λ n1 n2 n3 n4 n5 n6 n7 n8 n9 n10 n11 n12 n14 n15 n16. absurd (n3 refl))
    (λ n1 n2 n3 n4 n5 n6 n7 n8 n9 n10 n11 n12 n14 n15 n16. absurd (n4 refl))
    (λ n1 n2 n3 n4 n5 n6 n7 n8 n9 n10 n11 n12 n14 n15 n16. absurd (n5 refl))
    (λ n1 n2 n3 n4 n5 n6 n7 n8 n9 n10 n11 n12 n14 n15 n16. absurd (n6 refl))
    (λ n1 n2 n3 n4 n5 n6 n7 n8 n9 n10 n11 n12 n14 n15 n16. absurd (n7 refl))
    (λ n1 n2 n3 n4 n5 n6 n7 n8 n9 n10 n11 n12 n14 n15 n16. absurd (n8 refl))
    (λ n1 n2 n3 n4 n5 n6 n7 n8 n9 n10 n11 n12 n14 n15 n16. absurd (n9 refl))
    (λ n1 n2 n3 n4 n5 n6 n7 n8 n9 n10 n11 n12 n14 n15 n16. absurd (n10 refl))
    (λ n1 n2 n3 n4 n5 n6 n7 n8 n9 n10 n11 n12 n14 n15 n16. absurd (n11 refl))
    (λ n1 n2 n3 n4 n5 n6 n7 n8 n9 n10 n11 n12 n14 n15 n16. absurd (n12 refl))
    (λ n1 n2 n3 n4 n5 n6 n7 n8 n9 n10 n11 n12 n14 n15 n16. refl)
    (λ n1 n2 n3 n4 n5 n6 n7 n8 n9 n10 n11 n12 n14 n15 n16. absurd (n14 refl))
    (λ n1 n2 n3 n4 n5 n6 n7 n8 n9 n10 n11 n12 n14 n15 n16. absurd (n15 refl))
    (λ n1 n2 n3 n4 n5 n6 n7 n8 n9 n10 n11 n12 n14 n15 n16. absurd (n16 refl))
    (λ n1 n2 n3 n4 n5 n6 n7 n8 n9 n10 n11 n12 n14 n15 n16. refl)
    (λ n1 n2 n3 n4 n5 n6 n7 n8 n9 n10 n11 n12 n14 n15 n16. refl)
    (λ k n1 n2 n3 n4 n5 n6 n7 n8 n9 n10 n11 n12 n14 n15 n16. refl)

module _ (words text : List ℕ) (kind head : ℕ) {s : List ℕ} (t : s ≡ own text (left_span (drop head words))) where
  abbrev Refuses : Bool → Type 0
  Refuses b = b ≡ refused_head text (head_at words kind head)

  refuses-number : kind ≡ 1 → Refuses (controls s)
  unfolding head_at kind_head refused_head refused_prefix
  refuses-number e = rw (e, t)

  refuses-text : kind ≡ 2 → Refuses (controls s)
  unfolding head_at kind_head refused_head refused_prefix
  refuses-text e = rw (e, t)

  refuses-ident : kind ≡ 3 → Refuses (controls s)
  unfolding head_at kind_head refused_head refused_prefix
  refuses-ident e = rw (e, t)

  refuses-operator : kind ≡ 4 → Refuses (controls s)
  unfolding head_at kind_head refused_head refused_prefix
  refuses-operator e = rw (e, t)

  refuses-sign : kind ≡ 5 → Refuses (controls s)
  unfolding head_at kind_head refused_head refused_prefix
  refuses-sign e = rw (e, t)

  refuses-space : kind ≡ 6 → Refuses (controls s)
  unfolding head_at kind_head refused_head refused_prefix
  refuses-space e = rw (e, t)

  refuses-symbol : kind ≡ 7 → Refuses (controls s)
  unfolding head_at kind_head refused_head refused_prefix
  refuses-symbol e = rw (e, t)

  refuses-func : kind ≡ 14 → Refuses (controls s)
  unfolding head_at kind_head refused_head refused_prefix
  refuses-func e = rw (e, t)

  refuses-signed : kind ≡ 8 → Refuses (controls s)
  unfolding head_at kind_head refused_head refused_prefix
  refuses-signed e = rw (e, t) (sym (or-false _))

  refuses-ssigned : kind ≡ 9 → Refuses (controls s)
  unfolding head_at kind_head refused_head refused_prefix
  refuses-ssigned e = rw (e, t) (sym (or-false _))

  refuses-sfunc : kind ≡ 11 → Refuses (controls s)
  unfolding head_at kind_head refused_head refused_prefix
  refuses-sfunc e = rw (e, t) (sym (or-false _))

  pub refuses-plain : ((kind ≡ 1 → ⊥) → (kind ≡ 2 → ⊥) → (kind ≡ 3 → ⊥) → (kind ≡ 4 → ⊥) → (kind ≡ 5 → ⊥) → (kind ≡ 6 → ⊥) → (kind ≡ 7 → ⊥) → (kind ≡ 8 → ⊥) → (kind ≡ 9 → ⊥) → (kind ≡ 11 → ⊥) → (kind ≡ 14 → ⊥) → ⊥) → Refuses (controls s)
  refuses-plain n =
      by_eq kind 1 refuses-number (λ n1.
      by_eq kind 2 refuses-text (λ n2.
      by_eq kind 3 refuses-ident (λ n3.
      by_eq kind 4 refuses-operator (λ n4.
      by_eq kind 5 refuses-sign (λ n5.
      by_eq kind 6 refuses-space (λ n6.
      by_eq kind 7 refuses-symbol (λ n7.
      by_eq kind 8 refuses-signed (λ n8.
      by_eq kind 9 refuses-ssigned (λ n9.
      by_eq kind 11 refuses-sfunc (λ n11.
      by_eq kind 14 refuses-func (λ n14.
      absurd (n n1 n2 n3 n4 n5 n6 n7 n8 n9 n11 n14))))))))))))

  pub refuses-unary : kind ≡ 10 → Refuses (unary_refused s)
  unfolding head_at kind_head refused_head refused_prefix
  refuses-unary e = rw (e, t)

  pub refuses-binary : kind ≡ 12 → Refuses (binary_refused s)
  unfolding head_at kind_head refused_head refused_prefix
  refuses-binary e = rw (e, t)

  pub refuses-group : {r : List ℕ} → r ≡ own text (right_span (drop head words)) → kind ≡ 15 → Refuses (brackets_refused s r)
  unfolding head_at kind_head refused_head refused_prefix
  refuses-group b e = rw (e, b, t)

  pub refuses-matrix : {r : List ℕ} {cols : ℕ} {lines : List ℕ} → r ≡ own text (right_span (drop head words)) → cols ≡ get_or (drop head words) 6 0 → lines ≡ lines_of words (headed_at words head) → kind ≡ 16 → Refuses (matrix_refused s r cols lines)
  unfolding head_at kind_head refused_head refused_prefix
  refuses-matrix b c l e = rw (e, b, c, l, t)

  pub refuses-other : (kind ≡ 1 → ⊥) → (kind ≡ 2 → ⊥) → (kind ≡ 3 → ⊥) → (kind ≡ 4 → ⊥) → (kind ≡ 5 → ⊥) → (kind ≡ 6 → ⊥) → (kind ≡ 7 → ⊥) → (kind ≡ 8 → ⊥) → (kind ≡ 9 → ⊥) → (kind ≡ 10 → ⊥) → (kind ≡ 11 → ⊥) → (kind ≡ 12 → ⊥) → (kind ≡ 14 → ⊥) → (kind ≡ 15 → ⊥) → (kind ≡ 16 → ⊥) → Refuses false
  unfolding head_at
  refuses-other n1 n2 n3 n4 n5 n6 n7 n8 n9 n10 n11 n12 n14 n15 n16 = refuses-none text (drop head words) (lines_of words (headed_at words head)) mode.Keep kind n1 n2 n3 n4 n5 n6 n7 n8 n9 n10 n11 n12 n14 n15 n16
