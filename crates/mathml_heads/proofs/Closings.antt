-- What closes a node, kind by kind.
use Prim.Native.Nat.{ℕ}
use mathlib.Core.Path.{◌≡◌, refl, ap}
use mathlib.Core.List.{List, [], ◌++◌}
use lib.ListN.{get_or, drop}
use Rattle.tree.specs.Decode.{kind_head}
use Rattle.tree.specs.Walk.{headed_at, lines_of, head_at}
use Rattle.mathml_rules.specs.declared.Mode.{Mode}
use Rattle.mathml_rules.specs.Pieces.{Piece, written}
use Rattle.mathml_rules.specs.Commands.{unaries, exchanging}
use Rattle.mathml_rules.specs.Mathml.{own}
use Rattle.mathml_rules.specs.Parts.{finish, finish_script, finish_unary, binary_element, kept, closing}
use Rattle.mathml_heads.specs.Spans.{left_span, right_span, script_of, matrix_closing}
use Rattle.mathml_heads.proofs.ByKind.{by_kinds}

pub close-none : (text words lines : List ℕ) (m : Mode) (k : ℕ) → (k ≡ 8 → ⊥) → (k ≡ 9 → ⊥) → (k ≡ 10 → ⊥) → (k ≡ 11 → ⊥) → (k ≡ 12 → ⊥) → (k ≡ 13 → ⊥) → (k ≡ 14 → ⊥) → (k ≡ 15 → ⊥) → (k ≡ 16 → ⊥) → (k ≡ 17 → ⊥) → (k ≡ 18 → ⊥) → ◌≡◌ {A = List Piece} [] (closing text m (kind_head k words lines))
unfolding kind_head closing
close-none text words lines m =
    by_kinds (λ k. (k ≡ 8 → ⊥) → (k ≡ 9 → ⊥) → (k ≡ 10 → ⊥) → (k ≡ 11 → ⊥) → (k ≡ 12 → ⊥) → (k ≡ 13 → ⊥) → (k ≡ 14 → ⊥) → (k ≡ 15 → ⊥) → (k ≡ 16 → ⊥) → (k ≡ 17 → ⊥) → (k ≡ 18 → ⊥) → ◌≡◌ {A = List Piece} [] (closing text m (kind_head k words lines)))
    (λ n8 n9 n10 n11 n12 n13 n14 n15 n16 n17 n18. refl)
    (λ n8 n9 n10 n11 n12 n13 n14 n15 n16 n17 n18. refl)
    (λ n8 n9 n10 n11 n12 n13 n14 n15 n16 n17 n18. refl)
    (λ n8 n9 n10 n11 n12 n13 n14 n15 n16 n17 n18. refl)
    (λ n8 n9 n10 n11 n12 n13 n14 n15 n16 n17 n18. refl)
    (λ n8 n9 n10 n11 n12 n13 n14 n15 n16 n17 n18. refl)
    (λ n8 n9 n10 n11 n12 n13 n14 n15 n16 n17 n18. refl)
    (λ n8 n9 n10 n11 n12 n13 n14 n15 n16 n17 n18. refl)
    (λ n8 n9 n10 n11 n12 n13 n14 n15 n16 n17 n18. absurd (n8 refl))
    (λ n8 n9 n10 n11 n12 n13 n14 n15 n16 n17 n18. absurd (n9 refl))
    (λ n8 n9 n10 n11 n12 n13 n14 n15 n16 n17 n18. absurd (n10 refl))
    (λ n8 n9 n10 n11 n12 n13 n14 n15 n16 n17 n18. absurd (n11 refl))
    (λ n8 n9 n10 n11 n12 n13 n14 n15 n16 n17 n18. absurd (n12 refl))
    (λ n8 n9 n10 n11 n12 n13 n14 n15 n16 n17 n18. absurd (n13 refl))
    (λ n8 n9 n10 n11 n12 n13 n14 n15 n16 n17 n18. absurd (n14 refl))
    (λ n8 n9 n10 n11 n12 n13 n14 n15 n16 n17 n18. absurd (n15 refl))
    (λ n8 n9 n10 n11 n12 n13 n14 n15 n16 n17 n18. absurd (n16 refl))
    (λ n8 n9 n10 n11 n12 n13 n14 n15 n16 n17 n18. absurd (n17 refl))
    (λ n8 n9 n10 n11 n12 n13 n14 n15 n16 n17 n18. absurd (n18 refl))
    (λ k n8 n9 n10 n11 n12 n13 n14 n15 n16 n17 n18. refl)

module _ (words text : List ℕ) (kind head : ℕ) (m : Mode) {s : List ℕ} (t : s ≡ own text (left_span (drop head words))) where
  abbrev Closes : List ℕ → Type 0
  Closes put = put ≡ written (closing text m (head_at words kind head))

  pub close-signed : kind ≡ 8 → Closes (written (finish 8))
  unfolding head_at kind_head closing
  close-signed e = rw (e)

  pub close-ssigned : kind ≡ 9 → Closes (written (finish 9))
  unfolding head_at kind_head closing
  close-ssigned e = rw (e)

  pub close-sfunc : kind ≡ 11 → Closes (written (finish 11))
  unfolding head_at kind_head closing
  close-sfunc e = rw (e)

  pub close-func : kind ≡ 14 → Closes (written (finish 14))
  unfolding head_at kind_head closing
  close-func e = rw (e)

  pub close-cell : kind ≡ 17 → Closes (written (finish 17))
  unfolding head_at kind_head closing
  close-cell e = rw (e)

  pub close-frac : kind ≡ 18 → Closes (written (finish 18))
  unfolding head_at kind_head closing
  close-frac e = rw (e)

  pub close-unary : kind ≡ 10 → Closes (written (finish_unary unaries s))
  unfolding head_at kind_head closing
  close-unary e = rw (e, t)

  pub close-binary : {e₁ : ℕ} → e₁ ≡ binary_element exchanging s → kind ≡ 12 → Closes (written (finish e₁))
  unfolding head_at kind_head closing
  close-binary b e = rw (e, b, t)

  pub close-simple : {held : ℕ} → held ≡ get_or (drop head words) 3 0 → kind ≡ 13 → Closes (written (finish_script (script_of held)))
  unfolding head_at kind_head closing
  close-simple h e = rw (e, h)

  pub close-group : {r : List ℕ} → r ≡ own text (right_span (drop head words)) → kind ≡ 15 → Closes (written (kept m s r r ++ finish 15))
  unfolding head_at kind_head closing
  close-group b e = rw (e, b, t)

  pub close-matrix : {r : List ℕ} → r ≡ own text (right_span (drop head words)) → kind ≡ 16 → Closes (written (matrix_closing r))
  unfolding head_at kind_head closing
  close-matrix b e = rw (e, b)

  pub close-leaf : (kind ≡ 8 → ⊥) → (kind ≡ 9 → ⊥) → (kind ≡ 10 → ⊥) → (kind ≡ 11 → ⊥) → (kind ≡ 12 → ⊥) → (kind ≡ 13 → ⊥) → (kind ≡ 14 → ⊥) → (kind ≡ 15 → ⊥) → (kind ≡ 16 → ⊥) → (kind ≡ 17 → ⊥) → (kind ≡ 18 → ⊥) → Closes []
  unfolding head_at written
  close-leaf n8 n9 n10 n11 n12 n13 n14 n15 n16 n17 n18 = ap written (close-none text (drop head words) (lines_of words (headed_at words head)) m kind n8 n9 n10 n11 n12 n13 n14 n15 n16 n17 n18)
