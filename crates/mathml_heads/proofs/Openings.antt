-- What opens a node, kind by kind: what the code puts is the opening of the head that the words tell. s is its token's bytes or those of its
-- left bracket.
use Prim.Native.Nat.{ℕ}
use mathlib.Core.Path.{◌≡◌, refl, ap}
use mathlib.Core.List.{List, [], ◌++◌}
use lib.ListN.{get_or, drop}
use Rattle.tree.specs.Decode.{kind_head}
use Rattle.tree.specs.Walk.{headed_at, lines_of, head_at}
use Rattle.mathml_rules.specs.declared.Mode.{Mode}
use Rattle.mathml_rules.specs.Forms.{shown}
use Rattle.mathml_rules.specs.Pieces.{E, L, written}
use Rattle.mathml_rules.specs.Commands.{unaries, exchanging}
use Rattle.mathml_rules.specs.Mathml.{own, symbol_element, atom}
use Rattle.mathml_rules.specs.Parts.{begin, begin_script, begin_unary, binary_element, kept, opening}
use Rattle.mathml_heads.specs.Spans.{left_span, right_span, script_of, class_of, sfunc_opening, func_opening, matrix_opening}
use Rattle.mathml_heads.proofs.ByKind.{by_kinds}

open_none : (text words lines : List ℕ) (m : Mode) (k : ℕ) → (k ≡ 1 → ⊥) → (k ≡ 2 → ⊥) → (k ≡ 3 → ⊥) → (k ≡ 4 → ⊥) → (k ≡ 5 → ⊥) → (k ≡ 6 → ⊥) → (k ≡ 7 → ⊥) → (k ≡ 8 → ⊥) → (k ≡ 9 → ⊥) → (k ≡ 10 → ⊥) → (k ≡ 11 → ⊥) → (k ≡ 12 → ⊥) → (k ≡ 13 → ⊥) → (k ≡ 14 → ⊥) → (k ≡ 15 → ⊥) → (k ≡ 16 → ⊥) → (k ≡ 17 → ⊥) → (k ≡ 18 → ⊥) → E 0 [] ≡ opening text m (kind_head k words lines)
unfolding kind_head opening
open_none text words lines m =
    by_kinds (λ k. (k ≡ 1 → ⊥) → (k ≡ 2 → ⊥) → (k ≡ 3 → ⊥) → (k ≡ 4 → ⊥) → (k ≡ 5 → ⊥) → (k ≡ 6 → ⊥) → (k ≡ 7 → ⊥) → (k ≡ 8 → ⊥) → (k ≡ 9 → ⊥) → (k ≡ 10 → ⊥) → (k ≡ 11 → ⊥) → (k ≡ 12 → ⊥) → (k ≡ 13 → ⊥) → (k ≡ 14 → ⊥) → (k ≡ 15 → ⊥) → (k ≡ 16 → ⊥) → (k ≡ 17 → ⊥) → (k ≡ 18 → ⊥) → E 0 [] ≡ opening text m (kind_head k words lines))
    (λ n1 n2 n3 n4 n5 n6 n7 n8 n9 n10 n11 n12 n13 n14 n15 n16 n17 n18. refl)
    (λ n1 n2 n3 n4 n5 n6 n7 n8 n9 n10 n11 n12 n13 n14 n15 n16 n17 n18. absurd (n1 refl))
    (λ n1 n2 n3 n4 n5 n6 n7 n8 n9 n10 n11 n12 n13 n14 n15 n16 n17 n18. absurd (n2 refl))
    (λ n1 n2 n3 n4 n5 n6 n7 n8 n9 n10 n11 n12 n13 n14 n15 n16 n17 n18. absurd (n3 refl))
    (λ n1 n2 n3 n4 n5 n6 n7 n8 n9 n10 n11 n12 n13 n14 n15 n16 n17 n18. absurd (n4 refl))
    (λ n1 n2 n3 n4 n5 n6 n7 n8 n9 n10 n11 n12 n13 n14 n15 n16 n17 n18. absurd (n5 refl))
    (λ n1 n2 n3 n4 n5 n6 n7 n8 n9 n10 n11 n12 n13 n14 n15 n16 n17 n18. absurd (n6 refl))
    (λ n1 n2 n3 n4 n5 n6 n7 n8 n9 n10 n11 n12 n13 n14 n15 n16 n17 n18. absurd (n7 refl))
    (λ n1 n2 n3 n4 n5 n6 n7 n8 n9 n10 n11 n12 n13 n14 n15 n16 n17 n18. absurd (n8 refl))
    (λ n1 n2 n3 n4 n5 n6 n7 n8 n9 n10 n11 n12 n13 n14 n15 n16 n17 n18. absurd (n9 refl))
    (λ n1 n2 n3 n4 n5 n6 n7 n8 n9 n10 n11 n12 n13 n14 n15 n16 n17 n18. absurd (n10 refl))
    (λ n1 n2 n3 n4 n5 n6 n7 n8 n9 n10 n11 n12 n13 n14 n15 n16 n17 n18. absurd (n11 refl))
    (λ n1 n2 n3 n4 n5 n6 n7 n8 n9 n10 n11 n12 n13 n14 n15 n16 n17 n18. absurd (n12 refl))
    (λ n1 n2 n3 n4 n5 n6 n7 n8 n9 n10 n11 n12 n13 n14 n15 n16 n17 n18. absurd (n13 refl))
    (λ n1 n2 n3 n4 n5 n6 n7 n8 n9 n10 n11 n12 n13 n14 n15 n16 n17 n18. absurd (n14 refl))
    (λ n1 n2 n3 n4 n5 n6 n7 n8 n9 n10 n11 n12 n13 n14 n15 n16 n17 n18. absurd (n15 refl))
    (λ n1 n2 n3 n4 n5 n6 n7 n8 n9 n10 n11 n12 n13 n14 n15 n16 n17 n18. absurd (n16 refl))
    (λ n1 n2 n3 n4 n5 n6 n7 n8 n9 n10 n11 n12 n13 n14 n15 n16 n17 n18. absurd (n17 refl))
    (λ n1 n2 n3 n4 n5 n6 n7 n8 n9 n10 n11 n12 n13 n14 n15 n16 n17 n18. absurd (n18 refl))
    (λ k n1 n2 n3 n4 n5 n6 n7 n8 n9 n10 n11 n12 n13 n14 n15 n16 n17 n18. refl)

module _ (words text : List ℕ) (kind head : ℕ) (m : Mode) {s : List ℕ} (t : s ≡ own text (left_span (drop head words))) where
  abbrev Opens : List ℕ → Type 0
  Opens put = put ≡ written (opening text m (head_at words kind head))

  pub open_number : kind ≡ 1 → Opens (written (L 1 s))
  unfolding head_at kind_head opening atom
  open_number e = rw (e, t)

  pub open_text : kind ≡ 2 → Opens (written (L 2 s))
  unfolding head_at kind_head opening atom
  open_text e = rw (e, t)

  pub open_ident : kind ≡ 3 → Opens (written (L 3 s))
  unfolding head_at kind_head opening atom
  open_ident e = rw (e, t)

  pub open_operator : kind ≡ 4 → Opens (written (L 4 s))
  unfolding head_at kind_head opening atom
  open_operator e = rw (e, t)

  pub open_sign : kind ≡ 5 → Opens (written (L 5 (shown s)))
  unfolding head_at kind_head opening atom
  open_sign e = rw (e, t)

  pub open_space : kind ≡ 6 → Opens (written (E 6 []))
  unfolding head_at kind_head opening atom
  open_space e = rw (e)

  pub open_symbol : {held : ℕ} → held ≡ get_or (drop head words) 3 0 → kind ≡ 7 → Opens (written (L (symbol_element (class_of held)) (shown s)))
  unfolding head_at kind_head opening atom
  open_symbol h e = rw (e, h, t)

  pub open_signed : kind ≡ 8 → Opens (written (begin 8 ++ L 5 (shown s)))
  unfolding head_at kind_head opening atom
  open_signed e = rw (e, t)

  pub open_ssigned : kind ≡ 9 → Opens (written (begin 9 ++ L 5 (shown s)))
  unfolding head_at kind_head opening atom
  open_ssigned e = rw (e, t)

  pub open_unary : kind ≡ 10 → Opens (written (begin_unary unaries s))
  unfolding head_at kind_head opening atom
  open_unary e = rw (e, t)

  pub open_sfunc : kind ≡ 11 → Opens (written (sfunc_opening s))
  unfolding head_at kind_head opening atom
  open_sfunc e = rw (e, t)

  pub open_binary : {e₁ : ℕ} → e₁ ≡ binary_element exchanging s → kind ≡ 12 → Opens (written (begin e₁))
  unfolding head_at kind_head opening atom
  open_binary b e = rw (e, b, t)

  pub open_simple : {held : ℕ} → held ≡ get_or (drop head words) 3 0 → kind ≡ 13 → Opens (written (begin_script (script_of held)))
  unfolding head_at kind_head opening atom
  open_simple h e = rw (e, h)

  pub open_func : {held : ℕ} → held ≡ get_or (drop head words) 3 0 → kind ≡ 14 → Opens (written (func_opening held s))
  unfolding head_at kind_head opening atom
  open_func h e = rw (e, h, t)

  pub open_group : {r : List ℕ} → r ≡ own text (right_span (drop head words)) → kind ≡ 15 → Opens (written (begin 15 ++ kept m s r s))
  unfolding head_at kind_head opening atom
  open_group b e = rw (e, b, t)

  pub open_matrix : {cols : ℕ} {lines : List ℕ} → cols ≡ get_or (drop head words) 6 0 → lines ≡ lines_of words (headed_at words head) → kind ≡ 16 → Opens (written (matrix_opening s cols lines))
  unfolding head_at kind_head opening atom
  open_matrix c l e = rw (e, c, l, t)

  pub open_cell : kind ≡ 17 → Opens (written (begin 17))
  unfolding head_at kind_head opening atom
  open_cell e = rw (e)

  pub open_frac : kind ≡ 18 → Opens (written (begin 18))
  unfolding head_at kind_head opening atom
  open_frac e = rw (e)

  pub open_missing : (kind ≡ 1 → ⊥) → (kind ≡ 2 → ⊥) → (kind ≡ 3 → ⊥) → (kind ≡ 4 → ⊥) → (kind ≡ 5 → ⊥) → (kind ≡ 6 → ⊥) → (kind ≡ 7 → ⊥) → (kind ≡ 8 → ⊥) → (kind ≡ 9 → ⊥) → (kind ≡ 10 → ⊥) → (kind ≡ 11 → ⊥) → (kind ≡ 12 → ⊥) → (kind ≡ 13 → ⊥) → (kind ≡ 14 → ⊥) → (kind ≡ 15 → ⊥) → (kind ≡ 16 → ⊥) → (kind ≡ 17 → ⊥) → (kind ≡ 18 → ⊥) → Opens (written (E 0 []))
  unfolding head_at
  open_missing n1 n2 n3 n4 n5 n6 n7 n8 n9 n10 n11 n12 n13 n14 n15 n16 n17 n18 = ap written (open_none text (drop head words) (lines_of words (headed_at words head)) m kind n1 n2 n3 n4 n5 n6 n7 n8 n9 n10 n11 n12 n13 n14 n15 n16 n17 n18)
