-- What a node's children need of it, kind by kind.
use Prim.Native.Nat.{ℕ, zero, suc, ◌-◌, ◌≤◌, ◌<◌}
use mathlib.Core.Path.{◌≡◌, refl, ap}
use mathlib.Core.Bool.{false}
use mathlib.Core.List.{List, []}
use native.Mathlib.Omega.{arith}
use lib.ListN.{get_or, drop}
use Rattle.tree.specs.Decode.{kind_head}
use Rattle.tree.specs.Walk.{headed_at, lines_of, head_at}
use Rattle.mathml_rules.specs.declared.Mode.{Mode}
use Rattle.mathml_rules.specs.declared.Mode.TheVariants as mode
use Rattle.mathml_rules.specs.Pieces.{Piece, written}
use Rattle.mathml_rules.specs.Commands.{exchanging}
use Rattle.mathml_rules.specs.Mathml.{own, text_mode, simple_mode, func_mode, handed}
use Rattle.mathml_rules.specs.Parts.{exchanges, between_func, between_rows, before, swaps, cols_of, cells_left}
use Rattle.mathml_heads.specs.Spans.{left_span, script_of}
use Rattle.mathml_heads.proofs.ByKind.{by_kinds}

before-none : (text words lines : List ℕ) (m : Mode) (k : ℕ) → (k ≡ 14 → ⊥) → (k ≡ 16 → ⊥) → (i left : ℕ) → ◌≡◌ {A = List Piece} [] (before text (kind_head k words lines) i left)
unfolding kind_head before
before-none text words lines m =
    by_kinds (λ k. (k ≡ 14 → ⊥) → (k ≡ 16 → ⊥) → (i left : ℕ) → ◌≡◌ {A = List Piece} [] (before text (kind_head k words lines) i left))
    (λ n14 n16. λ i left. refl)
    (λ n14 n16. λ i left. refl)
    (λ n14 n16. λ i left. refl)
    (λ n14 n16. λ i left. refl)
    (λ n14 n16. λ i left. refl)
    (λ n14 n16. λ i left. refl)
    (λ n14 n16. λ i left. refl)
    (λ n14 n16. λ i left. refl)
    (λ n14 n16. λ i left. refl)
    (λ n14 n16. λ i left. refl)
    (λ n14 n16. λ i left. refl)
    (λ n14 n16. λ i left. refl)
    (λ n14 n16. λ i left. refl)
    (λ n14 n16. λ i left. refl)
    (λ n14 n16. absurd (n14 refl))
    (λ n14 n16. λ i left. refl)
    (λ n14 n16. absurd (n16 refl))
    (λ n14 n16. λ i left. refl)
    (λ n14 n16. λ i left. refl)
    (λ k n14 n16. λ i left. refl)

mode-keep : (text words lines : List ℕ) (m : Mode) (k : ℕ) → (k ≡ 10 → ⊥) → (k ≡ 12 → ⊥) → (k ≡ 13 → ⊥) → (k ≡ 14 → ⊥) → (k ≡ 18 → ⊥) → (i : ℕ) → mode.Keep ≡ handed text m (kind_head k words lines) i
unfolding kind_head handed
mode-keep text words lines m =
    by_kinds (λ k. (k ≡ 10 → ⊥) → (k ≡ 12 → ⊥) → (k ≡ 13 → ⊥) → (k ≡ 14 → ⊥) → (k ≡ 18 → ⊥) → (i : ℕ) → mode.Keep ≡ handed text m (kind_head k words lines) i)
    (λ n10 n12 n13 n14 n18. λ i. refl)
    (λ n10 n12 n13 n14 n18. λ i. refl)
    (λ n10 n12 n13 n14 n18. λ i. refl)
    (λ n10 n12 n13 n14 n18. λ i. refl)
    (λ n10 n12 n13 n14 n18. λ i. refl)
    (λ n10 n12 n13 n14 n18. λ i. refl)
    (λ n10 n12 n13 n14 n18. λ i. refl)
    (λ n10 n12 n13 n14 n18. λ i. refl)
    (λ n10 n12 n13 n14 n18. λ i. refl)
    (λ n10 n12 n13 n14 n18. λ i. refl)
    (λ n10 n12 n13 n14 n18. absurd (n10 refl))
    (λ n10 n12 n13 n14 n18. λ i. refl)
    (λ n10 n12 n13 n14 n18. absurd (n12 refl))
    (λ n10 n12 n13 n14 n18. absurd (n13 refl))
    (λ n10 n12 n13 n14 n18. absurd (n14 refl))
    (λ n10 n12 n13 n14 n18. λ i. refl)
    (λ n10 n12 n13 n14 n18. λ i. refl)
    (λ n10 n12 n13 n14 n18. λ i. refl)
    (λ n10 n12 n13 n14 n18. absurd (n18 refl))
    (λ k n10 n12 n13 n14 n18. λ i. refl)

swaps-none : (text words lines : List ℕ) (m : Mode) (k : ℕ) → (k ≡ 12 → ⊥) → false ≡ swaps text (kind_head k words lines)
unfolding kind_head swaps
swaps-none text words lines m =
    by_kinds (λ k. (k ≡ 12 → ⊥) → false ≡ swaps text (kind_head k words lines))
    (λ n12. refl)
    (λ n12. refl)
    (λ n12. refl)
    (λ n12. refl)
    (λ n12. refl)
    (λ n12. refl)
    (λ n12. refl)
    (λ n12. refl)
    (λ n12. refl)
    (λ n12. refl)
    (λ n12. refl)
    (λ n12. refl)
    (λ n12. absurd (n12 refl))
    (λ n12. refl)
    (λ n12. refl)
    (λ n12. refl)
    (λ n12. refl)
    (λ n12. refl)
    (λ n12. refl)
    (λ k n12. refl)

cols_none : (text words lines : List ℕ) (m : Mode) (k : ℕ) → (k ≡ 16 → ⊥) → 0 ≡ cols_of (kind_head k words lines)
unfolding kind_head
cols_none text words lines m =
    by_kinds (λ k. (k ≡ 16 → ⊥) → 0 ≡ cols_of (kind_head k words lines))
    (λ n16. refl)
    (λ n16. refl)
    (λ n16. refl)
    (λ n16. refl)
    (λ n16. refl)
    (λ n16. refl)
    (λ n16. refl)
    (λ n16. refl)
    (λ n16. refl)
    (λ n16. refl)
    (λ n16. refl)
    (λ n16. refl)
    (λ n16. refl)
    (λ n16. refl)
    (λ n16. refl)
    (λ n16. refl)
    (λ n16. absurd (n16 refl))
    (λ n16. refl)
    (λ n16. refl)
    (λ k n16. refl)

module _ (words text : List ℕ) (kind head : ℕ) (m : Mode) (i : ℕ) where
  module _ {s : List ℕ} (t : s ≡ own text (left_span (drop head words))) where
    pub before-func : (left : ℕ) {held : ℕ} → held ≡ get_or (drop head words) 3 0 → kind ≡ 14 →
        written (between_func (script_of held) s i) ≡ written (before text (head_at words kind head) i left)
    unfolding head_at kind_head before
    before-func left h e = rw (e, h, t)

    pub mode-unary : kind ≡ 10 → text_mode s ≡ handed text m (head_at words kind head) i
    unfolding head_at kind_head handed
    mode-unary e = rw (e, t)

    pub swaps-binary : kind ≡ 12 → exchanges exchanging s ≡ swaps text (head_at words kind head)
    unfolding head_at kind_head swaps
    swaps-binary e = rw (e, t)

  pub mode-simple : {held : ℕ} → held ≡ get_or (drop head words) 3 0 → kind ≡ 13 → simple_mode (script_of held) m i ≡ handed text m (head_at words kind head) i
  unfolding head_at kind_head handed
  mode-simple h e = rw (e, h)

  pub mode-func : {held : ℕ} → held ≡ get_or (drop head words) 3 0 → kind ≡ 14 → func_mode (script_of held) i ≡ handed text m (head_at words kind head) i
  unfolding head_at kind_head handed
  mode-func h e = rw (e, h)

  pub cols_matrix : {cols : ℕ} → cols ≡ get_or (drop head words) 6 0 → kind ≡ 16 → cols ≡ cols_of (head_at words kind head)
  unfolding head_at kind_head
  cols_matrix h e = rw (e, h)

  pub before-cell : (left : ℕ) → kind ≡ 16 → written (between_rows left) ≡ written (before text (head_at words kind head) i left)
  unfolding head_at kind_head before
  before-cell left e = rw e

  pub before-other : (left : ℕ) → (kind ≡ 14 → ⊥) → (kind ≡ 16 → ⊥) → [] ≡ written (before text (head_at words kind head) i left)
  unfolding head_at written
  before-other left a b = ap written (before-none text (drop head words) (lines_of words (headed_at words head)) m kind a b i left)

  pub mode-binary : kind ≡ 12 → mode.Argument ≡ handed text m (head_at words kind head) i
  unfolding head_at kind_head handed
  mode-binary e = rw e

  pub mode-frac : kind ≡ 18 → mode.Argument ≡ handed text m (head_at words kind head) i
  unfolding head_at kind_head handed
  mode-frac e = rw e

  pub mode-other : (kind ≡ 10 → ⊥) → (kind ≡ 12 → ⊥) → (kind ≡ 13 → ⊥) → (kind ≡ 14 → ⊥) → (kind ≡ 18 → ⊥) →
      mode.Keep ≡ handed text m (head_at words kind head) i
  unfolding head_at
  mode-other a b c d e = mode-keep text (drop head words) (lines_of words (headed_at words head)) m kind a b c d e i

  pub swaps-other : (kind ≡ 12 → ⊥) → false ≡ swaps text (head_at words kind head)
  unfolding head_at
  swaps-other a = swaps-none text (drop head words) (lines_of words (headed_at words head)) m kind a

  pub cols_other : (kind ≡ 16 → ⊥) → 0 ≡ cols_of (head_at words kind head)
  unfolding head_at
  cols_other a = cols_none text (drop head words) (lines_of words (headed_at words head)) m kind a

-- the cells left in a row
pub row_on : (cols left : ℕ) → 0 < left → left - 1 ≡ cells_left cols left
row_on cols zero h = absurd (omega arith)
row_on cols (suc left) h = omega arith

pub row_new : (cols left : ℕ) → left ≤ 0 → cols - 1 ≡ cells_left cols left
row_new zero zero h = refl
row_new (suc cols) zero h = omega arith
row_new zero (suc left) h = absurd (omega arith)
row_new (suc cols) (suc left) h = absurd (omega arith)
