-- The parts of a node: scripts, classes, brackets, rows, modes.
use Prim.Native.Nat.{ℕ, zero, suc, ◌≤◌, ◌<◌}
use mathlib.Core.Path.{◌≡◌, refl, sym, ap}
use mathlib.Core.Bool.{true, false, ◌||◌}
use mathlib.Core.List.{List, [], ◌++◌, append-nil}
use native.Mathlib.Omega.{arith}
use borrow.Author.Tests.{eq-eqb, ne_eqb, lt-ltb, le-ltb}
use Rattle.tokens.specs.Bytes.{bytes, same}
use Rattle.tokens.proofs.Cases.{by_eq}
use Rattle.tree.specs.Tree.{Script}
use Rattle.mathml_rules.specs.declared.Mode.{Mode}
use Rattle.mathml_rules.specs.declared.Mode.TheVariants as mode
use Rattle.mathml_rules.specs.Pieces.{Piece, bytes_of, written}
use Rattle.mathml_rules.specs.Mathml.{symbol_element, arguments, A, B, dropped, text_mode, simple_mode, func_mode}
use Rattle.mathml_rules.specs.Parts.{begin_script, finish_script, kept, between_func, between_rows}
use Rattle.mathml_heads.specs.Spans.{script_of, class_of}

-- scripts by their numbers
module _ (script : ℕ) where
  pub begin-sub : script ≡ 1 → bytes_of (Piece.start 13 []) ≡ written (begin_script (script_of script))
  unfolding begin_script written
  begin-sub e = rw e (sym (append-nil (bytes_of (Piece.start 13 []))))

  pub begin-super : script ≡ 2 → bytes_of (Piece.start 20 []) ≡ written (begin_script (script_of script))
  unfolding begin_script written
  begin-super e = rw e (sym (append-nil (bytes_of (Piece.start 20 []))))

  pub begin-both : script ≡ 3 → bytes_of (Piece.start 21 []) ≡ written (begin_script (script_of script))
  unfolding begin_script written
  begin-both e = rw e (sym (append-nil (bytes_of (Piece.start 21 []))))

  pub finish-sub : script ≡ 1 → bytes_of (Piece.end 13) ≡ written (finish_script (script_of script))
  unfolding finish_script written
  finish-sub e = rw e (sym (append-nil (bytes_of (Piece.end 13))))

  pub finish-super : script ≡ 2 → bytes_of (Piece.end 20) ≡ written (finish_script (script_of script))
  unfolding finish_script written
  finish-super e = rw e (sym (append-nil (bytes_of (Piece.end 20))))

  pub finish-both : script ≡ 3 → bytes_of (Piece.end 21) ≡ written (finish_script (script_of script))
  unfolding finish_script written
  finish-both e = rw e (sym (append-nil (bytes_of (Piece.end 21))))

no_script : (script : ℕ) → (script ≡ 1 → ⊥) → (script ≡ 2 → ⊥) → (script ≡ 3 → ⊥) → script_of script ≡ Script.none
no_script zero a b c = refl
no_script (suc zero) a b c = absurd (a refl)
no_script (suc (suc zero)) a b c = absurd (b refl)
no_script (suc (suc (suc zero))) a b c = absurd (c refl)
no_script (suc (suc (suc (suc n)))) a b c = refl

module _ (script : ℕ) (a : script ≡ 1 → ⊥) (b : script ≡ 2 → ⊥) (c : script ≡ 3 → ⊥) where
  pub begin-none : [] ≡ written (begin_script (script_of script))
  unfolding begin_script written
  begin-none = ap (λ (s : Script). written (begin_script s)) (sym (no_script script a b c))

  pub finish-none : [] ≡ written (finish_script (script_of script))
  unfolding finish_script written
  finish-none = ap (λ (s : Script). written (finish_script s)) (sym (no_script script a b c))

  pub no_arguments : 0 ≡ arguments (script_of script)
  unfolding arguments
  no_arguments = ap arguments (sym (no_script script a b c))

-- symbols by the numbers of their classes
pub one-argument : (script : ℕ) → ((script ≡ 1 → ⊥) → (script ≡ 2 → ⊥) → ⊥) → 1 ≡ arguments (script_of script)
unfolding arguments
one-argument script n = by_eq script 1 (λ e. rw e) (λ n1. by_eq script 2 (λ e. rw e) (λ n2. absurd (n n1 n2)))

pub lettered : (class : ℕ) → ((class ≡ 2 → ⊥) → (class ≡ 3 → ⊥) → (class ≡ 4 → ⊥) → (class ≡ 5 → ⊥) → (class ≡ 7 → ⊥) → ⊥) → 7 ≡ symbol_element (class_of class)
unfolding symbol_element
lettered class n =
    by_eq class 2 (λ e. rw e)
    (λ n2. by_eq class 3 (λ e. rw e)
    (λ n3. by_eq class 4 (λ e. rw e)
    (λ n4. by_eq class 5 (λ e. rw e)
    (λ n5. by_eq class 7 (λ e. rw e) (λ n7. absurd (n n2 n3 n4 n5 n7))))))

pub glyph : (class : ℕ) → (class ≡ 2 → ⊥) → (class ≡ 3 → ⊥) → (class ≡ 4 → ⊥) → (class ≡ 5 → ⊥) → (class ≡ 7 → ⊥) → 22 ≡ symbol_element (class_of class)
unfolding symbol_element
glyph zero a b c d e = refl
glyph (suc zero) a b c d e = refl
glyph (suc (suc zero)) a b c d e = absurd (a refl)
glyph (suc (suc (suc zero))) a b c d e = absurd (b refl)
glyph (suc (suc (suc (suc zero)))) a b c d e = absurd (c refl)
glyph (suc (suc (suc (suc (suc zero))))) a b c d e = absurd (d refl)
glyph (suc (suc (suc (suc (suc (suc zero)))))) a b c d e = refl
glyph (suc (suc (suc (suc (suc (suc (suc zero))))))) a b c d e = absurd (e refl)
glyph (suc (suc (suc (suc (suc (suc (suc (suc n)))))))) a b c d e = refl

-- brackets
module _ (m : Mode) (l r s : List ℕ) where
  pub kept-none : dropped m l r ≡ true → [] ≡ written (kept m l r s)
  unfolding kept written
  kept-none e = rw (e, kept)

  pub kept-some : dropped m l r ≡ false → B s ≡ kept m l r s
  unfolding kept
  kept-some e = rw (e, kept)

-- what stands before a function's argument, and between rows
module _ (sc : Script) (name : List ℕ) (i : ℕ) where
  pub between-here : i ≡ arguments sc → finish_script sc ++ A name ≡ between_func sc name i
  unfolding between_func
  between-here e = rw (eq-eqb i (arguments sc) e, between_func)

  pub between_none : (i ≡ arguments sc → ⊥) → [] ≡ written (between_func sc name i)
  unfolding between_func written
  between_none e = rw (ne_eqb i (arguments sc) e, between_func)

pub same_row : (left : ℕ) → (left ≡ 0 → ⊥) → [] ≡ written (between_rows left)
unfolding written
same_row zero e = absurd (e refl)
same_row (suc left) e = refl

-- the modes of a simple's children
module _ (m : Mode) (i : ℕ) where
  pub simple-alone : (sc : Script) → arguments sc ≡ 0 → m ≡ simple_mode sc m i
  unfolding arguments simple_mode
  simple-alone Script.none e = refl
  simple-alone Script.sub e = absurd (omega arith)
  simple-alone Script.super e = absurd (omega arith)
  simple-alone Script.subsuper e = absurd (omega arith)

  pub simple-base : (sc : Script) → (arguments sc ≡ 0 → ⊥) → i ≡ 0 → mode.Keep ≡ simple_mode sc m i
  unfolding arguments simple_mode
  simple-base Script.none f e = absurd (f refl)
  simple-base Script.sub f e = rw e
  simple-base Script.super f e = rw e
  simple-base Script.subsuper f e = rw e

  pub simple-argument : (sc : Script) → (arguments sc ≡ 0 → ⊥) → (i ≡ 0 → ⊥) → mode.Argument ≡ simple_mode sc m i
  unfolding arguments simple_mode
  simple-argument Script.none f e = absurd (f refl)
  simple-argument Script.sub f e = rw (ne_eqb i 0 e, simple_mode)
  simple-argument Script.super f e = rw (ne_eqb i 0 e, simple_mode)
  simple-argument Script.subsuper f e = rw (ne_eqb i 0 e, simple_mode)

-- the modes of a unary command's argument and of a function's children
module _ (s : List ℕ) where
  pub text-argument : (same s (bytes "text") || same s (bytes "mbox")) ≡ true → mode.Text ≡ text_mode s
  unfolding text_mode
  text-argument e = rw (e, text_mode)

  pub other-argument : (same s (bytes "text") || same s (bytes "mbox")) ≡ false → mode.Argument ≡ text_mode s
  unfolding text_mode
  other-argument e = rw (e, text_mode)

module _ (sc : Script) (i : ℕ) where
  pub script-argument : i < arguments sc → mode.Argument ≡ func_mode sc i
  unfolding func_mode
  script-argument h = rw (lt-ltb i (arguments sc) h, func_mode)

  pub func-argument : arguments sc ≤ i → mode.Keep ≡ func_mode sc i
  unfolding func_mode
  func-argument h = rw (le-ltb i (arguments sc) h, func_mode)
