-- Where a run of bytes ends: no earlier than it starts, inside the text, and before a byte that fails the test.
use mathlib.Core.Path.{◌≡◌, refl}
use mathlib.Core.Bool.{Bool, true, false}
use mathlib.Core.List.{List, [], ◌∷◌}
use Prim.Native.Nat.{ℕ, ◌+◌, ◌≤◌, ◌<◌}
use native.Mathlib.Omega.{arith}
use native.Mathlib.Numerals.{add-one}
use lib.ListN.{length, get_or, drop, length-drop, drop_of_length-le}
use lib.Seq.{drop-cons, drop-drop}
use Rattle.lexing.specs.Rules.{run, run_end}
use Rattle.tokens.proofs.Cases.{by_test}

module _ (p : ℕ → Bool) where
  run_length : (s : List ℕ) → run p s ≤ length s
  unfolding run
  run_length [] = omega arith
  run_length (c ∷ s) = by_test (p c) (λ e. rw (e, run) (omega (arith, run_length s))) (λ e. rw (e, run) (omega arith))

  -- nothing passes the test where a run ends
  run-stops : (s : List ℕ) → run p (drop (run p s) s) ≡ 0
  unfolding run
  run-stops [] = refl
  run-stops (c ∷ s) = by_test (p c) (λ e. rw (e, run) (run-stops s)) (λ e. rw (e, run) (rw (e, run)))

module _ (p : ℕ → Bool) (text : List ℕ) (at : ℕ) where
  pub run-from : at ≤ run_end p text at
  unfolding run_end
  run-from = omega arith

  pub run-within : at ≤ length text → run_end p text at ≤ length text
  unfolding run_end
  run-within h = omega (arith, run_length p (drop at text), length-drop at text)

  pub run-twice : run_end p text (run_end p text at) ≡ run_end p text at
  unfolding run_end
  run-twice = rw (← drop-drop) (omega (arith, run-stops p (drop at text)))

  pub run_more : at < length text → p (get_or text at 0) ≡ true → run_end p text at ≡ run_end p text (at + 1)
  unfolding run run_end
  run_more h e = rw (add-one, drop-cons text at 0 h) (rw (e, run) (omega arith))

  pub run-stop : at < length text → p (get_or text at 0) ≡ false → run_end p text at ≡ at
  unfolding run run_end
  run-stop h e = rw (drop-cons text at 0 h) (rw (e, run) (omega arith))

  pub run_past : length text ≤ at → run_end p text at ≡ at
  unfolding run run_end
  run_past h = rw (drop_of_length-le text h) (omega arith)
