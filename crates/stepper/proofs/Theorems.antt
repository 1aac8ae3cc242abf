-- The theorems about the stepped tokenizer, each in the words of the definitions alone.
use mathlib.Core.Path.{◌≡◌, refl, sym}
use mathlib.Core.List.{List, []}
use mathlib.Core.Option.{none}
use Prim.Native.Nat.{ℕ}
use native.Mathlib.Omega.{arith}
use lib.ListN.{length}
use Rattle.lexing.specs.Rules.{tokens_by, tokens}
use Rattle.tokens.specs.Refusals.{AcceptedText}
use Rattle.stepper.specs.declared.Tokenizer.{Tokenizer}
use Rattle.stepper.specs.Step.{StepAnswer, token, end, refused, waiting, fresh, step_refusal, stepped, answers, after, then_end}
use Rattle.stepper.proofs.Answers.{by_step, refused-not_end, refused-not_token, end-not_token, fits-of, place_inside}
use Rattle.stepper.proofs.SameAnswer.{by_both}
use Rattle.stepper.proofs.Stands.{stands-fresh, answers-from, accepted-from}

module _ (text : List ℕ) (accepted : AcceptedText text) (k : ℕ) where
  -- From the fresh state, stepping over an accepted text answers its tokens, one after the other, and then End for ever.
  pub steps-give_tokens : answers k text fresh ≡ then_end k (tokens text)
  unfolding tokens_by
  steps-give_tokens = answers-from text accepted k 0 [] (stands-fresh text)

  -- No state that is reached from the fresh one is refused.
  pub never-refused : step_refusal text (after k text fresh) ≡ none
  never-refused = accepted-from text accepted k 0 [] (stands-fresh text)

-- Of any state that a caller can make, over any text:
module _ (text : List ℕ) (s : Tokenizer) where
  -- End and a refusal leave it as it is;
  pub end_stays : (stepped text s).0 ≡ end → (stepped text s).1 ≡ s
  end_stays =
      by_step (λ (r : StepAnswer × Tokenizer). r.0 ≡ end → r.1 ≡ s) text s (λ k p e. refl) (λ t n e. end-not_token _ _ _ (sym e))
      (λ p w l e. refl)

  pub refusal-stays : (k : ℕ) → (stepped text s).0 ≡ refused k → (stepped text s).1 ≡ s
  refusal-stays j =
      by_step (λ (r : StepAnswer × Tokenizer). r.0 ≡ refused j → r.1 ≡ s) text s (λ k p e. refl)
      (λ t n e. refused-not_token j _ _ _ (sym e)) (λ p w l e. refl)

  -- End comes only at the text's end with no token waiting;
  pub end-at_end : (stepped text s).0 ≡ end → (s.place ≡ length text) × (waiting s.queued ≡ [])
  end-at_end =
      by_step (λ (r : StepAnswer × Tokenizer). r.0 ≡ end → (s.place ≡ length text) × (waiting s.queued ≡ [])) text s
      (λ k p e. refused-not_end k e) (λ t n e. end-not_token _ _ _ (sym e))
      (λ p w l e. (omega (arith, place_inside (length text) s (fits-of text s p)), w))

  -- and places that are not said to wait are not looked at: the answer is the same whatever they hold, and where a token is
  -- answered the state after it too.
  module _ (t : Tokenizer) (p : s.place ≡ t.place) (c : s.queued.count ≡ t.queued.count)
      (w : waiting s.queued ≡ waiting t.queued) where
    pub same_answer : (stepped text s).0 ≡ (stepped text t).0
    same_answer =
        by_both text s t p c w (λ (a b : StepAnswer × Tokenizer). a.0 ≡ b.0) (λ k. refl) (λ u n. refl) refl

    pub same_after : (start len kind : ℕ) → (stepped text s).0 ≡ token start len kind → (stepped text s).1 ≡ (stepped text t).1
    same_after i n k =
        by_both text s t p c w (λ (a b : StepAnswer × Tokenizer). a.0 ≡ token i n k → a.1 ≡ b.1)
        (λ j e. refused-not_token j i n k e) (λ u m e. refl) (λ e. end-not_token i n k e)
