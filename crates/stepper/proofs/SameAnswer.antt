-- One step of two states that have the same place and say that the same tokens wait.
use mathlib.Core.Path.{◌≡◌, sym, ◌∙◌, subst}
use mathlib.Core.List.{List}
use Prim.Native.Nat.{ℕ}
use native.Mathlib.Omega.{arith}
use lib.ListN.{length}
use Rattle.tokens.specs.Lexeme.{Lexeme}
use Rattle.lexing.specs.Rules.{byte_at, read_at}
use Rattle.tokens.specs.Refusals.{text_refusal}
use Rattle.tokens.proofs.Cases.{by_test, by_lt, by_option}
use Rattle.stepper.specs.declared.Tokenizer.{Tokenizer}
use Rattle.stepper.specs.Step.{StepAnswer, end, refused, token_answer, waiting, state, fits, step_refusal, stepped}
use Rattle.stepper.proofs.Answers.{refused-text, refused-state, passed, step-refused, step-waiting, step-read, step_end, by_list}

both : {A : Type 0} (P : A → A → Type 0) {a b c d : A} → a ≡ c → b ≡ d → P a b → P c d
both P {a} {b} {c} {d} e f h = subst (P c) f (subst (λ (x : _). P x b) e h)

module _ (text : List ℕ) (s t : Tokenizer) (p : s.place ≡ t.place) (c : s.queued.count ≡ t.queued.count)
    (w : waiting s.queued ≡ waiting t.queued) where
  same-fits : fits (length text) s ≡ fits (length text) t
  unfolding fits
  same-fits = rw (w, p, c)

  same-refusal : step_refusal text s ≡ step_refusal text t
  same-refusal =
      by_option (text_refusal text)
      (λ a.
      by_test (fits (length text) s) (λ f. passed text s a f ∙ sym (passed text t a (sym same-fits ∙ f)))
      (λ f. refused-state text s a f ∙ sym (refused-state text t a (sym same-fits ∙ f))))
      (λ k a. refused-text text s k a ∙ sym (refused-text text t k a))

  -- what holds of the same refusal, of the same token with the same state after it, and of End, holds of both steps
  pub by_both : (P : StepAnswer × Tokenizer → StepAnswer × Tokenizer → Type 0) → ((k : ℕ) → P (refused k, s) (refused k, t))
      → ((u : Lexeme) (next : Tokenizer) → P (token_answer u, next) (token_answer u, next)) → P (end, s) (end, t)
      → P (stepped text s) (stepped text t)
  by_both P f g h =
      by_option (step_refusal text s)
      (λ r.
      let r' = sym same-refusal ∙ r in
      by_list (waiting s.queued)
      (λ e.
      let e' = sym w ∙ e in
      by_lt s.place (length text)
      (λ l.
      let q = read_at byte_at text s.place in
      both P (step-read text s r e l) (rw p (step-read text t r' e' (omega arith))) (g q.first (state q.next q.waiting)))
      (λ l. both P (step_end text s r e l) (step_end text t r' e' (omega arith)) h))
      (λ u us e.
      both P (step-waiting text s r u us e) (rw p (step-waiting text t r' u us (sym w ∙ e))) (g u (state s.place us))))
      (λ k r. both P (step-refused text s k r) (step-refused text t k (sym same-refusal ∙ r)) (f k))
