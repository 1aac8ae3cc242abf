-- One step, case by case: what is refused, what waits, what is read, and the end.
use mathlib.Core.Path.{◌≡◌, refl, sym, ap, subst, ◌∙◌}
use mathlib.Core.Bool.{true, false}
use mathlib.Core.List.{List, [], ◌∷◌}
use mathlib.Core.Option.{none, some}
use Prim.Native.Nat.{ℕ, ◌≤◌, ◌<◌}
use native.Mathlib.Omega.{arith}
use lib.ListN.{length, drop}
use borrow.Author.Tests.{lt-ltb, le-ltb}
use Rattle.lex.specs.declared.Lexing.{Lexing}
use Rattle.std.specs.Prelude.{Result, Ok, Err, Some, None}
use Rattle.std.specs.Prelude as code
use Rattle.tokens.specs.Kinds.{number_of}
use Rattle.tokens.specs.Lexeme.{Lexeme}
use Rattle.lexing.specs.Rules.{byte_at, read_at}
use Rattle.tokens.specs.Refusals.{text_refusal}
use Rattle.lex.specs.Lex.{lexed_at}
use Rattle.tokens.proofs.Cases.{by_test, by_lt, by_option, clash}
use Rattle.lexer.proofs.Places.{place-refused, place-accepted}
use Rattle.lex.proofs.Answers.{lex_refused, lex_read, lex_end}
use Rattle.stepper.specs.declared.Tokenizer.{Tokenizer}
use Rattle.stepper.specs.Step.{StepAnswer, token, end, refused, token_answer, lexeme_of, waiting, state, fits, step_refusal, stepped}
use Rattle.stepper.proofs.Queues.{first_of, place-passes, too_many}

-- the answer of a single read at the state's place, as that of a step
abbrev step_of : Tokenizer → Result (code.Option Lexing) ℕ → StepAnswer × Tokenizer
step_of s (Ok (Some l)) = (token l.first.start l.first.len (number_of l.first.token), record { place = l.next; queued = l.queued })
step_of s (Ok None) = (end, s)
step_of s (Err k) = (refused k, s)

-- what a state that fits has
module _ (size : ℕ) (s : Tokenizer) (f : fits size s ≡ true) where
  pub place_inside : s.place ≤ size
  place_inside = by_lt size s.place (λ l. clash (fits size s) f (place-passes size s l)) (λ l. l)

  pub few-wait : s.queued.count ≤ 3
  few-wait = by_lt 3 s.queued.count (λ l. clash (fits size s) f (too_many size s place_inside l)) (λ l. l)

module _ (text : List ℕ) (s : Tokenizer) where
  abbrev Steps : StepAnswer → Tokenizer → Type 0
  Steps a t = ◌≡◌ {A = StepAnswer × Tokenizer} (a, t) (stepped text s)

  pub step-refused : (k : ℕ) → step_refusal text s ≡ some k → Steps (refused k) s
  unfolding stepped
  step-refused k e = sym (rw (e, stepped))

  module _ (p : step_refusal text s ≡ none) where
    pub step-waiting : (t : Lexeme) (ts : List Lexeme) → waiting s.queued ≡ t ∷ ts → Steps (token_answer t) (state s.place ts)
    unfolding stepped
    step-waiting t ts e = sym (rw (p, stepped) (rw e))

    module _ (w : waiting s.queued ≡ []) where
      pub step-read : s.place < length text
          → Steps (token_answer (read_at byte_at text s.place).first)
          (state (read_at byte_at text s.place).next (read_at byte_at text s.place).waiting)
      unfolding stepped
      step-read l = sym (rw (p, stepped) (rw w (rw (lt-ltb s.place (length text) l))))

      pub step_end : length text ≤ s.place → Steps end s
      unfolding stepped
      step_end l = sym (rw (p, stepped) (rw w (rw (le-ltb s.place (length text) l))))

  pub refused-text : (k : ℕ) → text_refusal text ≡ some k → step_refusal text s ≡ some k
  unfolding step_refusal
  refused-text k e = rw (e, step_refusal)

  module _ (a : text_refusal text ≡ none) where
    pub refused-state : fits (length text) s ≡ false → step_refusal text s ≡ some 5
    unfolding step_refusal
    refused-state f = rw (a, step_refusal) (rw f)

    pub passed : fits (length text) s ≡ true → step_refusal text s ≡ none
    unfolding step_refusal
    passed f = rw (a, step_refusal) (rw f)

  module _ (p : step_refusal text s ≡ none) where
    accepted-of : text_refusal text ≡ none
    accepted-of =
        by_option (text_refusal text) (λ a. a)
        (λ k a. let e = refused-text k a in let z : ◌≡◌ {A = ℕ} 0 1 = cc in absurd (omega arith))

    -- a state that is not refused fits
    pub fits-of : fits (length text) s ≡ true
    fits-of =
        by_test (fits (length text) s) (λ f. f)
        (λ f. let e = refused-state accepted-of f in let z : ◌≡◌ {A = ℕ} 0 1 = cc in absurd (omega arith))

    -- the first that waits is answered
    pub answers-waiting : 0 < s.queued.count → Steps (token_answer (lexeme_of s.queued.first)) (state s.place (drop 1 (waiting s.queued)))
    unfolding waiting
    answers-waiting l =
        let w = first_of s.queued.count (lexeme_of s.queued.first) (lexeme_of s.queued.second ∷ lexeme_of s.queued.third ∷ []) l in
        rw w (step-waiting p _ _ w)

  -- with none waiting, a step is what is read at the place
  module _ (f : fits (length text) s ≡ true) (z : s.queued.count ≤ 0) where
    none-waiting : waiting s.queued ≡ []
    unfolding waiting
    none-waiting = let e : s.queued.count ≡ 0 = omega arith in rw e

    pub answers-read : (r : Result (code.Option Lexing) ℕ) → r ≡ lexed_at text s.place → step_of s r ≡ stepped text s
    answers-read r e =
        ap (step_of s) e
        ∙ by_option (text_refusal text)
        (λ a.
        let p = place-accepted text s.place a (place_inside (length text) s f) in
        by_lt s.place (length text)
        (λ l. ap (step_of s) (sym (lex_read text s.place p l)) ∙ step-read (passed a f) none-waiting l)
        (λ l. ap (step_of s) (sym (lex_end text s.place p l)) ∙ step_end (passed a f) none-waiting l))
        (λ k a. ap (step_of s) (sym (lex_refused text s.place k (place-refused text s.place k a))) ∙ step-refused k (refused-text k a))

pub by_list : {A : Type 0} (ts : List Lexeme) → (ts ≡ [] → A) → ((u : Lexeme) (us : List Lexeme) → ts ≡ u ∷ us → A) → A
by_list [] f g = f refl
by_list (t ∷ ts) f g = g t ts refl

-- what holds of a refusal, of each token with any state after it, and of the end, holds of a step
pub by_step : (P : StepAnswer × Tokenizer → Type 0) (text : List ℕ) (s : Tokenizer)
    → ((k : ℕ) → step_refusal text s ≡ some k → P (refused k, s)) → ((t : Lexeme) (next : Tokenizer) → P (token_answer t, next))
    → (step_refusal text s ≡ none → waiting s.queued ≡ [] → length text ≤ s.place → P (end, s)) → P (stepped text s)
by_step P text s f g h =
    by_option (step_refusal text s)
    (λ p.
    by_list (waiting s.queued)
    (λ w.
    by_lt s.place (length text) (λ l.
    let r = read_at byte_at text s.place in
    subst P (step-read text s p w l) (g r.first (state r.next r.waiting)))
    (λ l. subst P (step_end text s p w l) (h p w l)))
    (λ t ts w. subst P (step-waiting text s p t ts w) (g t (state s.place ts))))
    (λ k p. subst P (step-refused text s k p) (f k p))

-- the three kinds of answers differ
module _ {A : Type 0} (k : ℕ) where
  pub refused-not_end : refused k ≡ end → A
  refused-not_end e = let z : ◌≡◌ {A = ℕ} 0 1 = cc in absurd (omega arith)

  pub refused-not_token : (start len kind : ℕ) → refused k ≡ token start len kind → A
  refused-not_token i n j e = let z : ◌≡◌ {A = ℕ} 0 1 = cc in absurd (omega arith)

pub end-not_token : {A : Type 0} (start len kind : ℕ) → end ≡ token start len kind → A
end-not_token i n k e = let z : ◌≡◌ {A = ℕ} 0 1 = cc in absurd (omega arith)
