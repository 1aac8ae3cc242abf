-- The states that are reached from the fresh one over an accepted text, and the tokens that are left in each.
use mathlib.Core.Path.{◌≡◌, refl, sym, ap, ◌∙◌}
use mathlib.Core.Bool.{true, false}
use mathlib.Core.List.{List, [], ◌∷◌, ◌++◌}
use mathlib.Core.Option.{none}
use Prim.Native.Nat.{ℕ, zero, suc, ◌+◌, ◌≤◌}
use native.Mathlib.Omega.{arith}
use lib.Dec.{leb}
use lib.ListN.{length}
use borrow.Author.Tests.{le-leb}
use Rattle.tokens.specs.Lexeme.{Lexeme}
use Rattle.lexing.specs.Rules.{byte_at, read_at, tokens_from}
use Rattle.tokens.specs.Refusals.{text_refusal}
use Rattle.lex.specs.Lex.{queue_of}
use Rattle.tokens.proofs.Cases.{by_test, by_lt, clash}
use Rattle.lexing.proofs.Moves.{Between, read-moves, byte_at_sound}
use Rattle.lexing.proofs.Tokens.{between_le, tokens-step, tokens-end}
use Rattle.stepper.specs.declared.Tokenizer.{Tokenizer}
use Rattle.stepper.specs.Step.{StepAnswer, end, token_answer, waiting, state, inside, step_refusal, stepped, answers, after, then_end}
use Rattle.stepper.proofs.Queues.{few}
use Rattle.stepper.proofs.Answers.{passed, step-waiting, step-read, step_end}

-- tokens put into a queue wait in it
pub waits : (ts : List Lexeme) → length ts ≤ 3 → waiting (queue_of ts) ≡ ts
unfolding waiting
waits [] h = refl
waits (a ∷ []) h = refl
waits (a ∷ b ∷ []) h = refl
waits (a ∷ b ∷ c ∷ []) h = refl
waits (a ∷ b ∷ c ∷ d ∷ ts) h = absurd (omega arith)

between-inside : (size from to : ℕ) (ts : List Lexeme) → to ≤ size → Between from to ts → inside size ts ≡ true
unfolding inside
between-inside size from to [] h b = refl
between-inside size from to (t ∷ ts) h b =
    rw (le-leb (t.span.start + t.span.len) size (omega (arith, between_le _ to ts b.1)), inside)
    (between-inside size (t.span.start + t.span.len) to ts h b.1)

tail-inside : (size : ℕ) (t : Lexeme) (ts : List Lexeme) → inside size (t ∷ ts) ≡ true → inside size ts ≡ true
unfolding inside
tail-inside size t ts e =
    by_test (leb (t.span.start + t.span.len) size) (λ p. rw (p, inside) at e)
    (λ p. clash false (rw (p, inside) at e) refl)

-- a place in the text, and at most three tokens in the text that wait
pub record Stands (text : List ℕ) (at : ℕ) (ts : List Lexeme) : Type 0 where
  pub place_in : at ≤ length text
  pub few : length ts ≤ 3
  pub spans-in : inside (length text) ts ≡ true

module _ (text : List ℕ) where
  -- the tokens that are left
  abbrev pub left : ℕ → List Lexeme → List Lexeme
  left at ts = ts ++ tokens_from byte_at (length text) text at

  -- one step: the first token that is left, or End
  pub record Goes (at : ℕ) (ts : List Lexeme) : Type 0 where
    pub answer : StepAnswer
    pub next : ℕ
    pub behind : List Lexeme
    pub steps : ◌≡◌ {A = StepAnswer × Tokenizer} (answer, state next behind) (stepped text (state at ts))
    pub stands : Stands text next behind
    pub answers : (k : ℕ) → then_end (suc k) (left at ts) ≡ answer ∷ then_end k (left next behind)

  pub stands-fresh : Stands text 0 []
  unfolding inside
  stands-fresh = record { place_in = omega arith; few = omega arith; spans-in = refl }

  module _ (a : text_refusal text ≡ none) where
    pub not_refused : (at : ℕ) (ts : List Lexeme) → Stands text at ts → step_refusal text (state at ts) ≡ none
    not_refused at ts s =
        passed text (state at ts) a
        (few (length text) (state at ts) s.place_in s.few ∙ rw (waits ts s.few) s.spans-in)

    pub goes : (at : ℕ) (ts : List Lexeme) → Stands text at ts → Goes at ts
    unfolding then_end
    goes at (t ∷ ts) s = record {
      answer = token_answer t;
      next = at;
      behind = ts;
      steps = step-waiting text (state at (t ∷ ts)) (not_refused at (t ∷ ts) s) t ts (waits (t ∷ ts) s.few);
      stands = record { place_in = s.place_in; few = omega arith; spans-in = tail-inside (length text) t ts s.spans-in };
      answers = λ k. refl;
    }
    goes at [] s =
        by_lt at (length text)
        (λ l.
        let r = read_at byte_at text at in
        let m = read-moves byte_at_sound text at l in
        record {
          answer = token_answer r.first;
          next = r.next;
          behind = r.waiting;
          steps = step-read text (state at []) (not_refused at [] s) (waits [] s.few) l;
          stands = record { place_in = m.inside; few = m.three; spans-in = between-inside (length text) _ r.next r.waiting m.inside m.ordered.1 };
          answers = λ k. ap (then_end (suc k)) (tokens-step byte_at_sound text (length text) at (omega arith) l);
        })
        (λ l. record {
          answer = end;
          next = at;
          behind = [];
          steps = step_end text (state at []) (not_refused at [] s) (waits [] s.few) l;
          stands = s;
          answers = λ k. ap (then_end (suc k)) (tokens-end byte_at text (length text) at l)
              ∙ ap (λ (ts : List Lexeme). end ∷ then_end k ts) (sym (tokens-end byte_at text (length text) at l));
        })

    pub answers-from : (k at : ℕ) (ts : List Lexeme) → Stands text at ts → answers k text (state at ts) ≡ then_end k (left at ts)
    unfolding answers then_end
    answers-from zero at ts s = refl
    answers-from (suc k) at ts s =
        let g = goes at ts s in
        rw (sym g.steps, g.answers k)
        (ap (λ (l : List StepAnswer). g.answer ∷ l) (answers-from k g.next g.behind g.stands))

    pub accepted-from : (k at : ℕ) (ts : List Lexeme) → Stands text at ts → step_refusal text (after k text (state at ts)) ≡ none
    unfolding after
    accepted-from zero at ts s = not_refused at ts s
    accepted-from (suc k) at ts s =
        let g = goes at ts s in
        rw (sym g.steps) (accepted-from k g.next g.behind g.stands)
