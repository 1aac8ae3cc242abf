-- What an accepted call has found has room in the buffers.
use Prim.Native.Nat.{ℕ, ◌*◌, ◌≤◌}
use mathlib.Core.Path.{◌≡◌, refl, sym, ap, ◌∙◌}
use mathlib.Core.Bool.{true, false}
use mathlib.Core.List.{List, [], ◌∷◌}
use mathlib.Core.Option.{Option, none, some}
use native.Mathlib.Omega.{arith}
use lib.Dec.{ltb}
use lib.ListN.{length}
use borrow.Author.Tests.{lt-ltb, le-ltb}
use Rattle.tokens.specs.Lexeme.{Lexeme}
use Rattle.tokens.specs.Table.{count_others}
use Rattle.tokens.specs.Refusals.{Answer, accepted, refused, text_refusal}
use Rattle.tokens.proofs.Cases.{by_lt, by_option, apart}
use Rattle.closers.specs.declared.PairedText.{PairedText}
use Rattle.std.specs.Prelude.{Result, Ok}
use Rattle.refusals.specs.declared.refusal.Refusal.{Refusal}
use Rattle.closers.specs.Call.{text_answer_of, out_refusal, text_refusal_of, closed_text}
use Rattle.closers.specs.Answers.{Answered}
use Rattle.closers.proofs.Calls.{text-turned}
use Rattle.closers.proofs.Theorems.{text-answered}

-- `text_refusal_of` of a text with this refusal and these tokens
abbrev refusal_of : Option ℕ → List Lexeme → ℕ → ℕ → Option ℕ
refusal_of o ts table out =
    elim o [ some k ↦ some k | none ↦ elim (ltb table (3 * length ts)) [ true ↦ some 7 | false ↦ out_refusal (count_others ts) out ] ]

not_some : {A : Type 0} {o : Option ℕ} {k : ℕ} → o ≡ none → o ≡ some k → A
not_some p q = apart cc

room : (o : Option ℕ) (ts : List Lexeme) (table out : ℕ) → refusal_of o ts table out ≡ none → (3 * length ts ≤ table) × (count_others ts ≤ out)
unfolding out_refusal
room (some k) ts table out e = not_some {k = k} e refl
room none ts table out e =
    by_lt table (3 * length ts)
    (λ h. not_some {k = 7} e (rw (refusal_of, lt-ltb table (3 * length ts) h)))
    (λ h.
    by_lt out (count_others ts)
    (λ l. not_some {k = 8} e (rw (refusal_of, le-ltb table (3 * length ts) h, out_refusal, lt-ltb out (count_others ts) l)))
    (λ l. (h, l)))

-- the call's answer: m tokens, and n other than Space
module _ (text table out : List ℕ) (r : Result PairedText Refusal) (t y : List ℕ) (c : (text_answer_of r, t, y) ≡ closed_text text table out)
    (p : PairedText) (q : r ≡ Ok p) where
  abbrev m : ℕ
  m = p.tokens

  abbrev n : ℕ
  n = p.others

  answer : ◌≡◌ {A = Answer × List ℕ × List ℕ} (accepted (m ∷ n ∷ []), t, y) (closed_text text table out)
  answer = rw q at c

  within : {ts : List Lexeme} → (m ∷ n ∷ [] ≡ length ts ∷ count_others ts ∷ []) × Answered text ts y
      → refusal_of (text_refusal text) ts (length table) (length out) ≡ none → (3 * m ≤ length table) × (n ≤ length out)
  within {ts} w e =
      let z = w.0 in
      let a : m ≡ length ts = cc in
      let b : n ≡ count_others ts = cc in
      let h = room (text_refusal text) ts (length table) (length out) e in
      (omega arith, omega arith)

  pub found-fits : (3 * m ≤ length table) × (n ≤ length out)
  unfolding text_refusal_of
  found-fits =
      by_option (text_refusal_of text (length table) (length out))
      (λ e. within (text-answered text table out (m ∷ n ∷ []) t y (sym answer)) e)
      (λ k e.
      let z : accepted (m ∷ n ∷ []) ≡ refused k = ap (λ (x : Answer × List ℕ × List ℕ). x.0) (answer ∙ sym (text-turned text table out k e)) in
      apart cc)
