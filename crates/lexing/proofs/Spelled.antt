-- The row by which the first token at a place is read: it is the lookup's there, and the token is the row's.
use mathlib.Core.Path.{◌≡◌, refl, sym, ap, ◌∙◌}
use mathlib.Core.Bool.{false}
use mathlib.Core.List.{List}
use mathlib.Core.Option.{none, some}
use Prim.Native.Nat.{ℕ, ◌+◌}
use native.Mathlib.Omega.{arith}
use lib.ListN.{length, get_or, drop}
use lib.Seq.{get_or-drop}
use borrow.Author.Tests.{lt-ltb, le-ltb, eq-eqb, ne_eqb}
use Rattle.tokens.specs.declared.token.Token.{Token}
use Rattle.tokens.specs.Lexeme.{lexeme}
use Rattle.lexing.specs.Spellings.{Row, rows}
use Rattle.lexing.specs.Longest.{Numbered, longest_at, number_in, IsRow}
use Rattle.lexing.specs.Rules.{Read, run_end, blank, other, blanks_at, closer, literal_at, command_at, is_text_command, spelling_at, read_at, token_row_at}
use Rattle.tokens.proofs.Cases.{by_test, by_lt, by_eq, by_option, apart}
use Rattle.lexing.proofs.Begins.{begins-at, begins-take}
use Rattle.lexing.proofs.Rows.{rows-length, FoundAt, found_at}
use Rattle.lexing.proofs.Runs.{run-stop, run_past}

module _ (text : List ℕ) (at : ℕ) where
  no_run : blank (get_or text at 0) ≡ false → run_end blank text at ≡ at
  no_run b = by_lt at (length text) (λ l. run-stop blank text at l b) (λ l. run_past blank text at l)

  pub no_blanks : blank (get_or text at 0) ≡ false → blanks_at text at ≡ none
  unfolding blanks_at
  no_blanks b = rw (le-ltb at (run_end blank text at) (omega (arith, no_run b)), blanks_at)

  module _ (f : Numbered) (e : longest_at text at ≡ some f) where
    found : FoundAt text at f
    found = rw e at (found_at text at)

    -- no spelling begins with a blank, so the first rule applies to none
    no_blank : blank (get_or text at 0) ≡ false
    no_blank =
        let w = found in
        ap blank (sym (get_or-drop at text 0 0 ∙ ap (λ (i : ℕ). get_or text i 0) (omega arith)) ∙ sym (begins-at f.row.spelling (drop at text) 0 w.found.fits w.row.filled))
        ∙ w.row.no_blank

    pub is_row : IsRow text at (length f.row.spelling) f.row.token f.number
    is_row =
        let a = found.found in
        let n : f.number ≡ a.place = omega (arith, a.number_is) in
        let r : (d : Row) → f.row ≡ get_or rows f.number d = λ d. sym (a.row_is d) ∙ ap (λ (i : ℕ). get_or rows i d) (sym n) in
        record {
          below = omega (arith, a.inside, rows-length);
          matched = λ d. begins-take f.row.spelling (drop at text) a.fits ∙ ap (λ (q : Row). q.spelling) (r d);
          len_is = λ d. ap (λ (q : Row). length q.spelling) (r d);
          token-is = λ d. ap (λ (q : Row). q.token) (r d);
        }

    command-first : (n : ℕ) (t : Token) → (command_at text at n t).first ≡ lexeme at n t
    unfolding command_at literal_at
    command-first n t =
        let b = run_end blank text (at + n) in
        by_eq (closer (get_or text b 0)) 0 (λ z. rw (eq-eqb _ _ z, command_at))
        (λ z. rw (ne_eqb _ _ z, command_at)
        (by_lt (run_end (other (closer (get_or text b 0))) text (b + 1)) (length text) (λ l. rw (lt-ltb _ _ l, literal_at)) (λ l. rw (le-ltb _ _ l, literal_at))))

    -- the first token of the read, whatever the fifth rule is
    pub read_first : (rule5 : List ℕ → ℕ → Read) → (read_at rule5 text at).first ≡ lexeme at (length f.row.spelling) f.row.token
    unfolding read_at spelling_at
    read_first rule5 =
        by_test (is_text_command f.row.spelling)
        (λ t. rw (no_blanks no_blank, read_at) (rw (e, spelling_at) (rw t (command-first (length f.row.spelling) f.row.token))))
        (λ t. rw (no_blanks no_blank, read_at) (rw (e, spelling_at) (rw t)))

  pub row-looked_up : token_row_at text at ≡ number_in (longest_at text at)
  unfolding token_row_at
  row-looked_up =
      by_option (longest_at text at) (λ o. by_option (blanks_at text at) (λ b. rw (b, token_row_at)) (λ r b. rw (b, token_row_at) (rw o)))
      (λ f o. rw (no_blanks (no_blank f o), token_row_at))

  module _ (k : ℕ) (e : token_row_at text at ≡ some k) where
    pub looked-up : number_in (longest_at text at) ≡ some k
    looked-up = sym row-looked_up ∙ e

    pub read-is_row : (rule5 : List ℕ → ℕ → Read)
        → let t = (read_at rule5 text at).first in (t.span.start ≡ at) × IsRow text at t.span.len t.token k
    read-is_row rule5 =
        by_option (longest_at text at) (λ o. let q = looked-up in apart cc)
        (λ f o.
        let q = looked-up in
        let n : f.number ≡ k = cc in
        rw (read_first f o rule5, ← n) (refl, is_row f o))
