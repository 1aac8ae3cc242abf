-- The theorems about the answer of `get_longest_prefix`.
use mathlib.Core.Path.{◌≡◌, sym, ap, ◌∙◌}
use mathlib.Core.Bool.{false}
use mathlib.Core.List.{List}
use Prim.Native.Nat.{ℕ, ◌<◌}
use lib.ListN.{length, get_or, drop}
use Rattle.tokens.specs.declared.token.Token.{Token}
use Rattle.tokens.proofs.Cases.{by_option, apart, clash}
use Rattle.lexing.specs.Spellings.{Row, rows}
use Rattle.lexing.specs.Longest.{begins, longest_at, IsRow}
use Rattle.lexing.proofs.Theorems.{none-begins, longest-begins, own_row, found-is_row}
use Rattle.std.specs.Prelude.{Some, None}
use Rattle.lexer.specs.declared.prefix_map.Longest.{Longest}
use Rattle.lexer.specs.Lookup.{longest, longest_answer}

module _ (text : List ℕ) (at : ℕ) where
  -- The answered row's spelling is the matched text, and its token the answered one.
  pub answered-row : (len : ℕ) (t : Token) (k : ℕ) → Some (longest len t k) ≡ longest_answer (longest_at text at) → IsRow text at len t k
  answered-row len t k e =
      by_option (longest_at text at) (λ o. let q = e ∙ ap longest_answer o in apart cc)
      (λ f o.
      let q = e ∙ ap longest_answer o in
      let i : longest len t k ≡ longest (length f.row.spelling) f.row.token f.number = cc in
      let n : f.number ≡ k = sym (ap (λ (g : Longest). g.row) i) in
      let u : f.row.token ≡ t = sym (ap (λ (g : Longest). g.token) i) in
      let l : length f.row.spelling ≡ len = sym (ap (λ (g : Longest). g.len) i) in
      rw (← n, ← u, ← l) (found-is_row text at f o))

  -- None is answered exactly where no row begins the text.
  pub answered-none : None ≡ longest_answer (longest_at text at) → (d : Row) (k : ℕ) → k < 429
      → begins (get_or rows k d).spelling (drop at text) ≡ false
  answered-none e d k h =
      by_option (longest_at text at) (λ o. none-begins text at o d k h) (λ f o. let q = e ∙ ap longest_answer o in apart cc)

  pub none-answered : (d : Row) → ((k : ℕ) → k < 429 → begins (get_or rows k d).spelling (drop at text) ≡ false)
      → None ≡ longest_answer (longest_at text at)
  none-answered d h =
      by_option (longest_at text at) (λ o. sym (ap longest_answer o))
      (λ f o.
      let b = longest-begins text at f o d in
      clash (begins (get_or rows f.number d).spelling (drop at text)) (rw b.1 b.2) (h f.number b.0))

-- Each of the 429 rows is answered for its own spelling, with its number.
pub own-row_answered : (d : Row) (k : ℕ) → k < 429
    → let s = (get_or rows k d).spelling in Some (longest (length s) (get_or rows k d).token k) ≡ longest_answer (longest_at s 0)
own-row_answered d k h = sym (ap longest_answer (own_row d k h))
