-- What closes an opening bracket is a CloseBracket, and what closes a bar is a bar.
use Prim.Native.Nat.{ℕ, zero, suc, ◌+◌}
use mathlib.Core.Path.{◌≡◌, refl, ◌∙◌, subst}
use mathlib.Core.Bool.{Bool, true, false, not, ◌&&◌}
use mathlib.Core.List.{List, [], ◌∷◌}
use mathlib.Core.Option.{Option, none, some}
use native.Mathlib.Omega.{arith}
use native.Mathlib.Nat.{zero-add}
use lib.Dec.{ltb}
use lib.ListN.{drop, get_elem?}
use borrow.Author.Tests.{eqb-true}
use Rattle.tokens.specs.declared.token.Token.TheVariants as token
use Rattle.tokens.proofs.Cases.{by_test, by_option, clash, apart, Given}
use Rattle.reading.specs.Entries.{Entry, is, close_after}
use Rattle.reading.specs.Reading.{Rows, is_byte, is_at, is_bar, close_of, closes, split_column_lines, makes_matrix}
use Rattle.mathml_rules.proofs.Lists.{both}

at_drop : (n : ℕ) (es : List Entry) (i : ℕ) → get_elem? (drop n es) i ≡ get_elem? es (n + i)
at_drop zero es i = rw zero-add
at_drop (suc n) [] i = refl
at_drop (suc n) (x ∷ es) i = let z : suc n + i ≡ suc (n + i) = omega arith in rw z (at_drop n es i)

-- the entry at n, if there is one, is a CloseBracket
abbrev Ends : List Entry → ℕ → Type 0
Ends es n = (e : Entry) → get_elem? es n ≡ some e → is token.CloseBracket e ≡ true

abbrev shifted : Option ℕ → Option ℕ
shifted o = elim o [ none ↦ none | some n ↦ some (suc n) ]

ends-behind : (x : Entry) (es : List Entry) (o : Option ℕ) → Given (Ends es) o → Given (Ends (x ∷ es)) (shifted o)
ends-behind x es none h = tt
ends-behind x es (some n) h = h

close-ends : (depth : ℕ) (es : List Entry) → Given (Ends es) (close_after depth es)
unfolding close_after
close-ends depth [] = tt
close-ends depth (x ∷ es) =
    by_test (is token.OpenBracket x)
    (λ o. rw (o, close_after) (ends-behind x es (close_after (suc depth) es) (close-ends (suc depth) es)))
    (λ o. by_test (is token.CloseBracket x) (λ c. rw (o, close_after) (rw c (go depth c (λ d. close-ends d es))))
    (λ c. rw (o, close_after) (rw c (ends-behind x es (close_after depth es) (close-ends depth es)))))
  where
    go : (d : ℕ) → is token.CloseBracket x ≡ true → ((d : ℕ) → Given (Ends es) (close_after d es)) →
        Given (Ends (x ∷ es)) (elim d [ zero ↦ some zero | suc k ↦ shifted (close_after k es) ])
    go zero c h = λ e q. let z : x ≡ e = cc in rw (← z) c
    go (suc k) c h = ends-behind x es (close_after k es) (h k)

module _ (text : List ℕ) (es : List Entry) where
  -- the entry at a place that passed a test
  passed-at : (ok : Entry → Bool) (p : ℕ) → is_at text es ok p ≡ true → (e : Entry) → get_elem? es p ≡ some e → ok e ≡ true
  unfolding is_at
  passed-at ok p h e q = rw (q, is_at) at h

  pub bar-at : (o : Entry) (p : ℕ) → is_at text es (is_bar text es o) p ≡ true → (e : Entry) → get_elem? es p ≡ some e →
      is token.OpenCloseBracket e ≡ true
  unfolding is_bar
  bar-at o p h e q = (both _ _ (passed-at (is_bar text es o) p h e q)).0

  closed_at : (i k : ℕ) → close_of text es i ≡ some k → (e : Entry) → get_elem? es k ≡ some e → is token.CloseBracket e ≡ true
  unfolding close_of
  closed_at i k h e q =
      by_option (close_after zero (drop (suc i) es)) (λ z. apart (let y = rw (z, close_of) at h in cc))
      (λ n z.
      let y = rw (z, close_of) at h in
      let k_is : suc (i + n) ≡ k = cc in
      let l : suc i + n ≡ k = omega arith in
      let ends = subst (Given (Ends (drop (suc i) es))) z (close-ends zero (drop (suc i) es)) in
      ends e (at_drop (suc i) es n ∙ rw l q))

  -- the token behind the rows of a matrix is the closer of its bracket
  pub closer-at : {P : Type 0} (o : Entry) (i : ℕ) (r : Rows) (p : ℕ) → makes_matrix text es o i r p ≡ true → (e : Entry) →
      get_elem? es p ≡ some e → (is token.CloseBracket e ≡ true → P) → (is token.OpenCloseBracket e ≡ true → P) → P
  unfolding makes_matrix closes
  closer-at o i r p h e q f g =
      let some-cells = ltb 1 (split_column_lines text es r).1 in
      let no-set = is_at text es (λ e. not (is_byte text es 40 r.head.left.span && is_byte text es 125 e.span)) p in
      let c = (both some-cells (closes text es o i p) (both no-set (some-cells && closes text es o i p) h).1).1 in
      by_test (is token.OpenBracket o)
      (λ t. let d = rw (t, closes) at c in
      by_option (close_of text es i) (λ z. clash false (rw z at d) refl)
      (λ k z. f (closed_at i k z e (rw (eqb-true k p (rw z at d)) q))))
      (λ t. g (bar-at o p (rw (t, closes) at c) e q))
