-- No Space directly follows a Space: blanks are read to their end, and no other rule gives a Space.
use mathlib.Core.Path.{◌≡◌, refl, subst}
use mathlib.Core.Bool.{Bool, true, false, ◌&&◌, and-false}
use mathlib.Core.List.{List, [], ◌∷◌, ◌++◌}
use mathlib.Core.Option.{none, some}
use Prim.Native.Nat.{ℕ, zero, suc, ◌+◌, ◌-◌, ◌≤◌, ◌<◌}
use native.Mathlib.Omega.{arith}
use lib.Dec.{eqb}
use lib.ListN.{length, get_or}
use borrow.Author.Tests.{lt-ltb, le-ltb, eq-eqb, ne_eqb}
use Rattle.tokens.specs.declared.token.Token.{Token}
use Rattle.tokens.specs.declared.token.Token.TheVariants.{Space}
use Rattle.tokens.specs.Kinds.{number_of}
use Rattle.tokens.specs.Lexeme.{Lexeme}
use Rattle.lexing.specs.Rules.{Read, alone, run_end, blank, other, blanks_at, closer, literal_at, command_at, spelling_at, number_end, past_point, number_at, quotation_at, read_at, tokens_from, tokens_by}
use Rattle.tokens.proofs.Cases.{by_test, by_lt, by_eq, clash, Given}
use Rattle.lexing.proofs.Runs.{run-twice}
use Rattle.lexing.proofs.Moves.{NoSpace, Sound, by_rules, by_spelling}
use Rattle.lexing.proofs.Tokens.{read-on, tokens-end}

abbrev pub is_space : Lexeme → Bool
is_space t = eqb (number_of t.token) 23

-- no Space directly follows a Space, where `after` says that the token before is one
abbrev pub Spaced : Bool → List Lexeme → Type 0
Spaced after [] = Unit {0}
Spaced after (t ∷ ts) = ((after && is_space t) ≡ false) × Spaced (is_space t) ts

-- from any token on
spaced-part : (after : Bool) (ts us : List Lexeme) → Spaced after (ts ++ us) → (b : Bool) × Spaced b us
spaced-part after [] us p = (after, p)
spaced-part after (t ∷ ts) us p = spaced-part (is_space t) ts us p.1

abbrev OfOthers : Read → Type 0
OfOthers r = NoSpace (r.first ∷ r.waiting)

module _ (text : List ℕ) (at : ℕ) where
  quotation_others : Given OfOthers (quotation_at text at)
  unfolding quotation_at
  quotation_others =
      by_eq (get_or text at 0) 34
      (λ q.
      by_lt (run_end (other 34) text (at + 1)) (length text)
      (λ l. rw (eq-eqb _ _ q, quotation_at) (rw (lt-ltb _ _ l) (refl, tt)))
      (λ l. rw (eq-eqb _ _ q, quotation_at) (rw (le-ltb _ _ l) tt)))
      (λ q. rw (ne_eqb _ _ q, quotation_at) tt)

  number-others : Given OfOthers (number_at text at)
  unfolding number_at
  number-others =
      by_lt (past_point text at) (number_end text at)
      (λ l. rw (lt-ltb _ _ l, number_at) (refl, tt)) (λ l. rw (le-ltb _ _ l, number_at) tt)

  module _ (n : ℕ) (t : Token) (o : eqb (number_of t) 23 ≡ false) where
    literal_others : (b c : ℕ) → OfOthers (literal_at text at n t b c)
    unfolding literal_at
    literal_others b c =
        by_lt (run_end (other c) text (b + 1)) (length text)
        (λ l. rw (lt-ltb _ _ l, literal_at) (o, (refl, (refl, (refl, tt)))))
        (λ l. rw (le-ltb _ _ l, literal_at) (o, (refl, (refl, tt))))

    command-others : OfOthers (command_at text at n t)
    unfolding command_at
    command-others =
        let b = run_end blank text (at + n) in
        by_eq (closer (get_or text b 0)) 0
        (λ e. rw (eq-eqb _ _ e, command_at) (o, tt)) (λ e. rw (ne_eqb _ _ e, command_at) (literal_others b _))

  spelling-others : Given OfOthers (spelling_at text at)
  spelling-others =
      by_spelling OfOthers text at
      (λ f a e. command-others (length f.row.spelling) f.row.token a.row.no_space)
      (λ f a. (a.row.no_space, tt))

  blanks : at < run_end blank text at → blanks_at text at ≡ some (alone at (run_end blank text at - at) Space)
  unfolding blanks_at
  blanks h = rw (lt-ltb _ _ h, blanks_at)

  no_blanks : run_end blank text at ≤ at → blanks_at text at ≡ none
  unfolding blanks_at
  no_blanks h = rw (le-ltb _ _ h, blanks_at)

  module _ (rule5 : List ℕ → ℕ → Read) where
    read-blanks : at < run_end blank text at → read_at rule5 text at ≡ alone at (run_end blank text at - at) Space
    unfolding read_at
    read-blanks h = rw (blanks h, read_at)

    read-others : Sound rule5 → at < length text → run_end blank text at ≤ at → OfOthers (read_at rule5 text at)
    read-others s l h =
        by_rules OfOthers rule5 text at (rw (no_blanks h) tt) spelling-others number-others quotation_others
        (s.no_space text at l)

    -- no Space waits
    pub waiting-others : Sound rule5 → at < length text → NoSpace (read_at rule5 text at).waiting
    waiting-others s l =
        by_lt at (run_end blank text at)
        (λ b. rw (read-blanks b) tt)
        (λ b. (read-others s l b).1)

spaced-append : (ts us : List Lexeme) → NoSpace ts → Spaced false us → Spaced false (ts ++ us)
spaced-append [] us n p = p
spaced-append (t ∷ ts) us n p = (refl, rw n.0 (spaced-append ts us n.1 p))

module _ {rule5 : List ℕ → ℕ → Read} (sound : Sound rule5) (text : List ℕ) where
  spaced-from : (f at : ℕ) (after : Bool) → (after ≡ true → run_end blank text at ≡ at)
      → Spaced after (tokens_from rule5 f text at)
  unfolding tokens_from
  spaced-from zero at after h = tt
  spaced-from (suc f) at after h =
      by_lt at (length text)
      (λ l.
      by_lt at (run_end blank text at)
      (λ b.
      let over : at + (run_end blank text at - at) ≡ run_end blank text at = omega arith in
      rw (read-on rule5 text f at l)
      (rw (read-blanks text at rule5 b) (
        by_test after (λ e. absurd (omega (arith, h e))) (λ e. rw e),
        spaced-from f _ true (λ e. rw over (run-twice blank text at)),
      )))
      (λ b.
      let o = read-others text at rule5 sound l b in
      rw (read-on rule5 text f at l)
      (rw o.0 (
        and-false after,
        spaced-append (read_at rule5 text at).waiting _ o.1 (spaced-from f _ false (λ e. clash false e refl)),
      ))))
      (λ l. rw (tokens-end rule5 text (suc f) at l) tt)

  pub spaced : Spaced false (tokens_by rule5 text)
  unfolding tokens_by
  spaced = spaced-from (length text) 0 false (λ e. clash false e refl)

  pub apart_by : (front back : List Lexeme) (s t : Lexeme) → tokens_by rule5 text ≡ front ++ (s ∷ t ∷ back)
      → s.token ≡ Space → t.token ≡ Space → ⊥
  apart_by front back s t e p q =
      let h = (spaced-part false front (s ∷ t ∷ back) (subst (Spaced false) e spaced)).1.1.0 in
      clash true refl (rw (p, q) at h)
