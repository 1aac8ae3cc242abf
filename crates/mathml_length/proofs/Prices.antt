-- What a token pays: enough for its node, and for a Missing in place of each argument that it asks for. The tokens of a text
-- pay at most 48 for each of its bytes.
use Prim.Native.Nat.{ℕ, zero, suc, ◌+◌, ◌*◌, ◌≤◌}
use mathlib.Core.Path.{◌≡◌, refl, sym, ap, ◌∙◌, subst}
use mathlib.Core.Bool.{Bool, true, false}
use mathlib.Core.List.{List, [], ◌∷◌, ◌++◌}
use mathlib.Core.Option.{some}
use native.Mathlib.Omega.{arith}
use lib.Dec.{eqb, leb}
use lib.ListN.{length, get_or, drop, get_elem?}
use borrow.Author.Tests.{lt-ltb, le-ltb, eq-eqb, ne_eqb, eqb-true, leb-true}
use Rattle.tokens.specs.declared.token.Token.{Token}
use Rattle.tokens.specs.declared.token.Token.TheVariants as token
use Rattle.tokens.specs.Bytes.{same}
use Rattle.tokens.specs.Kinds.{number_of, token_of}
use Rattle.tokens.specs.Lexeme.{Span, Lexeme}
use Rattle.tokens.proofs.Cases.{by_test, by_lt, by_eq, apart, Given}
use Rattle.tokens.proofs.Numbers.{token-of_number}
use Rattle.lexing.specs.Spellings.{Row, rows}
use Rattle.lexing.specs.Longest.{Numbered}
use Rattle.lexing.specs.Rules.{Read, run_end, blank, letter, other, blanks_at, closer, literal_at, command_at, is_text_command, spelling_at, number_end, past_point, number_at, quotation_at, byte_at, read_at, tokens_from, tokens_by, tokens}
use Rattle.lexing.proofs.Begins.{begins-take}
use Rattle.lexing.proofs.Rows.{FoundAt, every, every-at}
use Rattle.lexing.proofs.Runs.{run-from}
use Rattle.lexing.proofs.Moves.{by_rules, by_spelling, past-on, read-moves, byte_at_sound}
use Rattle.lexing.proofs.Tokens.{read-on, tokens-end}
use Rattle.tree.specs.Tree.{nowhere}
use Rattle.reading.specs.Entries.{Entry, is, entries}
use Rattle.mathml_rules.specs.Utf8.{encoded, utf8}
use Rattle.mathml_rules.specs.Elements.{elements, element_of}
use Rattle.mathml_rules.specs.Pieces.{escapes, escaped_by, esc, bytes_of, written, within}
use Rattle.mathml_rules.specs.Commands.{unaries, mark, unary_by, unary}
use Rattle.mathml_rules.specs.Mathml.{own, A}
use Rattle.mathml_length.proofs.Widths.{width, around, named}

-- two kinds with one number
same_kind : (s t : Token) → eqb (number_of s) (number_of t) ≡ true → s ≡ t
same_kind s t e = sym (token-of_number s) ∙ ap token_of (eqb-true (number_of s) (number_of t) e) ∙ token-of_number t

-- By its kind, its length and its own bytes. A sign: its mrow and mo, and a Missing (13). A function: its mrow and its name, and a
-- Missing. A unary: its tags and marks, and a Missing. A binary: at most 17 for its tags, and two Missing. All others have 14 for
-- each byte, for a bracket's mark, and 34: for a symbol at most 31, for a matrix 30 (mrow and mtable), for a fraction 28 (with a
-- Missing), behind a cell 28 (its mtd, an mtr and six bytes of columnlines).
abbrev price : Token → ℕ → List ℕ → ℕ
price token.Text n s = 15 + 5 * n
price token.Sign n s = 35 + 5 * n
price token.Function n s = 26 + named s
price token.Unary n s = 13 + around s
price token.Binary n s = 43
price token.Space n s = 32 * n
price token.Frac n s = 34 + 14 * n
price token.Super n s = 34 + 14 * n
price token.Sub n s = 34 + 14 * n
price token.Sep n s = 34 + 14 * n
price token.Number n s = 34 + 14 * n
price token.Ident n s = 34 + 14 * n
price token.Operator n s = 34 + 14 * n
price (token.Symbol c) n s = 34 + 14 * n
price token.OpenBracket n s = 34 + 14 * n
price token.CloseBracket n s = 34 + 14 * n
price token.OpenCloseBracket n s = 34 + 14 * n

-- The rows of the table, by one computed test; `text` and `mbox` have 15 to spare, for an empty Text.
abbrev extra : List ℕ → ℕ
extra s = elim (is_text_command s) [ true ↦ 15 | false ↦ 0 ]

row_pays : Row → Bool
row_pays r =
    leb (extra r.spelling + price r.token (length r.spelling) r.spelling) (48 * length r.spelling)

rows-pay : every row_pays rows ≡ true
unfolding row_pays rows is_text_command same around named width written bytes_of within element_of elements esc escaped_by escapes A unary unary_by unaries mark utf8 encoded
rows-pay = refl

row-pays : (text : List ℕ) (at : ℕ) (f : Numbered) → FoundAt text at f →
    let s = f.row.spelling in extra s + price f.row.token (length s) s ≤ 48 * length s
unfolding row_pays
row-pays text at f a =
    leb-true _ _
    (subst (λ (r : Row). row_pays r ≡ true) (a.found.row_is f.row)
    (every-at row_pays rows rows-pay f.row a.found.place a.found.inside))

module _ (text : List ℕ) where
  -- over the text
  abbrev pub price_of : Token → Span → ℕ
  price_of t sp = price t sp.len (own text sp)

  unfoldable prices : List Lexeme → ℕ
  prices [] = 0
  prices (t ∷ ts) = price_of t.token t.span + prices ts

  prices-append : (ts us : List Lexeme) → prices (ts ++ us) ≡ prices ts + prices us
  unfolding prices
  prices-append [] us = omega arith
  prices-append (t ∷ ts) us = omega (arith, prices-append ts us)

  -- One read pays at most 48 for each byte that it moves over.
  module _ (at : ℕ) where
    abbrev Covered : Read → Type 0
    Covered r = 48 * at + prices (r.first ∷ r.waiting) ≤ 48 * r.next

    blanks-covered : Given Covered (blanks_at text at)
    unfolding blanks_at prices
    blanks-covered =
        let e = run_end blank text at in
        by_lt at e (λ l. rw (lt-ltb _ _ l, blanks_at) (omega arith)) (λ l. rw (le-ltb _ _ l, blanks_at) tt)

    number-covered : Given Covered (number_at text at)
    unfolding number_at prices
    number-covered =
        by_lt (past_point text at) (number_end text at) (λ l. rw (lt-ltb _ _ l, number_at) (omega (arith, past-on text at)))
        (λ l. rw (le-ltb _ _ l, number_at) tt)

    quotation_covered : Given Covered (quotation_at text at)
    unfolding quotation_at prices
    quotation_covered =
        let e = run_end (other 34) text (at + 1) in
        let f = run-from (other 34) text (at + 1) in
        by_eq (get_or text at 0) 34
        (λ q. by_lt e (length text)
        (λ l. rw (eq-eqb _ _ q, quotation_at) (rw (lt-ltb _ _ l) (omega arith)))
        (λ l. rw (eq-eqb _ _ q, quotation_at) (rw (le-ltb _ _ l) tt)))
        (λ q. rw (ne_eqb _ _ q, quotation_at) tt)

    byte-covered : Covered (byte_at text at)
    unfolding byte_at prices
    byte-covered =
        by_test (letter (get_or text at 0)) (λ e. rw (e, byte_at) (omega arith)) (λ e. rw (e, byte_at) (omega arith))

    module _ (n : ℕ) (t : Token) (spare : 15 + price_of t (record { start = at; len = n }) ≤ 48 * n) where
      literal_covered : (b c : ℕ) → at + n ≤ b → Covered (literal_at text at n t b c)
      unfolding literal_at prices
      literal_covered b c f =
          let e = run_end (other c) text (b + 1) in
          let g = run-from (other c) text (b + 1) in
          by_lt e (length text) (λ q. rw (lt-ltb _ _ q, literal_at) (omega arith))
          (λ q. rw (le-ltb _ _ q, literal_at) (omega arith))

      command-covered : Covered (command_at text at n t)
      unfolding command_at prices
      command-covered =
          let b = run_end blank text (at + n) in
          by_eq (closer (get_or text b 0)) 0
          (λ e. rw (eq-eqb _ _ e, command_at) (omega arith))
          (λ e. rw (ne_eqb _ _ e, command_at) (literal_covered b _ (run-from blank text (at + n))))

    spelling-covered : Given Covered (spelling_at text at)
    unfolding prices own
    spelling-covered =
        by_spelling Covered text at
        (λ f a e.
        let s = begins-take f.row.spelling (drop at text) a.found.fits in
        command-covered (length f.row.spelling) f.row.token
        (rw s (omega (arith, rw (e, extra) at (row-pays text at f a)))))
        (λ f a.
        let s = begins-take f.row.spelling (drop at text) a.found.fits in
        rw s (omega (arith, row-pays text at f a)))

    read-covered : Covered (read_at byte_at text at)
    read-covered =
        by_rules Covered byte_at text at blanks-covered spelling-covered number-covered quotation_covered byte-covered

  prices-from : (f at : ℕ) → at ≤ length text → 48 * at + prices (tokens_from byte_at f text at) ≤ 48 * length text
  unfolding tokens_from prices
  prices-from zero at h = omega arith
  prices-from (suc f) at h =
      by_lt at (length text)
      (λ l.
      let r = read_at byte_at text at in
      let on = (read-moves byte_at_sound text at l).inside in
      rw (read-on byte_at text f at l)
      (omega (
        arith,
        read-covered at,
        prices-append (r.first ∷ r.waiting) (tokens_from byte_at f text r.next),
        prices-from f r.next on,
      )))
      (λ l. rw (tokens-end byte_at text (suc f) at l) (omega arith))

  -- An entry pays for the Space before it too.
  abbrev pub pays : Entry → ℕ
  pays e = price_of e.token e.span + 32 * e.space.len

  -- what the first i entries pay
  unfoldable pub paid : List Entry → ℕ → ℕ
  paid es zero = 0
  paid [] (suc i) = 0
  paid (e ∷ es) (suc i) = pays e + paid es i

  pub paid-next : (es : List Entry) (i : ℕ) (e : Entry) → get_elem? es i ≡ some e → paid es (suc i) ≡ paid es i + pays e
  unfolding paid
  paid-next [] i e h = apart cc
  paid-next (x ∷ es) zero e h = let q : x ≡ e = cc in rw q (omega arith)
  paid-next (x ∷ es) (suc i) e h = omega (arith, paid-next es i e h)

  paid-within : (sp : Span) (ts : List Lexeme) (i : ℕ) → paid (entries sp ts) i ≤ 32 * sp.len + prices ts
  unfolding entries paid prices
  paid-within sp [] zero = omega arith
  paid-within sp [] (suc i) = omega arith
  paid-within sp (t ∷ ts) i =
      by_test (eqb (number_of t.token) (number_of token.Space))
      (λ e. rw (e, entries) (rw (same_kind t.token token.Space e) (omega (arith, paid-within t.span ts i))))
      (λ e. rw (e, entries) (go i (paid-within nowhere ts)))
    where
      go : (i : ℕ) → ((j : ℕ) → paid (entries nowhere ts) j ≤ 32 * nowhere.len + prices ts) →
          paid (record { token = t.token; span = t.span; space = sp } ∷ entries nowhere ts) i
          ≤ 32 * sp.len + (price_of t.token t.span + prices ts)
      go zero h = omega arith
      go (suc j) h = omega (arith, h j)

  -- however many of a text's tokens are read
  pub text-pays : (i : ℕ) → paid (entries nowhere (tokens text)) i ≤ 48 * length text
  unfolding tokens_by
  text-pays i = omega (arith, paid-within nowhere (tokens text) i, prices-from (length text) 0 (omega arith))

  -- an entry of a known kind
  pub worth : (t : Token) (e : Entry) → is t e ≡ true → price_of t e.span ≡ price_of e.token e.span
  unfolding is
  worth t e h = rw (same_kind t e.token h)
