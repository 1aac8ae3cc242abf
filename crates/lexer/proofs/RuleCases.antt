-- The rules as the code takes them: one law for each case of each rule.
use mathlib.Core.Path.{◌≡◌, refl, sym, ap, ◌∙◌}
use mathlib.Core.Bool.{true, false}
use mathlib.Core.List.{List, [], ◌∷◌}
use mathlib.Core.Option.{none, some}
use Prim.Native.Nat.{ℕ, ◌+◌, ◌-◌, ◌≤◌, ◌<◌}
use native.Mathlib.Omega.{arith}
use lib.Dec.{eqb, leb}
use lib.ListN.{length, get_or, get_or-eq_default}
use borrow.Author.Tests.{lt-ltb, le-ltb, lt-leb, le-leb, eq-eqb, ne_eqb, leb-true}
use Rattle.tokens.specs.declared.token.Token.{Token}
use Rattle.tokens.specs.declared.token.Token.TheVariants.{Number, Text, Ident, Operator, Unary, OpenBracket, CloseBracket, Space}
use Rattle.tokens.specs.Bytes.{bytes, same}
use Rattle.tokens.specs.Lexeme.{lexeme}
use Rattle.lexing.specs.Spellings.{rows}
use Rattle.lexing.specs.Longest.{longest_at}
use Rattle.lexer.specs.Constants.{row_of, spelling_of}
use Rattle.lexing.specs.Rules.{Read, alone, run_end, blank, digit, letter, other, blanks_at, closer, literal_at, command_at, is_text_command, spelling_at, number_end, past_point, number_at, quotation_at, byte_at, read_at}
use Rattle.std.specs.Prelude.{Option, Some}
use Rattle.lexer.specs.Coded.{closing, from_quotation, from_number, from_row}
use Rattle.tokens.proofs.Cases.{by_test, by_lt, by_eq, clash, apart}
use Rattle.lexing.proofs.Runs.{run-from, run_more, run-stop}
use Rattle.lexing.proofs.Order.{before-strict}
use Rattle.lexing.proofs.Spelled.{no_blanks}
use Rattle.lexer.proofs.Sorted.{in_order}
use Rattle.lexing.proofs.Moves.{past-on, same-is, command-length}

-- one token, which starts at a place and ends before the next
abbrev pub one : ℕ → ℕ → Token → ℕ → Read
one start len t next = record { first = lexeme start len t; waiting = []; next = next }

letter-high : (c : ℕ) → letter c ≡ true → 65 ≤ c
unfolding letter
letter-high c e =
    by_test (leb 97 c) (λ h. omega (arith, leb-true 97 c h))
    (λ h.
    by_test (leb 65 c) (λ l. leb-true 65 c l) (λ l. clash false (rw l at (rw (h, letter) at e)) refl))

digit_low : (c : ℕ) → 65 ≤ c → digit c ≡ false
unfolding digit
digit_low c h = rw (le-leb 48 c (omega arith), digit) (lt-leb c 57 (omega arith))

digit-high : (c : ℕ) → digit c ≡ true → 48 ≤ c
unfolding digit
digit-high c e =
    by_test (leb 48 c) (λ h. leb-true 48 c h) (λ h. clash false (rw (h, digit) at e) refl)

module _ (text : List ℕ) (at : ℕ) where
  -- rule 5
  byte-letter : letter (get_or text at 0) ≡ true → alone at 1 Ident ≡ byte_at text at
  unfolding byte_at
  byte-letter e = sym (rw (e, byte_at))

  byte-other : letter (get_or text at 0) ≡ false → alone at 1 Operator ≡ byte_at text at
  unfolding byte_at
  byte-other e = sym (rw (e, byte_at))

  -- rule 4
  unquoted : quotation_at text at ≡ none → byte_at text at ≡ from_quotation text at
  unfolding from_quotation
  unquoted q = sym (rw (q, from_quotation))

  quoted : (r : Read) → quotation_at text at ≡ some r → r ≡ from_quotation text at
  unfolding from_quotation
  quoted r q = sym (rw (q, from_quotation))

  no_quote : (get_or text at 0 ≡ 34 → ⊥) → quotation_at text at ≡ none
  unfolding quotation_at
  no_quote h = rw (ne_eqb _ _ h, quotation_at)

  pub quote_none : letter (get_or text at 0) ≡ false → (get_or text at 0 ≡ 34 → ⊥) → alone at 1 Operator ≡ from_quotation text at
  quote_none o h = byte-other o ∙ unquoted (no_quote h)

  module _ (h : get_or text at 0 ≡ 34) (e : ℕ) (r : e ≡ run_end (other 34) text (at + 1)) where
    pub quote_open : letter (get_or text at 0) ≡ false → length text ≤ e → alone at 1 Operator ≡ from_quotation text at
    unfolding quotation_at
    quote_open o l = byte-other o ∙ unquoted (rw (eq-eqb _ _ h, quotation_at) (rw (le-ltb _ _ (rw r at l))))

    pub quote_closed : e < length text → one (at + 1) (e - (at + 1)) Text (e + 1) ≡ from_quotation text at
    unfolding quotation_at
    quote_closed l =
        let f = run_end (other 34) text (at + 1) in
        let q : quotation_at text at ≡ some (one (at + 1) (f - (at + 1)) Text (f + 1)) = rw (eq-eqb _ _ h, quotation_at) (rw (lt-ltb _ _ (rw r at l))) in
        rw r (quoted _ q)

  -- rule 3
  module _ (p : ℕ) (h : p ≡ run_end digit text at) where
    pub number-point : get_or text p 0 ≡ 46 → run_end digit text (p + 1) ≡ number_end text at
    unfolding number_end
    number-point e = rw h (sym (rw (eq-eqb _ _ (rw h at e), number_end)))

    pub number-plain : (get_or text p 0 ≡ 46 → ⊥) → p ≡ number_end text at
    unfolding number_end
    number-plain f = rw h (sym (rw (ne_eqb _ _ (λ e. f (rw h e)), number_end)))

    pub number_past : length text ≤ p → p ≡ number_end text at
    number_past l = number-plain (λ e. omega (arith, get_or-eq_default text 0 {n = p} l))

  pub point_past : get_or text at 0 ≡ 46 → at + 1 ≡ past_point text at
  unfolding past_point
  point_past e = sym (rw (eq-eqb _ _ e, past_point))

  pub point_none : (get_or text at 0 ≡ 46 → ⊥) → at ≡ past_point text at
  unfolding past_point
  point_none f = sym (rw (ne_eqb _ _ f, past_point))

  counted : (r : Read) → number_at text at ≡ some r → r ≡ from_number text at
  unfolding from_number
  counted r q = sym (rw (q, from_number))

  uncounted : number_at text at ≡ none → from_quotation text at ≡ from_number text at
  unfolding from_number
  uncounted q = sym (rw (q, from_number))

  pub number_is : (e : ℕ) → e ≡ number_end text at → past_point text at < e → one at (e - at) Number e ≡ from_number text at
  unfolding number_at
  number_is e h l =
      let n : e ≡ at + (e - at) = omega (arith, past-on text at) in
      let q : number_at text at ≡ some (alone at (number_end text at - at) Number) = rw (lt-ltb _ _ (rw h at l), number_at) in
      ap (one at (e - at) Number) n ∙ rw h (counted _ q)

  pub number-not : number_end text at ≤ past_point text at → from_quotation text at ≡ from_number text at
  unfolding number_at
  number-not l = uncounted (rw (le-ltb _ _ l, number_at))

  pub number-from : at ≤ number_end text at
  unfolding number_end
  number-from =
      let p = run_end digit text at in
      by_eq (get_or text p 0) 46
      (λ e. rw (eq-eqb _ _ e, number_end) (omega (arith, run-from digit text at, run-from digit text (p + 1))))
      (λ e. rw (ne_eqb _ _ e, number_end) (run-from digit text at))

  -- a letter begins no number and no quotation
  pub letter-alone : at < length text → letter (get_or text at 0) ≡ true → alone at 1 Ident ≡ from_number text at
  letter-alone h e =
      let c = letter-high (get_or text at 0) e in
      let end : at ≡ number_end text at = number-plain at (sym (run-stop digit text at h (digit_low (get_or text at 0) c))) (λ q. omega arith) in
      let past : at ≡ past_point text at = point_none (λ q. omega arith) in
      byte-letter e ∙ unquoted (no_quote (λ q. omega arith)) ∙ number-not (omega arith)

-- a digit begins a number, whose end it does not change
module _ (text : List ℕ) (at : ℕ) (h : at < length text) (d : digit (get_or text at 0) ≡ true) where
  digit-end : number_end text (at + 1) ≡ number_end text at
  unfolding number_end
  digit-end =
      ap (λ (p : ℕ). elim (eqb (get_or text p 0) 46) [ true ↦ run_end digit text (p + 1) | false ↦ p ])
      (sym (run_more digit text at h d))

  pub digit-number : (e : ℕ) → e ≡ number_end text (at + 1) → one at (e - at) Number e ≡ from_number text at
  digit-number e q =
      let c = digit-high (get_or text at 0) d in
      let p : at ≡ past_point text at = point_none text at (λ z. omega arith) in
      number_is text at e (q ∙ digit-end) (omega (arith, number-from text (at + 1)))

-- rule 2: the closer of a bracket, if it is one
pub closing-none : (c : ℕ) (r : Option ℕ) → r ≡ closing c → ((k : ℕ) → r ≡ Some k → ⊥) → closer c ≡ 0
unfolding closing
closing-none c r e f = by_eq (closer c) 0 (λ z. z) (λ z. absurd (f (closer c) (rw (ne_eqb (closer c) 0 z, closing) at e)))

pub closing-some : (c k : ℕ) → Some k ≡ closing c → (k ≡ closer c) × (k ≡ 0 → ⊥)
unfolding closing
closing-some c k e =
    by_eq (closer c) 0 (λ z. let q = rw (eq-eqb (closer c) 0 z, closing) at e in apart cc)
    (λ z. let q = rw (ne_eqb (closer c) 0 z, closing) at e in let n : k ≡ closer c = cc in (n, λ y. z (sym n ∙ y)))

-- rule 2: a text command
module _ (text : List ℕ) (at b : ℕ) (h : b ≡ run_end blank text (at + 4)) where
  module _ (c : ℕ) (e : c ≡ closer (get_or text b 0)) where
    pub command-none : c ≡ 0 → alone at 4 Unary ≡ command_at text at 4 Unary
    unfolding command_at
    command-none z = sym (rw (eq-eqb (closer (get_or text (run_end blank text (at + 4)) 0)) 0 (rw h at (sym e ∙ z)), command_at))

    module _ (f : c ≡ 0 → ⊥) where
      command-some : literal_at text at 4 Unary b c ≡ command_at text at 4 Unary
      unfolding command_at
      command-some = rw e (rw h (sym (rw (ne_eqb (closer (get_or text (run_end blank text (at + 4)) 0)) 0 (λ z. f (e ∙ rw h z)), command_at))))

      module _ (end : ℕ) (q : end ≡ run_end (other c) text (b + 1)) where
        pub command-closed : end < length text
            → ◌≡◌ {A = Read}
            (record { first = lexeme at 4 Unary; waiting = lexeme b 1 OpenBracket ∷ lexeme (b + 1) (end - (b + 1)) Text ∷ lexeme end 1 CloseBracket ∷ []; next = end + 1 })
            (command_at text at 4 Unary)
        unfolding literal_at
        command-closed l = rw q (sym (rw (lt-ltb _ _ (rw q at l), literal_at))) ∙ command-some

        pub command-open : length text ≤ end
            → ◌≡◌ {A = Read}
            (record { first = lexeme at 4 Unary; waiting = lexeme b 1 OpenBracket ∷ lexeme (b + 1) (end - (b + 1)) Text ∷ []; next = end })
            (command_at text at 4 Unary)
        unfolding literal_at
        command-open l = rw q (sym (rw (le-ltb _ _ (rw q at l), literal_at))) ∙ command-some

  pub command-past : length text ≤ b → alone at 4 Unary ≡ command_at text at 4 Unary
  unfolding closer
  command-past l = command-none 0 (sym (ap closer (get_or-eq_default text 0 {n = b} l))) refl

-- rule 2: the rows of the text commands
one-row : (i j : ℕ) → i < 429 → j < 429 → spelling_of i ≡ spelling_of j → i ≡ j
one-row i j h l e =
    by_lt i j (λ m. absurd (before-strict (spelling_of j) (rw e at (in_order i j m l))))
    (λ m. by_lt j i (λ n. absurd (before-strict (spelling_of j) (rw e at (in_order j i n h)))) (λ n. omega arith))

text-row : (spelling_of 373 ≡ bytes "text") × ((row_of 373).token ≡ Unary)
unfolding spelling_of row_of rows
text-row = (refl, refl)

mbox_row : (spelling_of 272 ≡ bytes "mbox") × ((row_of 272).token ≡ Unary)
unfolding spelling_of row_of rows
mbox_row = (refl, refl)

module _ (k : ℕ) where
  pub command-text : k ≡ 373 → is_text_command (spelling_of k) ≡ true
  unfolding is_text_command same
  command-text e = rw (e, text-row.0)

  pub command-mbox : k ≡ 272 → is_text_command (spelling_of k) ≡ true
  unfolding is_text_command same
  command-mbox e = rw (e, mbox_row.0)

  module _ (l : k < 429) where
    not_same : (j : ℕ) (b : List ℕ) → j < 429 → spelling_of j ≡ b → (k ≡ j → ⊥) → same (spelling_of k) b ≡ false
    not_same j b h q f =
        by_test (same (spelling_of k) b) (λ e. absurd (f (one-row k j l h (same-is _ _ e ∙ sym q)))) (λ e. e)

    pub command-other : (k ≡ 373 → ⊥) → (k ≡ 272 → ⊥) → is_text_command (spelling_of k) ≡ false
    unfolding is_text_command
    command-other f g =
        rw (not_same 373 (bytes "text") (omega arith) text-row.0 f, is_text_command)
        (not_same 272 (bytes "mbox") (omega arith) mbox_row.0 g)

    pub command-unary : is_text_command (spelling_of k) ≡ true → (row_of k).token ≡ Unary
    command-unary e =
        by_eq k 373 (λ q. rw q text-row.1)
        (λ f. by_eq k 272 (λ q. rw q mbox_row.1) (λ g. clash (is_text_command (spelling_of k)) e (command-other f g)))

-- rule 2: the row that is found
module _ (k : ℕ) (text : List ℕ) (at : ℕ) where
  pub row_plain : is_text_command (spelling_of k) ≡ false → alone at (length (spelling_of k)) (row_of k).token ≡ from_row k text at
  unfolding from_row
  row_plain t = sym (rw (t, from_row))

  pub row-command : is_text_command (spelling_of k) ≡ true → command_at text at 4 Unary ≡ from_row k text at
  unfolding from_row
  row-command t = sym (rw (t, from_row))

  pub command-four : is_text_command (spelling_of k) ≡ true → length (spelling_of k) ≡ 4
  command-four t = command-length (spelling_of k) t

-- rule 1
module _ (text : List ℕ) (at : ℕ) where
  blanks : at < run_end blank text at → blanks_at text at ≡ some (alone at (run_end blank text at - at) Space)
  unfolding blanks_at
  blanks m = rw (lt-ltb at (run_end blank text at) m, blanks_at)

  pub read-blank : at < length text → blank (get_or text at 0) ≡ true → (e : ℕ) → e ≡ run_end blank text (at + 1)
      → one at (e - at) Space e ≡ read_at byte_at text at
  unfolding read_at
  read-blank l t e h =
      let f = run-from blank text (at + 1) in
      let r : e ≡ run_end blank text at = h ∙ sym (run_more blank text at l t) in
      let n : e ≡ at + (e - at) = omega arith in
      let q : read_at byte_at text at ≡ alone at (run_end blank text at - at) Space = rw (blanks (omega arith), read_at) in
      ap (one at (e - at) Space) n ∙ rw r (sym q)

  -- no blank: what is found, or rules 3 to 5
  module _ (b : blank (get_or text at 0) ≡ false) where
    pub read_none : longest_at text at ≡ none → from_number text at ≡ read_at byte_at text at
    unfolding read_at from_number from_quotation spelling_at
    read_none e = sym (rw (no_blanks text at b, read_at) (rw (e, spelling_at)))

    pub read-row : (k : ℕ) → k < 429 → longest_at text at ≡ some (record { number = k; row = row_of k }) → from_row k text at ≡ read_at byte_at text at
    unfolding read_at from_row spelling_at spelling_of
    read-row k h e =
        by_test (is_text_command (spelling_of k))
        (λ t.
        let u = command-unary k h t in
        let n = command-four k text at t in
        sym (row-command k text at t) ∙ rw (← u, ← n) (sym (rw (no_blanks text at b, read_at) (rw (e, spelling_at) (rw t)))))
        (λ t. sym (row_plain k text at t) ∙ sym (rw (no_blanks text at b, read_at) (rw (e, spelling_at) (rw t))))
