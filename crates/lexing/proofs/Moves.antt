-- One read moves on inside the text, with at most three tokens waiting; their spans lie between the two places, in order.
use mathlib.Core.Path.{◌≡◌, refl, ap}
use mathlib.Core.Bool.{true, false}
use mathlib.Core.List.{List, [], ◌∷◌}
use mathlib.Core.Option.{Option, none, some}
use Prim.Native.Nat.{ℕ, suc, ◌+◌, ◌-◌, ◌≤◌, ◌<◌}
use native.Mathlib.Omega.{arith}
use lib.Dec.{eqb}
use lib.ListN.{length, get_or, get_or-eq_default}
use borrow.Author.Tests.{lt-ltb, le-ltb, eq-eqb, ne_eqb, eqb-true}
use Rattle.tokens.specs.declared.token.Token.{Token}
use Rattle.tokens.specs.declared.token.Token.TheVariants.{Space}
use Rattle.tokens.specs.Bytes.{bytes, same}
use Rattle.tokens.specs.Kinds.{number_of}
use Rattle.tokens.specs.Lexeme.{Lexeme}
use Rattle.lexing.specs.Longest.{Numbered, longest_at}
use Rattle.lexing.specs.Rules.{Read, alone, run_end, blank, digit, letter, other, blanks_at, closer, literal_at, command_at, is_text_command, spelling_at, number_end, past_point, number_at, quotation_at, byte_at, read_at}
use Rattle.tokens.proofs.Cases.{by_test, by_lt, by_eq, by_option, clash, Given}
use Rattle.lexing.proofs.Runs.{run-from, run-within}
use Rattle.lexing.proofs.Rows.{FoundAt, found_at}

-- the first token starts no earlier than one place, each other no earlier than the one before it ends, and the last ends by
-- another place
abbrev pub Between : ℕ → ℕ → List Lexeme → Type 0
Between from to [] = from ≤ to
Between from to (t ∷ ts) = (from ≤ t.span.start) × Between (t.span.start + t.span.len) to ts

pub record Moves (text : List ℕ) (at : ℕ) (r : Read) : Type 0 where
  pub on : at < r.next
  pub inside : r.next ≤ length text
  pub three : length r.waiting ≤ 3
  -- no more tokens than bytes
  pub fewer : at + suc (length r.waiting) ≤ r.next
  pub ordered : Between at r.next (r.first ∷ r.waiting)

-- the first rule that applies
or_else : (P : Read → Type 0) (o : Option Read) (r : Read) → Given P o → P r → P (elim o [ some q ↦ q | none ↦ r ])
or_else P none r a b = b
or_else P (some q) r a b = a

-- what holds of each rule holds of the read
pub by_rules : (P : Read → Type 0) (rule5 : List ℕ → ℕ → Read) (text : List ℕ) (at : ℕ) → Given P (blanks_at text at)
    → Given P (spelling_at text at) → Given P (number_at text at) → Given P (quotation_at text at) → P (rule5 text at)
    → P (read_at rule5 text at)
unfolding read_at
by_rules P rule5 text at a b c d e =
    or_else P (blanks_at text at) _ a
    (or_else P (spelling_at text at) _ b (or_else P (number_at text at) _ c (or_else P (quotation_at text at) _ d e)))

pub same-is : (a b : List ℕ) → same a b ≡ true → a ≡ b
unfolding same
same-is [] [] e = refl
same-is [] (y ∷ b) e = clash false e refl
same-is (x ∷ a) [] e = clash false e refl
same-is (x ∷ a) (y ∷ b) e =
    by_test (eqb x y) (λ h. rw (eqb-true x y h, same-is a b (rw h at e))) (λ h. clash false (rw h at e) refl)

pub command-length : (s : List ℕ) → is_text_command s ≡ true → length s ≡ 4
unfolding is_text_command
command-length s p =
    by_test (same s (bytes "text")) (λ e. ap length (same-is s (bytes "text") e))
    (λ e. ap length (same-is s (bytes "mbox") (rw (e, is_text_command) at p)))

-- what holds of a text command and of any other spelling holds of the second rule
pub by_spelling : (P : Read → Type 0) (text : List ℕ) (at : ℕ)
    → ((f : Numbered) → FoundAt text at f → is_text_command f.row.spelling ≡ true
    → P (command_at text at (length f.row.spelling) f.row.token))
    → ((f : Numbered) → FoundAt text at f → P (alone at (length f.row.spelling) f.row.token))
    → Given P (spelling_at text at)
unfolding spelling_at
by_spelling P text at g h =
    by_option (longest_at text at) (λ o. rw (o, spelling_at) tt)
    (λ f o.
    let a = rw o at (found_at text at) in
    by_test (is_text_command f.row.spelling) (λ e. rw (o, spelling_at) (rw e (g f a e)))
    (λ e. rw (o, spelling_at) (rw e (h f a))))

module _ (text : List ℕ) where
  -- a byte that is not 0 stands in the text
  pub there : (b : ℕ) → (get_or text b 0 ≡ 0 → ⊥) → b < length text
  there b f = by_lt b (length text) (λ l. l) (λ l. absurd (f (get_or-eq_default text 0 {n = b} l)))

  pub bracket-there : (b : ℕ) → (closer (get_or text b 0) ≡ 0 → ⊥) → b < length text
  unfolding closer
  bracket-there b f = there b (λ z. f (ap closer z))

module _ (text : List ℕ) (at : ℕ) where
  alone-moves : (n : ℕ) (t : Token) → 0 < n → at + n ≤ length text → Moves text at (alone at n t)
  alone-moves n t h l = omega arith

  byte-moves : at < length text → Moves text at (byte_at text at)
  unfolding byte_at
  byte-moves l =
      by_test (letter (get_or text at 0)) (λ e. rw (e, byte_at) (alone-moves 1 _ (omega arith) (omega arith)))
      (λ e. rw (e, byte_at) (alone-moves 1 _ (omega arith) (omega arith)))

  quotation_moves : Given (Moves text at) (quotation_at text at)
  unfolding quotation_at
  quotation_moves =
      let e = run_end (other 34) text (at + 1) in
      let f = run-from (other 34) text (at + 1) in
      by_eq (get_or text at 0) 34
      (λ q. by_lt e (length text)
      (λ l. rw (eq-eqb _ _ q, quotation_at) (rw (lt-ltb _ _ l) (omega arith)))
      (λ l. rw (eq-eqb _ _ q, quotation_at) (rw (le-ltb _ _ l) tt)))
      (λ q. rw (ne_eqb _ _ q, quotation_at) tt)

  pub number-inside : at ≤ length text → number_end text at ≤ length text
  unfolding number_end
  number-inside h =
      let p = run_end digit text at in
      by_eq (get_or text p 0) 46
      (λ e. rw (eq-eqb _ _ e, number_end) (run-within digit text (p + 1) (omega (arith, there text p (λ z. omega arith)))))
      (λ e. rw (ne_eqb _ _ e, number_end) (run-within digit text at h))

  pub past-on : at ≤ past_point text at
  unfolding past_point
  past-on =
      by_eq (get_or text at 0) 46 (λ e. rw (eq-eqb _ _ e, past_point) (omega arith))
      (λ e. rw (ne_eqb _ _ e, past_point) (omega arith))

  number-moves : at ≤ length text → Given (Moves text at) (number_at text at)
  unfolding number_at
  number-moves h =
      by_lt (past_point text at) (number_end text at)
      (λ l.
      rw (lt-ltb _ _ l, number_at)
      (alone-moves (number_end text at - at) _ (omega (arith, past-on)) (omega (arith, past-on, number-inside h))))
      (λ l. rw (le-ltb _ _ l, number_at) tt)

  blanks-moves : at ≤ length text → Given (Moves text at) (blanks_at text at)
  unfolding blanks_at
  blanks-moves h =
      let e = run_end blank text at in
      by_lt at e
      (λ l.
      rw (lt-ltb _ _ l, blanks_at)
      (alone-moves (e - at) Space (omega arith) (omega (arith, run-within blank text at h))))
      (λ l. rw (le-ltb _ _ l, blanks_at) tt)

  literal_moves : (n : ℕ) (t : Token) (b c : ℕ) → 2 ≤ n → at + n ≤ b → b < length text
      → Moves text at (literal_at text at n t b c)
  unfolding literal_at
  literal_moves n t b c h f l =
      let e = run_end (other c) text (b + 1) in
      let g = run-from (other c) text (b + 1) in
      by_lt e (length text)
      (λ q. rw (lt-ltb _ _ q, literal_at) (omega arith))
      (λ q. rw (le-ltb _ _ q, literal_at) (omega (arith, run-within (other c) text (b + 1) (omega arith))))

  command-moves : (n : ℕ) (t : Token) → 2 ≤ n → at + n ≤ length text → Moves text at (command_at text at n t)
  unfolding command_at
  command-moves n t h l =
      let b = run_end blank text (at + n) in
      by_eq (closer (get_or text b 0)) 0
      (λ e. rw (eq-eqb _ _ e, command_at) (alone-moves n t (omega arith) l))
      (λ e. rw (ne_eqb _ _ e, command_at) (literal_moves n t b _ h (run-from blank text (at + n)) (bracket-there text b e)))

  spelling-moves : Given (Moves text at) (spelling_at text at)
  spelling-moves =
      by_spelling (Moves text at) text at
      (λ f a e.
      command-moves (length f.row.spelling) f.row.token (omega (arith, command-length f.row.spelling e)) a.inside)
      (λ f a. alone-moves (length f.row.spelling) f.row.token a.row.filled a.inside)

-- no token is a Space
abbrev pub NoSpace : List Lexeme → Type 0
NoSpace [] = Unit {0}
NoSpace (t ∷ ts) = (eqb (number_of t.token) 23 ≡ false) × NoSpace ts

-- what the laws of all reads need of the fifth rule
pub record Sound (rule5 : List ℕ → ℕ → Read) : Type 0 where
  pub moves : (text : List ℕ) (at : ℕ) → at < length text → Moves text at (rule5 text at)
  pub no_space : (text : List ℕ) (at : ℕ) → at < length text → NoSpace ((rule5 text at).first ∷ (rule5 text at).waiting)

pub read-moves : {rule5 : List ℕ → ℕ → Read} → Sound rule5 → (text : List ℕ) (at : ℕ) → at < length text
    → Moves text at (read_at rule5 text at)
read-moves {rule5} s text at l =
    by_rules (Moves text at) rule5 text at (blanks-moves text at (omega arith)) (spelling-moves text at)
    (number-moves text at (omega arith)) (quotation_moves text at) (s.moves text at l)

byte-no_space : (text : List ℕ) (at : ℕ) → NoSpace ((byte_at text at).first ∷ (byte_at text at).waiting)
unfolding byte_at
byte-no_space text at = by_test (letter (get_or text at 0)) (λ e. rw (e, byte_at) (refl, tt)) (λ e. rw (e, byte_at) (refl, tt))

pub byte_at_sound : Sound byte_at
byte_at_sound = record { moves = byte-moves; no_space = λ text at l. byte-no_space text at }
