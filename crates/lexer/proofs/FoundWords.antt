-- The word of what is found at a place: its kind, and its row, which is that of the read there.
use mathlib.Core.Path.{◌≡◌, sym, ap, ◌∙◌, subst}
use mathlib.Core.Bool.{true}
use mathlib.Core.List.{List}
use mathlib.Core.Option.{none, some}
use Prim.Native.Nat.{ℕ, ◌+◌, ◌*◌, ◌-◌, ◌/◌, ◌%◌, ◌<◌}
use native.Mathlib.Omega.{arith}
use lib.ListN.{length, get_or}
use borrow.Author.Tests.{lt-ltb, eq-eqb, ne_eqb}
use Rattle.tokens.specs.declared.token.Token.{Token}
use Rattle.tokens.specs.Kinds.{number_of, token_of}
use Rattle.lexing.specs.Longest.{longest_at, number_in}
use Rattle.lexing.specs.Rules.{Read, blank, run_end, blanks_at, byte_at, read_at, token_row_at}
use Rattle.lexer.specs.Constants.{plain_kind, rows_below, spelled_byte, byte_kind, word_of_byte}
use Rattle.std.specs.Prelude.{Some, None}
use Rattle.lexer.specs.Lookup.{longer_row, token_row, longest, longest_answer}
use Rattle.lexer.specs.declared.table.Listed.{Listed}
use Rattle.lexer.specs.Coded.{row_in, with_found, Placed, AddedRead}
use Rattle.tokens.proofs.Cases.{by_option, apart}
use Rattle.tokens.proofs.Numbers.{number_small}
use Rattle.lexing.proofs.Runs.{run-from, run_more}
use Rattle.lexing.proofs.Spelled.{row-looked_up}
use Rattle.lexer.proofs.Adding.{added-as}
use Rattle.lexer.proofs.Flat.{plain-small, kind-is}
use Rattle.lexer.proofs.Lookup.{found-longer, byte-found, byte-none, answer-none, answer-byte}

module _ (w : ℕ) where
  pub row-set : w / 32 % 2 ≡ 1 → some (w / 64) ≡ row_in w
  unfolding row_in
  row-set e = sym (rw (eq-eqb (w / 32 % 2) 1 e, row_in))

  pub row-clear : (w / 32 % 2 ≡ 1 → ⊥) → none ≡ row_in w
  unfolding row_in
  row-clear f = sym (rw (ne_eqb (w / 32 % 2) 1 f, row_in))

pub row_word : (row : ℕ) → row_in (64 * row + 64 - 1) ≡ some row
row_word row =
    let n : (64 * row + 64 - 1) / 64 ≡ row = omega arith in
    sym (row-set (64 * row + 64 - 1) (omega arith)) ∙ ap some n

-- the word of a byte
module _ (c : ℕ) where
  pub kind-of_byte : {found kind : ℕ} → found ≡ word_of_byte c → kind ≡ found % 32 → kind ≡ byte_kind c
  kind-of_byte e k = k ∙ ap (λ (w : ℕ). w % 32) e ∙ kind-is c

  row-of_byte : (t : Token) → spelled_byte c ≡ some t → row_in (word_of_byte c) ≡ some (rows_below c)
  unfolding word_of_byte
  row-of_byte t o =
      let s = number_small t in
      let w = 64 * rows_below c + (32 + number_of t) in
      let n : w / 64 ≡ rows_below c = omega arith in
      rw o (sym (row-set w (omega arith)) ∙ ap some n)

  no_row_of_byte : spelled_byte c ≡ none → row_in (word_of_byte c) ≡ none
  unfolding word_of_byte
  no_row_of_byte o =
      let s = plain-small c in
      rw o (sym (row-clear (64 * rows_below c + plain_kind c) (λ e. omega arith)))

module _ (text : List ℕ) (at : ℕ) where
  -- a longer spelling's row is that of the read
  pub longer-row_read : (k : ℕ) → Some k ≡ longer_row (longest_at text at) → some k ≡ token_row_at text at
  longer-row_read k e = sym (row-looked_up text at ∙ ap number_in (found-longer text at k e).1)

  module _ (h : at < length text) where
    -- where no longer spelling is found, the row of the byte's word is that of the read
    pub byte-row_read : longer_row (longest_at text at) ≡ None → {found : ℕ} → found ≡ word_of_byte (get_or text at 0) → row_in found ≡ token_row_at text at
    byte-row_read e q =
        let c = get_or text at 0 in
        ap row_in q ∙
        by_option (spelled_byte c)
        (λ o. no_row_of_byte c o ∙ sym (row-looked_up text at ∙ ap number_in (byte-none text at e o)))
        (λ t o. row-of_byte c t o ∙ sym (row-looked_up text at ∙ ap number_in (byte-found text at e h t o)))

    -- the public answer where no longer spelling is found: the byte alone, or none
    module _ (e : longer_row (longest_at text at) ≡ None) {found : ℕ} (q : found ≡ word_of_byte (get_or text at 0)) where
      pub answer-alone : (i k : ℕ) (t : Token) → Some i ≡ token_row (row_in found) → k ≡ found % 32 → t ≡ token_of k
          → Some (longest 1 t i) ≡ longest_answer (longest_at text at)
      answer-alone i k t r f g =
          let c = get_or text at 0 in
          by_option (spelled_byte c)
          (λ o. let z = r ∙ ap token_row (ap row_in q ∙ no_row_of_byte c o) in apart cc)
          (λ u o.
          let z = r ∙ ap token_row (ap row_in q ∙ row-of_byte c u o) in
          let n : i ≡ rows_below c = cc in
          answer-byte text at h e u o i n k t (kind-of_byte c q f) g)

      pub answer-nothing : None ≡ token_row (row_in found) → None ≡ longest_answer (longest_at text at)
      answer-nothing r =
          let c = get_or text at 0 in
          by_option (spelled_byte c) (λ o. answer-none text at (byte-none text at e o))
          (λ u o. let z = r ∙ ap token_row (ap row_in q ∙ row-of_byte c u o) in apart cc)

    -- at a blank nothing is found
    blank-row : blank (get_or text at 0) ≡ true → token_row_at text at ≡ none
    unfolding token_row_at blanks_at
    blank-row b =
        let m : at < run_end blank text at = omega (arith, run_more blank text at h b, run-from blank text (at + 1)) in
        rw (lt-ltb at (run_end blank text at) m, token_row_at)

    pub blank-longer : blank (get_or text at 0) ≡ true → longer_row (longest_at text at) ≡ None
    blank-longer b =
        by_option (longest_at text at) (λ o. ap longer_row o)
        (λ f o. let e = sym (ap number_in o) ∙ sym (row-looked_up text at) ∙ blank-row b in apart cc)

-- a read listed with the word of what was found at its place
module _ (text : List ℕ) (p : Listed) (found : ℕ) where
  pub placed-found : Placed text p → Placed text (with_found p found)
  placed-found h = record { short = h.short; inside = h.inside; fewer = h.fewer; few = h.few }

  pub read_found : {u : Read} {r : Listed} {before after : List ℕ} → AddedRead u (with_found p found) before r after → u ≡ read_at byte_at text p.next → row_in found ≡ token_row_at text p.next
      → AddedRead (read_at byte_at text p.next) (with_found p r.found) before r after × (row_in r.found ≡ token_row_at text p.next)
  read_found {u} {r} {before} {after} a g w = (
    subst (λ (f : ℕ). AddedRead (read_at byte_at text p.next) (with_found p f) before r after) (sym a.found-is) (added-as g a),
    ap row_in a.found-is ∙ w,
  )
