-- What the kind of a byte by itself says of the read at it, where no longer spelling is found.
use mathlib.Core.Path.{◌≡◌, refl, sym, ap, ◌∙◌}
use mathlib.Core.Bool.{true, false}
use mathlib.Core.List.{List, [], ◌∷◌}
use mathlib.Core.Option.{none, some}
use Prim.Native.Nat.{ℕ, zero, suc, ◌<◌}
use native.Mathlib.Omega.{arith}
use native.Mathlib.Nat.{not-suc-le-zero, le_of_suc-le-suc}
use lib.Dec.{eqb, ltb}
use lib.ListN.{length, get_or}
use borrow.Author.Tests.{ltb-true, eqb-false}
use Rattle.tokens.specs.declared.token.Token.{Token}
use Rattle.tokens.specs.declared.token.Token.TheVariants.{Ident}
use Rattle.tokens.specs.Kinds.{number_of}
use Rattle.tokens.specs.Refusals.{ascii}
use Rattle.lexing.specs.Longest.{longest_at}
use Rattle.lexer.specs.Constants.{no_row, row_of, spelling_of, plain_kind, rows_below, spelled_byte, byte_kind}
use Rattle.std.specs.Prelude.{None}
use Rattle.lexer.specs.Lookup.{longer_row}
use Rattle.lexing.specs.Rules.{alone, blank, digit, letter, is_text_command, byte_at, read_at}
use Rattle.lexer.specs.Coded.{from_number}
use Rattle.tokens.proofs.Cases.{by_test, by_option, clash}
use Rattle.lexing.proofs.Rows.{WellFormed, well_formed}
use Rattle.lexer.proofs.Lookup.{spelled-row, byte-found, byte-none}
use Rattle.lexer.proofs.RuleCases.{letter-alone, row_plain, command-four, read_none, read-row}

pub ascii-byte : (text : List ℕ) (at : ℕ) → ascii text ≡ true → at < length text → get_or text at 0 < 128
unfolding ascii
ascii-byte [] at e h = absurd (not-suc-le-zero h)
ascii-byte (c ∷ s) zero e h = by_test (ltb c 128) (λ a. ltb-true c 128 a) (λ a. clash false (rw (a, ascii) at e) refl)
ascii-byte (c ∷ s) (suc at) e h =
    by_test (ltb c 128) (λ a. ascii-byte s at (rw (a, ascii) at e) (le_of_suc-le-suc h)) (λ a. clash false (rw (a, ascii) at e) refl)

module _ {A : Type 0} (c : ℕ) where
  -- a byte that no spelling is
  by_plain : (blank c ≡ true → plain_kind c ≡ 23 → A) → (digit c ≡ true → plain_kind c ≡ 4 → A)
      → (letter c ≡ true → plain_kind c ≡ 6 → A) → (letter c ≡ false → plain_kind c ≡ 7 → A) → A
  unfolding plain_kind
  by_plain f g h k =
      by_test (blank c) (λ a. f a (rw (a, plain_kind)))
      (λ a.
      by_test (digit c) (λ b. g b (rw (a, plain_kind) (rw b)))
      (λ b. by_test (letter c) (λ d. h d (rw (a, plain_kind) (rw b (rw d)))) (λ d. k d (rw (a, plain_kind) (rw b (rw d))))))

  -- a spelling or none
  by_spelled : ((t : Token) → spelled_byte c ≡ some t → byte_kind c ≡ number_of t → WellFormed (row_of (rows_below c)) → A)
      → (spelled_byte c ≡ none → byte_kind c ≡ plain_kind c → A) → A
  unfolding byte_kind row_of
  by_spelled f g =
      by_option (spelled_byte c) (λ o. g o (rw (o, byte_kind)))
      (λ t o. f t o (rw (o, byte_kind)) (well_formed no_row (rows_below c) (spelled-row c t o).below))

module _ (c : ℕ) where
  no_kind : {A : Type 0} (k : ℕ) (t : Token) → spelled_byte c ≡ some t → byte_kind c ≡ number_of t → eqb (number_of (row_of (rows_below c)).token) k ≡ false → byte_kind c ≡ k → A
  no_kind k t o e w z = absurd (eqb-false _ _ w (ap number_of (spelled-row c t o).token-is ∙ sym e ∙ z))

  pub kind-blank : byte_kind c ≡ 23 → blank c ≡ true
  kind-blank z =
      by_spelled c (λ t o e w. no_kind 23 t o e w.no_space z)
      (λ o e. by_plain c (λ a k. a) (λ a k. absurd (omega arith)) (λ a k. absurd (omega arith)) (λ a k. absurd (omega arith)))

  pub kind-other : (byte_kind c ≡ 23 → ⊥) → blank c ≡ false
  unfolding spelling_of plain_kind
  kind-other f =
      by_test (blank c)
      (λ b.
      by_spelled c
      (λ t o e w. clash (blank c) b (ap (λ (s : List ℕ). blank (get_or s 0 0)) (sym (spelled-row c t o).spelling-is) ∙ w.no_blank))
      (λ o e. absurd (f (e ∙ rw (b, plain_kind)))))
      (λ b. b)

  pub kind-digit : byte_kind c ≡ 4 → (spelled_byte c ≡ none) × (digit c ≡ true)
  kind-digit z =
      by_spelled c (λ t o e w. no_kind 4 t o e w.no_number z)
      (λ o e. (o, by_plain c (λ a k. absurd (omega arith)) (λ a k. a) (λ a k. absurd (omega arith)) (λ a k. absurd (omega arith))))

  pub kind-operator : byte_kind c ≡ 7 → (spelled_byte c ≡ none) × (letter c ≡ false)
  kind-operator z =
      by_spelled c (λ t o e w. no_kind 7 t o e w.no_operator z)
      (λ o e. (o, by_plain c (λ a k. absurd (omega arith)) (λ a k. absurd (omega arith)) (λ a k. absurd (omega arith)) (λ a k. a)))

-- the byte is the token, of its own kind
pub record Lone (text : List ℕ) (at : ℕ) : Type 0 where
  pub token : Token
  pub kind-is : number_of token ≡ byte_kind (get_or text at 0)
  pub no_space : eqb (number_of token) 23 ≡ false
  pub read_is : alone at 1 token ≡ read_at byte_at text at

module _ (text : List ℕ) (at : ℕ) (h : at < length text) (p : longer_row (longest_at text at) ≡ None) where
  pub read_plain_lem : (byte_kind (get_or text at 0) ≡ 23 → ⊥) → spelled_byte (get_or text at 0) ≡ none → from_number text at ≡ read_at byte_at text at
  read_plain_lem f o = read_none text at (kind-other (get_or text at 0) f) (byte-none text at p o)

  pub lone : (byte_kind (get_or text at 0) ≡ 23 → ⊥) → (byte_kind (get_or text at 0) ≡ 4 → ⊥) → (byte_kind (get_or text at 0) ≡ 7 → ⊥) → Lone text at
  unfolding row_of
  lone f g k =
      let c = get_or text at 0 in
      by_spelled c
      (λ t o e w.
      let r = spelled-row c t o in
      let n = rows_below c in
      let plain : is_text_command (spelling_of n) ≡ false =
      by_test (is_text_command (spelling_of n)) (λ q. absurd (omega (arith, command-four n text at q, ap (length {A = ℕ}) r.spelling-is))) (λ q. q) in
      record {
        token = t;
        kind-is = sym e;
        no_space = ap (λ (u : Token). eqb (number_of u) 23) (sym r.token-is) ∙ w.no_space;
        read_is = (λ i. alone at (length (sym r.spelling-is i)) (sym r.token-is i))
            ∙ row_plain n text at plain
            ∙ read-row text at (kind-other c f) n r.below (byte-found text at p h t o);
      })
      (λ o e.
      by_plain c (λ a q. absurd (f (e ∙ q))) (λ a q. absurd (g (e ∙ q)))
      (λ a q.
      record {
        token = Ident;
        kind-is = sym (e ∙ q);
        no_space = refl;
        read_is = letter-alone text at h a ∙ read_plain_lem f o;
      })
      (λ a q. absurd (k (e ∙ q))))
