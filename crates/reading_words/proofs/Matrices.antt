-- The gate and the last test of the attempt at a matrix: the code's are the definition's.
use Prim.Native.Nat.{ℕ, zero, suc, ◌+◌, ◌<◌}
use mathlib.Core.Path.{◌≡◌, refl, sym, ap, ◌∙◌}
use mathlib.Core.List.{List}
use mathlib.Core.Option.{Option, none, some}
use mathlib.Core.Bool.{Bool, true, false, not, ◌&&◌, cond}
use native.Mathlib.Omega.{arith}
use lib.ListN.{get_elem?, drop}
use lib.Dec.{eqb, ltb}
use borrow.Author.Tests.{ltb-true, ltb-false, eqb-true, eqb-false, eq-eqb, ne_eqb}
use Rattle.tokens.specs.declared.token.Token.TheVariants as token
use Rattle.tokens.specs.Refusals.{bit}
use Rattle.reading.specs.Entries.{Entry, is, has_sep}
use Rattle.reading.specs.Reading.{is_at, is_byte, close_of, closes, could_be_matrix, makes_matrix, Rows, split_column_lines}
use Rattle.records.specs.Record.{after_close, sep_of, kind_of}
use Rattle.lookahead.specs.Tests.{test_at, is_kind}
use Rattle.lookahead.proofs.Testing.{test_below}
use Rattle.spans.specs.Spans.{byte_at}
use Rattle.brackets.specs.Brackets.{bar_at, closes_at, could_be_matrix_at, set_at, makes_at}
use Rattle.reading_words.specs.Meet.{Input, link_number, Given}
use Rattle.reading_words.proofs.Kit.{row_of, test-kind, same-is, past, at_some, at_none}
use Rattle.reading_words.proofs.Steps.{and_pick, bar-is, byte-at, is_at_is}

eqb_suc : (a b : ℕ) → eqb (suc a) (b + 1) ≡ eqb a b
eqb_suc a b = go (eqb a b) refl
  where
    go : (r : Bool) → eqb a b ≡ r → eqb (suc a) (b + 1) ≡ r
    go true h = eq-eqb (suc a) (b + 1) (omega (arith, eqb-true a b h))
    go false h = ne_eqb (suc a) (b + 1) (λ z. eqb-false a b h (omega arith))

linked_to : (j : ℕ) (q : Option ℕ) → elim q as (λ _. Bool) [ none ↦ false | some k ↦ eqb k j ] ≡ eqb (link_number q) (j + 1)
linked_to j none = sym (ne_eqb 0 (j + 1) (λ z. omega arith))
linked_to j (some k) = sym (eqb_suc k j)

bit_is : (b : Bool) → eqb (bit b) 1 ≡ b
bit_is true = refl
bit_is false = refl

module _ {X t : List ℕ} {n : ℕ} {K : List ℕ} {I : Input} (g : Given X t n K I) {i : ℕ} {o : Entry} (inside : i < n) (there : get_elem? I.es i ≡ some o) where
  closes-is : (j : ℕ) → closes I.text I.es o i j ≡ closes_at X t K n i j
  unfolding closes closes_at
  closes-is j =
      let r = row_of g inside there in
      let ob : is token.OpenBracket o ≡ eqb (kind_of t K i) 20 = same-is token.OpenBracket o ∙ ap (λ (w : ℕ). eqb w 20) (sym r.kind) in
      go (eqb (kind_of t K i) 20) refl ob
    where
      go : (b : Bool) → eqb (kind_of t K i) 20 ≡ b → is token.OpenBracket o ≡ b → closes I.text I.es o i j ≡ cond b (eqb (after_close K i) (j + 1)) (bar_at X t K n i j)
      go true e h = rw (closes, h) (linked_to j (close_of I.text I.es i)) ∙ ap (λ (w : ℕ). eqb w (j + 1)) (sym (g.linked i inside (eqb-true (kind_of t K i) 20 e)).close)
      go false e h = rw (closes, h) (bar-is i j o g inside there)

  gate_row : (c : Option ℕ) (w : ℕ) → w ≡ link_number c
      → elim c as (λ _. Bool) [
        | none ↦ false
        | some c ↦ elim (is_at I.text I.es (is token.Sep) (suc c)) as (λ _. Bool) [
          | true ↦ true
          | false ↦ closes I.text I.es o i (suc c) && has_sep zero (drop (suc (suc i)) I.es)
        ]
      ] ≡ cond (eqb w 0) false (cond (test_at t K n (is_kind 3) w) true (cond (closes_at X t K n i w) (has_sep zero (drop (suc (suc i)) I.es)) false))
  gate_row none w h = rw h
  gate_row (some c) w h =
      let z : eqb w 0 ≡ false = ne_eqb w 0 (λ q. omega arith) in
      let H = has_sep zero (drop (suc (suc i)) I.es) in
      let C = closes I.text I.es o i (suc c) in
      two (is_at I.text I.es (is token.Sep) (suc c)) C H
      ∙ ap (λ (b : Bool). cond b true (cond C H false)) (is_at_is token.Sep (suc c) g)
      ∙ ap (λ (b : Bool). cond (test_at t K n (is_kind 3) (suc c)) true (cond b H false)) (closes-is (suc c))
      ∙ ap (λ (j : ℕ). cond (test_at t K n (is_kind 3) j) true (cond (closes_at X t K n i j) H false)) (sym h)
      ∙ sym (ap (λ (b : Bool). cond b false (cond (test_at t K n (is_kind 3) w) true (cond (closes_at X t K n i w) H false))) z)
    where
      two : (a b c : Bool) → elim a as (λ _. Bool) [ true ↦ true | false ↦ b && c ] ≡ cond a true (cond b c false)
      two true b c = refl
      two false true c = refl
      two false false c = refl

  pub gate_is : could_be_matrix I.text I.es o i ≡ could_be_matrix_at X t K n i
  unfolding could_be_matrix could_be_matrix_at
  gate_is =
      let z : i + 1 ≡ suc i = omega arith in
      rw (could_be_matrix, z, is_at_is token.OpenBracket (suc i) g) (go (test_at t K n (is_kind 20) (suc i)) refl)
    where
      go : (b : Bool) → test_at t K n (is_kind 20) (suc i) ≡ b → elim b as (λ _. Bool) [
        | false ↦ false
        | true ↦ elim (close_of I.text I.es (suc i)) as (λ _. Bool) [
          | none ↦ false
          | some c ↦ elim (is_at I.text I.es (is token.Sep) (suc c)) as (λ _. Bool) [
            | true ↦ true
            | false ↦ closes I.text I.es o i (suc c) && has_sep zero (drop (suc (suc i)) I.es)
          ]
        ]
      ] ≡ cond b (cond (eqb (after_close K (suc i)) 0) false (cond (test_at t K n (is_kind 3) (after_close K (suc i))) true (cond (closes_at X t K n i (after_close K (suc i))) (eqb (sep_of K (suc i)) 1) false))) false
      go false e = refl
      go true e =
          let h : suc i < n = test_below t K n (is_kind 20) (suc i) e in
          let l = g.linked (suc i) h (eqb-true (kind_of t K (suc i)) 20 (test-kind t K n (is_kind 20) (suc i) true h e)) in
          rw (l.sep, bit_is (has_sep zero (drop (suc (suc i)) I.es))) (gate_row (close_of I.text I.es (suc i)) (after_close K (suc i)) l.close)

  -- of the number of cells, the test asks only whether it is more than one
  pub makes_is : {l : ℕ} (k : ℕ) (r : Rows) (p : ℕ) → l < n → get_elem? I.es l ≡ some r.head.left → ltb 1 (split_column_lines I.text I.es r).1 ≡ ltb 1 k
      → makes_matrix I.text I.es o i r p ≡ makes_at X t K n i l k p
  unfolding makes_matrix makes_at set_at
  makes_is {l} k r p hl tl hk = rw (closes-is p, hk) (go (ltb p n) refl)
    where
      last : (a b c : Bool) → (not (a && b) && (ltb 1 k && c)) ≡ cond (cond a b false) false (cond (ltb 1 k) c false)
      last true true c = refl
      last true false c = and_pick (ltb 1 k) c
      last false b c = and_pick (ltb 1 k) c

      go : (b : Bool) → ltb p n ≡ b → (is_at I.text I.es (λ e. not (is_byte I.text I.es 40 r.head.left.span && is_byte I.text I.es 125 e.span)) p && (ltb 1 k && closes_at X t K n i p)) ≡ cond b (cond (set_at X t K l p) false (cond (ltb 1 k) (closes_at X t K n i p) false)) false
      go true e =
          let q = g.stands p (ltb-true p n e) in
          rw (at_some I.text I.es (λ e. not (is_byte I.text I.es 40 r.head.left.span && is_byte I.text I.es 125 e.span)) p q.entry q.there, byte-at I.text I.es 40 r.head.left g.text (row_of g hl tl), byte-at I.text I.es 125 q.entry g.text q.row)
          (last (byte_at X t K l 40) (byte_at X t K p 125) (closes_at X t K n i p))
      go false e = rw (at_none I.text I.es (λ e. not (is_byte I.text I.es 40 r.head.left.span && is_byte I.text I.es 125 e.span)) p (past I.es p (omega (arith, ltb-false p n e, g.size))))

pub makes_below : (X t K : List ℕ) (n i l k p : ℕ) → makes_at X t K n i l k p ≡ true → p < n
unfolding makes_at
makes_below X t K n i l k p h = go (ltb p n) refl h
  where
    go : (b : Bool) → ltb p n ≡ b → cond b (cond (set_at X t K l p) false (cond (ltb 1 k) (closes_at X t K n i p) false)) false ≡ true → p < n
    go true e q = ltb-true p n e
    go false e q = let z : ◌≡◌ {A = ℕ} 0 1 = cc in absurd (omega arith)
