-- Which rows begin the text at a place: that of its byte alone, and those with more bytes, of which the last is the longest.
use mathlib.Core.Path.{◌≡◌, refl, sym, ap, ◌∙◌, subst}
use mathlib.Core.Bool.{Bool, true, false}
use mathlib.Core.List.{List, [], ◌∷◌}
use mathlib.Core.Option.{Option, none, some}
use Prim.Native.Nat.{ℕ, zero, suc, ◌+◌, ◌≤◌, ◌<◌}
use native.Mathlib.Omega.{arith}
use native.Mathlib.Nat.{not-suc-le-zero, le_of_suc-le-suc}
use lib.Dec.{eqb}
use lib.ListN.{length, get_or, drop, length-drop}
use lib.Seq.{get_or-drop, drop-cons}
use borrow.Author.Tests.{lt-ltb, le-ltb, eqb-true, eq-eqb}
use Rattle.lexing.specs.Spellings.{Row, rows}
use Rattle.lexing.specs.Longest.{Numbered, begins, longest_at, longest_of}
use Rattle.std.specs.Prelude.{Some, None}
use Rattle.std.specs.Prelude as code
use Rattle.tokens.specs.declared.token.Token.{Token}
use Rattle.tokens.specs.Kinds.{number_of, token_of}
use Rattle.lexer.specs.Constants.{count_below, is_byte, token_of_byte, no_row, row_of, spelling_of, kind_of, rows_below, spelled_byte, longer_from, byte_kind}
use Rattle.lexer.specs.Lookup.{longer_row, longest, longest_answer}
use Rattle.tokens.proofs.Cases.{by_test, by_lt, by_eq, by_option, clash, apart, Given}
use Rattle.tokens.proofs.Numbers.{token-of_number}
use Rattle.lexing.proofs.Begins.{begins-at, begins-length, Answered, answered}
use Rattle.lexing.proofs.Rows.{rows-length, FoundAt, found_at}
use Rattle.lexing.proofs.Order.{before-longer}
use Rattle.lexer.proofs.Sorted.{in_order, filled, before-first, before-second, before-byte}
use Rattle.lexer.proofs.Flat.{below-first, from_first, below-bound}

-- what is no Some is None
pub none_is : (r : code.Option ℕ) → ((k : ℕ) → r ≡ Some k → ⊥) → r ≡ None
none_is None f = refl
none_is (Some k) f = absurd (f k refl)

-- the row that is a byte alone
is_byte_lem : (c : ℕ) (r : Row) → is_byte c r ≡ true → (length r.spelling ≡ 1) × (get_or r.spelling 0 0 ≡ c)
unfolding is_byte
is_byte_lem c r e =
    by_test (eqb (get_or r.spelling 0 0) c) (λ a. (eqb-true _ _ (rw (a, is_byte) at e), eqb-true _ _ a))
    (λ a. clash false (rw (a, is_byte) at e) refl)

byte-is : (c : ℕ) (r : Row) → length r.spelling ≡ 1 → get_or r.spelling 0 0 ≡ c → is_byte c r ≡ true
unfolding is_byte
byte-is c r l e = rw (eq-eqb _ _ e, is_byte) (eq-eqb _ _ l)

byte-list : (c : ℕ) (a : List ℕ) → length a ≡ 1 → get_or a 0 0 ≡ c → a ≡ c ∷ []
byte-list c [] l e = absurd (omega arith)
byte-list c (x ∷ []) l e = ap (λ (y : ℕ). y ∷ []) e
byte-list c (x ∷ (y ∷ a)) l e = absurd (omega arith)

record At (c : ℕ) (rs : List Row) (t : Token) : Type 0 where
  place : ℕ
  inside : place < length rs
  is : is_byte c (get_or rs place no_row) ≡ true
  token-is : (get_or rs place no_row).token ≡ t

token-at : (c : ℕ) (rs : List Row) (t : Token) → token_of_byte c rs ≡ some t → At c rs t
unfolding token_of_byte
token-at c [] t e = let z : ◌≡◌ {A = ℕ} 0 1 = cc in absurd (omega arith)
token-at c (r ∷ rs) t e =
    by_test (is_byte c r)
    (λ a.
    let q = rw (a, token_of_byte) at e in
    record { place = 0; inside = omega arith; is = a; token-is = cc })
    (λ a.
    let w = token-at c rs t (rw (a, token_of_byte) at e) in
    record { place = suc w.place; inside = omega (arith, w.inside); is = w.is; token-is = w.token-is })

token-none : (c : ℕ) (rs : List Row) → token_of_byte c rs ≡ none → (k : ℕ) → k < length rs → is_byte c (get_or rs k no_row) ≡ true → ⊥
unfolding token_of_byte
token-none c [] e k h b = not-suc-le-zero h
token-none c (r ∷ rs) e zero h b =
    let q = rw (b, token_of_byte) at e in
    let z : ◌≡◌ {A = ℕ} 0 1 = cc in
    omega arith
token-none c (r ∷ rs) e (suc k) h b =
    by_test (is_byte c r)
    (λ a.
    let q = rw (a, token_of_byte) at e in
    let z : ◌≡◌ {A = ℕ} 0 1 = cc in
    omega arith)
    (λ a. token-none c rs (rw (a, token_of_byte) at e) k (le_of_suc-le-suc h) b)

module _ (c : ℕ) where
  -- it is the first of the byte's rows
  byte-first : (k : ℕ) → k < 429 → length (spelling_of k) ≡ 1 → get_or (spelling_of k) 0 0 ≡ c → k ≡ rows_below c
  byte-first k h l e =
      by_lt k (rows_below c) (λ m. absurd (omega (arith, below-first c k h m)))
      (λ m.
      by_lt (rows_below c) k
      (λ n.
      let j = rows_below c in
      let o = in_order j k n h in
      let f : get_or (spelling_of j) 0 0 ≡ c = omega (arith, from_first c j (omega arith) (omega arith), before-first (spelling_of j) (spelling_of k) o) in
      absurd (before-byte c (spelling_of j) (filled j (omega arith)) f (rw (byte-list c (spelling_of k) l e) at o)))
      (λ n. omega arith))

  pub record SpelledRow (t : Token) : Type 0 where
    pub below : rows_below c < 429
    pub spelling-is : spelling_of (rows_below c) ≡ c ∷ []
    pub token-is : (row_of (rows_below c)).token ≡ t

  pub spelled-row : (t : Token) → spelled_byte c ≡ some t → SpelledRow t
  unfolding row_of spelling_of spelled_byte
  spelled-row t e =
      let w = token-at c rows t e in
      let h : w.place < 429 = omega (arith, w.inside, rows-length) in
      let b = is_byte_lem c (get_or rows w.place no_row) w.is in
      let n = byte-first w.place h b.0 b.1 in
      record {
        below = omega arith;
        spelling-is = rw (← n) (byte-list c (get_or rows w.place no_row).spelling b.0 b.1);
        token-is = rw (← n) w.token-is;
      }

  pub spelled_none : spelled_byte c ≡ none → (k : ℕ) → k < 429 → length (spelling_of k) ≡ 1 → get_or (spelling_of k) 0 0 ≡ c → ⊥
  unfolding row_of spelling_of spelled_byte
  spelled_none e k h l f = token-none c rows e k (omega (arith, rows-length)) (byte-is c (get_or rows k no_row) l f)

  -- the rows with the byte first and more bytes
  pub longer-in : (k : ℕ) → k < 429 → get_or (spelling_of k) 0 0 ≡ c → 2 ≤ length (spelling_of k) → (longer_from c ≤ k) × (k < rows_below (c + 1))
  unfolding longer_from
  longer-in k h f l =
      let low : rows_below c ≤ k = by_lt k (rows_below c) (λ m. absurd (omega (arith, below-first c k h m))) (λ m. m) in
      let high : k < rows_below (c + 1) = by_lt k (rows_below (c + 1)) (λ m. m) (λ m. absurd (omega (arith, from_first (c + 1) k h m))) in
      by_option (spelled_byte c) (λ o. (rw (o, longer_from) low, high))
      (λ t o.
      let w = spelled-row t o in
      let n : k ≡ rows_below c → ⊥ = λ q. omega (arith, ap (λ (j : ℕ). length (spelling_of j)) q, ap (length {A = ℕ}) w.spelling-is) in
      (rw (o, longer_from) (by_eq k (rows_below c) (λ q. absurd (n q)) (λ q. omega arith)), high))

  pub record Longer (k : ℕ) : Type 0 where
    pub below : k < 429
    pub first-is : get_or (spelling_of k) 0 0 ≡ c
    pub second : 2 ≤ length (spelling_of k)

  pub longer-row : (k : ℕ) → longer_from c ≤ k → k < rows_below (c + 1) → Longer k
  unfolding longer_from
  longer-row k h l =
      let b : k < 429 = omega (arith, below-bound (c + 1)) in
      let low : rows_below c ≤ k = by_option (spelled_byte c) (λ o. rw (o, longer_from) at h) (λ t o. omega (arith, rw (o, longer_from) at h)) in
      let f : get_or (spelling_of k) 0 0 ≡ c = omega (arith, from_first c k b low, below-first (c + 1) k b l) in
      let s : 2 ≤ length (spelling_of k) = by_lt 1 (length (spelling_of k)) (λ m. m)
      (λ m.
      let one : length (spelling_of k) ≡ 1 = omega (arith, filled k b) in
      by_option (spelled_byte c) (λ o. absurd (spelled_none o k b one f))
      (λ t o. absurd (omega (arith, rw (o, longer_from) at h, byte-first k b one f)))) in
      record { below = b; first-is = f; second = s }

-- of rows with one first byte and a second, that of the later is not smaller
pub seconds_rise : (c i j : ℕ) → Longer c i → Longer c j → i ≤ j → get_or (spelling_of i) 1 0 ≤ get_or (spelling_of j) 1 0
seconds_rise c i j a b h =
    by_eq i j (λ e. omega (arith, ap (λ (k : ℕ). get_or (spelling_of k) 1 0) e))
    (λ e. before-second (spelling_of i) (spelling_of j) (in_order i j (omega arith) b.below) (a.first-is ∙ sym b.first-is) a.second)

numbered : (g : Numbered) (n : ℕ) (r : Row) → g.number ≡ n → g.row ≡ r → ◌≡◌ {A = Option Numbered} (some g) (some (record { number = n; row = r }))
numbered g n r e f = rw (← e, ← f)

module _ (s : List ℕ) (at : ℕ) where
  -- row k begins the text at the place
  unfoldable pub fits_at : ℕ → Bool
  fits_at k = begins (spelling_of k) (drop at s)

  pub record Fits (k : ℕ) : Type 0 where
    pub inside : at + length (spelling_of k) ≤ length s
    pub byte-is : (j : ℕ) → j < length (spelling_of k) → get_or (spelling_of k) j 0 ≡ get_or s (at + j) 0

  pub fits : (k : ℕ) → k < 429 → fits_at k ≡ true → Fits k
  unfolding fits_at
  fits k h e =
      record {
        inside = omega (arith, filled k h, begins-length (spelling_of k) (drop at s) e, length-drop at s);
        byte-is = λ j l. begins-at (spelling_of k) (drop at s) j e l ∙ get_or-drop at s j 0;
      }

  fits-first : (k : ℕ) → k < 429 → fits_at k ≡ true → get_or (spelling_of k) 0 0 ≡ get_or s at 0
  fits-first k h e = (fits k h e).byte-is 0 (filled k h) ∙ ap (λ (i : ℕ). get_or s i 0) (omega arith)

  -- a row with more bytes that fits
  pub record FitsLonger (k : ℕ) : Type 0 where
    pub below : k < 429
    pub fits-is : fits_at k ≡ true
    pub low : longer_from (get_or s at 0) ≤ k
    pub high : k < rows_below (get_or s at 0 + 1)
    pub inside : at + 2 ≤ length s
    pub second_is : get_or (spelling_of k) 1 0 ≡ get_or s (at + 1) 0

  pub fits-longer : (k : ℕ) → k < 429 → fits_at k ≡ true → 2 ≤ length (spelling_of k) → FitsLonger k
  fits-longer k h e l =
      let f = fits k h e in
      let r = longer-in (get_or s at 0) k h (fits-first k h e) l in
      record { below = h; fits-is = e; low = r.0; high = r.1; inside = omega (arith, f.inside); second_is = f.byte-is 1 l }

  -- the row that is found
  pub record FoundRow (f : Numbered) : Type 0 where
    pub below : f.number < 429
    pub row_is : row_of f.number ≡ f.row
    pub fits-is : fits_at f.number ≡ true
    pub inside : at + length f.row.spelling ≤ length s

  pub found-row : (f : Numbered) → longest_at s at ≡ some f → FoundRow f
  unfolding longest_at row_of spelling_of fits_at
  found-row f e =
      let w = subst (Given (FoundAt s at)) e (found_at s at) in
      let a = w.found in
      let n : f.number ≡ a.place = omega (arith, a.number_is) in
      let r : get_or rows f.number no_row ≡ f.row = ap (λ (i : ℕ). get_or rows i no_row) n ∙ a.row_is no_row in
      record {
        below = omega (arith, a.inside, rows-length);
        row_is = r;
        fits-is = subst (λ (q : Row). begins q.spelling (drop at s) ≡ true) (sym r) a.fits;
        inside = w.inside;
      }

  found_none : longest_at s at ≡ none → (k : ℕ) → k < 429 → fits_at k ≡ false
  unfolding longest_at row_of spelling_of fits_at
  found_none e k h = subst (Answered rows 0 (drop at s)) e (answered rows 0 (drop at s)) no_row k (omega (arith, rows-length))

  last_fits : (k : ℕ) → k < 429 → fits_at k ≡ true → ((j : ℕ) → k < j → j < 429 → fits_at j ≡ false)
      → longest_at s at ≡ some (record { number = k; row = row_of k })
  unfolding fits_at longest_at row_of spelling_of
  last_fits k l e f = of (longest_of rows 0 (drop at s)) (answered rows 0 (drop at s))
    where
      of : (o : Option Numbered) → Answered rows 0 (drop at s) o → o ≡ some (record { number = k; row = row_of k })
      of none a = clash (fits_at k) e (a no_row k (omega (arith, rows-length)))
      of (some g) a =
          let key = ap (λ (r : Row). r.spelling) (a.row_is no_row) in
          let here : a.place ≡ k = by_eq a.place k (λ u. u) (λ u. by_lt a.place k
          (λ m. absurd (omega (
            arith,
            ap (length {A = ℕ}) key,
            a.longest no_row k (omega (arith, rows-length)) e,
            before-longer (spelling_of a.place) (spelling_of k) (drop at s) (in_order a.place k m l) (rw key a.fits) e,
          )))
          (λ m. clash (fits_at a.place) (rw key a.fits) (f a.place (omega arith) (omega (arith, a.inside, rows-length))))) in
          numbered g k (row_of k) (omega (arith, a.number_is)) (sym (a.row_is no_row) ∙ ap (λ (i : ℕ). get_or rows i no_row) here)

  -- what the search for more bytes finds
  pub longer-none : ((k : ℕ) → FitsLonger k → ⊥) → None ≡ longer_row (longest_at s at)
  unfolding spelling_of
  longer-none g =
      by_option (longest_at s at) (λ o. rw o)
      (λ f o.
      let w = found-row f o in
      by_lt 1 (length f.row.spelling)
      (λ l. absurd (g f.number (fits-longer f.number w.below w.fits-is (omega (arith, ap (λ (r : Row). length r.spelling) w.row_is)))))
      (λ l. sym (ap longer_row o ∙ rw (longer_row, le-ltb 1 (length f.row.spelling) l))))

  pub longer-found : (k : ℕ) → k < 429 → fits_at k ≡ true → 2 ≤ length (spelling_of k)
      → ((j : ℕ) → FitsLonger j → j < k + 1) → Some k ≡ longer_row (longest_at s at)
  unfolding spelling_of fits_at
  longer-found k h e l g =
      let last : (j : ℕ) → k < j → j < 429 → fits_at j ≡ false = λ j m n.
      by_test (fits_at j)
      (λ b.
      by_lt 1 (length (spelling_of j)) (λ u. absurd (omega (arith, g j (fits-longer j n b u))))
      (λ u. absurd (omega (arith, filled j n, before-longer (spelling_of k) (spelling_of j) (drop at s) (in_order k j m n) e b))))
      (λ b. b) in
      sym (ap longer_row (last_fits k h e last) ∙ rw (longer_row, lt-ltb 1 (length (row_of k).spelling) l))

  -- a row with more bytes is the longest
  pub found-longer : (k : ℕ) → Some k ≡ longer_row (longest_at s at)
      → (k < 429) × (longest_at s at ≡ some (record { number = k; row = row_of k })) × (at + length (spelling_of k) ≤ length s)
  unfolding spelling_of
  found-longer k e =
      by_option (longest_at s at) (λ o. let q = e ∙ ap longer_row o in apart cc)
      (λ f o.
      let w = found-row f o in
      by_lt 1 (length f.row.spelling)
      (λ l.
      let q : longer_row (some f) ≡ Some f.number = rw (longer_row, lt-ltb 1 (length f.row.spelling) l) in
      let p = e ∙ ap longer_row o ∙ q in
      let n : f.number ≡ k = cc in (
        omega (arith, w.below),
        o ∙ numbered f k (row_of k) n (sym w.row_is ∙ ap row_of n),
        omega (arith, w.inside, ap (λ (r : Row). length r.spelling) (sym (ap row_of n) ∙ w.row_is)),
      ))
      (λ l.
      let q : longer_row (some f) ≡ None = rw (longer_row, le-ltb 1 (length f.row.spelling) l) in
      let p = e ∙ ap longer_row o ∙ q in
      apart cc))

  -- none with more bytes: the byte alone, or none
  module _ (e : longer_row (longest_at s at) ≡ None) where
    short : (f : Numbered) → longest_at s at ≡ some f → (length (spelling_of f.number) ≡ 1) × (get_or (spelling_of f.number) 0 0 ≡ get_or s at 0)
    unfolding spelling_of
    short f o =
        let w = found-row f o in
        by_lt 1 (length f.row.spelling)
        (λ l.
        let q : longer_row (some f) ≡ Some f.number = rw (longer_row, lt-ltb 1 (length f.row.spelling) l) in
        let p = sym q ∙ sym (ap longer_row o) ∙ e in
        apart cc)
        (λ l. (
          omega (arith, filled f.number w.below, ap (λ (r : Row). length r.spelling) w.row_is),
          fits-first f.number w.below w.fits-is,
        ))

    pub byte-found : at < length s → (t : Token) → spelled_byte (get_or s at 0) ≡ some t
        → longest_at s at ≡ some (record { number = rows_below (get_or s at 0); row = row_of (rows_below (get_or s at 0)) })
    unfolding begins fits_at
    byte-found h t q =
        let c = get_or s at 0 in
        let w = spelled-row c t q in
        by_option (longest_at s at)
        (λ o.
        clash (fits_at (rows_below c)) (rw (w.spelling-is, drop-cons s at 0 h) (rw (eq-eqb c c refl, begins)))
        (found_none o (rows_below c) w.below))
        (λ f o.
        let v = found-row f o in
        let n = byte-first c f.number v.below (short f o).0 (short f o).1 in
        o ∙ numbered f (rows_below c) (row_of (rows_below c)) n (sym v.row_is ∙ ap row_of n))

    pub byte-none : spelled_byte (get_or s at 0) ≡ none → longest_at s at ≡ none
    byte-none q =
        by_option (longest_at s at) (λ o. o)
        (λ f o. absurd (spelled_none (get_or s at 0) q f.number (found-row f o).below (short f o).0 (short f o).1))

-- no row begins past the text's end, and none with a byte that is not ASCII
pub none-past : (s : List ℕ) (at : ℕ) → length s ≤ at → longest_at s at ≡ none
none-past s at h =
    by_option (longest_at s at) (λ o. o)
    (λ f o. absurd (omega (arith, filled f.number (found-row s at f o).below, (fits s at f.number (found-row s at f o).below (found-row s at f o).fits-is).inside)))

all_ascii : rows_below 128 ≡ 429
unfolding rows_below count_below rows
all_ascii = refl

pub none-high : (s : List ℕ) (at : ℕ) → 128 ≤ get_or s at 0 → longest_at s at ≡ none
none-high s at h =
    by_option (longest_at s at) (λ o. o)
    (λ f o.
    let w = found-row s at f o in
    absurd (omega (arith, fits-first s at f.number w.below w.fits-is, below-first 128 f.number w.below (omega (arith, w.below, all_ascii)))))

-- the public answer
module _ (s : List ℕ) (at : ℕ) where
  pub answer-none : longest_at s at ≡ none → None ≡ longest_answer (longest_at s at)
  answer-none e = sym (ap longest_answer e)

  pub answer-row : (i n k : ℕ) (t : Token) → longest_at s at ≡ some (record { number = i; row = row_of i }) → n ≡ length (spelling_of i)
      → k ≡ kind_of i → t ≡ token_of k → Some (longest n t i) ≡ longest_answer (longest_at s at)
  unfolding spelling_of kind_of
  answer-row i n k t e f g h =
      let u : t ≡ (row_of i).token = h ∙ ap token_of g ∙ token-of_number (row_of i).token in
      (λ j. Some (longest (f j) (u j) i)) ∙ sym (ap longest_answer e)

  module _ (h : at < length s) (e : longer_row (longest_at s at) ≡ None) where
    pub answer-byte : (u : Token) → spelled_byte (get_or s at 0) ≡ some u → (i : ℕ) → i ≡ rows_below (get_or s at 0) → (k : ℕ) (t : Token)
        → k ≡ byte_kind (get_or s at 0) → t ≡ token_of k → Some (longest 1 t i) ≡ longest_answer (longest_at s at)
    unfolding byte_kind kind_of
    answer-byte u o i q k t f g =
        let c = get_or s at 0 in
        let r = spelled-row c u o in
        ap (λ (j : ℕ). Some (longest 1 t j)) q ∙ answer-row (rows_below c) 1 k t (byte-found s at e h u o) (sym (ap (length {A = ℕ}) r.spelling-is))
        (f ∙ rw (o, byte_kind) (ap number_of (sym r.token-is))) g
