-- What a store into a record leaves: the laws of the record, so that no proof above looks into its words.
use Prim.Native.Nat.{ℕ, ◌+◌, ◌*◌, ◌%◌, ◌≤◌, ◌<◌}
use mathlib.Core.Path.{◌≡◌, refl, ap, ◌∙◌}
use mathlib.Core.Bool.{Bool, true, false, cond}
use mathlib.Core.List.{List}
use native.Mathlib.Omega.{arith}
use native.Mathlib.Decide.{ℕ_discrete}
use lib.ListN.{length, get_or, set, length-set}
use lib.Seq.{get_or-set_same, get_or-set_other}
use borrow.Author.Tests.{lt-ltb, ltb-true}
use Rattle.records.specs.declared.bits.Bits.{Bits}
use Rattle.records.specs.declared.bits.Bits.TheVariants.{Low, High, Marks, Closer}
use Rattle.records.specs.Record.{record_words, closer_size, InHalf, InMarks, InCloser, bits_of, with_bits, field, place_of, after_close, sep_of, marks_of, closer_of, Whole, is_whole, with_record, with_field, with_close, with_sep, with_marks, with_closer, Kept}
use Rattle.records.proofs.Same.{Same, same-words}

-- A new record.
module _ (K : List ℕ) (i place : ℕ) where
  pub record-whole : Whole K i → with_record K i place ≡ set (set K (2 * i) (bits_of Low place)) (2 * i + 1) 0
  unfolding with_record
  record-whole h = rw (lt-ltb _ _ h)

  pub record-length : length (with_record K i place) ≡ length K
  unfolding with_record
  record-length = go (is_whole K i)
    where
      go : (b : Bool) → length (cond b (set (set K (2 * i) (bits_of Low place)) (2 * i + 1) 0) K) ≡ length K
      go true = simp length-set
      go false = refl

  elsewhere : (y : ℕ) → (y ≡ 2 * i → ⊥) → (y ≡ 2 * i + 1 → ⊥) → get_or (with_record K i place) y 0 ≡ get_or K y 0
  unfolding with_record
  elsewhere y a b = go (is_whole K i)
    where
      go : (c : Bool) → get_or (cond c (set (set K (2 * i) (bits_of Low place)) (2 * i + 1) 0) K) y 0 ≡ get_or K y 0
      go true = get_or-set_other (set K (2 * i) (bits_of Low place)) (2 * i + 1) y 0 0 b ∙ get_or-set_other K (2 * i) y (bits_of Low place) 0 a
      go false = refl

  pub record-other : (j : ℕ) → (j ≡ i → ⊥) → Same (with_record K i place) j K j
  record-other j d =
      same-words (with_record K i place) j K j (λ k l. elsewhere (2 * j + k) (λ z. d (omega arith)) (λ z. d (omega arith)))

  pub record-beyond : (x : ℕ) → record_words (i + 1) ≤ x → get_or (with_record K i place) x 0 ≡ get_or K x 0
  record-beyond x h = elsewhere x (λ z. omega arith) (λ z. omega arith)

  module _ (h : Whole K i) where
    first : get_or (with_record K i place) (2 * i + 0) 0 ≡ bits_of Low place
    first =
        let z : 2 * i + 0 ≡ 2 * i = omega arith in
        rw (z, record-whole h)
        (get_or-set_other (set K (2 * i) (bits_of Low place)) (2 * i + 1) (2 * i) 0 0 (λ z. omega arith) ∙ get_or-set_same K (2 * i) (bits_of Low place) 0 (omega arith))

    second : get_or (with_record K i place) (2 * i + 1) 0 ≡ 0
    second = rw (record-whole h) (get_or-set_same (set K (2 * i) (bits_of Low place)) (2 * i + 1) 0 0 (simp length-set h))

    pub record-place : InHalf place → place_of (with_record K i place) i ≡ place
    unfolding place_of
    record-place l = omega (arith, first)

    pub record-close : after_close (with_record K i place) i ≡ 0
    unfolding after_close
    record-close = omega (arith, first)

    pub record-sep : sep_of (with_record K i place) i ≡ 0
    unfolding sep_of
    record-sep = omega (arith, second)

    pub record-marks : marks_of (with_record K i place) i ≡ 0
    unfolding marks_of
    record-marks = omega (arith, second)

    pub record-closer : closer_of (with_record K i place) i ≡ 0
    unfolding closer_of
    record-closer = omega (arith, second)

-- A field: the bits h of the word k. The number fits in them.
abbrev Fits : Bits → ℕ → Type 0
Fits Low v = InHalf v
Fits High v = InHalf v
Fits Marks v = InMarks v
Fits Closer v = InCloser v

bits-same : (h : Bits) (w v : ℕ) → Fits h v → bits_of h (with_bits h w v) ≡ v
bits-same Low w v l = omega arith
bits-same High w v l = omega arith
bits-same Marks w v l = omega arith
bits-same Closer w v l = omega arith

-- bits that stand beside one another
abbrev Beside : Bits → Bits → Type 0
Beside Low High = Unit
Beside Low Marks = Unit
Beside Low Closer = Unit
Beside High Low = Unit
Beside Marks Low = Unit
Beside Marks Closer = Unit
Beside Closer Low = Unit
Beside Closer Marks = Unit
Beside Low Low = ⊥
Beside High High = ⊥
Beside High Marks = ⊥
Beside High Closer = ⊥
Beside Marks High = ⊥
Beside Marks Marks = ⊥
Beside Closer High = ⊥
Beside Closer Closer = ⊥

bits-kept : (h g : Bits) (w v : ℕ) → Beside h g → bits_of g (with_bits h w v) ≡ bits_of g w
bits-kept Low High w v b = omega arith
bits-kept Low Marks w v b = omega arith
bits-kept Low Closer w v b = omega arith
bits-kept High Low w v b = omega arith
bits-kept Marks Low w v b = omega arith
bits-kept Marks Closer w v b = omega arith
bits-kept Closer Low w v b = omega arith
bits-kept Closer Marks w v b = omega arith
bits-kept Low Low w v b = elim b [ ]
bits-kept High High w v b = elim b [ ]
bits-kept High Marks w v b = elim b [ ]
bits-kept High Closer w v b = elim b [ ]
bits-kept Marks High w v b = elim b [ ]
bits-kept Marks Marks w v b = elim b [ ]
bits-kept Closer High w v b = elim b [ ]
bits-kept Closer Closer w v b = elim b [ ]

module _ (k : ℕ) (h : Bits) (K : List ℕ) (i v : ℕ) where
  abbrev new : ℕ
  new = with_bits h (get_or K (2 * i + k) 0) v

  pub field-whole : Whole K i → with_field k h K i v ≡ set K (2 * i + k) (with_bits h (get_or K (2 * i + k) 0) v)
  unfolding with_field
  field-whole l = rw (lt-ltb _ _ l)

  field-length : length (with_field k h K i v) ≡ length K
  unfolding with_field
  field-length = go (is_whole K i)
    where
      go : (b : Bool) → length (cond b (set K (2 * i + k) new) K) ≡ length K
      go true = length-set K (2 * i + k) new
      go false = refl

  -- every other word
  field-elsewhere : (y : ℕ) → (y ≡ 2 * i + k → ⊥) → get_or (with_field k h K i v) y 0 ≡ get_or K y 0
  unfolding with_field
  field-elsewhere y d = go (is_whole K i)
    where
      go : (b : Bool) → get_or (cond b (set K (2 * i + k) new) K) y 0 ≡ get_or K y 0
      go true = get_or-set_other K (2 * i + k) y new 0 d
      go false = refl

  -- a field in another word
  field-other : (m : ℕ) (g : Bits) (j : ℕ) → (2 * j + m ≡ 2 * i + k → ⊥) → field m g (with_field k h K i v) j ≡ field m g K j
  field-other m g j d = ap (bits_of g) (field-elsewhere (2 * j + m) d)

  module _ (two : k < 2) where
    field-same : Whole K i → Fits h v → field k h (with_field k h K i v) i ≡ v
    field-same l s =
        rw (field-whole l, get_or-set_same K (2 * i + k) new 0 (omega arith)) (bits-same h (get_or K (2 * i + k) 0) v s)

    -- a field in the bits beside these, of this word or any
    field-beside : (g : Bits) → Beside h g → (m j : ℕ) → field m g (with_field k h K i v) j ≡ field m g K j
    unfolding with_field
    field-beside g q m j = go (is_whole K i) refl (ℕ_discrete (2 * j + m) (2 * i + k))
      where
        go : (b : Bool) → is_whole K i ≡ b → Dec (2 * j + m ≡ 2 * i + k)
            → bits_of g (get_or (cond b (set K (2 * i + k) new) K) (2 * j + m) 0) ≡ bits_of g (get_or K (2 * j + m) 0)
        go false e c = refl
        go true e (yes c) =
            let l : Whole K i = ltb-true _ _ e in
            rw (c, get_or-set_same K (2 * i + k) new 0 (omega arith)) (bits-kept h g (get_or K (2 * i + k) 0) v q)
        go true e (no d) = ap (bits_of g) (get_or-set_other K (2 * i + k) (2 * j + m) new 0 d)

    field-beyond : (x : ℕ) → record_words (i + 1) ≤ x → get_or (with_field k h K i v) x 0 ≡ get_or K x 0
    field-beyond x l = field-elsewhere x (λ z. omega arith)

-- Of the fields by their names, what is above knows these.
module _ (K : List ℕ) (i v : ℕ) where
  -- Another entry behind the closing bracket.
  pub close-length : length (with_close K i v) ≡ length K
  close-length = field-length 0 High K i v

  pub close-same : Whole K i → InHalf v → after_close (with_close K i v) i ≡ v
  unfolding after_close
  close-same = field-same 0 High K i v (omega arith)

  pub close_other : (j : ℕ) → (j ≡ i → ⊥) → after_close (with_close K i v) j ≡ after_close K j
  unfolding after_close
  close_other j d = field-other 0 High K i v 0 High j (λ z. d (omega arith))

  pub place-of_close : (j : ℕ) → place_of (with_close K i v) j ≡ place_of K j
  unfolding place_of
  place-of_close = field-beside 0 High K i v (omega arith) Low tt 0

  pub sep-of_close : (j : ℕ) → sep_of (with_close K i v) j ≡ sep_of K j
  unfolding sep_of
  sep-of_close = field-beside 0 High K i v (omega arith) Low tt 1

  pub marks-of_close : (j : ℕ) → marks_of (with_close K i v) j ≡ marks_of K j
  unfolding marks_of
  marks-of_close j = field-other 0 High K i v 1 Marks j (λ z. omega arith)

  pub closer-of_close : (j : ℕ) → closer_of (with_close K i v) j ≡ closer_of K j
  unfolding closer_of
  closer-of_close j = field-other 0 High K i v 1 Closer j (λ z. omega arith)

  pub close-beyond : (x : ℕ) → record_words (i + 1) ≤ x → get_or (with_close K i v) x 0 ≡ get_or K x 0
  close-beyond = field-beyond 0 High K i v (omega arith)

  -- Another number for the Sep.
  pub sep-length : length (with_sep K i v) ≡ length K
  sep-length = field-length 1 Low K i v

  pub sep-same : Whole K i → InHalf v → sep_of (with_sep K i v) i ≡ v
  unfolding sep_of
  sep-same = field-same 1 Low K i v (omega arith)

  pub sep-other : (j : ℕ) → (j ≡ i → ⊥) → sep_of (with_sep K i v) j ≡ sep_of K j
  unfolding sep_of
  sep-other j d = field-other 1 Low K i v 1 Low j (λ z. d (omega arith))

  pub place-of_sep : (j : ℕ) → place_of (with_sep K i v) j ≡ place_of K j
  unfolding place_of
  place-of_sep j = field-other 1 Low K i v 0 Low j (λ z. omega arith)

  pub close-of_sep : (j : ℕ) → after_close (with_sep K i v) j ≡ after_close K j
  unfolding after_close
  close-of_sep = field-beside 1 Low K i v (omega arith) High tt 0

  pub marks-of_sep : (j : ℕ) → marks_of (with_sep K i v) j ≡ marks_of K j
  unfolding marks_of
  marks-of_sep = field-beside 1 Low K i v (omega arith) Marks tt 1

  pub closer-of_sep : (j : ℕ) → closer_of (with_sep K i v) j ≡ closer_of K j
  unfolding closer_of
  closer-of_sep = field-beside 1 Low K i v (omega arith) Closer tt 1

  pub sep-beyond : (x : ℕ) → record_words (i + 1) ≤ x → get_or (with_sep K i v) x 0 ≡ get_or K x 0
  sep-beyond = field-beyond 1 Low K i v (omega arith)

  -- Other marks.
  pub marks-length : length (with_marks K i v) ≡ length K
  marks-length = field-length 1 Marks K i v

  pub marks-same : Whole K i → InMarks v → marks_of (with_marks K i v) i ≡ v
  unfolding marks_of
  marks-same = field-same 1 Marks K i v (omega arith)

  pub marks-other : (j : ℕ) → (j ≡ i → ⊥) → marks_of (with_marks K i v) j ≡ marks_of K j
  unfolding marks_of
  marks-other j d = field-other 1 Marks K i v 1 Marks j (λ z. d (omega arith))

  pub place-of_marks : (j : ℕ) → place_of (with_marks K i v) j ≡ place_of K j
  unfolding place_of
  place-of_marks = field-beside 1 Marks K i v (omega arith) Low tt 0

  pub close-of_marks : (j : ℕ) → after_close (with_marks K i v) j ≡ after_close K j
  unfolding after_close
  close-of_marks j = field-other 1 Marks K i v 0 High j (λ z. omega arith)

  pub sep-of_marks : (j : ℕ) → sep_of (with_marks K i v) j ≡ sep_of K j
  unfolding sep_of
  sep-of_marks = field-beside 1 Marks K i v (omega arith) Low tt 1

  pub closer-of_marks : (j : ℕ) → closer_of (with_marks K i v) j ≡ closer_of K j
  unfolding closer_of
  closer-of_marks = field-beside 1 Marks K i v (omega arith) Closer tt 1

  pub marks-beyond : (x : ℕ) → record_words (i + 1) ≤ x → get_or (with_marks K i v) x 0 ≡ get_or K x 0
  marks-beyond = field-beyond 1 Marks K i v (omega arith)

  -- Another closer.
  pub closer-length : length (with_closer K i v) ≡ length K
  closer-length = field-length 1 Closer K i v

  pub closer-same : Whole K i → InCloser v → closer_of (with_closer K i v) i ≡ v
  unfolding closer_of
  closer-same = field-same 1 Closer K i v (omega arith)

  pub closer-other : (j : ℕ) → (j ≡ i → ⊥) → closer_of (with_closer K i v) j ≡ closer_of K j
  unfolding closer_of
  closer-other j d = field-other 1 Closer K i v 1 Closer j (λ z. d (omega arith))

  pub place-of_closer : (j : ℕ) → place_of (with_closer K i v) j ≡ place_of K j
  unfolding place_of
  place-of_closer = field-beside 1 Closer K i v (omega arith) Low tt 0

  pub close-of_closer : (j : ℕ) → after_close (with_closer K i v) j ≡ after_close K j
  unfolding after_close
  close-of_closer j = field-other 1 Closer K i v 0 High j (λ z. omega arith)

  pub sep-of_closer : (j : ℕ) → sep_of (with_closer K i v) j ≡ sep_of K j
  unfolding sep_of
  sep-of_closer = field-beside 1 Closer K i v (omega arith) Low tt 1

  pub marks-of_closer : (j : ℕ) → marks_of (with_closer K i v) j ≡ marks_of K j
  unfolding marks_of
  marks-of_closer = field-beside 1 Closer K i v (omega arith) Marks tt 1

  pub closer-beyond : (x : ℕ) → record_words (i + 1) ≤ x → get_or (with_closer K i v) x 0 ≡ get_or K x 0
  closer-beyond = field-beyond 1 Closer K i v (omega arith)

-- a closer is stored by its low bits
pub closer-low : (K : List ℕ) (i v : ℕ) → with_closer K i (v % closer_size) ≡ with_closer K i v
unfolding with_field
closer-low K i v = let z : v % closer_size % closer_size ≡ v % closer_size = omega arith in rw z

-- What a store of marks or of a closer keeps.
pub kept_refl : (K : List ℕ) → Kept K K
kept_refl K = record { long = refl; place = λ i. refl; close = λ i. refl; sep = λ i. refl }

pub kept_trans : {K L J : List ℕ} → Kept K L → Kept L J → Kept K J
kept_trans p q = record { long = q.long ∙ p.long; place = λ i. q.place i ∙ p.place i; close = λ i. q.close i ∙ p.close i; sep = λ i. q.sep i ∙ p.sep i }

pub marks-kept : (K : List ℕ) (i v : ℕ) → Kept K (with_marks K i v)
marks-kept K i v = record { long = marks-length K i v; place = place-of_marks K i v; close = close-of_marks K i v; sep = sep-of_marks K i v }

pub closer-kept : (K : List ℕ) (i v : ℕ) → Kept K (with_closer K i v)
closer-kept K i v = record { long = closer-length K i v; place = place-of_closer K i v; close = close-of_closer K i v; sep = sep-of_closer K i v }
