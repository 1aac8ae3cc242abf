-- A record is its five fields: records that are the same, in lists of words that are not.
use Prim.Native.Nat.{ℕ, suc, ◌+◌, ◌*◌, ◌/◌, ◌%◌, ◌≤◌, ◌<◌}
use mathlib.Core.Path.{◌≡◌, refl, sym, ap, ◌∙◌}
use mathlib.Core.List.{List, ◌++◌}
use native.Mathlib.Omega.{arith}
use native.Mathlib.Decide.{ℕ_discrete}
use lib.ListN.{length, get_or, drop, get_or-append}
use lib.Seq.{get_or-drop}
use Rattle.records.specs.declared.bits.Bits.TheVariants.{Low, High, Marks, Closer}
use Rattle.records.specs.Record.{record_words, InHalf, bits_of, place_of, after_close, sep_of, marks_of, closer_of, record_of}

-- the record i of K is the record j of L
pub record Same (K : List ℕ) (i : ℕ) (L : List ℕ) (j : ℕ) : Type 0 where
  pub place : place_of K i ≡ place_of L j
  pub close : after_close K i ≡ after_close L j
  pub sep : sep_of K i ≡ sep_of L j
  pub marks : marks_of K i ≡ marks_of L j
  pub closer : closer_of K i ≡ closer_of L j

-- if its two words are
pub same-words : (K : List ℕ) (i : ℕ) (L : List ℕ) (j : ℕ) → ((k : ℕ) → k < 2 → get_or K (2 * i + k) 0 ≡ get_or L (2 * j + k) 0) → Same K i L j
unfolding place_of after_close sep_of marks_of closer_of
same-words K i L j h =
    let a = h 0 (omega arith) in
    let b = h 1 (omega arith) in
    record { place = ap (bits_of Low) a; close = ap (bits_of High) a; sep = ap (bits_of Low) b; marks = ap (bits_of Marks) b; closer = ap (bits_of Closer) b }

-- the high bits are the marks and the closer
high : (w : ℕ) → bits_of High w ≡ bits_of Marks w + 8 * bits_of Closer w
high w = omega arith

rejoin : (v w : ℕ) → bits_of Low v ≡ bits_of Low w → bits_of Marks v ≡ bits_of Marks w → bits_of Closer v ≡ bits_of Closer w → v ≡ w
rejoin v w a b c =
    let h : bits_of High v ≡ bits_of High w = high v ∙ rw (b, c) (sym (high w)) in
    omega (arith, a, h)

-- where n records are the same, so are their words
pub words_same : (K L : List ℕ) (n : ℕ) → ((j : ℕ) → j < n → Same K j L j) → (x : ℕ) → x < record_words n → get_or K x 0 ≡ get_or L x 0
unfolding place_of after_close sep_of marks_of closer_of
words_same K L n h x l = go (ℕ_discrete (x % 2) 0)
  where
    go : Dec (x % 2 ≡ 0) → get_or K x 0 ≡ get_or L x 0
    go (yes e) =
        let z : 2 * (x / 2) + 0 ≡ x = omega arith in
        let s = h (x / 2) (omega arith) in
        let a : get_or K (2 * (x / 2) + 0) 0 ≡ get_or L (2 * (x / 2) + 0) 0 = omega (arith, s.place, s.close) in
        rw z at a
    go (no d) =
        let z : 2 * (x / 2) + 1 ≡ x = omega arith in
        let s = h (x / 2) (omega arith) in
        let a : get_or K (2 * (x / 2) + 1) 0 ≡ get_or L (2 * (x / 2) + 1) 0 = rejoin (get_or K (2 * (x / 2) + 1) 0) (get_or L (2 * (x / 2) + 1) 0) s.sep s.marks s.closer in
        rw z at a

-- the records of a list behind some of them, and of one in front
pub same_drop : (K : List ℕ) (n i : ℕ) → Same (drop (record_words n) K) i K (n + i)
same_drop K n i =
    same-words (drop (record_words n) K) i K (n + i)
    (λ k l. let z : 2 * n + (2 * i + k) ≡ 2 * (n + i) + k = omega arith in get_or-drop (2 * n) K (2 * i + k) 0 ∙ rw z)

pub same-append : (K L : List ℕ) (i : ℕ) → record_words (i + 1) ≤ length K → Same (K ++ L) i K i
same-append K L i h = same-words (K ++ L) i K i (λ k l. get_or-append K L 0 (2 * i + k) (omega arith))

-- a record in front
module _ (place close sep : ℕ) (K : List ℕ) where
  pub length-record : length (record_of place close sep K) ≡ record_words 1 + length K
  unfolding record_of
  length-record = omega arith

  pub drop-record : drop (record_words 1) (record_of place close sep K) ≡ K
  unfolding record_of
  drop-record = refl

  pub next-record : (i : ℕ) → Same (record_of place close sep K) (suc i) K i
  unfolding record_of
  next-record i =
      same-words (record_of place close sep K) (suc i) K i
      (λ k l. let z : 2 * suc i + k ≡ suc (suc (2 * i + k)) = omega arith in rw z)

  module _ (h : InHalf place) where
    pub first-place : place_of (record_of place close sep K) 0 ≡ place
    unfolding place_of record_of
    first-place = omega arith

    pub first-close : after_close (record_of place close sep K) 0 ≡ close
    unfolding after_close record_of
    first-close = omega arith

  module _ (h : InHalf sep) where
    pub first-sep : sep_of (record_of place close sep K) 0 ≡ sep
    unfolding sep_of record_of
    first-sep = omega arith

    pub first_marks : marks_of (record_of place close sep K) 0 ≡ 0
    unfolding marks_of record_of
    first_marks = omega arith

    pub first-closer : closer_of (record_of place close sep K) 0 ≡ 0
    unfolding closer_of record_of
    first-closer = omega arith
