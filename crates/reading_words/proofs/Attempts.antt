-- The marks as numbers: reading one, and setting one; and the definition's attempts as equations.
use Prim.Native.Nat.{ℕ, ◌+◌, ◌*◌, ◌<◌}
use mathlib.Core.Path.{◌≡◌, refl, sym, ap, ◌∙◌, subst}
use mathlib.Core.List.{List}
use mathlib.Core.Option.{none, some}
use mathlib.Core.Bool.{Bool, true, false}
use native.Mathlib.Omega.{arith}
use lib.ListN.{length, get_or, set, length-set}
use lib.Dec.{eqb}
use borrow.Author.Tests.{eqb-true, eqb-false}
use Rattle.tree.specs.Tree.{Node}
use Rattle.reading.specs.Stop.{Stop}
use Rattle.reading.specs.Entries.{Entry}
use Rattle.reading.specs.Reading.{State, M, Mark, open_mark, matrix_mark, slot, Try, made, lost, nought, failed, give_up, attempt}
use Rattle.records.specs.Record.{InMarks, marks_of, Whole, with_marks}
use Rattle.stores.proofs.Stores.{marks-same, marks-other, marks-kept}
use Rattle.marks.specs.Marks.{is_marked, with_mark}
use Rattle.reading_words.specs.Entry.{marks_word}
use Rattle.reading_words.specs.Meet.{Input, Marks, At, Known}
use Rattle.reading_words.proofs.Kit.{bind, ret, at_current, if_true, if_false, given-kept}
use lib.Seq.{get_or-set_same, get_or-set_other}

-- the number of a mark among the marks
abbrev pub mark_number : Mark → ℕ
mark_number (open_mark Stop.none) = 1
mark_number (open_mark Stop.sep) = 2
mark_number matrix_mark = 4

pub marks-small : (a b c : Bool) → marks_word a b c < 8
marks-small true true true = omega arith
marks-small true true false = omega arith
marks-small true false true = omega arith
marks-small true false false = omega arith
marks-small false true true = omega arith
marks-small false true false = omega arith
marks-small false false true = omega arith
marks-small false false false = omega arith

marks-first : (a b c : Bool) → (is_marked (marks_word a b c) 1 ≡ a) × (with_mark (marks_word a b c) 1 ≡ marks_word true b c)
unfolding is_marked with_mark
marks-first true true true = (refl, refl)
marks-first true true false = (refl, refl)
marks-first true false true = (refl, refl)
marks-first true false false = (refl, refl)
marks-first false true true = (refl, refl)
marks-first false true false = (refl, refl)
marks-first false false true = (refl, refl)
marks-first false false false = (refl, refl)

marks-second : (a b c : Bool) → (is_marked (marks_word a b c) 2 ≡ b) × (with_mark (marks_word a b c) 2 ≡ marks_word a true c)
unfolding is_marked with_mark
marks-second true true true = (refl, refl)
marks-second true true false = (refl, refl)
marks-second true false true = (refl, refl)
marks-second true false false = (refl, refl)
marks-second false true true = (refl, refl)
marks-second false true false = (refl, refl)
marks-second false false true = (refl, refl)
marks-second false false false = (refl, refl)

marks-third : (a b c : Bool) → (is_marked (marks_word a b c) 4 ≡ c) × (with_mark (marks_word a b c) 4 ≡ marks_word a b true)
unfolding is_marked with_mark
marks-third true true true = (refl, refl)
marks-third true true false = (refl, refl)
marks-third true false true = (refl, refl)
marks-third true false false = (refl, refl)
marks-third false true true = (refl, refl)
marks-third false true false = (refl, refl)
marks-third false false true = (refl, refl)
marks-third false false false = (refl, refl)

-- the marks of the entry i say whether it has failed
pub mark-is : {n : ℕ} {K : List ℕ} {l : List Bool} (m : Mark) (i : ℕ) → Marks n K l → i < n → is_marked (marks_of K i) (mark_number m) ≡ get_or l (slot m i) false
unfolding slot
mark-is {l = l} (open_mark Stop.none) i q h = ap (λ (w : ℕ). is_marked w 1) (q.words i h) ∙ (marks-first (get_or l (3 * i) false) (get_or l (3 * i + 1) false) (get_or l (3 * i + 2) false)).0
mark-is {l = l} (open_mark Stop.sep) i q h = ap (λ (w : ℕ). is_marked w 2) (q.words i h) ∙ (marks-second (get_or l (3 * i) false) (get_or l (3 * i + 1) false) (get_or l (3 * i + 2) false)).0
mark-is {l = l} matrix_mark i q h = ap (λ (w : ℕ). is_marked w 4) (q.words i h) ∙ (marks-third (get_or l (3 * i) false) (get_or l (3 * i + 1) false) (get_or l (3 * i + 2) false)).0

-- a failed attempt sets it
module _ (l : List Bool) (p : ℕ) where
  here-true : p < length l → get_or (set l p true) p false ≡ true
  here-true h = get_or-set_same l p true false h

  there-same : (j : ℕ) → (j ≡ p → ⊥) → get_or (set l p true) j false ≡ get_or l j false
  there-same j h = get_or-set_other l p j true false h

-- the three marks of the entry j as one number
abbrev marks_at : List Bool → ℕ → ℕ
marks_at l j = marks_word (get_or l (3 * j) false) (get_or l (3 * j + 1) false) (get_or l (3 * j + 2) false)

own-marks : (m : Mark) (i : ℕ) (l : List Bool) → 3 * i + 2 < length l → with_mark (marks_at l i) (mark_number m) ≡ marks_at (set l (slot m i) true) i
unfolding slot
own-marks (open_mark Stop.none) i l h = (marks-first (get_or l (3 * i) false) (get_or l (3 * i + 1) false) (get_or l (3 * i + 2) false)).1 ∙ sym (rw (here-true l (3 * i) (omega arith), there-same l (3 * i) (3 * i + 1) (λ z. omega arith), there-same l (3 * i) (3 * i + 2) (λ z. omega arith)))
own-marks (open_mark Stop.sep) i l h = (marks-second (get_or l (3 * i) false) (get_or l (3 * i + 1) false) (get_or l (3 * i + 2) false)).1 ∙ sym (rw (here-true l (3 * i + 1) (omega arith), there-same l (3 * i + 1) (3 * i) (λ z. omega arith), there-same l (3 * i + 1) (3 * i + 2) (λ z. omega arith)))
own-marks matrix_mark i l h = (marks-third (get_or l (3 * i) false) (get_or l (3 * i + 1) false) (get_or l (3 * i + 2) false)).1 ∙ sym (rw (here-true l (3 * i + 2) (omega arith), there-same l (3 * i + 2) (3 * i) (λ z. omega arith), there-same l (3 * i + 2) (3 * i + 1) (λ z. omega arith)))

slot-in : (m : Mark) (i j k : ℕ) → k < 3 → (j ≡ i → ⊥) → 3 * j + k ≡ slot m i → ⊥
unfolding slot
slot-in (open_mark Stop.none) i j k h d z = d (omega arith)
slot-in (open_mark Stop.sep) i j k h d z = d (omega arith)
slot-in matrix_mark i j k h d z = d (omega arith)

other-marks : (m : Mark) (i j : ℕ) (l : List Bool) → (j ≡ i → ⊥) → marks_at l j ≡ marks_at (set l (slot m i) true) j
other-marks m i j l d =
    sym (rw (there-same l (slot m i) (3 * j) (λ z. let y : 3 * j + 0 ≡ 3 * j = omega arith in slot-in m i j 0 (omega arith) d (y ∙ z)), there-same l (slot m i) (3 * j + 1) (slot-in m i j 1 (omega arith) d), there-same l (slot m i) (3 * j + 2) (slot-in m i j 2 (omega arith) d)))

-- the words after a failed attempt m at i
abbrev pub marked : List ℕ → Mark → ℕ → List ℕ
marked K m i = with_marks K i (with_mark (marks_of K i) (mark_number m))

pub mark_set : {n : ℕ} {K : List ℕ} {l : List Bool} (m : Mark) (i : ℕ) → Marks n K l → i < n → Whole K i → Marks n (marked K m i) (set l (slot m i) true)
mark_set {n} {K} {l} m i q h fit = record {
  held = length-set l (slot m i) true ∙ q.held;
  words = λ j k. go j k (eqb j i) refl;
}
  where
    own : with_mark (marks_of K i) (mark_number m) ≡ marks_at (set l (slot m i) true) i
    own = ap (λ (w : ℕ). with_mark w (mark_number m)) (q.words i h) ∙ own-marks m i l (omega (arith, q.held))

    small : InMarks (with_mark (marks_of K i) (mark_number m))
    small =
        let r = set l (slot m i) true in
        omega (arith, own, marks-small (get_or r (3 * i) false) (get_or r (3 * i + 1) false) (get_or r (3 * i + 2) false))

    go : (j : ℕ) → j < n → (b : Bool) → eqb j i ≡ b → marks_of (marked K m i) j ≡ marks_at (set l (slot m i) true) j
    go j k true e =
        subst (λ (r : ℕ). marks_of (marked K m i) r ≡ marks_at (set l (slot m i) true) r) (sym (eqb-true j i e))
        (marks-same K i (with_mark (marks_of K i) (mark_number m)) fit small ∙ own)
    go j k false e =
        let d : (j ≡ i → ⊥) = eqb-false j i e in
        marks-other K i (with_mark (marks_of K i) (mark_number m)) j d ∙ q.words j k ∙ other-marks m i j l d

-- what the code's words are after it
pub at_lost : {X t : List ℕ} {n : ℕ} {K L K₀ : List ℕ} {I : Input} {s v : State} {p u p₀ u₀ : ℕ} (m : Mark) (i : ℕ) → At X t n K p u I v → At X t n K₀ p₀ u₀ I s → i < n → Whole K i
    → L ≡ marked K m i → At X t n L p₀ u I (record { pos = s.pos; takes = v.takes; marks = set v.marks (slot m i) true; closers = s.closers })
at_lost m i a a₀ h fit hl = rw hl (record { given = given-kept (marks-kept _ i _) a.given; marks = mark_set m i a.marks h fit; pos = a₀.pos; takes = a.takes })

pub known-lost : {X t : List ℕ} {n : ℕ} {K L : List ℕ} (m : Mark) (i : ℕ) → Known X t n K → i < n → Whole K i
    → L ≡ marked K m i → Known X t n L
known-lost {K = K} m i k h fit hl = rw hl (record { input = k.input; marked = set k.marked (slot m i) true; given = given-kept (marks-kept K i _) k.given; marks = mark_set m i k.marks h fit })

-- The definition's attempts.
module _ (text : List ℕ) (es : List Entry) (m : Mark) (i : ℕ) (body : M Try) (s : State) where
  known-runs : (b : Bool) → get_or s.marks (slot m i) false ≡ b → failed text es true m i s ≡ (b, s)
  unfolding failed
  known-runs b h = rw h

  pub attempt-known : get_or s.marks (slot m i) false ≡ true → attempt text es true m i body s ≡ (none, s)
  unfolding attempt
  attempt-known h = bind _ _ s (at_current s) ∙ bind _ _ s (known-runs true h) ∙ if_true _ _ s refl ∙ ret _ _

  module _ (h : get_or s.marks (slot m i) false ≡ false) {u : State} where
    pub attempt-made : (x : Node) → body s ≡ (made x, u) → attempt text es true m i body s ≡ (some x, u)
    unfolding attempt
    attempt-made x k = bind _ _ s (at_current s) ∙ bind _ _ s (known-runs false h) ∙ if_false _ _ s refl ∙ bind _ _ s k ∙ ret _ _

    pub attempt-nought : body s ≡ (nought, u) → attempt text es true m i body s ≡ (none, u)
    unfolding attempt
    attempt-nought k = bind _ _ s (at_current s) ∙ bind _ _ s (known-runs false h) ∙ if_false _ _ s refl ∙ bind _ _ s k ∙ ret _ _

    pub attempt-lost : body s ≡ (lost, u) → attempt text es true m i body s ≡ (none, record { pos = s.pos; takes = u.takes; marks = set u.marks (slot m i) true; closers = s.closers })
    unfolding attempt give_up
    attempt-lost k = bind _ _ s (at_current s) ∙ bind _ _ s (known-runs false h) ∙ if_false _ _ s refl ∙ bind _ _ s k
