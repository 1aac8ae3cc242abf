-- The steps of the definition and of the code, with the closers so far.
use Prim.Native.Nat.{ℕ, ◌+◌, ◌-◌, ◌%◌, ◌^◌, ◌≤◌, ◌<◌}
use mathlib.Core.Path.{◌≡◌, refl, sym, ◌∙◌, subst}
use mathlib.Core.List.{List}
use mathlib.Core.Option.{none, some}
use mathlib.Core.Bool.{Bool, true, false}
use native.Mathlib.Omega.{arith}
use native.Mathlib.Decide.{ℕ_discrete}
use lib.Dec.{ltb}
use borrow.Author.Tests.{ltb-true, ltb-false}
use lib.ListN.{length, get_or, set, length-set}
use lib.Seq.{get_or-set_same, get_or-set_other}
use Rattle.reading.specs.Entries.{Entry}
use Rattle.reading.specs.Reading.{State, Mark, slot, advance}
use Rattle.records.specs.Record.{record_words, marks_of, closer_of, with_closer}
use Rattle.stores.proofs.Stores.{closer-kept, closer-same, closer-other, closer-of_marks, marks-of_closer, marks-kept, marks-length}
use Rattle.lookahead.specs.Tests.{test_at}
use Rattle.lookahead.specs.Takes.{looked}
use Rattle.marks.specs.Marks.{with_mark}
use Rattle.closers_notes.specs.Notes.{gave_up}
use Rattle.closers_notes.proofs.Notes.{cleared-kept, cleared-marks, cleared-below, cleared-inside, cleared-behind}
use Rattle.reading_words.specs.Meet as words
use Rattle.reading_words.specs.Meet.{Input, Stands, Marks}
use Rattle.reading_words.proofs.Kit as steps
use Rattle.reading_words.proofs.Kit.{Same, tick, shut, given-kept}
use Rattle.reading_words.proofs.Attempts.{mark_number, marked, mark_set}
use Rattle.closers_pass.specs.Meet.{Closed, At}

-- without the closers
pub bare : {X t : List ℕ} {n : ℕ} {K : List ℕ} {I : Input} {s : State} {p u : ℕ} → At X t n K p u I s → words.At X t n K p u I s
bare a = record { given = a.given; marks = a.marks; pos = a.pos; takes = a.takes }

-- the same closers, at a position no smaller
pub closed_on : {n p q : ℕ} {c : List ℕ} → Closed n p c → p ≤ q → Closed n q c
closed_on a h = record { size = a.size; few = a.few; free = λ j l. a.free j (omega arith) }

module _ {X t : List ℕ} {n : ℕ} {K : List ℕ} {I : Input} {s : State} where
  pub at_tick : {p u : ℕ} → At X t n K p u I s → At X t n K (p + 1) ((u + 1) % 2 ^ 32) I (tick s)
  at_tick a =
      let b = steps.at_tick (bare a) in
      record { given = b.given; marks = b.marks; noted = a.noted; closed = closed_on a.closed (omega arith); pos = b.pos; takes = b.takes }

module _ {X t : List ℕ} {n : ℕ} {K : List ℕ} {I : Input} {s : State} {p u : ℕ} {ok : Entry → Bool} (f : ℕ → Bool) (a : At X t n K p u I s) (same : Same ok f) where
  pub took : test_at t K n f p ≡ true → (q : Stands t K I.es p) × (advance I.text I.es ok s ≡ (some q.entry, tick s))
  took h = steps.took f (bare a) same h

  pub record Passed : Type 0 where
    pub state : State
    pub runs : advance I.text I.es ok s ≡ (none, state)
    pub at : At X t n K p (looked n p u) I state

  pub passed : test_at t K n f p ≡ false → Passed
  passed h =
      let q = steps.passed f (bare a) same h in
      let z : s.pos ≡ q.state.pos = sym a.pos ∙ q.at.pos in
      record {
        state = q.state;
        runs = q.runs;
        at = record {
          given = q.at.given;
          marks = q.at.marks;
          noted = rw q.closers a.noted;
          closed = rw q.closers (subst (λ (m : ℕ). Closed n m s.closers) z a.closed);
          pos = q.at.pos;
          takes = q.at.takes;
        };
      }

-- what the code's words are after a closer is noted
pub at_shut : {X t : List ℕ} {n : ℕ} {K L : List ℕ} {I : Input} {s : State} {p u : ℕ} (i k : ℕ) → At X t n K p u I s → i < p → p ≡ k + 1 → p ≤ n → n ≤ 4096 → record_words n ≤ length K → L ≡ with_closer K i (n - k) → At X t n L p u I (shut i s)
at_shut {n = n} {K = K} {s = s} {p = p} i k a l h b few fit hl =
    let z : s.pos - 1 ≡ k = omega (arith, a.pos) in
    rw (hl, z) (record {
      given = given-kept (closer-kept K i (n - k)) a.given;
      marks = record { held = a.marks.held; words = λ j r. marks-of_closer K i (n - k) j ∙ a.marks.words j r };
      noted = record { words = λ j r. own j r (ℕ_discrete j i) };
      closed = record {
        size = length-set s.closers i k ∙ a.closed.size;
        few = λ j. most j (ℕ_discrete j i);
        free = λ j r. get_or-set_other s.closers i j k n (λ e. omega (arith, a.pos)) ∙ a.closed.free j r;
      };
      pos = a.pos;
      takes = a.takes;
    })
  where
    set_here : get_or (set s.closers i k) i n ≡ k
    set_here = get_or-set_same s.closers i k n (omega (arith, a.closed.size))

    own : (j : ℕ) → j < n → Dec (j ≡ i) → closer_of (with_closer K i (n - k)) j ≡ n - get_or (set s.closers i k) j n
    own j r (yes e) = rw (e, set_here) (closer-same K i (n - k) (omega arith) (omega arith))
    own j r (no d) = closer-other K i (n - k) j d ∙ a.noted.words j r ∙ sym (rw (get_or-set_other s.closers i j k n d))

    most : (j : ℕ) → Dec (j ≡ i) → get_or (set s.closers i k) j n ≤ n
    most j (yes e) = rw (e, set_here) (omega arith)
    most j (no d) = rw (get_or-set_other s.closers i j k n d) (a.closed.few j)

-- what they are after an attempt is given back: v is the state that it came to, from s
pub at_lost : {X t : List ℕ} {n : ℕ} {K L K₀ : List ℕ} {I : Input} {s v : State} {p u p₀ u₀ : ℕ} (m : Mark) (i : ℕ) → At X t n K p u I v → At X t n K₀ p₀ u₀ I s → i < n → record_words n ≤ length K
    → ((j : ℕ) → j < s.pos → get_or v.closers j n ≡ get_or s.closers j n)
    → L ≡ gave_up i (mark_number m) p₀ p K → At X t n L p₀ u I (record { pos = s.pos; takes = v.takes; marks = set v.marks (slot m i) true; closers = s.closers })
at_lost {n = n} {K = K} {s = s} {v = v} {p = p} {p₀ = p₀} m i a a₀ h fit low g =
    rw g (record {
      given = given-kept (cleared-kept (p - p₀) p₀ (marked K m i)) (given-kept (marks-kept K i _) a.given);
      marks = record { held = q.held; words = λ j l. cleared-marks (p - p₀) p₀ (marked K m i) j ∙ q.words j l };
      noted = record { words = λ j l. go j l (ltb j p₀) refl (ltb j p) refl };
      closed = a₀.closed;
      pos = a₀.pos;
      takes = a.takes;
    })
  where
    none_left : (n : ℕ) → n - n ≡ 0
    none_left n = omega arith

    q : Marks n (marked K m i) (set v.marks (slot m i) true)
    q = mark_set m i a.marks h (omega arith)

    before : (j : ℕ) → j < n → closer_of (marked K m i) j ≡ n - get_or v.closers j n
    before j l = closer-of_marks K i _ j ∙ a.noted.words j l

    go : (j : ℕ) → j < n → (b : Bool) → ltb j p₀ ≡ b → (c : Bool) → ltb j p ≡ c → closer_of (gave_up i (mark_number m) p₀ p K) j ≡ n - get_or s.closers j n
    go j l true e c d =
        let y : j < p₀ = ltb-true j p₀ e in
        cleared-below (p - p₀) p₀ (marked K m i) j y ∙ before j l ∙ rw (low j (omega (arith, a₀.pos)))
    go j l false e true d =
        let y : p₀ ≤ j = ltb-false j p₀ e in
        let z : j < p = ltb-true j p d in
        cleared-inside (p - p₀) p₀ (marked K m i) j y (omega arith) (omega (arith, marks-length K i (with_mark (marks_of K i) (mark_number m)))) ∙ sym (rw (a₀.closed.free j (omega (arith, a₀.pos))) (none_left n))
    go j l false e false d =
        let y : p₀ ≤ j = ltb-false j p₀ e in
        let z : p ≤ j = ltb-false j p d in
        cleared-behind (p - p₀) p₀ (marked K m i) j (omega arith) ∙ before j l ∙ rw (a.closed.free j (omega (arith, a.pos)), a₀.closed.free j (omega (arith, a₀.pos)))
