-- The definition's steps as equations, and the code's tests and moves beside them.
use Prim.Native.Nat.{ℕ, zero, suc, ◌+◌, ◌-◌, ◌%◌, ◌^◌, ◌≤◌, ◌<◌}
use mathlib.Core.Path.{◌≡◌, refl, sym, ap, ◌∙◌}
use mathlib.Core.List.{List, [], ◌∷◌}
use mathlib.Core.Option.{Option, none, some}
use mathlib.Core.Bool.{Bool, true, false, not, ◌||◌}
use native.Mathlib.Omega.{arith}
use native.Mathlib.Numerals.{add-one}
use native.Mathlib.Nat.{mod-add-mod, mod-mod}
use lib.ListN.{length, set, get_elem?}
use lib.Dec.{eqb, ltb}
use borrow.Author.Tests.{ltb-true, ltb-false, lt-ltb, le-ltb, eqb-true, eqb-false, eq-eqb, ne_eqb}
use Rattle.tokens.specs.declared.token.Token.{Token}
use Rattle.tokens.specs.declared.token.Token.TheVariants as token
use Rattle.tokens.specs.Kinds.{number_of}
use Rattle.reading.specs.Entries.{Entry, is}
use Rattle.reading.specs.Reading.{State, M, return, ◌>>=◌, when◌then◌else◌, here, current, closed, advance, heads, marks_script, begins, stops, level, next_simple, next_script_func, step, is_at}
use Rattle.lookahead.proofs.Testing.{test_below}
use Rattle.records.specs.Record.{place_of, is_placed, kind_of, start_of, len_of, space_start, space_len, Kept}
use Rattle.lookahead.specs.Tests.{test_at, is_kind, heads_kind, marks_kind, begins_kind}
use Rattle.lookahead.specs.Takes.{looked}
use Rattle.reading_words.specs.Entry.{Safe}
use Rattle.reading_words.specs.Meet.{Input, Row, Stands, Given, At, Known, readers, stop_of}

-- The monad.
pub bind : {A B : Type 0} (m : M A) (f : A → M B) (s : State) {t : State} {a : A} → m s ≡ (a, t) → (m >>= f) s ≡ f a t
unfolding ◌>>=◌
bind {A} {B} m f s h = ap (λ (r : A × State). f r.0 r.1) h

pub ret : {A : Type 0} (a : A) (s : State) → return a s ≡ (a, s)
unfolding return
ret a s = refl

-- the state when the token just taken is the closer of the entry i
abbrev pub shut : ℕ → State → State
shut i s = record { pos = s.pos; takes = s.takes; marks = s.marks; closers = set s.closers i (s.pos - 1) }

pub ret-closed : {A : Type 0} (i : ℕ) (a : A) (s : State) → closed i a s ≡ (a, shut i s)
unfolding closed
ret-closed i a s = refl

pub at_current : (s : State) → current s ≡ (s, s)
unfolding current
at_current s = refl

pub at_here : (s : State) → here s ≡ (s.pos, s)
unfolding here
at_here s = refl

pub if_true : {A : Type 0} {b : Bool} (m n : M A) (s : State) → b ≡ true → (when b then m else n) s ≡ m s
unfolding when◌then◌else◌
if_true m n s h = rw h

pub if_false : {A : Type 0} {b : Bool} (m n : M A) (s : State) → b ≡ false → (when b then m else n) s ≡ n s
unfolding when◌then◌else◌
if_false m n s h = rw h

abbrev pub tick : State → State
tick s = record { pos = suc s.pos; takes = suc s.takes; marks = s.marks; closers = s.closers }

abbrev peek : State → State
peek s = record { pos = s.pos; takes = suc s.takes; marks = s.marks; closers = s.closers }

pub advance-took : (text : List ℕ) (es : List Entry) (ok : Entry → Bool) (s : State) (e : Entry) → get_elem? es s.pos ≡ some e → ok e ≡ true → advance text es ok s ≡ (some e, tick s)
unfolding advance
advance-took text es ok s e h k = rw (advance, h, k)

advance-passed : (text : List ℕ) (es : List Entry) (ok : Entry → Bool) (s : State) (e : Entry) → get_elem? es s.pos ≡ some e → ok e ≡ false → advance text es ok s ≡ (none, peek s)
unfolding advance
advance-passed text es ok s e h k = rw (h, advance, k)

pub advance-end : (text : List ℕ) (es : List Entry) (ok : Entry → Bool) (s : State) → get_elem? es s.pos ≡ none → advance text es ok s ≡ (none, s)
unfolding advance
advance-end text es ok s h = rw (h, advance)

pub past : {A : Type 0} (l : List A) (i : ℕ) → length l ≤ i → get_elem? l i ≡ none
past [] i h = refl
past (a ∷ l) zero h = absurd (omega arith)
past (a ∷ l) (suc i) h = past l i (omega arith)

-- What a test at a place of the list says.
pub at_some : (text : List ℕ) (es : List Entry) (ok : Entry → Bool) (p : ℕ) (e : Entry) → get_elem? es p ≡ some e → is_at text es ok p ≡ ok e
unfolding is_at
at_some text es ok p e h = rw (is_at, h)

pub at_none : (text : List ℕ) (es : List Entry) (ok : Entry → Bool) (p : ℕ) → get_elem? es p ≡ none → is_at text es ok p ≡ false
unfolding is_at
at_none text es ok p h = rw (h, is_at)

-- the same tokens
pub record Places (K L : List ℕ) : Type 0 where
  pub long : length L ≡ length K
  pub place : (i : ℕ) → place_of L i ≡ place_of K i

pub places-kept : {K L : List ℕ} → Kept K L → Places K L
places-kept p = record { long = p.long; place = p.place }

module _ {K L : List ℕ} (t : List ℕ) (p : Places K L) (i : ℕ) where
  same-placed : is_placed t L i ≡ is_placed t K i
  unfolding is_placed
  same-placed = rw (p.long, p.place i)

  pub same_kind : kind_of t L i ≡ kind_of t K i
  unfolding kind_of
  same_kind = rw (same-placed, p.place i)

  pub same_start : start_of t L i ≡ start_of t K i
  unfolding start_of
  same_start = rw (same-placed, p.place i)

  pub same_len : len_of t L i ≡ len_of t K i
  unfolding len_of
  same_len = rw (same-placed, p.place i)

  same-space : space_start t L i ≡ space_start t K i
  unfolding space_start
  same-space = rw (same-placed, p.place i)

  same-space_len : space_len t L i ≡ space_len t K i
  unfolding space_len
  same-space_len = rw (same-placed, p.place i)

  pub same_row : {e : Entry} → Row t K i e → Row t L i e
  same_row r = record { kind = same_kind ∙ r.kind; start = same_start ∙ r.start; len = same_len ∙ r.len; space = same-space ∙ r.space; space_size = same-space_len ∙ r.space_size }

pub safe-same : {n : ℕ} {X t K L : List ℕ} → Places K L → Safe n X t K → Safe n X t L
safe-same {n} {X} {t} p q = record {
  few = q.few;
  placed = λ i l. let w = q.placed i l in record { fit = omega (arith, w.fit, p.long); inside = omega (arith, w.inside, p.place i) };
  spans = λ i l. omega (arith, q.spans i l, same_start t p i, same_len t p i);
}

pub safe-kept : {n : ℕ} {X t K L : List ℕ} → Kept K L → Safe n X t K → Safe n X t L
safe-kept p q = safe-same (places-kept p) q

pub given-kept : {X t : List ℕ} {n : ℕ} {K L : List ℕ} {I : Input} → Kept K L → Given X t n K I → Given X t n L I
given-kept {X} {t} p q = record {
  text = q.text;
  size = q.size;
  stands = λ i h. let w = q.stands i h in record { entry = w.entry; there = w.there; row = same_row t (places-kept p) i w.row };
  linked = λ i h k. let w = q.linked i h (sym (same_kind t (places-kept p) i) ∙ k) in record { close = p.close i ∙ w.close; sep = p.sep i ∙ w.sep };
}

-- The code's moves.
more-takes : (a t : ℕ) → a % 2 ^ 32 ≡ t % 2 ^ 32 → (a + 1) % 2 ^ 32 % 2 ^ 32 ≡ suc t % 2 ^ 32
more-takes a t h = mod-mod (a + 1) (2 ^ 32) ∙ sym (mod-add-mod a (2 ^ 32) 1) ∙ ap (λ (k : ℕ). (k + 1) % 2 ^ 32) h ∙ mod-add-mod t (2 ^ 32) 1 ∙ ap (λ (k : ℕ). k % 2 ^ 32) (add-one t)

module _ {X t : List ℕ} {n : ℕ} {K : List ℕ} {I : Input} {s : State} where
  pub at_tick : {p u : ℕ} → At X t n K p u I s → At X t n K (p + 1) ((u + 1) % 2 ^ 32) I (tick s)
  at_tick {p} {u} a = record { given = a.given; marks = a.marks; pos = omega (arith, a.pos); takes = more-takes u s.takes a.takes }

  pub at_shut : {p u : ℕ} (i : ℕ) → At X t n K p u I s → At X t n K p u I (shut i s)
  at_shut i a = record { given = a.given; marks = a.marks; pos = a.pos; takes = a.takes }

-- some state stands at any position
pub some_at : {X t : List ℕ} {n : ℕ} {K : List ℕ} (k : Known X t n K) (p u : ℕ) → At X t n K p u k.input (record { pos = p; takes = u; marks = k.marked; closers = [] })
some_at k p u = record { given = k.given; marks = k.marks; pos = refl; takes = refl }

-- The row of an entry in hand.
same-entry : {a b : Entry} (o : Option Entry) → o ≡ some a → o ≡ some b → a ≡ b
same-entry o h k = cc

pub row_of : {X t : List ℕ} {n : ℕ} {K : List ℕ} {I : Input} {i : ℕ} {e : Entry} → Given X t n K I → i < n → get_elem? I.es i ≡ some e → Row t K i e
row_of {t = t} {K = K} {I = I} {i = i} {e = e} g h k =
    let w = g.stands i h in
    let z : w.entry ≡ e = same-entry (get_elem? I.es i) w.there k in
    rw z at w.row

-- A test of the code's on the entry at the cursor is the definition's.
abbrev pub Same : (Entry → Bool) → (ℕ → Bool) → Type 0
Same ok f = (e : Entry) → ok e ≡ f (number_of e.token)

module _ (t K : List ℕ) (n : ℕ) (f : ℕ → Bool) (i : ℕ) where
  pub test-kind : (b : Bool) → i < n → test_at t K n f i ≡ b → f (kind_of t K i) ≡ b
  unfolding test_at
  test-kind b h k = rw (lt-ltb i n h) at k

  pub test_in : i < n → test_at t K n f i ≡ f (kind_of t K i)
  unfolding test_at
  test_in h = rw (lt-ltb i n h)

  pub test-out : n ≤ i → test_at t K n f i ≡ false
  unfolding test_at
  test-out h = rw (le-ltb i n h)

module _ {X t : List ℕ} {n : ℕ} {K : List ℕ} {I : Input} {s : State} {p u : ℕ} {ok : Entry → Bool} (f : ℕ → Bool) (a : At X t n K p u I s) (same : Same ok f) where
  -- The test holds: the entry is taken.
  pub took : test_at t K n f p ≡ true → (q : Stands t K I.es p) × (advance I.text I.es ok s ≡ (some q.entry, tick s))
  took h =
      let b : p < n = test_below t K n f p h in
      let q = a.given.stands p b in
      let k : ok q.entry ≡ true = same q.entry ∙ ap f (sym q.row.kind) ∙ test-kind t K n f p true b h in
      (q, advance-took I.text I.es ok s q.entry (ap (λ (i : ℕ). get_elem? I.es i) (sym a.pos) ∙ q.there) k)

  -- It does not: the entry, if there is one, is given back, and a look counts it.
  pub record Passed : Type 0 where
    pub state : State
    pub runs : advance I.text I.es ok s ≡ (none, state)
    pub at : At X t n K p (looked n p u) I state
    pub closers : state.closers ≡ s.closers

  pub passed : test_at t K n f p ≡ false → Passed
  unfolding looked
  passed h = go (ltb p n) refl
    where
      go : (b : Bool) → ltb p n ≡ b → Passed
      go true e =
          let b : p < n = ltb-true p n e in
          let q = a.given.stands p b in
          let k : ok q.entry ≡ false = same q.entry ∙ ap f (sym q.row.kind) ∙ test-kind t K n f p false b h in
          record { state = peek s; runs = advance-passed I.text I.es ok s q.entry (ap (λ (i : ℕ). get_elem? I.es i) (sym a.pos) ∙ q.there) k; at = record { given = a.given; marks = a.marks; pos = a.pos; takes = rw e (more-takes u s.takes a.takes) }; closers = refl }
      go false e =
          let b : n ≤ p = ltb-false p n e in
          record { state = s; runs = advance-end I.text I.es ok s (past I.es s.pos (omega (arith, a.pos, a.given.size))); at = record { given = a.given; marks = a.marks; pos = a.pos; takes = rw e a.takes }; closers = refl }

-- Each of the definition's tests, by number.
eqb_sym : (a b : ℕ) → eqb a b ≡ eqb b a
eqb_sym a b = go (eqb a b) refl
  where
    go : (r : Bool) → eqb a b ≡ r → r ≡ eqb b a
    go true h = sym (eq-eqb b a (sym (eqb-true a b h)))
    go false h = sym (ne_eqb b a (λ z. eqb-false a b h (sym z)))

pub same-is : (k : Token) → Same (is k) (is_kind (number_of k))
unfolding is
same-is k e = eqb_sym (number_of k) (number_of e.token)

pub same-heads : (sg : Bool) → Same (heads sg) (heads_kind sg)
unfolding heads
same-heads sg e = rw (same-is token.Function e, same-is token.Sign e)

pub same-marks : Same marks_script marks_kind
unfolding marks_script
same-marks e = rw (same-is token.Super e, same-is token.Sub e)

three-or : (a b c : Bool) → not ((a || b) || c) ≡ not (b || (c || a))
three-or true true true = refl
three-or true true false = refl
three-or true false true = refl
three-or true false false = refl
three-or false true true = refl
three-or false true false = refl
three-or false false true = refl
three-or false false false = refl

pub same-begins : (stop : Bool) → Same (begins (stop_of stop)) (begins_kind stop)
unfolding begins stops
same-begins true e = rw (same-is token.Sep e, same-is token.CloseBracket e, same-is token.Space e) (three-or (eqb (number_of e.token) 3) (eqb (number_of e.token) 21) (eqb (number_of e.token) 23))
same-begins false e = rw (same-is token.CloseBracket e, same-is token.Space e) (three-or false (eqb (number_of e.token) 21) (eqb (number_of e.token) 23))

-- The kind of an entry in hand, by a test of its words.
pub kind-is : {t K : List ℕ} {n i : ℕ} {e : Entry} (k : Token) (b : Bool) → Row t K i e → i < n → test_at t K n (is_kind (number_of k)) i ≡ b → is k e ≡ b
kind-is {t} {K} {n} {i} {e} k b r l q = same-is k e ∙ ap (λ (w : ℕ). eqb w (number_of k)) (sym r.kind) ∙ test-kind t K n (is_kind (number_of k)) i b l q

-- A level of the readers.
pub level-simple : (I : Input) (d : ℕ) → d < 256 → (readers d I).simple ≡ next_simple I.text I.es true (readers (d + 1) I)
unfolding level step
level-simple I d h = let z : 256 - d ≡ suc (256 - (d + 1)) = omega arith in rw z

pub level-script_func : (I : Input) (d : ℕ) → d < 256 → (readers d I).script_func ≡ next_script_func I.text I.es true (readers (d + 1) I)
unfolding level step
level-script_func I d h = let z : 256 - d ≡ suc (256 - (d + 1)) = omega arith in rw z

pub deep-simple : (I : Input) (d : ℕ) → 256 ≤ d → (readers d I).simple ≡ (λ stop sg. return none)
unfolding level
deep-simple I d h = let z : 256 - d ≡ zero = omega arith in rw z

pub deep-script_func : (I : Input) (d : ℕ) → 256 ≤ d → (readers d I).script_func ≡ (λ stop sg. return none)
unfolding level
deep-script_func I d h = let z : 256 - d ≡ zero = omega arith in rw z
