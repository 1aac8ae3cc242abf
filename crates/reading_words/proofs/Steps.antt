-- The definition's steps as equations, and the tests of brackets, bars and rows, as both passes use them.
use mathlib.Core.Path.{◌∙◌, ◌≡◌, ap, refl, sym}
use Rattle.tree.specs.Tree.{Head, Node, Nodes, ◌▸◌, ◌⧺◌, count, end, node, nowhere}
use Prim.Native.Nat.{◌+◌, ◌-◌, ◌<◌, ◌≤◌, suc, zero, ℕ}
use Rattle.reading.specs.Reading.{M, Readers, State, Try, ◌>>=◌, advance, alike, any, at_open_close, bar_body, begun, closed, ends_first, ends_operand, here, when◌then◌else◌, intermediates, is_at, is_bar, is_byte, last_of, level, look, lost, made, more_rows, next_bracket, next_intermediate, next_matrix_row, next_open_close_group, next_script_func, nought, open_mark, parse, prefixes, return, row_brackets, row_cells, same_text, slot, spaced, text_of, try_matrix, unscripted}
use mathlib.Core.Option.{Option, none, some}
use Rattle.reading_words.specs.Meet.{Given, Input, Marks, Row, Stands, Until, bracket_at, intermediate_at, is_none, is_pair, items_at, items_from, last_after, readers, script_func_at, stop_of}
use mathlib.Core.List.{List, [], ◌∷◌, ◌++◌, append_assoc}
use Rattle.reading.specs.Entries.{Entry, is}
use Rattle.spans.specs.Spans.{byte_at, same_at}
use mathlib.Core.Bool.{Bool, ◌&&◌, ◌||◌, cond, false, true}
use Rattle.records.specs.Record.{kind_of, marks_of, Kept}
use borrow.Author.Tests.{eq-eqb, eqb-false, eqb-true, le-ltb, lt-ltb, ltb-false, ltb-true, ne_eqb}
use Rattle.lookahead.specs.Tests.{begins_kind, is_kind, test_at}
use lib.Dec.{eqb, ltb}
use Rattle.reading_words.proofs.Kit.{advance-end, advance-took, at_here, at_none, at_some, bind, if_false, if_true, level-script_func, past, places-kept, ret, row_of, same-is, same_kind, same_len, same_start, test_in, test-out, tick}
use Rattle.brackets.specs.Brackets.{bar_at}
use lib.ListN.{get_or, get_elem?, length}
use native.Mathlib.Omega.{arith}
use Rattle.tokens.specs.declared.token.Token.TheVariants as token
use Rattle.rows.specs.Rows.{pair_at, round_at}
use Rattle.tokens.specs.declared.token.Token.{Token}
use Rattle.tokens.specs.Kinds.{number_of}
use Rattle.tokens.specs.Bytes.{same}
use Rattle.reading.specs.Reading as reading
use Rattle.reading.specs.Stop.{Stop}
use Rattle.reading_words.proofs.Attempts.{mark-is, mark_number}
use Rattle.marks.specs.Marks as marks
use Rattle.marks.specs.Marks.{is_marked}
use Rattle.lookahead.proofs.Testing.{test_below}
use Rattle.tokens.specs.Lexeme.{Span}

pub nodes-assoc : (l m k : Nodes) → (l ⧺ m) ⧺ k ≡ l ⧺ (m ⧺ k)
nodes-assoc end m k = refl
nodes-assoc (x ▸ l) m k = ap (λ (w : Nodes). x ▸ w) (nodes-assoc l m k)

pub nodes-nil : (l : Nodes) → l ⧺ end ≡ l
nodes-nil end = refl
nodes-nil (x ▸ l) = ap (λ (w : Nodes). x ▸ w) (nodes-nil l)

-- The items read so far, put before those to come.
abbrev pub joined : Nodes → Nodes × State → Nodes × State
joined acc r = (acc ⧺ r.0, r.1)

last-append : (b : Option Node) (l m : Nodes) → last_after b (l ⧺ m) ≡ last_after (last_after b l) m
last-append b end m = refl
last-append b (x ▸ l) m = last-append (some x) l m

pub last_more : (b : Option Node) (acc nodes : Nodes) (x : Node) → last_after b (acc ⧺ (nodes ⧺ (x ▸ end))) ≡ some x
last_more b acc nodes x = last-append b acc (nodes ⧺ (x ▸ end)) ∙ last-append (last_after b acc) nodes (x ▸ end)

pub rejoin : (acc nodes : Nodes) (x : Node) (l : Nodes) → acc ⧺ (nodes ⧺ (x ▸ l)) ≡ (acc ⧺ (nodes ⧺ (x ▸ end))) ⧺ l
rejoin acc nodes x l = ap (λ (w : Nodes). acc ⧺ w) (sym (nodes-assoc nodes (x ▸ end) l)) ∙ sym (nodes-assoc acc (nodes ⧺ (x ▸ end)) l)

-- The code's tests of texts.
same_text_lem : {X t K : List ℕ} {i j : ℕ} (text : List ℕ) (es : List Entry) (a b : Entry) → text ≡ X → Row t K i a → Row t K j b → same_text text es a.span b.span ≡ same_at X t K i j
unfolding same_text text_of same_at
same_text_lem text es a b h r q = rw (h, r.start, r.len, q.start, q.len)

pub and_pick : (a b : Bool) → (a && b) ≡ cond a b false
and_pick true b = refl
and_pick false b = refl

bar-in : (X t K : List ℕ) (n i j : ℕ) → i < n → j < n → bar_at X t K n i j ≡ cond (eqb (kind_of t K j) 22) (same_at X t K i j) false
unfolding bar_at
bar-in X t K n i j h k = rw (lt-ltb i n h, test_in t K n (is_kind 22) j k)

bar-out : (X t K : List ℕ) (n i j : ℕ) → n ≤ j → bar_at X t K n i j ≡ false
unfolding bar_at
bar-out X t K n i j h = go (ltb i n)
  where
    go : (b : Bool) → cond b (cond (test_at t K n (is_kind 22) j) (same_at X t K i j) false) false ≡ false
    go true = rw (test-out t K n (is_kind 22) j h)
    go false = refl

bar-none : (X t K : List ℕ) (n i j : ℕ) → n ≤ i → bar_at X t K n i j ≡ false
unfolding bar_at
bar-none X t K n i j h = rw (le-ltb i n h)

pub bar-kept : (X t : List ℕ) {K L : List ℕ} (n i j : ℕ) → Kept K L → bar_at X t L n i j ≡ bar_at X t K n i j
unfolding bar_at test_at same_at
bar-kept X t n i j k = let p = places-kept k in rw (same_kind t p j, same_start t p i, same_len t p i, same_start t p j, same_len t p j)

pub bar-is : {X t : List ℕ} {n : ℕ} {K : List ℕ} {I : Input} (i p : ℕ) (o : Entry) → Given X t n K I → i < n → get_elem? I.es i ≡ some o → is_at I.text I.es (is_bar I.text I.es o) p ≡ bar_at X t K n i p
unfolding is_bar
bar-is {X} {t} {n} {K} {I} i p o g h there = go (ltb p n) refl
  where
    go : (b : Bool) → ltb p n ≡ b → is_at I.text I.es (is_bar I.text I.es o) p ≡ bar_at X t K n i p
    go true e =
        let l : p < n = ltb-true p n e in
        let q = g.stands p l in
        at_some I.text I.es _ p q.entry q.there
        ∙ rw (same-is token.OpenCloseBracket q.entry, same_text_lem I.text I.es o q.entry g.text (row_of g h there) q.row, ← q.row.kind) (and_pick (eqb (kind_of t K p) 22) (same_at X t K i p))
        ∙ sym (bar-in X t K n i p h l)
    go false e = at_none I.text I.es _ p (past I.es p (omega (arith, ltb-false p n e, g.size))) ∙ sym (bar-out X t K n i p (ltb-false p n e))

until_is : {X t : List ℕ} {n : ℕ} {K : List ℕ} (u : ℕ) (I : Input) (until : Option Entry) (p : ℕ) → Given X t n K I → Until n I u until → at_open_close I.text I.es until p ≡ bar_at X t K n u p
unfolding at_open_close
until_is {X} {t} {n} {K} u I none p g h = sym (bar-none X t K n u p h)
until_is u I (some o) p g h = bar-is u p o g h.0 h.1

-- The bar is looked for behind an item only.
abbrev pub ended : Option Node → Bool → Bool
ended none b = false
ended (some x) b = b

-- one turn of the definition
module _ (I : Input) (d : ℕ) (until : Option Entry) (stop : Bool) (s u : State) where
  pub turn-found : (before : Option Node) (f : ℕ) (x : Node) → ended before (at_open_close I.text I.es until s.pos) ≡ false → next_intermediate I.text I.es true (readers d I) (stop_of stop) (prefixes before) s ≡ (some x, u)
      → items_from d f until stop before I s ≡ (let r = items_at d f until stop (some x) I u in (spaced before (get_elem? I.es s.pos) x r.0, r.1))
  unfolding intermediates spaced prefixes
  turn-found none f x k h = bind _ _ s h ∙ bind _ _ u refl ∙ ret _ _
  turn-found (some b) f x k h = bind _ _ s (at_here s) ∙ if_false _ _ s k ∙ bind _ _ s h ∙ bind _ _ u refl ∙ ret _ _

  pub turn-nothing : (before : Option Node) (f : ℕ) → ended before (at_open_close I.text I.es until s.pos) ≡ false → next_intermediate I.text I.es true (readers d I) (stop_of stop) (prefixes before) s ≡ (none, u)
      → items_from d f until stop before I s ≡ (end, u)
  unfolding intermediates prefixes
  turn-nothing none f k h = bind _ _ s h ∙ ret _ _
  turn-nothing (some b) f k h = bind _ _ s (at_here s) ∙ if_false _ _ s k ∙ bind _ _ s h ∙ ret _ _

module _ (I : Input) (d : ℕ) (until : Option Entry) (stop : Bool) (s : State) where
  pub turn-met : (before : Option Node) (f : ℕ) → ended before (at_open_close I.text I.es until s.pos) ≡ true → items_from d f until stop before I s ≡ (end, s)
  unfolding intermediates
  turn-met none f k = let z : ◌≡◌ {A = ℕ} 0 1 = cc in absurd (omega arith)
  turn-met (some b) f k = bind _ _ s (at_here s) ∙ if_true _ _ s k ∙ ret _ _

-- the code's test
pub ended_is : {X t : List ℕ} {n : ℕ} {K : List ℕ} (u : ℕ) (I : Input) (until : Option Entry) (before : Option Node) (p : ℕ) → Given X t n K I → Until n I u until → ended before (at_open_close I.text I.es until p) ≡ bar_at X t K n (cond (is_none before) n u) p
ended_is {X} {t} {n} {K} u I until none p g h = sym (bar-none X t K n n p (omega arith))
ended_is u I until (some b) p g h = until_is u I until p g h

-- Where no bar ends the items, the code's order is the definition's.
pub from_start : (I : Input) (d f : ℕ) (stop : Bool) (before : Option Node) (s : State) → items_at d (suc f) none stop before I s ≡ items_from d f none stop before I s
unfolding intermediates spaced prefixes at_open_close
from_start I d f stop none s = bind _ _ s (at_here s) ∙ if_false _ _ s refl
from_start I d f stop (some b) s = refl

-- The code's tests, as the definition's.
pub is_at_is : {X t : List ℕ} {n : ℕ} {K : List ℕ} {I : Input} (k : Token) (p : ℕ) → Given X t n K I → is_at I.text I.es (is k) p ≡ test_at t K n (is_kind (number_of k)) p
is_at_is {X} {t} {n} {K} {I} k p g = go (ltb p n) refl
  where
    go : (b : Bool) → ltb p n ≡ b → is_at I.text I.es (is k) p ≡ test_at t K n (is_kind (number_of k)) p
    go true e =
        let l : p < n = ltb-true p n e in
        let q = g.stands p l in
        at_some I.text I.es (is k) p q.entry q.there ∙ same-is k q.entry ∙ ap (λ (w : ℕ). eqb w (number_of k)) (sym q.row.kind) ∙ sym (test_in t K n (is_kind (number_of k)) p l)
    go false e = at_none I.text I.es (is k) p (past I.es p (omega (arith, ltb-false p n e, g.size))) ∙ sym (test-out t K n (is_kind (number_of k)) p (ltb-false p n e))

one_byte : (s : List ℕ) (a b : ℕ) → (a ≡ b → ⊥) → same s (a ∷ []) ≡ true → same s (b ∷ []) ≡ false
unfolding same
one_byte [] a b d h = refl
one_byte (c ∷ s) a b d h = go (eqb c a) refl h
  where
    go : (q : Bool) → eqb c a ≡ q → (q && same s []) ≡ true → (eqb c b && same s []) ≡ false
    go true e k = let z : eqb c b ≡ false = ne_eqb c b (λ w. d (sym (eqb-true c a e) ∙ w)) in rw z
    go false e k = let z : ◌≡◌ {A = ℕ} 0 1 = cc in absurd (omega arith)

pub not_both : (X t K : List ℕ) (i a b : ℕ) → (a ≡ b → ⊥) → byte_at X t K i a ≡ true → byte_at X t K i b ≡ false
unfolding byte_at
not_both X t K i a b d h = one_byte _ a b d h

-- the rows read so far before those to come
abbrev pub with_rows : List Nodes → Option (List Nodes) × State → Option (List Nodes) × State
with_rows acc (none, u) = (none, u)
with_rows acc (some m, u) = (some (acc ++ m), u)

pub with_row : (acc : List Nodes) (r : Nodes) (q : Option (List Nodes)) (u : State) → with_rows acc (with_rows (r ∷ []) (q, u)) ≡ with_rows (acc ++ (r ∷ [])) (q, u)
with_row acc r none u = refl
with_row acc r (some m) u = ap (λ (w : List Nodes). (some w, u)) (sym (append_assoc acc (r ∷ []) m))

-- one turn of the definition
module _ (I : Input) (R : Readers) (f : ℕ) (h : reading.Row) (s : State) where
  pub turn-done : is_at I.text I.es (is token.Sep) s.pos ≡ false → more_rows I.text I.es true R (suc f) h s ≡ (some [], s)
  unfolding more_rows
  turn-done k = bind _ _ s (at_here s) ∙ if_false _ _ s k ∙ ret _ _

  module _ (k : is_at I.text I.es (is token.Sep) s.pos ≡ true) {e : Entry} {v w : State} (adv : advance I.text I.es any s ≡ (some e, v)) where
    pub turn-broken : next_matrix_row I.text I.es true R v ≡ (none, w) → more_rows I.text I.es true R (suc f) h s ≡ (none, w)
    unfolding more_rows
    turn-broken r = bind _ _ s (at_here s) ∙ if_true _ _ s k ∙ bind _ _ s adv ∙ bind _ _ v r ∙ ret _ _

    module _ {row : reading.Row} (r : next_matrix_row I.text I.es true R v ≡ (some row, w)) where
      pub turn-differs : alike I.text I.es h row ≡ false → more_rows I.text I.es true R (suc f) h s ≡ (none, w)
      unfolding more_rows
      turn-differs d = bind _ _ s (at_here s) ∙ if_true _ _ s k ∙ bind _ _ s adv ∙ bind _ _ v r ∙ if_false _ _ w d ∙ ret _ _

      pub turn_more : alike I.text I.es h row ≡ true → more_rows I.text I.es true R (suc f) h s ≡ with_rows (row.cells ∷ []) (more_rows I.text I.es true R f h w)
      unfolding more_rows
      turn_more d = bind _ _ s (at_here s) ∙ if_true _ _ s k ∙ bind _ _ s adv ∙ bind _ _ v r ∙ if_true _ _ w d ∙ bind _ _ w refl ∙ go (more_rows I.text I.es true R f h w)
        where
          go : (q : Option (List Nodes) × State) → elim q.0 as (λ _. M (Option (List Nodes))) [ none ↦ return none | some m ↦ return (some (row.cells ∷ m)) ] q.1 ≡ with_rows (row.cells ∷ []) q
          go (none, z) = ret _ _
          go (some m, z) = ret _ _

-- the cells read so far before those to come
abbrev pub with_cells : Nodes → Option (Nodes × Entry) × State → Option (Nodes × Entry) × State
with_cells acc (none, u) = (none, u)
with_cells acc (some m, u) = (some (acc ⧺ m.0, m.1), u)

pub with_one : (acc l : Nodes) (q : Option (Nodes × Entry)) (u : State) → with_cells acc (with_cells (node Head.cell l ▸ end) (q, u)) ≡ with_cells (acc ⧺ (node Head.cell l ▸ end)) (q, u)
with_one acc l none u = refl
with_one acc l (some m) u = ap (λ (w : Nodes). (some (w, m.1), u)) (sym (nodes-assoc acc (node Head.cell l ▸ end) m.0))

-- one turn of the definition
module _ (I : Input) (R : Readers) (f : ℕ) (l : Nodes) (s u : State)
    (run : intermediates I.text I.es true R (suc (length I.es)) none Stop.sep none s ≡ (l, u)) where
  pub turn_end : {v : State} → advance I.text I.es any u ≡ (none, v) → row_cells I.text I.es true R (suc f) s ≡ (none, v)
  unfolding row_cells
  turn_end h = bind _ _ s run ∙ bind _ _ u h ∙ ret _ _

  module _ {e : Entry} {v : State} (h : advance I.text I.es any u ≡ (some e, v)) where
    pub turn-sep : is token.Sep e ≡ true → row_cells I.text I.es true R (suc f) s ≡ with_cells (node Head.cell l ▸ end) (row_cells I.text I.es true R f v)
    unfolding row_cells
    turn-sep k = bind _ _ s run ∙ bind _ _ u h ∙ if_true _ _ v k ∙ bind _ _ v refl ∙ go (row_cells I.text I.es true R f v)
      where
        go : (r : Option (Nodes × Entry) × State) → elim r.0 as (λ _. M (Option (Nodes × Entry))) [ none ↦ return none | some m ↦ return (some (node Head.cell l ▸ m.0, m.1)) ] r.1 ≡ with_cells (node Head.cell l ▸ end) r
        go (none, w) = ret _ _
        go (some m, w) = ret _ _

    pub turn-shut : is token.Sep e ≡ false → is token.CloseBracket e ≡ true → row_cells I.text I.es true R (suc f) s ≡ (some (node Head.cell l ▸ end, e), v)
    unfolding row_cells
    turn-shut k k2 = bind _ _ s run ∙ bind _ _ u h ∙ if_false _ _ v k ∙ if_true _ _ v k2 ∙ ret _ _

    pub turn-other : is token.Sep e ≡ false → is token.CloseBracket e ≡ false → row_cells I.text I.es true R (suc f) s ≡ (none, v)
    unfolding row_cells
    turn-other k k2 = bind _ _ s run ∙ bind _ _ u h ∙ if_false _ _ v k ∙ if_false _ _ v k2 ∙ ret _ _

pub row-taken : (I : Input) (R : Readers) (s u : State) (o : Entry) (q : Option (Nodes × Entry)) (v : State) → advance I.text I.es any s ≡ (some o, u) → is token.OpenBracket o ≡ true
    → row_cells I.text I.es true R (suc (length I.es)) u ≡ (q, v)
    → next_matrix_row I.text I.es true R s ≡ elim q as (λ _. M (Option reading.Row)) [ none ↦ return none | some m ↦ closed s.pos (some (record { left = o; right = m.1; cells = m.0 })) ] v
unfolding next_matrix_row
row-taken I R s u o q v h k r = bind _ _ s (at_here s) ∙ bind _ _ s h ∙ if_true _ _ u k ∙ bind _ _ u r

pub number-open : (stop : Bool) → mark_number (open_mark (stop_of stop)) ≡ marks.open_mark stop
number-open true = refl
number-open false = refl

-- the bar's own word says whether it has failed
pub open_known : {n : ℕ} {K : List ℕ} {l : List Bool} (i : ℕ) (stop b : Bool) → Marks n K l → i < n → is_marked (marks_of K i) (marks.open_mark stop) ≡ b
    → get_or l (slot (open_mark (stop_of stop)) i) false ≡ b
open_known i stop b m h k = sym (mark-is (open_mark (stop_of stop)) i m h) ∙ ap (is_marked _) (number-open stop) ∙ k

-- a token taken, whatever it is; none is there
pub took-any : {X t : List ℕ} {n : ℕ} {K : List ℕ} {I : Input} {s : State} {p : ℕ} (g : Given X t n K I) → p ≡ s.pos → p < n
    → (q : Stands t K I.es p) × (advance I.text I.es any s ≡ (some q.entry, tick s))
unfolding any
took-any {I = I} {s = s} {p = p} g e h =
    let q = g.stands p h in
    (q, advance-took I.text I.es any s q.entry (ap (λ (i : ℕ). get_elem? I.es i) (sym e) ∙ q.there) refl)

pub end-any : {X t : List ℕ} {n : ℕ} {K : List ℕ} {I : Input} {s : State} {p : ℕ} → Given X t n K I → p ≡ s.pos → n ≤ p
    → advance I.text I.es any s ≡ (none, s)
end-any {I = I} {s = s} g e h = advance-end I.text I.es any s (past I.es s.pos (omega (arith, e, g.size)))

pub bar-below : (X t K : List ℕ) (n i p : ℕ) → bar_at X t K n i p ≡ true → p < n
unfolding bar_at
bar-below X t K n i p h = go (ltb i n) (test_at t K n (is_kind 22) p) refl h
  where
    go : (a b : Bool) → test_at t K n (is_kind 22) p ≡ b → cond a (cond b (same_at X t K i p) false) false ≡ true → p < n
    go true true e k = test_below t K n (is_kind 22) p e
    go true false e k = let z : ◌≡◌ {A = ℕ} 0 1 = cc in absurd (omega arith)
    go false b e k = let z : ◌≡◌ {A = ℕ} 0 1 = cc in absurd (omega arith)

-- The body of a bar's attempt, by the items that the code reads.
abbrev pub bar_end : Input → ℕ → Entry → Nodes → M Try
bar_end I i o end = return nought
bar_end I i o (x ▸ l) =
    here >>= λ p.
    when is_at I.text I.es (is_bar I.text I.es o) p
    then (advance I.text I.es any >>= λ t. elim t [
      | none ↦ return lost
      | some c ↦ closed i (made (node (Head.group o.span c.span) (x ▸ l)))
    ])
    else return lost

pub bar-body : (I : Input) (d i : ℕ) (o : Entry) (stop : Bool) (s : State) {l : Nodes} {u : State} → items_from d (suc (length I.es)) (some o) stop none I s ≡ (l, u)
    → bar_body I.text I.es true (readers d I) o i (stop_of stop) s ≡ bar_end I i o l u
unfolding bar_body
bar-body I d i o stop s {l} {u} h = go (intermediate_at d stop true I s) refl
  where
    go : (r : Option Node × State) → intermediate_at d stop true I s ≡ r → bar_body I.text I.es true (readers d I) o i (stop_of stop) s ≡ bar_end I i o l u
    go (none, v) k =
        let same : ◌≡◌ {A = Nodes × State} (end, v) (l, u) = sym (bind _ _ s k ∙ ret _ _) ∙ h in
        bind _ _ s k ∙ ap (λ (w : Nodes × State). bar_end I i o w.0 w.1) same
    go (some x, v) k =
        let r = items_at d (suc (length I.es)) (some o) stop (some x) I v in
        let same : ◌≡◌ {A = Nodes × State} (x ▸ r.0, r.1) (l, u) = sym (bind _ _ s k ∙ bind _ _ v refl ∙ ret _ _) ∙ h in
        bind _ _ s k ∙ bind _ _ v refl ∙ ap (λ (w : Nodes × State). bar_end I i o w.0 w.1) same

pub record More (l : Nodes) : Type 0 where
  pub head : Node
  pub rest : Nodes
  pub is : l ≡ head ▸ rest

-- a matrix, or else what the bracket opens
pub matrix-runs : (b : Bool) (d : ℕ) (stop : Bool) (i : ℕ) (I : Input) (en : Entry) (s u : State) (a : Node) → try_matrix I.text I.es true (readers d I) en i s ≡ (some a, u) → bracket_at b d stop i I en s ≡ (a, u)
unfolding next_bracket next_open_close_group
matrix-runs true d stop i I en s u a h = bind _ _ s h ∙ ret _ _
matrix-runs false d stop i I en s u a h = bind _ _ s h ∙ ret _ _

-- What the entry i begins, by its kind.
pub never21 : (stop : Bool) (k : ℕ) → k ≡ 21 → begins_kind stop k ≡ true → ⊥
never21 stop k h w = let u : false ≡ true = rw h at w in let z : ◌≡◌ {A = ℕ} 0 1 = cc in omega arith

pub never23 : (stop : Bool) (k : ℕ) → k ≡ 23 → begins_kind stop k ≡ true → ⊥
never23 stop k h w = let u : false ≡ true = rw h at w in let z : ◌≡◌ {A = ℕ} 0 1 = cc in omega arith

pub by_kind : (d i : ℕ) (stop sg : Bool) (I : Input) (s : State) (en : Entry) {k : Token} {r : Option Node × State} → en.token ≡ k
    → begun I.text I.es true (readers d I) k en i (stop_of stop) sg s ≡ r → begun I.text I.es true (readers d I) en.token en i (stop_of stop) sg s ≡ r
by_kind d i stop sg I s en h q = ap (λ (k : Token). begun I.text I.es true (readers d I) k en i (stop_of stop) sg s) h ∙ q

-- the text of an entry is one byte
pub byte-at : {X t K : List ℕ} {i : ℕ} (text : List ℕ) (es : List Entry) (b : ℕ) (a : Entry) → text ≡ X → Row t K i a → is_byte text es b a.span ≡ byte_at X t K i b
unfolding is_byte text_of byte_at
byte-at text es b a h r = rw (h, r.start, r.len)

-- a text that is one byte, compared with another
same-one : (s u : List ℕ) (b : ℕ) → same s (b ∷ []) ≡ true → same s u ≡ same u (b ∷ [])
unfolding same
same-one [] u b h = let z : ◌≡◌ {A = ℕ} 0 1 = cc in absurd (omega arith)
same-one (c ∷ d ∷ s) u b h = let z : ◌≡◌ {A = ℕ} 0 1 = never (eqb c b) h in absurd (omega arith)
  where
    never : (q : Bool) → (q && false) ≡ true → ◌≡◌ {A = ℕ} 0 1
    never true k = cc
    never false k = cc
same-one (c ∷ []) [] b h = refl
same-one (c ∷ []) (d ∷ u) b h = go (eqb c b) refl h u
  where
    both_ways : (q : Bool) → eqb b d ≡ q → eqb d b ≡ q
    both_ways true e = eq-eqb d b (sym (eqb-true b d e))
    both_ways false e = ne_eqb d b (λ z. eqb-false b d e (sym z))

    rest : (q : Bool) (u : List ℕ) → (q && same [] u) ≡ (q && same u [])
    rest q [] = refl
    rest q (e ∷ u) = refl

    go : (q : Bool) → eqb c b ≡ q → (q && same [] []) ≡ true → (u : List ℕ) → (eqb c d && same [] u) ≡ (eqb d b && same u [])
    go true e k u = rw (eqb-true c b e, both_ways (eqb b d) refl) (rest (eqb b d) u)
    go false e k u = let z : ◌≡◌ {A = ℕ} 0 1 = cc in absurd (omega arith)

-- A row is like a first one of round brackets, or else of square ones, if it is a pair of such too and has as many cells.
pub alike-pair : (I : Input) (round : Bool) (a b : reading.Row) {cols k : ℕ} → is_pair I round a ≡ true → cols ≡ count a.cells → k ≡ count b.cells → alike I.text I.es a b ≡ cond (eqb cols k) (is_pair I round b) false
unfolding alike same_text is_byte
alike-pair I round a b {cols} {k} h hc hk = by round h
  where
    T : Span → List ℕ
    T = text_of I.text I.es

    order : (p q r : Bool) → (p && q && r) ≡ cond q (p && r) false
    order true true r = refl
    order true false r = refl
    order false true r = refl
    order false false r = refl

    firsts : (p q : Bool) → (p && q) ≡ true → (p ≡ true) × (q ≡ true)
    firsts true true e = (refl, refl)
    firsts true false e = let z : ◌≡◌ {A = ℕ} 0 1 = cc in absurd (omega arith)
    firsts false q e = let z : ◌≡◌ {A = ℕ} 0 1 = cc in absurd (omega arith)

    of_pair : (x y : ℕ) → (same (T a.left.span) (x ∷ []) && same (T a.right.span) (y ∷ [])) ≡ true
        → (same (T a.left.span) (T b.left.span) && eqb (count a.cells) (count b.cells) && same (T a.right.span) (T b.right.span)) ≡ cond (eqb cols k) (same (T b.left.span) (x ∷ []) && same (T b.right.span) (y ∷ [])) false
    of_pair x y e =
        let f = firsts (same (T a.left.span) (x ∷ [])) (same (T a.right.span) (y ∷ [])) e in
        rw (same-one (T a.left.span) (T b.left.span) x f.0, same-one (T a.right.span) (T b.right.span) y f.1, ← hc, ← hk) (order (same (T b.left.span) (x ∷ [])) (eqb cols k) (same (T b.right.span) (y ∷ [])))

    by : (q : Bool) → is_pair I q a ≡ true → alike I.text I.es a b ≡ cond (eqb cols k) (is_pair I q b) false
    by true e = of_pair 40 41 e
    by false e = of_pair 91 93 e

-- the same by the words of its brackets
pub pair_is : {X t : List ℕ} {n : ℕ} {K : List ℕ} {I : Input} {l r : ℕ} (round : Bool) (row : reading.Row) → Given X t n K I → l < n → r < n → get_elem? I.es l ≡ some row.left → get_elem? I.es r ≡ some row.right
    → is_pair I round row ≡ pair_at X t K round l r
unfolding pair_at
pair_is {I = I} round row g hl hr tl tr =
    let a = row_of g hl tl in
    let b = row_of g hr tr in
    rw (byte-at I.text I.es 40 row.left g.text a, byte-at I.text I.es 41 row.right g.text b, byte-at I.text I.es 91 row.left g.text a, byte-at I.text I.es 93 row.right g.text b, and_pick, and_pick)

-- the first row: round brackets if its left one is
pub brackets-are : {X t : List ℕ} {n : ℕ} {K : List ℕ} {I : Input} {l r : ℕ} (row : reading.Row) → Given X t n K I → l < n → r < n → get_elem? I.es l ≡ some row.left → get_elem? I.es r ≡ some row.right
    → row_brackets I.text I.es row ≡ pair_at X t K (round_at X t K l) l r
unfolding row_brackets pair_at
brackets-are {X} {t} {n} {K} {I} {l} {r} row g hl hr tl tr =
    let a = row_of g hl tl in
    let b = row_of g hr tr in
    rw (byte-at I.text I.es 40 row.left g.text a, byte-at I.text I.es 41 row.right g.text b, byte-at I.text I.es 91 row.left g.text a, byte-at I.text I.es 93 row.right g.text b)
    (go (byte_at X t K l 40) (byte_at X t K l 91) (byte_at X t K r 41) (byte_at X t K r 93) (not_both X t K l 40 91 (λ z. omega arith)))
  where
    go : (a c b d : Bool) → (a ≡ true → c ≡ false) → ((a && b) || (c && d)) ≡ cond a (cond a b false) (cond c d false)
    go true true b d h = let z : true ≡ false = h refl in let w : ◌≡◌ {A = ℕ} 0 1 = cc in absurd (omega arith)
    go true false true d h = refl
    go true false false d h = refl
    go false true b true h = refl
    go false true b false h = refl
    go false false b d h = refl

-- a scripted part
module _ (d : ℕ) (stop sg : Bool) (deep : d < 256) where
  pub script-runs : (I : Input) (s : State) {r : Option Node × State} → next_script_func I.text I.es true (readers (d + 1) I) (stop_of stop) sg s ≡ r → script_func_at d stop sg I s ≡ r
  script-runs I s h = ap (λ (f : Stop → Bool → M (Option Node)). f (stop_of stop) sg s) (level-script_func I d deep) ∙ h

-- one turn of the definition's loop over all items
module _ (X : List ℕ) (es : List Entry) (f : ℕ) (acc l : Nodes) (s t u : State)
    (run : intermediates X es true (level X es true 256) (suc (length es)) none Stop.none (last_of acc) s ≡ (l, t)) where
  pub parse-open : (w : ℕ) → advance X es (is token.CloseBracket) t ≡ (none, u) → parse X es true (suc f) w acc s ≡ (acc ⧺ l, u)
  unfolding parse
  parse-open w h = bind _ _ s run ∙ bind _ _ t h ∙ ret _ _

  pub parse-drop : (c : Entry) → advance X es (is token.CloseBracket) t ≡ (some c, u) → parse X es true (suc f) zero acc s ≡ parse X es true f zero (acc ⧺ l) u
  unfolding parse
  parse-drop c h = bind _ _ s run ∙ bind _ _ t h

  pub parse-wrap : (w : ℕ) (c : Entry) → advance X es (is token.CloseBracket) t ≡ (some c, u) → parse X es true (suc f) (suc w) acc s ≡ parse X es true f w (unscripted (node (Head.group nowhere c.span) (acc ⧺ l)) ▸ end) u
  unfolding parse
  parse-wrap w c h = bind _ _ s run ∙ bind _ _ t h

-- The last item.
last-is : (b : Node) (l : Nodes) → last_of (b ▸ l) ≡ last_after (some b) l
unfolding last_of
last-is b end = refl
last-is b (x ▸ l) = last-is x l

last-of : (l : Nodes) → last_of l ≡ last_after none l
unfolding last_of
last-of end = refl
last-of (x ▸ l) = last-is x l

pub last-join : (acc l : Nodes) → last_of (acc ⧺ l) ≡ last_after (last_of acc) l
last-join acc l = last-of (acc ⧺ l) ∙ last-append none acc l ∙ ap (λ (b : Option Node). last_after b l) (sym (last-of acc))

pub some_after : (b : Option Node) (l : Nodes) → is_none b ≡ false → is_none (last_after b l) ≡ false
some_after b end h = h
some_after b (x ▸ l) h = some_after (some x) l refl

pub no_sign : (c : Span) (m : Nodes) → false ≡ prefixes (last_of (unscripted (node (Head.group nowhere c) m) ▸ end))
unfolding last_of prefixes ends_operand look ends_first
no_sign c m = refl

pub no_first : (x : Node) → false ≡ is_none (last_of (x ▸ end))
unfolding last_of
no_first x = refl

pub absurd_bool : {A : Type 0} → true ≡ false → A
absurd_bool h = let z : ◌≡◌ {A = ℕ} 0 1 = cc in absurd (omega arith)
