-- "Each closer is matched with one opener at most, and pairs never cross."
use Prim.Native.Nat.{ℕ, zero, suc, ◌-◌, ◌≤◌, ◌<◌}
use mathlib.Core.Path.{◌≡◌, refl, sym, ap, ◌∙◌, subst}
use mathlib.Core.List.{List, [], ◌∷◌}
use mathlib.Core.Option.{Option, none, some}
use mathlib.Core.Bool.{Bool, true, false}
use mathlib.Core.Logic.{◌⊎◌, inl, inr}
use native.Mathlib.Omega.{arith}
use native.Mathlib.Decide.{ℕ_discrete, dec_le}
use lib.ListN.{length, get_or, set, replicate, get_elem?, length-set}
use lib.Seq.{get_or-set_same, get_or-set_other}
use Rattle.tokens.specs.declared.token.Token.{Token}
use Rattle.tokens.specs.declared.token.Token.TheVariants as token
use Rattle.tokens.specs.Lexeme.{Lexeme}
use Rattle.tree.specs.Tree.{nowhere, Node, Nodes, end}
use Rattle.reading.specs.Stop.{Stop}
use Rattle.reading.specs.Entries.{Entry, is, entries}
use Rattle.reading.specs.Reading.{State, M, return, ◌>>=◌, here, current, closed, Mark, open_mark, matrix_mark, slot, Try, made, lost, nought, Readers, advance, failed, give_up, attempt, argument, next_script, next_script_func, next_intermediate, intermediates, Row, next_matrix_row, row_cells, more_rows, next_matrix_rows, matrix_body, try_matrix, next_open_group, bar_body, next_open_close_group, next_bracket, begun, next_simple, step, level, parse, parse_entries, start, or_glyph, could_be_matrix, prefixes, any, marks_script, heads, begins, when◌then◌else◌, closers_of}

-- Of n entries, those from a up to b: a closer stands behind its opener, before b; of two openers the first is closed before the
-- second, or the second before the first is closed. n stands for none.
pub record Nested (n a b : ℕ) (c : List ℕ) : Type 0 where
  pub inside : (i : ℕ) → a ≤ i → i < b → get_or c i n < n → (i < get_or c i n) × (get_or c i n < b)
  pub apart : (i j : ℕ) → a ≤ i → i < j → j < b → get_or c i n < n → get_or c j n < n → (get_or c i n < j) ⊎ (get_or c j n < get_or c i n)

-- Nothing is closed from b on.
abbrev pub Free : ℕ → ℕ → List ℕ → Type 0
Free n b c = (j : ℕ) → b ≤ j → get_or c j n ≡ n

-- No number is above n.
abbrev pub Most : ℕ → List ℕ → Type 0
Most n c = (j : ℕ) → get_or c j n ≤ n

set_past : (c : List ℕ) (i k : ℕ) → length c ≤ i → set c i k ≡ c
set_past [] i k h = refl
set_past (x ∷ c) zero k h = absurd (omega arith)
set_past (x ∷ c) (suc i) k h = ap (λ (r : List ℕ). x ∷ r) (set_past c i k (omega arith))

set-most : (n : ℕ) (c : List ℕ) (i k : ℕ) → length c ≡ n → k ≤ n → Most n c → Most n (set c i k)
set-most n c i k l h m j = go (ℕ_discrete j i) (dec_le n i)
  where
    go : Dec (j ≡ i) → Dec (n ≤ i) → get_or (set c i k) j n ≤ n
    go (no d) o = rw (get_or-set_other c i j k n d) (m j)
    go (yes e) (no o) = rw (e, get_or-set_same c i k n (omega arith)) h
    go (yes e) (yes o) = rw (set_past c i k (omega arith)) (m j)

abbrev pub Below : ℕ → ℕ → List ℕ → List ℕ → Type 0
Below n a c d = (j : ℕ) → j < a → get_or c j n ≡ get_or d j n

empty : (n a : ℕ) (c : List ℕ) → Nested n a a c
empty n a c = record { inside = λ i x y z. absurd (omega arith); apart = λ i j x y z. absurd (omega arith) }

-- one token more, which opens nothing
wider : {n a b : ℕ} {c : List ℕ} → Free n b c → Nested n a b c → Nested n a (suc b) c
wider {n} {a} {b} {c} f h = record {
  inside = λ i x y z. go i x y z (ℕ_discrete i b);
  apart = λ i j x y z v w. two i j x y z v w (ℕ_discrete j b);
}
  where
    go : (i : ℕ) → a ≤ i → i < suc b → get_or c i n < n → Dec (i ≡ b) → (i < get_or c i n) × (get_or c i n < suc b)
    go i x y z (yes e) = absurd (omega (arith, f i (omega arith)))
    go i x y z (no d) = let q = h.inside i x (omega arith) z in (q.0, omega (arith, q.1))

    two : (i j : ℕ) → a ≤ i → i < j → j < suc b → get_or c i n < n → get_or c j n < n → Dec (j ≡ b) → (get_or c i n < j) ⊎ (get_or c j n < get_or c i n)
    two i j x y z v w (yes e) = absurd (omega (arith, f j (omega arith)))
    two i j x y z v w (no d) = h.apart i j x y (omega arith) v w

-- two stretches behind one another, the second read with the first as it was
joined : {n a b e : ℕ} {c d : List ℕ} → a ≤ b → b ≤ e → Nested n a b c → Below n b d c → Nested n b e d → Nested n a e d
joined {n} {a} {b} {e} {c} {d} u v h k g = record {
  inside = λ i x y z. go i x y z (dec_le b i);
  apart = λ i j x y z w w'. two i j x y z w w' (dec_le b i) (dec_le b j);
}
  where
    go : (i : ℕ) → a ≤ i → i < e → get_or d i n < n → Dec (b ≤ i) → (i < get_or d i n) × (get_or d i n < e)
    go i x y z (yes p) = g.inside i p y z
    go i x y z (no p) = let q = h.inside i x (omega arith) (omega (arith, k i (omega arith))) in (omega (arith, q.0, k i (omega arith)), omega (arith, q.1, k i (omega arith)))

    two : (i j : ℕ) → a ≤ i → i < j → j < e → get_or d i n < n → get_or d j n < n → Dec (b ≤ i) → Dec (b ≤ j) → (get_or d i n < j) ⊎ (get_or d j n < get_or d i n)
    two i j x y z w w' (yes p) q = g.apart i j p y z w w'
    two i j x y z w w' (no p) (yes q) = let r = h.inside i x (omega arith) (omega (arith, k i (omega arith))) in inl (omega (arith, r.1, k i (omega arith)))
    two i j x y z w w' (no p) (no q) = third (h.apart i j x y (omega arith) (omega (arith, k i (omega arith))) (omega (arith, k j (omega arith))))
      where
        third : (get_or c i n < j) ⊎ (get_or c j n < get_or c i n) → (get_or d i n < j) ⊎ (get_or d j n < get_or d i n)
        third (inl r) = inl (omega (arith, r, k i (omega arith)))
        third (inr r) = inr (omega (arith, r, k i (omega arith), k j (omega arith)))

-- the same with an opener in front that is closed at b, behind them
around : {n i b : ℕ} {c : List ℕ} → i < length c → suc i ≤ b → b < n → Free n b c → Nested n (suc i) b c → Nested n i (suc b) (set c i b)
around {n} {i} {b} {c} short u v f h = record {
  inside = λ j x y z. go j x y z (ℕ_discrete j i);
  apart = λ j k x y z w w'. two j k x y z w w' (ℕ_discrete j i) (ℕ_discrete k b);
}
  where
    own : get_or (set c i b) i n ≡ b
    own = get_or-set_same c i b n short

    other : (j : ℕ) → (j ≡ i → ⊥) → get_or (set c i b) j n ≡ get_or c j n
    other j d = get_or-set_other c i j b n d

    go : (j : ℕ) → i ≤ j → j < suc b → get_or (set c i b) j n < n → Dec (j ≡ i) → (j < get_or (set c i b) j n) × (get_or (set c i b) j n < suc b)
    go j x y z (yes e) = rw e (omega (arith, own), omega (arith, own))
    go j x y z (no d) = last (ℕ_discrete j b)
      where
        last : Dec (j ≡ b) → (j < get_or (set c i b) j n) × (get_or (set c i b) j n < suc b)
        last (yes e) = absurd (omega (arith, other j d, f j (omega arith), z))
        last (no p) = let q = h.inside j (omega arith) (omega arith) (omega (arith, z, other j d)) in (omega (arith, q.0, other j d), omega (arith, q.1, other j d))

    two : (j k : ℕ) → i ≤ j → j < k → k < suc b → get_or (set c i b) j n < n → get_or (set c i b) k n < n → Dec (j ≡ i) → Dec (k ≡ b) → (get_or (set c i b) j n < k) ⊎ (get_or (set c i b) k n < get_or (set c i b) j n)
    two j k x y z w w' d (yes e) = absurd (omega (arith, other k (λ p. omega arith), f k (omega arith), w'))
    two j k x y z w w' (yes e) (no p) = let q = h.inside k (omega arith) (omega arith) (omega (arith, w', other k (λ p. omega arith))) in rw e (inr (omega (arith, own, q.1, other k (λ p. omega arith))))
    two j k x y z w w' (no e) (no p) = third (h.apart j k (omega arith) y (omega arith) (omega (arith, w, other j e)) (omega (arith, w', other k (λ p. omega arith))))
      where
        third : (get_or c j n < k) ⊎ (get_or c k n < get_or c j n) → (get_or (set c i b) j n < k) ⊎ (get_or (set c i b) k n < get_or (set c i b) j n)
        third (inl r) = inl (omega (arith, r, other j e))
        third (inr r) = inr (omega (arith, r, other j e, other k (λ p. omega arith)))

-- an opener in front that is not closed
ahead : {n i b : ℕ} {c : List ℕ} → get_or c i n ≡ n → Nested n (suc i) b c → Nested n i b c
ahead {n} {i} {b} {c} o h = record {
  inside = λ j x y z. go j x y z (ℕ_discrete j i);
  apart = λ j k x y z w w'. two j k x y z w w' (ℕ_discrete j i);
}
  where
    go : (j : ℕ) → i ≤ j → j < b → get_or c j n < n → Dec (j ≡ i) → (j < get_or c j n) × (get_or c j n < b)
    go j x y z (yes e) = let p : get_or c j n ≡ n = rw e o in absurd (omega (arith, p))
    go j x y z (no d) = h.inside j (omega arith) y z

    two : (j k : ℕ) → i ≤ j → j < k → k < b → get_or c j n < n → get_or c k n < n → Dec (j ≡ i) → (get_or c j n < k) ⊎ (get_or c k n < get_or c j n)
    two j k x y z w w' (yes e) = let p : get_or c j n ≡ n = rw e o in absurd (omega (arith, p))
    two j k x y z w w' (no d) = h.apart j k (omega arith) y z w w'

module _ (text : List ℕ) (es : List Entry) where
  pub record Fit (s : State) : Type 0 where
    pub size : length s.closers ≡ length es
    pub within : s.pos ≤ length es
    pub free : Free (length es) s.pos s.closers
    pub most : Most (length es) s.closers

  -- From s to r: what stood before is kept, and the pairs between are nested.
  pub record Pairing (s r : State) : Type 0 where
    pub fit : Fit r
    pub on : s.pos ≤ r.pos
    pub low : Below (length es) s.pos r.closers s.closers
    pub nest : Nested (length es) s.pos r.pos r.closers

  pub record Pairs {A : Type 0} (m : M A) : Type 0 where
    pub run : (s : State) → Fit s → Pairing s (m s).1

  -- one token, or none
  record Stepped (s r : State) : Type 0 where
    same : r.closers ≡ s.closers
    moved : (r.pos ≡ s.pos) ⊎ ((r.pos ≡ suc s.pos) × (s.pos < length es))

  stepped : {s r : State} → Stepped s r → Fit s → Pairing s r
  stepped {s} {r} h f = go h.moved
    where
      kept : (j : ℕ) → get_or r.closers j (length es) ≡ get_or s.closers j (length es)
      kept j = ap (λ (c : List ℕ). get_or c j (length es)) h.same

      go : (r.pos ≡ s.pos) ⊎ ((r.pos ≡ suc s.pos) × (s.pos < length es)) → Pairing s r
      go (inl e) = record {
        fit = record { size = ap length h.same ∙ f.size; within = omega (arith, f.within); free = λ j l. kept j ∙ f.free j (omega arith); most = λ j. rw (kept j) (f.most j) };
        on = omega arith;
        low = λ j l. kept j;
        nest = rw e (empty _ _ _);
      }
      go (inr (e, l)) = record {
        fit = record { size = ap length h.same ∙ f.size; within = omega arith; free = λ j l. kept j ∙ f.free j (omega arith); most = λ j. rw (kept j) (f.most j) };
        on = omega arith;
        low = λ j l. kept j;
        nest = rw e (wider (λ j l. kept j ∙ f.free j l) (empty _ _ _));
      }

  ret : {A : Type 0} (x : A) → Pairs (return x)
  unfolding return
  ret x = record { run = λ s f. stepped (record { same = refl; moved = inl refl }) f }

  at_here : Pairs here
  unfolding here
  at_here = record { run = λ s f. stepped (record { same = refl; moved = inl refl }) f }

  inside_of : {A : Type 0} (l : List A) (i : ℕ) (x : A) → get_elem? l i ≡ some x → i < length l
  inside_of [] i x e = let z : ◌≡◌ {A = ℕ} 0 1 = cc in absurd (omega arith)
  inside_of (y ∷ l) zero x e = omega arith
  inside_of (y ∷ l) (suc i) x e = omega (arith, inside_of l i x e)

  advance-steps : (ok : Entry → Bool) (s : State) → Stepped s (advance text es ok s).1
  unfolding advance
  advance-steps ok s = go (get_elem? es s.pos) refl
    where
      go' : (y : Entry) → get_elem? es s.pos ≡ some y → (x : Bool) → ok y ≡ x → Stepped s (advance text es ok s).1
      go' y e true k = rw (e, advance, k) (record { same = refl; moved = inr (refl, inside_of es s.pos y e) })
      go' y e false k = rw (e, advance, k) (record { same = refl; moved = inl refl })

      go : (x : Option Entry) → get_elem? es s.pos ≡ x → Stepped s (advance text es ok s).1
      go none e = rw (e, advance) (record { same = refl; moved = inl refl })
      go (some y) e = go' y e (ok y) refl

  advance-some : (ok : Entry → Bool) (s : State) (y : Entry) → (advance text es ok s).0 ≡ some y → ((advance text es ok s).1.pos ≡ suc s.pos) × (s.pos < length es)
  unfolding advance
  advance-some ok s y = go (get_elem? es s.pos) refl
    where
      no_some : none ≡ some y → {X : Type 0} → X
      no_some e = let z : ◌≡◌ {A = ℕ} 0 1 = cc in absurd (omega arith)

      go' : (z : Entry) → (x : Bool) → ok z ≡ x → get_elem? es s.pos ≡ some z → (advance text es ok s).0 ≡ some y → ((advance text es ok s).1.pos ≡ suc s.pos) × (s.pos < length es)
      go' z true k e = rw (e, advance, k) λ h. (refl, inside_of es s.pos z e)
      go' z false k e = rw (e, advance, k) λ h. no_some h

      go : (x : Option Entry) → get_elem? es s.pos ≡ x → (advance text es ok s).0 ≡ some y → ((advance text es ok s).1.pos ≡ suc s.pos) × (s.pos < length es)
      go none e = rw (e, advance) λ h. no_some h
      go (some z) e = go' z (ok z) refl e

  taking : (ok : Entry → Bool) → Pairs (advance text es ok)
  taking ok = record { run = λ s f. stepped (advance-steps ok s) f }

  along : {s r t : State} → Pairing s r → Pairing r t → Pairing s t
  along p q = record {
    fit = q.fit;
    on = omega (arith, p.on, q.on);
    low = λ j l. q.low j (omega (arith, p.on)) ∙ p.low j l;
    nest = joined p.on q.on p.nest q.low q.nest;
  }

  bind : {A B : Type 0} {m : M A} {f : A → M B} → Pairs m → ((x : A) → Pairs (f x)) → Pairs (m >>= f)
  unfolding ◌>>=◌
  bind {m} h k = record { run = λ s f. let p = h.run s f in along p ((k (m s).0).run (m s).1 p.fit) }

  both_ways : {A : Type 0} (x : Bool) {m n : M A} → Pairs m → Pairs n → Pairs (when x then m else n)
  unfolding when◌then◌else◌
  both_ways true h k = h
  both_ways false h k = k

  -- Behind the opener i, which nothing has closed yet.
  pub record Closed (i : ℕ) (s r : State) : Type 0 where
    pub fit : Fit r
    pub on : suc i ≤ r.pos
    pub low : Below (length es) i r.closers s.closers
    pub nest : Nested (length es) i r.pos r.closers

  record Closing {A : Type 0} (i : ℕ) (m : M A) : Type 0 where
    run : (s : State) → Fit s → suc i ≤ s.pos → get_or s.closers i (length es) ≡ length es → Nested (length es) (suc i) s.pos s.closers → Closed i s (m s).1

  closing-ret : {A : Type 0} (i : ℕ) (x : A) → Closing i (return x)
  unfolding return
  closing-ret i x = record { run = λ s f on unshut nest. record { fit = f; on = on; low = λ j l. refl; nest = ahead unshut nest } }

  closing-bind : {A B : Type 0} (i : ℕ) {m : M A} {f : A → M B} → Pairs m → ((x : A) → Closing i (f x)) → Closing i (m >>= f)
  unfolding ◌>>=◌
  closing-bind i {m} h k = record {
    run = λ s f on unshut nest.
        let p = h.run s f in
        let q = (k (m s).0).run (m s).1 p.fit (omega (arith, p.on)) (p.low i (omega arith) ∙ unshut) (joined on p.on nest p.low p.nest) in
        record { fit = q.fit; on = q.on; low = λ j l. q.low j l ∙ p.low j (omega arith); nest = q.nest };
  }

  closing-if : {A : Type 0} (i : ℕ) (x : Bool) {m n : M A} → Closing i m → Closing i n → Closing i (when x then m else n)
  unfolding when◌then◌else◌
  closing-if i true h k = h
  closing-if i false h k = k

  -- the closer is taken
  closing-take : {A : Type 0} (i : ℕ) (ok : Entry → Bool) (x : A) (g : Entry → A) → Closing {A = A} i (advance text es ok >>= (elim [ none ↦ return x | some c ↦ closed i (g c) ]))
  unfolding ◌>>=◌ return closed
  closing-take {A} i ok x g = record { run = λ s f on unshut nest. go s f on unshut nest (advance text es ok s).0 refl }
    where
      next : Option Entry → M A
      next t = elim t [ none ↦ return x | some c ↦ closed i (g c) ]

      go : (s : State) → Fit s → suc i ≤ s.pos → get_or s.closers i (length es) ≡ length es → Nested (length es) (suc i) s.pos s.closers → (t : Option Entry) → (advance text es ok s).0 ≡ t →
          Closed i s (next t (advance text es ok s).1).1
      go s f on unshut nest none e =
          let p = stepped (advance-steps ok s) f in
          record { fit = p.fit; on = omega (arith, p.on); low = λ j l. p.low j (omega arith); nest = ahead (p.low i (omega arith) ∙ unshut) (joined on p.on nest p.low p.nest) }
      go s f on unshut nest (some y) e =
          let h = advance-some ok s y e in
          let c = (advance-steps ok s).same in
          let q : (advance text es ok s).1.pos - 1 ≡ s.pos = omega (arith, h.0) in
          rw (c, q, h.0) (record {
            fit = record {
              size = length-set s.closers i s.pos ∙ f.size;
              within = omega (arith, h.1);
              free = λ j l. get_or-set_other s.closers i j s.pos (length es) (λ z. omega arith) ∙ f.free j (omega arith);
              most = set-most (length es) s.closers i s.pos f.size f.within f.most;
            };
            on = omega arith;
            low = λ j l. get_or-set_other s.closers i j s.pos (length es) (λ z. omega arith);
            nest = around (omega (arith, f.size, f.within)) on h.1 f.free nest;
          })

  -- The cells of a row: if they are all read, the last token is their closer, and nothing is closed behind the one before it.
  record Celled (s : State) (x : Option (Nodes × Entry)) (r : State) : Type 0 where
    pair : Pairing s r
    ends : (m : Nodes × Entry) → x ≡ some m → (suc s.pos ≤ r.pos) × Free (length es) (r.pos - 1) r.closers × Nested (length es) s.pos (r.pos - 1) r.closers

  record RowPairs (m : M (Option (Nodes × Entry))) : Type 0 where
    run : (s : State) → Fit s → Celled s (m s).0 (m s).1

  -- the same where the token before s was taken just now, at s₀
  record RowAfter (m : M (Option (Nodes × Entry))) : Type 0 where
    run : (s₀ s : State) → Fit s₀ → s.closers ≡ s₀.closers → s.pos ≡ suc s₀.pos → s₀.pos < length es → Celled s₀ (m s).0 (m s).1

  no_row : {X : Type 0} (m : Nodes × Entry) → none ≡ some m → X
  no_row m e = let z : ◌≡◌ {A = ℕ} 0 1 = cc in absurd (omega arith)

  row-none : RowPairs (return none)
  unfolding return
  row-none = record { run = λ s f. record { pair = stepped (record { same = refl; moved = inl refl }) f; ends = λ m e. no_row m e } }

  row-bind : {A : Type 0} {m : M A} {f : A → M (Option (Nodes × Entry))} → Pairs m → ((x : A) → RowPairs (f x)) → RowPairs (m >>= f)
  unfolding ◌>>=◌
  row-bind {m} h k = record {
    run = λ s f.
        let p = h.run s f in
        let q = (k (m s).0).run (m s).1 p.fit in
        record {
          pair = along p q.pair;
          ends = λ x e. let w = q.ends x e in (omega (arith, p.on, w.0), w.1, joined p.on (omega (arith, w.0)) p.nest q.pair.low w.2);
        };
  }

  after-pairs : {m : M (Option (Nodes × Entry))} → RowPairs m → RowAfter m
  after-pairs h = record {
    run = λ s₀ s f c e l.
        let p = stepped {s = s₀} {r = s} (record { same = c; moved = inr (e, l) }) f in
        let q = h.run s p.fit in
        record {
          pair = along p q.pair;
          ends = λ x k. let w = q.ends x k in (omega (arith, p.on, w.0), w.1, joined p.on (omega (arith, w.0)) p.nest q.pair.low w.2);
        };
  }

  after-some : (x : Nodes × Entry) → RowAfter (return (some x))
  unfolding return
  after-some x = record {
    run = λ s₀ s f c e l. record {
      pair = stepped {s = s₀} {r = s} (record { same = c; moved = inr (e, l) }) f;
      ends = λ m k.
          let q : s.pos - 1 ≡ s₀.pos = omega (arith, e) in
          (omega (arith, e), rw (c, q) f.free, rw (c, q) (empty _ _ _));
    };
  }

  after-if : (x : Bool) {m n : M (Option (Nodes × Entry))} → RowAfter m → RowAfter n → RowAfter (when x then m else n)
  unfolding when◌then◌else◌
  after-if true h k = h
  after-if false h k = k

  row-take : (ok : Entry → Bool) (f : Entry → M (Option (Nodes × Entry))) → ((e : Entry) → RowAfter (f e)) → RowPairs (advance text es ok >>= (elim [ none ↦ return none | some e ↦ f e ]))
  unfolding ◌>>=◌ return
  row-take ok f k = record { run = λ s fit. go s fit (advance text es ok s).0 refl }
    where
      next : Option Entry → M (Option (Nodes × Entry))
      next t = elim t [ none ↦ return none | some e ↦ f e ]

      go : (s : State) → Fit s → (t : Option Entry) → (advance text es ok s).0 ≡ t → Celled s (next t (advance text es ok s).1).0 (next t (advance text es ok s).1).1
      go s fit none e = record { pair = stepped (advance-steps ok s) fit; ends = λ m h. no_row m h }
      go s fit (some y) e = let h = advance-some ok s y e in (k y).run s (advance text es ok s).1 fit (advance-steps ok s).same h.0 h.1

  row-map : {m : M (Option (Nodes × Entry))} (g : Nodes × Entry → Nodes × Entry) → RowPairs m → RowPairs (m >>= (elim [ none ↦ return none | some x ↦ return (some (g x)) ]))
  unfolding ◌>>=◌ return
  row-map {m} g h = record { run = λ s f. go s (h.run s f) (m s).0 refl }
    where
      next : Option (Nodes × Entry) → M (Option (Nodes × Entry))
      next q = elim q [ none ↦ return none | some x ↦ return (some (g x)) ]

      go : (s : State) → Celled s (m s).0 (m s).1 → (q : Option (Nodes × Entry)) → (m s).0 ≡ q → Celled s (next q (m s).1).0 (next q (m s).1).1
      go s p none e = record { pair = p.pair; ends = λ x k. no_row x k }
      go s p (some y) e = record { pair = p.pair; ends = λ x k. p.ends y e }

  pub record Good (R : Readers) : Type 0 where
    simple : (stop : Stop) (sg : Bool) → Pairs (R.simple stop sg)
    script_func : (stop : Stop) (sg : Bool) → Pairs (R.script_func stop sg)

  module _ (R : Readers) (good : Good R) where
    argument-pairs : Pairs (argument text es true R)
    unfolding argument
    argument-pairs = bind (good.simple Stop.none true) λ a. ret _

    next_script-pairs : Pairs (next_script text es true R)
    unfolding next_script
    next_script-pairs =
        bind (taking marks_script) (elim [
          | none ↦ ret _
          | some e ↦ both_ways _ (bind argument-pairs λ a. ret _)
              (bind argument-pairs λ a. bind (taking (is token.Super)) (elim [
                | none ↦ ret _
                | some e' ↦ bind argument-pairs λ b. ret _
              ]))
        ])

    next_script_func-pairs : (stop : Stop) (sg : Bool) → Pairs (next_script_func text es true R stop sg)
    unfolding next_script_func
    next_script_func-pairs stop sg =
        bind (taking (heads sg)) (elim [
          | none ↦ bind (good.simple stop sg) (elim [
            | none ↦ ret _
            | some x ↦ bind next_script-pairs λ q. ret _
          ])
          | some e ↦ both_ways _ (bind next_script-pairs λ q. bind (good.script_func Stop.none true) λ a. ret _)
              (bind (good.script_func stop true) λ a. ret _)
        ])

    pub next_intermediate-pairs : (stop : Stop) (sg : Bool) → Pairs (next_intermediate text es true R stop sg)
    unfolding next_intermediate
    next_intermediate-pairs stop sg =
        bind (good.script_func stop sg) (elim [
          | none ↦ ret _
          | some x ↦ bind (taking (is token.Frac)) (elim [
            | none ↦ ret _
            | some e ↦ bind (good.script_func Stop.none true) λ b. ret _
          ])
        ])

    pub intermediates-pairs : (f : ℕ) (until : Option Entry) (stop : Stop) (before : Option Node) → Pairs (intermediates text es true R f until stop before)
    unfolding intermediates
    intermediates-pairs zero until stop before = ret _
    intermediates-pairs (suc f) until stop before =
        bind at_here λ p.
        both_ways _ (ret _)
        (bind (next_intermediate-pairs stop (prefixes before)) (elim [
          | none ↦ ret _
          | some x ↦ bind (intermediates-pairs f until stop (some x)) λ l. ret _
        ]))

    row_cells-pairs : (f : ℕ) → RowPairs (row_cells text es true R f)
    unfolding row_cells
    row_cells-pairs zero = row-none
    row_cells-pairs (suc f) =
        row-bind (intermediates-pairs _ none Stop.sep none) λ l.
        row-take any _ λ e.
        after-if _ (after-pairs (row-map _ (row_cells-pairs f)))
        (after-if _ (after-some _) (after-pairs row-none))

    next_matrix_row-pairs : Pairs (next_matrix_row text es true R)
    unfolding next_matrix_row ◌>>=◌ here return closed when◌then◌else◌
    next_matrix_row-pairs = record { run = λ s f. go s f (advance text es any s).0 refl }
      where
        cells : State → Option (Nodes × Entry) × State
        cells s = row_cells text es true R (suc (length es)) s

        next : ℕ → Entry → Option (Nodes × Entry) → M (Option Row)
        next i o q = elim q [ none ↦ return none | some m ↦ closed i (some (record { left = o; right = m.1; cells = m.0 })) ]

        last : (s u : State) → Fit s → Stepped s u → u.pos ≡ suc s.pos → (o : Entry) → Celled u (cells u).0 (cells u).1 → (q : Option (Nodes × Entry)) → (cells u).0 ≡ q → Pairing s (next s.pos o q (cells u).1).1
        last s u f st e o p none h = along (stepped st f) p.pair
        last s u f st e o p (some m) h =
            let w = p.ends m h in
            let a = along (stepped st f) p.pair in
            let r = (cells u).1 in
            let z : suc (r.pos - 1) ≡ r.pos = omega (arith, w.0) in
            record {
              fit = record {
                size = length-set r.closers s.pos (r.pos - 1) ∙ a.fit.size;
                within = a.fit.within;
                free = λ j l. get_or-set_other r.closers s.pos j (r.pos - 1) (length es) (λ y. omega (arith, w.0)) ∙ a.fit.free j l;
                most = set-most (length es) r.closers s.pos (r.pos - 1) a.fit.size (omega (arith, a.fit.within)) a.fit.most;
              };
              on = a.on;
              low = λ j l. get_or-set_other r.closers s.pos j (r.pos - 1) (length es) (λ y. omega arith) ∙ a.low j l;
              nest = subst (λ (b : ℕ). Nested (length es) s.pos b (set r.closers s.pos (r.pos - 1))) z
                  (around (omega (arith, a.fit.size, a.fit.within, w.0)) (omega (arith, w.0)) (omega (arith, a.fit.within, w.0)) w.1 (subst (λ (b : ℕ). Nested (length es) b (r.pos - 1) r.closers) e w.2));
            }

        opened : (s u : State) → Fit s → Stepped s u → u.pos ≡ suc s.pos → (o : Entry) → (b : Bool) → Pairing s ((when b then (row_cells text es true R (suc (length es)) >>= next s.pos o) else return none) u).1
        opened s u f st e o true = last s u f st e o ((row_cells-pairs _).run u (stepped st f).fit) (cells u).0 refl
        opened s u f st e o false = stepped st f

        taken : ℕ → Option Entry → M (Option Row)
        taken i t = elim t [ none ↦ return none | some o ↦ (when is token.OpenBracket o then (row_cells text es true R (suc (length es)) >>= next i o) else return none) ]

        go : (s : State) → Fit s → (t : Option Entry) → (advance text es any s).0 ≡ t → Pairing s (taken s.pos t (advance text es any s).1).1
        go s f none e = stepped (advance-steps any s) f
        go s f (some o) e = opened s (advance text es any s).1 f (advance-steps any s) (advance-some any s o e).0 o (is token.OpenBracket o)

    more_rows-pairs : (f : ℕ) (h : Row) → Pairs (more_rows text es true R f h)
    unfolding more_rows
    more_rows-pairs zero h = ret _
    more_rows-pairs (suc f) h =
        bind at_here λ p.
        both_ways _
        (bind (taking any) λ t. bind next_matrix_row-pairs (elim [
          | none ↦ ret _
          | some r ↦ both_ways _ (bind (more_rows-pairs f h) (elim [ none ↦ ret _ | some m ↦ ret _ ])) (ret _)
        ]))
        (ret _)

    pub next_matrix_rows-pairs : Pairs (next_matrix_rows text es true R)
    unfolding next_matrix_rows
    next_matrix_rows-pairs =
        bind next_matrix_row-pairs (elim [
          | none ↦ ret _
          | some h ↦ both_ways _ (bind (more_rows-pairs _ h) (elim [ none ↦ ret _ | some m ↦ ret _ ])) (ret _)
        ])

    matrix_body-closing : (o : Entry) (i : ℕ) → Closing i (matrix_body text es true R o i)
    unfolding matrix_body
    matrix_body-closing o i =
        closing-bind i next_matrix_rows-pairs (elim [
          | none ↦ closing-ret i _
          | some r ↦ closing-bind i at_here λ p. closing-if i _ (closing-take i any _ _) (closing-ret i _)
        ])

    bar_body-closing : (o : Entry) (i : ℕ) (stop : Stop) → Closing i (bar_body text es true R o i stop)
    unfolding bar_body
    bar_body-closing o i stop =
        closing-bind i (next_intermediate-pairs stop true) (elim [
          | none ↦ closing-ret i _
          | some x ↦ closing-bind i (intermediates-pairs _ (some o) stop (some x)) λ l.
              closing-bind i at_here λ p. closing-if i _ (closing-take i any _ _) (closing-ret i _)
        ])

    next_open_group-closing : (o : Entry) (i : ℕ) → Closing i (next_open_group text es true R o i)
    unfolding next_open_group
    next_open_group-closing o i = closing-bind i (intermediates-pairs _ none Stop.none none) λ l. closing-take i (is token.CloseBracket) _ _

  -- Right behind the opener i.
  pub record AtPairs {A : Type 0} (i : ℕ) (m : M A) : Type 0 where
    pub run : (s : State) → Fit s → s.pos ≡ suc i → get_or s.closers i (length es) ≡ length es → Closed i s (m s).1

  begins-at : {A : Type 0} {i : ℕ} {m : M A} → Closing i m → AtPairs i m
  begins-at {i = i} h = record { run = λ s f e u. h.run s f (omega arith) u (rw e (empty _ _ _)) }

  at_plain : {A : Type 0} {i : ℕ} {m : M A} → Pairs m → AtPairs i m
  at_plain {i = i} {m = m} h = record {
    run = λ s f e u.
        let p = h.run s f in
        record { fit = p.fit; on = omega (arith, p.on); low = λ j l. p.low j (omega arith); nest = ahead (p.low i (omega arith) ∙ u) (subst (λ (b : ℕ). Nested (length es) b (m s).1.pos (m s).1.closers) e p.nest) };
  }

  unmoved : {i : ℕ} {s r : State} → Fit s → s.pos ≡ suc i → get_or s.closers i (length es) ≡ length es → r.pos ≡ s.pos → r.closers ≡ s.closers → Closed i s r
  unmoved {i} {s} {r} f e u p c = record {
    fit = record { size = ap length c ∙ f.size; within = omega (arith, f.within); free = λ j l. ap (λ (x : List ℕ). get_or x j (length es)) c ∙ f.free j (omega arith); most = λ j. rw c (f.most j) };
    on = omega arith;
    low = λ j l. ap (λ (x : List ℕ). get_or x j (length es)) c;
    nest = ahead (ap (λ (x : List ℕ). get_or x i (length es)) c ∙ u) (subst (λ (b : ℕ). Nested (length es) (suc i) b r.closers) (sym (p ∙ e)) (empty _ _ _));
  }

  abbrev settle : Mark → ℕ → State → Try → M (Option Node)
  settle k i o t = elim t [ made x ↦ return (some x) | lost ↦ give_up text es true k i o | nought ↦ return none ]

  module _ (k : Mark) (i : ℕ) (body : M Try) (closing : Closing i body) where
    attempt-pairs : AtPairs i (attempt text es true k i body)
    unfolding attempt failed ◌>>=◌ current when◌then◌else◌ return give_up
    attempt-pairs = record { run = λ s f e u. go s f e u (get_or s.marks (slot k i) false) }
      where
        settled : (s : State) → Fit s → s.pos ≡ suc i → get_or s.closers i (length es) ≡ length es → (t : Try) → Closed i s (settle k i s t (body s).1).1
        settled s f e u (made x) = (begins-at closing).run s f e u
        settled s f e u nought = (begins-at closing).run s f e u
        settled s f e u lost = unmoved f e u refl refl

        go : (s : State) → Fit s → s.pos ≡ suc i → get_or s.closers i (length es) ≡ length es → (x : Bool) → Closed i s ((when x then return none else (body >>= settle k i s)) s).1
        go s f e u true = unmoved f e u refl refl
        go s f e u false = settled s f e u (body s).0

  record Never (m : M Try) : Type 0 where
    never : (s : State) → (m s).0 ≡ nought → ⊥

  never-bind : {A : Type 0} (m : M A) {f : A → M Try} → ((x : A) → Never (f x)) → Never (m >>= f)
  unfolding ◌>>=◌
  never-bind m k = record { never = λ s. (k (m s).0).never (m s).1 }

  never-if : (x : Bool) {m n : M Try} → Never m → Never n → Never (when x then m else n)
  unfolding when◌then◌else◌
  never-if true h k = h
  never-if false h k = k

  never-lost : Never (return lost)
  unfolding return
  never-lost = record { never = λ s e. let z : ◌≡◌ {A = ℕ} 0 1 = cc in omega arith }

  never-made : (i : ℕ) (x : Node) → Never (closed i (made x))
  unfolding closed
  never-made i x = record { never = λ s e. let z : ◌≡◌ {A = ℕ} 0 1 = cc in omega arith }

  matrix-never : (R : Readers) (o : Entry) (i : ℕ) → Never (matrix_body text es true R o i)
  unfolding matrix_body
  matrix-never R o i =
      never-bind _ (elim [
        | none ↦ never-lost
        | some r ↦ never-bind _ λ p. never-if _ (never-bind _ (elim [ none ↦ never-lost | some c ↦ never-made i _ ])) never-lost
      ])

  module _ (R : Readers) (good : Good R) (i : ℕ) (o : Entry) where
    try_matrix-pairs : AtPairs i (try_matrix text es true R o i)
    unfolding try_matrix when◌then◌else◌
    try_matrix-pairs = go (could_be_matrix text es o i)
      where
        go : (x : Bool) → AtPairs i (when x then attempt text es true matrix_mark i (matrix_body text es true R o i) else return none)
        go true = attempt-pairs matrix_mark i _ (matrix_body-closing R good o i)
        go false = at_plain (ret _)

    -- A matrix that is not made leaves the place and the closers as they were.
    back_at : (s : State) (x : Bool) → ((when x then attempt text es true matrix_mark i (matrix_body text es true R o i) else return none) s).0 ≡ none →
        (((when x then attempt text es true matrix_mark i (matrix_body text es true R o i) else return none) s).1.pos ≡ s.pos)
        × (((when x then attempt text es true matrix_mark i (matrix_body text es true R o i) else return none) s).1.closers ≡ s.closers)
    unfolding when◌then◌else◌ return attempt failed ◌>>=◌ give_up current
    back_at s false e = (refl, refl)
    back_at s true e = go (get_or s.marks (slot matrix_mark i) false) e
      where
        end-at : (t : Try) → (matrix_body text es true R o i s).0 ≡ t → ((settle matrix_mark i s t (matrix_body text es true R o i s).1).0 ≡ none) →
            ((settle matrix_mark i s t (matrix_body text es true R o i s).1).1.pos ≡ s.pos) × ((settle matrix_mark i s t (matrix_body text es true R o i s).1).1.closers ≡ s.closers)
        end-at (made x) f e = let z : ◌≡◌ {A = ℕ} 0 1 = cc in absurd (omega arith)
        end-at lost f e = (refl, refl)
        end-at nought f e = absurd ((matrix-never R o i).never s f)

        go : (x : Bool) → ((when x then return none else (matrix_body text es true R o i >>= settle matrix_mark i s)) s).0 ≡ none →
            (((when x then return none else (matrix_body text es true R o i >>= settle matrix_mark i s)) s).1.pos ≡ s.pos)
            × (((when x then return none else (matrix_body text es true R o i >>= settle matrix_mark i s)) s).1.closers ≡ s.closers)
        go true e = (refl, refl)
        go false e = end-at (matrix_body text es true R o i s).0 refl e

    try_matrix-back : (s : State) → (try_matrix text es true R o i s).0 ≡ none → ((try_matrix text es true R o i s).1.pos ≡ s.pos) × ((try_matrix text es true R o i s).1.closers ≡ s.closers)
    unfolding try_matrix
    try_matrix-back s e = back_at s (could_be_matrix text es o i) e

    abbrev after : M Node → Option Node → M Node
    after rest m = elim m [ some x ↦ return x | none ↦ rest ]

    then-pairs : (rest : M Node) → AtPairs i rest → AtPairs i (try_matrix text es true R o i >>= after rest)
    unfolding ◌>>=◌ return
    then-pairs rest h = record { run = λ s f e u. go s f e u (try_matrix text es true R o i s).0 refl }
      where
        go : (s : State) → Fit s → s.pos ≡ suc i → get_or s.closers i (length es) ≡ length es → (x : Option Node) → (try_matrix text es true R o i s).0 ≡ x → Closed i s (after rest x (try_matrix text es true R o i s).1).1
        go s f e u (some v) k = try_matrix-pairs.run s f e u
        go s f e u none k =
            let b = try_matrix-back s k in
            let p = try_matrix-pairs.run s f e u in
            let q = h.run (try_matrix text es true R o i s).1 p.fit (b.0 ∙ e) (ap (λ (x : List ℕ). get_or x i (length es)) b.1 ∙ u) in
            record { fit = q.fit; on = q.on; low = λ j l. q.low j l ∙ ap (λ (x : List ℕ). get_or x j (length es)) b.1; nest = q.nest }

    next_bracket-pairs : AtPairs i (next_bracket text es true R o i)
    unfolding next_bracket
    next_bracket-pairs = then-pairs _ (begins-at (next_open_group-closing R good o i))

    bars-pairs : (stop : Stop) → AtPairs i (attempt text es true (open_mark stop) i (bar_body text es true R o i stop) >>= λ g. return (or_glyph o g))
    unfolding ◌>>=◌ return
    bars-pairs stop = record { run = λ s f e u. (attempt-pairs (open_mark stop) i _ (bar_body-closing R good o i stop)).run s f e u }

    next_open_close_group-pairs : (stop : Stop) → AtPairs i (next_open_close_group text es true R o i stop)
    unfolding next_open_close_group
    next_open_close_group-pairs stop = then-pairs _ (bars-pairs stop)

  then_some : {i : ℕ} {m : M Node} → AtPairs i m → AtPairs i (m >>= λ a. return (some a))
  unfolding ◌>>=◌ return
  then_some h = record { run = λ s f e u. h.run s f e u }

  module _ (R : Readers) (good : Good R) (i : ℕ) where
    begun-pairs : (k : Token) (e : Entry) (stop : Stop) (sg : Bool) → AtPairs i (begun text es true R k e i stop sg)
    unfolding begun
    begun-pairs token.Number e stop sg = at_plain (ret _)
    begun-pairs token.Text e stop sg = at_plain (ret _)
    begun-pairs token.Ident e stop sg = at_plain (ret _)
    begun-pairs token.Operator e stop sg = at_plain (ret _)
    begun-pairs (token.Symbol c) e stop sg = at_plain (ret _)
    begun-pairs token.Sign e stop true = at_plain (bind (good.simple stop true) λ a. ret _)
    begun-pairs token.Sign e stop false = at_plain (ret _)
    begun-pairs token.Unary e stop sg = at_plain (bind (argument-pairs R good) λ a. ret _)
    begun-pairs token.Function e stop sg = at_plain (bind (argument-pairs R good) λ a. ret _)
    begun-pairs token.Binary e stop sg = at_plain (bind (argument-pairs R good) λ a. bind (argument-pairs R good) λ b. ret _)
    begun-pairs token.OpenBracket e stop sg = then_some (next_bracket-pairs R good i e)
    begun-pairs token.OpenCloseBracket e stop sg = then_some (next_open_close_group-pairs R good i e stop)
    begun-pairs token.Sep e stop sg = at_plain (ret _)
    begun-pairs token.Frac e stop sg = at_plain (ret _)
    begun-pairs token.Super e stop sg = at_plain (ret _)
    begun-pairs token.Sub e stop sg = at_plain (ret _)
    begun-pairs token.CloseBracket e stop sg = at_plain (ret _)
    begun-pairs token.Space e stop sg = at_plain (ret _)

  module _ (R : Readers) (good : Good R) (stop : Stop) (sg : Bool) where
    abbrev going : ℕ → Option Entry → M (Option Node)
    going i x = elim x [ none ↦ return none | some e ↦ begun text es true R e.token e i stop sg ]

    next_simple-pairs : Pairs (next_simple text es true R stop sg)
    unfolding next_simple ◌>>=◌ here return
    next_simple-pairs = record { run = λ s f. go s f (advance text es (begins stop) s).0 refl }
      where
        go : (s : State) → Fit s → (x : Option Entry) → (advance text es (begins stop) s).0 ≡ x → Pairing s (going s.pos x (advance text es (begins stop) s).1).1
        go s f none e = stepped (advance-steps (begins stop) s) f
        go s f (some y) e =
            let h = advance-some (begins stop) s y e in
            let st = advance-steps (begins stop) s in
            let c : (j : ℕ) → get_or (advance text es (begins stop) s).1.closers j (length es) ≡ get_or s.closers j (length es) = λ j. ap (λ (x : List ℕ). get_or x j (length es)) st.same in
            let p = (begun-pairs R good s.pos y.token y stop sg).run (advance text es (begins stop) s).1 (stepped st f).fit h.0 (c s.pos ∙ f.free s.pos (omega arith)) in
            record { fit = p.fit; on = omega (arith, p.on); low = λ j l. p.low j l ∙ c j; nest = p.nest }

  pub level-good : (r : ℕ) → Good (level text es true r)
  unfolding level step
  level-good zero = record { simple = λ stop sg. ret _; script_func = λ stop sg. ret _ }
  level-good (suc r) = record {
    simple = λ stop sg. next_simple-pairs (level text es true r) (level-good r) stop sg;
    script_func = λ stop sg. next_script_func-pairs (level text es true r) (level-good r) stop sg;
  }

  parse-pairs : (f wraps : ℕ) (acc : Nodes) → Pairs (parse text es true f wraps acc)
  unfolding parse
  parse-pairs zero wraps acc = ret _
  parse-pairs (suc f) zero acc =
      bind (intermediates-pairs (level text es true 256) (level-good 256) _ none Stop.none _) λ l.
      bind (taking (is token.CloseBracket)) (elim [
        | none ↦ ret _
        | some c ↦ parse-pairs f zero _
      ])
  parse-pairs (suc f) (suc w) acc =
      bind (intermediates-pairs (level text es true 256) (level-good 256) _ none Stop.none _) λ l.
      bind (taking (is token.CloseBracket)) (elim [
        | none ↦ ret _
        | some c ↦ parse-pairs f w _
      ])

  all_none : (k m j : ℕ) → get_or (replicate k m) j m ≡ m
  all_none zero m j = refl
  all_none (suc k) m zero = refl
  all_none (suc k) m (suc j) = all_none k m j

  long-none : (k m : ℕ) → length (replicate k m) ≡ k
  long-none zero m = refl
  long-none (suc k) m = ap suc (long-none k m)

  pub all-nested : Pairing (start text es true) (parse_entries text es true).1
  unfolding parse_entries
  all-nested = (parse-pairs (suc (length es)) 256 end).run (start text es true)
      (record { size = long-none (length es) (length es); within = omega arith; free = λ j l. all_none (length es) (length es) j; most = λ j. omega (arith, all_none (length es) (length es) j) })

-- Over all the entries of a list.
pub nested : (text : List ℕ) (ts : List Lexeme) → let n = length (entries nowhere ts) in let c = closers_of text ts in
    (length c ≡ n)
    × ((i : ℕ) → get_or c i n ≤ n)
    × ((i : ℕ) → get_or c i n < n → i < get_or c i n)
    × ((i j : ℕ) → i < j → get_or c i n < n → get_or c j n < n → (get_or c i n < j) ⊎ (get_or c j n < get_or c i n))
unfolding closers_of
nested text ts =
    let es = entries nowhere ts in
    let p = all-nested text es in
    let c = (parse_entries text es true).1.closers in
    let low : (i : ℕ) → get_or c i (length es) < length es → i < (parse_entries text es true).1.pos = λ i h. below (parse_entries text es true).1.pos i c (length es) p.fit.free h in (
      p.fit.size,
      p.fit.most,
      λ i h. (p.nest.inside i (omega arith) (low i h) h).0,
      λ i j l h k. p.nest.apart i j (omega arith) l (low j k) h k,
    )
  where
    below : (b i : ℕ) (c : List ℕ) (n : ℕ) → Free n b c → get_or c i n < n → i < b
    below b i c n f h = go (dec_le b i)
      where
        go : Dec (b ≤ i) → i < b
        go (yes l) = absurd (omega (arith, f i l))
        go (no l) = omega arith

-- so no two openers have one closer, and a token that closes opens nothing
module _ (text : List ℕ) (ts : List Lexeme) where
  abbrev n : ℕ
  n = length (entries nowhere ts)

  abbrev c : List ℕ
  c = closers_of text ts

  pub one-opener : (i j : ℕ) → i < j → get_or c i n < n → get_or c j n < n → get_or c i n ≡ get_or c j n → ⊥
  one-opener i j l h k e = let p = nested text ts in go (p.3 i j l h k) (p.2 j k) e
    where
      go : {a b : ℕ} → (a < j) ⊎ (b < a) → j < b → a ≡ b → ⊥
      go (inl x) y e = omega arith
      go (inr x) y e = omega arith

  pub closer-opens_nothing : (i : ℕ) → get_or c i n < n → get_or c (get_or c i n) n ≡ n
  closer-opens_nothing i h = let p = nested text ts in go (dec_le n (get_or c (get_or c i n) n)) (p.1 (get_or c i n)) (p.2 i h) (p.2 (get_or c i n)) (p.3 i (get_or c i n) (p.2 i h) h)
    where
      either : {a b : ℕ} → (a < a) ⊎ (b < a) → a < b → ⊥
      either (inl x) y = omega arith
      either (inr x) y = omega arith

      go : {a b : ℕ} → Dec (n ≤ b) → b ≤ n → i < a → (b < n → a < b) → (b < n → (a < a) ⊎ (b < a)) → b ≡ n
      go (yes l) m o f g = omega arith
      go (no l) m o f g = absurd (either (g (omega arith)) (f (omega arith)))
