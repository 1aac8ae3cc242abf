-- The rows of a walk over any words, one node after the other, and how far they reach.
use Prim.Native.Nat.{ℕ, zero, suc, ◌+◌, ◌-◌, ◌≤◌, ◌<◌}
use mathlib.Core.Path.{◌≡◌, refl, sym, ap, ◌∙◌}
use mathlib.Core.Bool.{Bool, true}
use mathlib.Core.List.{List, [], ◌++◌, append_assoc, append-nil}
use native.Mathlib.Omega.{arith}
use lib.ListN.{length}
use lib.Dec.{eqb}
use borrow.Author.Tests.{eqb-true}
use Rattle.tokens.proofs.Cases.{by_test, clash}
use Rattle.tree.specs.declared.walk.Opened.{Opened}
use Rattle.std.proofs.Common.{Option, Some, None}
use Rattle.tree.specs.Walk.{step_at, past_of}
use Rattle.tree.proofs.Steps.{step-within, step_end}
use Rattle.printer.specs.declared.row.Reached.{Reached}
use Rattle.writer.specs.Put.{Put, most}
use Rattle.line.specs.Lines.{line_of}
use Rattle.printer.specs.Rows.{Row, RowPut, no_row, node_row, last_of, row_within, row_of}
use Rattle.writer.proofs.Puts.{none, then, put_as}

by_step : {A : Type 0} (s : Option Opened) → (s ≡ None → A) → ((o : Opened) → s ≡ Some o → A) → A
by_step None f g = f refl
by_step (Some o) f g = g o refl

module _ (words : List ℕ) where
  -- the row behind a node, where the row below it ends
  abbrev behind_of : ℕ → Opened → ℕ → ℕ → Bool → ℕ → Row
  behind_of f o end n items depth = row_within f words (past_of (length words) end o.tail) n items depth

  abbrev below_of : ℕ → Opened → ℕ → Row
  below_of f o depth = row_within f words o.from o.count o.items (depth + 1)

  module _ (at : ℕ) (items : Bool) (depth : ℕ) where
    none_within : (f : ℕ) → row_within f words at 0 items depth ≡ no_row at
    unfolding row_within
    none_within zero = refl
    none_within (suc f) = refl

    end-within : (f n : ℕ) → step_at words at items ≡ None → row_within f words at n items depth ≡ no_row at
    unfolding row_within
    end-within zero n e = refl
    end-within (suc f) zero e = refl
    end-within (suc f) (suc n) e = rw (e, row_within)

    node-within : (f n : ℕ) (o : Opened) → step_at words at items ≡ Some o →
        row_within (suc f) words at (suc n) items depth
        ≡ node_row words o depth (below_of f o depth) (behind_of f o (below_of f o depth).end n items depth)
    unfolding row_within
    node-within f n o e = rw (e, row_within)

  least-within : (f at n : ℕ) (items : Bool) (depth : ℕ) → at ≤ (row_within f words at n items depth).end
  unfolding row_within
  least-within zero at n items depth = omega arith
  least-within (suc f) at zero items depth = omega arith
  least-within (suc f) at (suc n) items depth =
      by_step (step_at words at items)
      (λ e. rw (end-within at items depth (suc f) (suc n) e) (omega arith))
      (λ o e.
      let i = step-within words at items o (sym e) in
      let b : ℕ = (below_of f o depth).end in
      let l : o.from ≤ b = least-within f o.from o.count o.items (depth + 1) in
      let m : past_of (length words) b o.tail ≤ (behind_of f o b n items depth).end = least-within f (past_of (length words) b o.tail) n items depth in
      rw (node-within at items depth f n o e) (omega arith))

  upto-within : (f at n : ℕ) (items : Bool) (depth : ℕ) → at ≤ length words → (row_within f words at n items depth).end ≤ length words
  unfolding row_within
  upto-within zero at n items depth h = h
  upto-within (suc f) at zero items depth h = h
  upto-within (suc f) at (suc n) items depth h =
      by_step (step_at words at items)
      (λ e. rw (end-within at items depth (suc f) (suc n) e) h)
      (λ o e.
      rw (node-within at items depth f n o e)
      (upto-within f (past_of (length words) (below_of f o depth).end o.tail) n items depth (omega arith)))

  -- a bound that is no less than the words that are left is large enough
  enough : (f g at n : ℕ) (items : Bool) (depth : ℕ) → length words ≤ at + f → length words ≤ at + g →
      row_within f words at n items depth ≡ row_within g words at n items depth
  unfolding row_within
  enough zero g at n items depth h k = sym (end-within at items depth g n (sym (step_end words at items (omega arith))))
  enough (suc f) zero at n items depth h k = end-within at items depth (suc f) n (sym (step_end words at items (omega arith)))
  enough (suc f) (suc g) at zero items depth h k = refl
  enough (suc f) (suc g) at (suc n) items depth h k =
      by_step (step_at words at items)
      (λ e. end-within at items depth (suc f) (suc n) e ∙ sym (end-within at items depth (suc g) (suc n) e))
      (λ o e.
      let i = step-within words at items o (sym e) in
      let b : ℕ = (below_of g o depth).end in
      let l : o.from ≤ b = least-within g o.from o.count o.items (depth + 1) in
      let below : below_of f o depth ≡ below_of g o depth = enough f g o.from o.count o.items (depth + 1) (omega arith) (omega arith) in
      let behind : behind_of f o b n items depth ≡ behind_of g o b n items depth =
      enough f g (past_of (length words) b o.tail) n items depth (omega arith) (omega arith) in
      node-within at items depth f n o e
      ∙ ap (λ (r : Row). node_row words o depth r (behind_of f o r.end n items depth)) below
      ∙ ap (node_row words o depth (below_of g o depth)) behind
      ∙ sym (node-within at items depth g n o e))

  module _ (at n : ℕ) (items : Bool) (depth : ℕ) where
    pub least : at ≤ (row_of words at n items depth).end
    unfolding row_of
    least = least-within (length words) at n items depth

    pub upto : at ≤ length words → (row_of words at n items depth).end ≤ length words
    unfolding row_of
    upto h = upto-within (length words) at n items depth h

    pub row-none : n ≤ 0 → row_of words at n items depth ≡ no_row at
    unfolding row_of
    row-none z = let e : n ≡ 0 = omega arith in rw e (none_within at items depth (length words))

    pub row-end : None ≡ step_at words at items → row_of words at n items depth ≡ no_row at
    unfolding row_of
    row-end e = end-within at items depth (length words) n (sym e)

    pub row-node : (o : Opened) → 0 < n → Some o ≡ step_at words at items →
        row_of words at n items depth
        ≡ (let below = row_of words o.from o.count o.items (depth + 1) in
        node_row words o depth below (row_of words (past_of (length words) below.end o.tail) (n - 1) items depth))
    unfolding row_of
    row-node o z e =
        let s : n ≡ suc (n - 1) = omega arith in
        enough (length words) (suc (length words)) at n items depth (omega arith) (omega arith)
        ∙ ap (λ (k : ℕ). row_within (suc (length words)) words at k items depth) s
        ∙ node-within at items depth (length words) (n - 1) o (sym e)

-- a node that is the last of its row
is_last : (left tail : ℕ) → last_of left tail ≡ true → (left ≡ 1) × (tail ≡ 0)
is_last left tail e =
    let one : left ≡ 1 = by_test (eqb left 1) (eqb-true left 1) (λ f. clash (last_of left tail) e (rw f)) in
    (one, eqb-true tail 0 (rw one at e))

-- Midway through a row: lines of it are put, and those of the nodes that are left, at a depth of their own, are the others.
pub record Midway (words before : List ℕ) (from place : ℕ) (row : Row) (out : List ℕ) (at next left : ℕ) (items : Bool) (depth : ℕ) : Type 0 where
  pub least : from ≤ at
  pub upto : at ≤ length words
  pub deep : depth ≤ at
  pub done : List ℕ
  pub put : Put before place out next done
  pub lines : done ++ (row_of words at left items depth).lines ≡ row.lines
  pub end : (row_of words at left items depth).end ≡ row.end

pub begin : (words before : List ℕ) (from place number : ℕ) (items : Bool) (depth : ℕ) → from ≤ length words → depth ≤ from → length before ≤ most → place ≤ most →
    Midway words before from place (row_of words from number items depth) before from place number items depth
begin words before from place number items depth h d a k = record {
  least = omega arith;
  upto = h;
  deep = d;
  done = [];
  put = none before place a k;
  lines = refl;
  end = refl;
}

module _ {words before : List ℕ} {from place : ℕ} {row : Row} {out : List ℕ} {at to left : ℕ} {items : Bool} {depth : ℕ}
    (w : Midway words before from place row out at to left items depth) where
  closed : row_of words at left items depth ≡ no_row at → RowPut before place row out (record { at = at; end = to })
  closed e = record {
    end = ap (λ (r : Row). r.end) (sym e) ∙ w.end;
    put = put_as (sym (append-nil w.done) ∙ ap (λ (r : Row). w.done ++ r.lines) (sym e) ∙ w.lines) w.put;
  }

  -- no node is left
  pub done : left ≤ 0 → RowPut before place row out (record { at = at; end = to })
  done z = closed (row-none words at left items depth z)

  -- no node is there though one is left
  pub cut : None ≡ step_at words at items → RowPut before place row out (record { at = at; end = to })
  cut e = closed (row-end words at left items depth e)

  -- one node more, whose line is put
  module _ {o : Opened} {out₁ : List ℕ} {to₁ : ℕ} (e : Some o ≡ step_at words at items) (p : Put out to out₁ to₁ (line_of words o depth)) where
    abbrev below : Row
    below = row_of words o.from o.count o.items (depth + 1)

    -- the nodes below the last node take the place of its row
    pub down : last_of left o.tail ≡ true → Midway words before from place row out₁ o.from to₁ o.count o.items (depth + 1)
    down t =
        let last = is_last left o.tail t in
        let i = step-within words at items o e in
        let n = row-node words at left items depth o (omega arith) e in
        let b : below.end ≤ length words = upto words o.from o.count o.items (depth + 1) i.upto in
        let here : past_of (length words) below.end o.tail ≡ below.end = omega arith in
        let none : row_of words (past_of (length words) below.end o.tail) (left - 1) items depth ≡ no_row below.end = row-none words _ (left - 1) items depth (omega arith) ∙ ap no_row here in
        let all : row_of words at left items depth ≡ node_row words o depth below (no_row below.end) = n ∙ ap (node_row words o depth below) none in
        record {
          least = omega (arith, w.least);
          upto = i.upto;
          deep = omega (arith, w.deep);
          done = w.done ++ line_of words o depth;
          put = then w.put p;
          lines =
              append_assoc w.done (line_of words o depth) below.lines
              ∙ ap (λ (x : List ℕ). w.done ++ (line_of words o depth ++ x)) (sym (append-nil below.lines))
              ∙ ap (λ (r : Row). w.done ++ r.lines) (sym all)
              ∙ w.lines;
          end = ap (λ (r : Row). r.end) (sym all) ∙ w.end;
        }

    -- the row goes on behind the nodes below it
    pub less : {out₂ : List ℕ} {at₂ : ℕ} {r : Reached} → RowPut out₁ to₁ below out₂ r → at₂ ≡ past_of (length words) r.at o.tail →
        length words - at₂ < length words - at
    less q g =
        let i = step-within words at items o e in
        let b : o.from ≤ below.end = least words o.from o.count o.items (depth + 1) in
        omega (arith, q.end)

    -- the nodes below it are put, and the row goes on behind them
    pub next : {out₂ : List ℕ} {at₂ : ℕ} {r : Reached} → RowPut out₁ to₁ below out₂ r → at₂ ≡ past_of (length words) r.at o.tail → 0 < left →
        Midway words before from place row out₂ at₂ r.end (left - 1) items depth
    next {out₂} {at₂} {r} q g z =
        let i = step-within words at items o e in
        let n = row-node words at left items depth o z e in
        let b : o.from ≤ below.end = least words o.from o.count o.items (depth + 1) in
        let here : past_of (length words) below.end o.tail ≡ at₂ = ap (λ (k : ℕ). past_of (length words) k o.tail) (sym q.end) ∙ sym g in
        let behind : Row = row_of words at₂ (left - 1) items depth in
        let all : row_of words at left items depth ≡ node_row words o depth below behind =
        n ∙ ap (λ (k : ℕ). node_row words o depth below (row_of words k (left - 1) items depth)) here in
        record {
          least = omega (arith, w.least, q.end);
          upto = omega arith;
          deep = omega (arith, w.deep, q.end);
          done = w.done ++ (line_of words o depth ++ below.lines);
          put = then w.put (then p q.put);
          lines =
              append_assoc w.done (line_of words o depth ++ below.lines) behind.lines
              ∙ ap (λ (x : List ℕ). w.done ++ x) (append_assoc (line_of words o depth) below.lines behind.lines)
              ∙ ap (λ (r : Row). w.done ++ r.lines) (sym all)
              ∙ w.lines;
          end = ap (λ (r : Row). r.end) (sym all) ∙ w.end;
        }
