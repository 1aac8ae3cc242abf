-- The columns' flags one by one: how many columns are kept, and the boundaries where the others were.
use mathlib.Core.Path.{◌≡◌, refl, ap, sym, ◌∙◌}
use mathlib.Core.List.{List, [], ◌∷◌, ◌++◌, append_assoc, append-nil}
use mathlib.Core.Bool.{Bool, true, false, cond}
use Prim.Native.Nat.{ℕ, ◌+◌, ◌≤◌, ◌<◌}
use native.Mathlib.Omega.{arith}
use native.Mathlib.Numerals.{add-one}
use lib.ListN.{length, drop, get_or, set, length-drop, length-set, length-map, get_or-map, drop_of_length-le}
use lib.Seq.{length-take-le, drop-cons, get_or-take, get_or-drop, drop-set-lt, get_or-set_other}
use lib.Dec.{eqb}
use Rattle.std.proofs.Common.{count_by, ◌==◌}
use Rattle.std.proofs.lemmas.List.Sums.{sum_by_from}
use Rattle.reading.specs.Reading.{kept_cols, column_lines}
use Rattle.tokens.specs.Refusals.{bit}
use Rattle.columns.specs.Steps.{Wrote, flags, bits, Lines}
use Rattle.columns.proofs.Buffer.{Same, seq, wrote_none, wrote_one}

kept_cons : (b : Bool) (l : List Bool) → kept_cols (b ∷ l) ≡ cond (eqb (bit b) 0) 1 0 + kept_cols l
unfolding kept_cols
kept_cons true l = omega arith
kept_cons false l = omega arith

-- the columns whose flag is 0 are kept
pub kept_bits : (m : List Bool) → count_by (λ flag. flag == 0) (bits m) ≡ kept_cols m
unfolding kept_cols
kept_bits [] = refl
kept_bits (b ∷ m) = sum_by_from (λ x. cond (x == 0) 1 0) (0 + cond (bit b == 0) 1 0) (bits m) ∙ omega (arith, kept_bits m, kept_cons b m)

lines_cons : (n : ℕ) (b : Bool) (l : List Bool) → column_lines n (b ∷ l) ≡ cond (eqb (bit b) 0) (column_lines (n + 1) l) (n ∷ column_lines n l)
unfolding column_lines
lines_cons n true l = refl
lines_cons n false l = ap (λ (k : ℕ). column_lines k l) (sym (add-one n))

module _ (x : List ℕ) (e cols : ℕ) (room : e + cols ≤ length x) (m : List Bool) (p : flags e cols x ≡ bits m) where
  pub mask-long : length m ≡ cols
  mask-long = sym (length-map m bit) ∙ ap length (sym p) ∙ length-take-le cols (drop e x) (omega (arith, length-drop e x))

  pub flag_at : (k : ℕ) → k < cols → get_or x (e + k) 0 ≡ bit (get_or m k false)
  flag_at k q = sym (get_or-take cols (drop e x) k 0 q ∙ get_or-drop e x k 0) ∙ ap (λ (r : List ℕ). get_or r k 0) p ∙ get_or-map bit m k false

  mask-cons : (k : ℕ) → k < cols → drop k m ≡ get_or m k false ∷ drop (k + 1) m
  mask-cons k q = rw add-one (drop-cons m k false (omega (arith, mask-long)))

  mask-none : (k : ℕ) → cols ≤ k → drop k m ≡ []
  mask-none k q = drop_of_length-le m {i = k} (omega (arith, mask-long))

  -- the next boundary, if the column's flag is z
  lines_next : (k n : ℕ) (z : Bool) → k < cols → eqb (get_or x (e + k) 0) 0 ≡ z
      → column_lines n (drop k m) ≡ cond z (column_lines (n + 1) (drop (k + 1) m)) (n ∷ column_lines n (drop (k + 1) m))
  lines_next k n z q u =
      ap (column_lines n) (mask-cons k q)
      ∙ lines_cons n (get_or m k false) (drop (k + 1) m)
      ∙ ap (λ (t : Bool). cond t (column_lines (n + 1) (drop (k + 1) m)) (n ∷ column_lines n (drop (k + 1) m))) (ap (λ (w : ℕ). eqb w 0) (sym (flag_at k q)) ∙ u)

  lines_none : (k n : ℕ) → cols ≤ k → column_lines n (drop k m) ≡ []
  unfolding column_lines
  lines_none k n q = ap (column_lines n) (mask-none k q)

-- the boundaries of the first k columns are written
pub record Written (x : List ℕ) (to : ℕ) (y : List ℕ) (out b k : ℕ) (m : List Bool) : Type 0 where
  pub done : List ℕ
  pub wrote : Wrote x to y out done
  pub same : done ++ column_lines b (drop k m) ≡ column_lines 0 m

pub record Putting (x : List ℕ) (to e cols : ℕ) (y : List ℕ) (out b k : ℕ) : Type 0 where
  pub long : length y ≡ length x
  pub on : to ≤ out
  pub most : out ≤ to + k
  pub low : b ≤ k
  pub past : drop (e + cols) y ≡ drop (e + cols) x
  pub after : Same x y (e + k) (e + cols)
  pub gives : (m : List Bool) → flags e cols x ≡ bits m → Written x to y out b k m

pub putting-none : (x : List ℕ) (to e cols : ℕ) → Putting x to e cols x to 0 0
putting-none x to e cols = record {
  long = refl;
  on = omega arith;
  most = omega arith;
  low = omega arith;
  past = refl;
  after = λ i h q. refl;
  gives = λ m p. record { done = []; wrote = wrote_none x to; same = refl };
}

module _ {x y : List ℕ} {to e cols out b k : ℕ} (room : e + cols ≤ length x) (fit : to ≤ e) (p : Putting x to e cols y out b k) where
  pub putting-step : (z : Bool) → k < cols → eqb (get_or x (e + k) 0) 0 ≡ z
      → Putting x to e cols (cond z y (set y out b)) (cond z out (out + 1)) (cond z (b + 1) b) (k + 1)
  putting-step true q u = record {
    long = p.long;
    on = p.on;
    most = omega (arith, p.most);
    low = omega (arith, p.low);
    past = p.past;
    after = λ i h t. p.after i (omega arith) t;
    gives = λ m f.
        let w : Written x to y out b k m = p.gives m f in
        record { done = w.done; wrote = w.wrote; same = ap (λ (r : List ℕ). w.done ++ r) (sym (lines_next x e cols room m f k b true q u)) ∙ w.same };
  }
  putting-step false q u = record {
    long = length-set y out b ∙ p.long;
    on = omega (arith, p.on);
    most = omega (arith, p.most);
    low = omega (arith, p.low);
    past = drop-set-lt (e + cols) y out b (omega (arith, p.most)) ∙ p.past;
    after = λ i h t. get_or-set_other y out i b 0 (λ s. omega (arith, p.most)) ∙ p.after i (omega arith) t;
    gives = λ m f.
        let w : Written x to y out b k m = p.gives m f in
        record {
          done = w.done ++ (b ∷ []);
          wrote = seq w.wrote (wrote_one y out b (omega (arith, p.most, p.long)));
          same = append_assoc w.done (b ∷ []) (column_lines b (drop (k + 1) m)) ∙ ap (λ (r : List ℕ). w.done ++ r) (sym (lines_next x e cols room m f k b false q u)) ∙ w.same;
        };
  }

  pub putting-done : cols ≤ k → Lines x to e cols y out
  putting-done q = record {
    on = p.on;
    after = p.past;
    gives = λ m f.
        let w : Written x to y out b k m = p.gives m f in
        let d : w.done ≡ column_lines 0 m = sym (append-nil w.done) ∙ ap (λ (r : List ℕ). w.done ++ r) (sym (lines_none x e cols room m f k b q)) ∙ w.same in
        rw d at w.wrote;
  }
