-- The wraps' headers put before the words that they hold, and the whole reading.
use Prim.Native.Nat.{ℕ, suc, ◌+◌, ◌*◌, ◌-◌, ◌^◌, ◌≤◌, ◌<◌}
use mathlib.Core.Path.{◌≡◌, refl, sym, ap, ◌∙◌}
use mathlib.Core.List.{List, [], ◌∷◌, ◌++◌, append-nil, append_assoc}
use mathlib.Core.Bool.{Bool}
use native.Mathlib.Omega.{arith}
use lib.ListN.{length, length-append, set, take, drop, replicate}
use lib.Seq.{sets, length-sets, paste, take-paste, take-append-le, take_at, length-take-le}
use Rattle.tree.specs.Tree.{Nodes}
use Rattle.tree.specs.Words.{encode_items}
use Rattle.reading.specs.Reading.{State}
use Rattle.parse.specs.Buffer.{Wrote}
use Rattle.records.specs.Record.{after_close, sep_of, start_of, len_of}
use Rattle.parse.proofs.Buffer.{fill}
use Rattle.buffer.specs.Buffer.{shifted}
use Rattle.buffer.proofs.Stores.{shifted_in}
use native.Mathlib.Nat.{mod-eq_of_lt}
use Rattle.parse.specs.declared.top.Wrapped.{Wrapped}
use Rattle.parse.specs.Top.{Wrap, Chained, wrap_words, wraps_words, read_from, Noted, Topped, Reads}
use Rattle.reading_words.specs.Meet.{Input, Given, Marks}

-- The items, moved on to leave room for the headers.
pub moved_on : (x : List ℕ) (stp by : ℕ) {y : List ℕ} → y ≡ shifted x stp by → stp + by ≤ length x → Wrote y by y (by + stp) (take stp x)
moved_on x stp by hy h =
    let front : take by (paste x by x stp) ≡ take by x =
    take-append-le by (take by x ++ take stp x) (drop (by + stp) x) (omega (arith, length-append (take by x) (take stp x), length-take-le by x (omega arith))) ∙ take_at (take by x) (take stp x) by (length-take-le by x (omega arith)) in
    rw (hy, shifted_in x stp by (omega arith)) (record {
      upto = omega (arith, length-take-le stp x (omega arith));
      long = refl;
      body = take-paste x by x stp (omega arith) (omega arith) ∙ ap (λ (w : List ℕ). w ++ take stp x) (sym front);
    })

-- The headers, one after the other.
sets_append : (x : List ℕ) (i : ℕ) (u v : List ℕ) → sets x i (u ++ v) ≡ sets (sets x i u) (i + length u) v
sets_append x i [] v = let z : i + 0 ≡ i = omega arith in rw z
sets_append x i (a ∷ u) v = let z : i + suc (length u) ≡ suc i + length u = omega arith in rw z (sets_append (set x i a) (suc i) u v)

wraps_append : (t K : List ℕ) (u v : List Wrap) → wraps_words t K (u ++ v) ≡ wraps_words t K u ++ wraps_words t K v
unfolding wraps_words
wraps_append t K [] v = refl
wraps_append t K (w ∷ u) v = ap (λ (r : List ℕ). wrap_words w.items (start_of t K w.closer) (len_of t K w.closer) ++ r) (wraps_append t K u v)

wraps_length : (t K : List ℕ) (ws : List Wrap) → length (wraps_words t K ws) ≡ 13 * length ws
unfolding wraps_words
wraps_length t K [] = refl
wraps_length t K (w ∷ ws) = omega (arith, wraps_length t K ws)

one-wrap : (t K : List ℕ) (w : Wrap) → wraps_words t K (w ∷ []) ≡ wrap_words w.items (start_of t K w.closer) (len_of t K w.closer)
unfolding wraps_words
one-wrap t K w = refl

pub record Stage (t K : List ℕ) (n : ℕ) (ws : List Wrap) (x y : List ℕ) (i k : ℕ) : Type 0 where
  pub done : List Wrap
  pub rest : List Wrap
  pub bound : ℕ
  pub joined : ws ≡ done ++ rest
  pub number : length done ≡ k
  pub chain : Chained K bound i rest
  pub least : bound ≤ n
  pub tree : y ≡ sets x 0 (wraps_words t K done)

pub record Putting (t K : List ℕ) (n : ℕ) (wraps last : ℕ) (x y : List ℕ) (i k : ℕ) : Type 0 where
  pub within : k ≤ wraps
  pub long : length y ≡ length x
  pub along : (p : Noted n t K wraps last) → Stage t K n p.list x y i k

pub putting-none : (t K : List ℕ) (n wraps last : ℕ) (x : List ℕ) → Putting t K n wraps last x x last 0
unfolding wraps_words
putting-none t K n wraps last x = record {
  within = omega arith;
  long = refl;
  along = λ p. record { done = []; rest = p.list; bound = n; joined = refl; number = refl; chain = p.chain; least = omega arith; tree = refl };
}

-- a wrap is left
pub record Next (t K : List ℕ) (n : ℕ) (ws : List Wrap) (x y : List ℕ) (i k : ℕ) : Type 0 where
  pub small : i < n
  pub step : Stage t K n ws x (sets y (13 * k) (wrap_words (sep_of K i) (start_of t K i) (len_of t K i))) (after_close K i) (k + 1)

next_of : {t K : List ℕ} {n : ℕ} {ws : List Wrap} {x y : List ℕ} {i k : ℕ} (d r : List Wrap) (b : ℕ) → ws ≡ d ++ r → length d ≡ k → Chained K b i r → b ≤ n → y ≡ sets x 0 (wraps_words t K d) → k < length ws → Next t K n ws x y i k
next_of {ws = ws} {k = k} d [] b j h c l e s = absurd (omega (arith, ap length j, length-append d []))
next_of {t} {K} {n} {ws} {x} {y} {i} {k} d (w ∷ r) b j h c l e s =
    let ln : 13 * k ≡ 0 + length (wraps_words t K d) = omega (arith, wraps_length t K d, h) in
    record {
      small = omega (arith, c.1);
      step = record {
        done = d ++ (w ∷ []);
        rest = r;
        bound = i;
        joined = j ∙ sym (append_assoc d (w ∷ []) r);
        number = length-append d (w ∷ []) ∙ omega (arith, h);
        chain = c.3;
        least = omega (arith, c.1);
        tree = ap (λ (v : List ℕ). sets v (13 * k) (wrap_words (sep_of K i) (start_of t K i) (len_of t K i))) e
            ∙ ap (λ (p : ℕ). sets (sets x 0 (wraps_words t K d)) p (wrap_words (sep_of K i) (start_of t K i) (len_of t K i))) ln
            ∙ sym (sets_append x 0 (wraps_words t K d) (wrap_words (sep_of K i) (start_of t K i) (len_of t K i)))
            ∙ ap (λ (v : List ℕ). sets x 0 (wraps_words t K d ++ v)) (sym (one-wrap t K w ∙ rw (c.0, ← c.2)))
            ∙ ap (λ (v : List ℕ). sets x 0 v) (sym (wraps_append t K d (w ∷ [])));
      };
    }

pub next-wrap : {t K : List ℕ} {n wraps last : ℕ} {x y : List ℕ} {i k : ℕ} → Putting t K n wraps last x y i k → k < wraps → (p : Noted n t K wraps last) → Next t K n p.list x y i k
next-wrap v h p = let a = v.along p in next_of a.done a.rest a.bound a.joined a.number a.chain a.least a.tree (omega (arith, p.number))

pub putting-more : {t K : List ℕ} {n wraps last : ℕ} {x y z : List ℕ} {i k j : ℕ} → Putting t K n wraps last x y i k → k < wraps → z ≡ sets y (13 * k) (wrap_words (sep_of K i) (start_of t K i) (len_of t K i)) → j ≡ after_close K i
    → Putting t K n wraps last x z j (k + 1)
putting-more {t} {K} {n} {x = x} {y} {i = i} {k} v h hz hj = rw (hz, hj) (record {
  within = omega arith;
  long = length-sets y (13 * k) (wrap_words (sep_of K i) (start_of t K i) (len_of t K i)) ∙ v.long;
  along = λ p. (next-wrap v h p).step;
})

pub putting-all : {t K : List ℕ} {n wraps last : ℕ} {x y : List ℕ} {i k : ℕ} → Putting t K n wraps last x y i k → wraps ≤ k → (p : Noted n t K wraps last) → y ≡ sets x 0 (wraps_words t K p.list)
putting-all {t} {K} {x = x} {k = k} v h p =
    let a = v.along p in
    a.tree ∙ ap (λ (w : List Wrap). sets x 0 (wraps_words t K w)) (sym (a.joined ∙ ends a.done a.rest (omega (arith, ap length a.joined, length-append a.done a.rest, p.number, a.number))))
  where
    ends : (d r : List Wrap) → length r ≤ 0 → d ++ r ≡ d
    ends d [] l = append-nil d
    ends d (w ∷ r) l = absurd (omega arith)

-- The headers before the words.
no_wraps : (t K : List ℕ) (ws : List Wrap) → length ws ≤ 0 → wraps_words t K ws ≡ []
unfolding wraps_words
no_wraps t K [] h = refl
no_wraps t K (w ∷ ws) h = absurd (omega arith)

pub wrapped-none : {n : ℕ} {t K : List ℕ} {wraps last : ℕ} (x : List ℕ) (stp : ℕ) → wraps ≡ 0 → (p : Noted n t K wraps last) → take (stp + 13 * wraps) x ≡ wraps_words t K p.list ++ take stp x
wrapped-none {t = t} {K = K} {wraps = wraps} x stp h p =
    let z : stp + 13 * wraps ≡ stp = omega arith in
    rw (no_wraps t K p.list (omega (arith, p.number)), z)

pub wrapped-all : {n : ℕ} {t K : List ℕ} {wraps last : ℕ} (x : List ℕ) (stp : ℕ) {y z : List ℕ} → Wrote y (13 * wraps) y (13 * wraps + stp) (take stp x) → length y ≡ length x → stp + 13 * wraps ≤ length x
    → (p : Noted n t K wraps last) → z ≡ sets y 0 (wraps_words t K p.list) → take (stp + 13 * wraps) z ≡ wraps_words t K p.list ++ take stp x
wrapped-all {t = t} {K = K} {wraps = wraps} x stp {y = y} {z = z} w ly h p hz =
    let e : stp + 13 * wraps ≡ 13 * wraps + stp = omega arith in
    rw (e, hz) (fill 0 (wraps_words t K p.list) w (omega (arith, wraps_length t K p.list, p.number)) (omega arith)).body

-- The whole reading.
pub parsed : {X t : List ℕ} {n : ℕ} {K L y v : List ℕ} {g : Wrapped} {len e : ℕ} (z : List ℕ) → n ≤ 4096 → g.cur.takes < 2 ^ 32 → (p : Topped X t n K L y g) → e ≡ g.end + 13 * g.wraps
    → take (g.end + 13 * g.wraps) z ≡ wraps_words t L p.noted.list ++ take g.end y → length y ≡ len → length z ≡ len → v ≡ take e z ++ replicate (length z - e) 0
    → (I : Input) → Given X t n K I → (m : List Bool) → Marks n K m → Reads I m len v (record { takes = g.cur.takes; end = e; items = g.count })
parsed {g = g} {len = len} {e = e} z hn ht p he hz hy hlz hv I gv m mk =
    let w = p.means I gv m mk in
    let tree : Nodes × State = read_from I m in
    let all : take e z ≡ encode_items tree.0 = ap (λ (k : ℕ). take k z) he ∙ hz ∙ sym w.words in
    let sz : length (take e z) ≡ e = length-take-le e z (omega (arith, p.fits)) in
    record {
      end = sym sz ∙ ap length all;
      tree = hv ∙ ap (λ (q : List ℕ). q ++ replicate (length z - e) 0) all ∙ ap (λ (k : ℕ). encode_items tree.0 ++ replicate (k - e) 0) hlz;
      items = w.number;
      takes = sym (mod-eq_of_lt ht) ∙ w.takes;
    }
