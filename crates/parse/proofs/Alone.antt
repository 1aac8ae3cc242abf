-- An item that is one leaf: the readers above it find it, and take nothing else.
use Prim.Native.Nat.{ℕ, ◌+◌, ◌*◌, ◌-◌, ◌≤◌, ◌<◌}
use mathlib.Core.Path.{◌≡◌, refl, sym, ap, subst, ◌∙◌}
use mathlib.Core.List.{List, [], ◌∷◌}
use mathlib.Core.Bool.{Bool, true, false}
use native.Mathlib.Omega.{arith}
use lib.ListN.{length}
use lib.Seq.{sets}
use borrow.Author.Tests.{ltb-true}
use Rattle.reading_cursor.specs.declared.Cursor.{Cursor}
use Rattle.parse.specs.declared.cursor.Part.{Part}
use Rattle.std.specs.Prelude.{Ok, Err}
use Rattle.records.specs.Record.{kind_of}
use Rattle.lookahead.specs.Tests.{test_at, begins_kind, plain_at, over_at}
use Rattle.buffer.specs.Buffer.{stored}
use Rattle.leaves.specs.Leaves.{leaf_words, leaf_ends, plain_words}
use Rattle.buffer.proofs.Stores.{stored_in}
use Rattle.parse.specs.Meet.{Intermediate, ScriptFunc, missed_at}
use Rattle.reading_cursor.specs.Moves.{onward, seen, inner}
use Rattle.parse.proofs.Buffer.{sets_before}
use Rattle.parse.proofs.Arms.{scripts-none}
use Rattle.parse.proofs.Scripting.{script-term, script-nothing, term_scripted, term_nothing, item-plain, item-nothing}
use Rattle.parse.proofs.Begins.{simple-begun, simple-nothing, begun-leaf}
use Rattle.reading_words.specs.Meet.{Known}
use Rattle.reading_words.proofs.Plain.{both, never, plain-below, shallow, plain-kind, no_head, begins, follows, no_head_either}

module _ {X t : List ℕ} {n : ℕ} {K : List ℕ} (stop sg : Bool) {c : Cursor} {e : ℕ} {x y : List ℕ} where
  -- The leaf as a simple expression, then as a scripted part, then as an item.
  pub plain-found : plain_at t K n c.depth c.pos ≡ true → e + 7 + 32 * (n - c.pos) ≤ length x → Known X t n K
      → y ≡ sets (sets (sets x (e + 7) (leaf_words t K c.pos (kind_of t K c.pos))) (e + 1) (13 ∷ 0 ∷ 0 ∷ 0 ∷ 0 ∷ 0 ∷ [])) e (0 ∷ [])
      → (g : Part) → g ≡ record { cur = seen n (seen n (onward (seen n c))); end = e + 13; ends = leaf_ends (kind_of t K c.pos) }
      → Intermediate X t n K K stop sg c e x y (Ok g)
  plain-found h room kn hy g hg =
      let below = plain-below t K n c.depth c.pos h in
      let deep = shallow t K n c.depth c.pos h in
      let k = kind_of t K c.pos in
      let kind = plain-kind t K n c.depth c.pos h in
      let after = follows t K n c.depth c.pos h in
      let one = sets x (e + 1 + 6) (leaf_words t K c.pos k) in
      let two = sets one (e + 1) (13 ∷ 0 ∷ 0 ∷ 0 ∷ 0 ∷ 0 ∷ []) in
      let begun = begun-leaf {X = X} {t = t} {n = n} {K = K} c.pos stop sg {c = inner (onward (inner (seen n c)))} {e = e + 1 + 6} {x = x} {y = one} {g = record { cur = inner (onward (inner (seen n c))); end = e + 1 + 6 + 6; ends = leaf_ends k }} below {k = k} refl
      (λ z. omega arith) (λ z. omega arith) (λ z. omega arith) (λ z. omega arith) (λ z. omega arith) (λ z. absurd (omega arith)) (begins t K n c.depth c.pos h stop) (omega arith) kn (omega arith) refl refl in
      let simple = simple-begun {X = X} {t = t} {n = n} {K = K} stop sg {c = inner (seen n c)} {e = e + 1 + 6} {x = x} (omega arith) (begins t K n c.depth c.pos h stop) begun in
      let part : ScriptFunc X t n K K stop sg c (e + 1) x two (Ok (record { cur = seen n (onward (seen n c)); end = (e + 1 + 6 + 6); ends = (leaf_ends k) })) =
      script-term stop sg {c = c} {e = e + 1} {x = x} (omega arith) refl (no_head t K n c.depth c.pos h sg) (term_scripted stop sg {c = inner (seen n c)} {e = e + 1} {x = x} (omega arith) simple (scripts-none after.0 (omega arith) kn) refl) in
      let long : e + 1 + 6 + 6 ≡ e + 13 = omega arith in
      let place : e + 7 ≡ e + 1 + 6 = omega arith in
      rw hg (subst (λ (E : ℕ). Intermediate X t n K K stop sg c e x y (Ok (record { cur = seen n (seen n (onward (seen n c))); end = E; ends = (leaf_ends k) }))) long (item-plain stop sg {c = c} {e = e} {x = x} (omega arith) part after.1 (rw place at hy)))

-- the words of the item, one after another
plain-sets : (x : List ℕ) (e : ℕ) (w : List ℕ) → sets (sets (sets x (e + 7) w) (e + 1) (13 ∷ 0 ∷ 0 ∷ 0 ∷ 0 ∷ 0 ∷ [])) e (0 ∷ []) ≡ sets x e (0 ∷ 13 ∷ 0 ∷ 0 ∷ 0 ∷ 0 ∷ 0 ∷ w)
plain-sets x e w =
    let place : e + 7 ≡ e + 1 + 6 = omega arith in
    rw place (ap (λ (v : List ℕ). sets v e (0 ∷ [])) (sets_before x (e + 1) (13 ∷ 0 ∷ 0 ∷ 0 ∷ 0 ∷ 0 ∷ []) w) ∙ sets_before x e (0 ∷ []) (13 ∷ 0 ∷ 0 ∷ 0 ∷ 0 ∷ 0 ∷ w))

pub plain-tree : (t K x : List ℕ) (e i : ℕ) {k : ℕ} {y : List ℕ} → k ≡ kind_of t K i → e + 13 ≤ length x → y ≡ stored x e (plain_words t K i k)
    → y ≡ sets (sets (sets x (e + 7) (leaf_words t K i (kind_of t K i))) (e + 1) (13 ∷ 0 ∷ 0 ∷ 0 ∷ 0 ∷ 0 ∷ [])) e (0 ∷ [])
plain-tree t K x e i {k} hk h hy = rw (← hk) (hy ∙ stored_in x e (plain_words t K i k) h ∙ sym (plain-sets x e (leaf_words t K i k)))

-- what the code answers
pub plain-answer : (n : ℕ) (c c1 c2 c3 c4 : Cursor) (e k j : ℕ) (f : Bool) → c1 ≡ seen n c → c2 ≡ onward c1 → c3 ≡ seen n c2 → c4 ≡ seen n c3
    → f ≡ leaf_ends k → k ≡ j
    → ◌≡◌ {A = Part} (record { cur = c4; end = e + 13; ends = f }) (record { cur = seen n (seen n (onward (seen n c))); end = e + 13; ends = leaf_ends j })
plain-answer n c c1 c2 c3 c4 e k j f h1 h2 h3 h4 hf hk = rw (h4, h3, h2, h1, hf, hk)

-- No item begins: the readers above find none, and look twice.
module _ {X t : List ℕ} {n : ℕ} {K : List ℕ} (stop sg : Bool) {c : Cursor} {e : ℕ} {x : List ℕ} where
  pub over_nothing : over_at t K n c.depth stop c.pos ≡ true → e + 7 + 32 * (n - c.pos) ≤ length x → c.pos ≤ n → Known X t n K → Intermediate X t n K K stop sg c e x x (Err (missed_at (seen n (seen n c))))
  unfolding over_at
  over_nothing h room here kn =
      let both_hold = both _ _ h in
      let deep : c.depth < 255 = ltb-true c.depth 255 both_hold.0 in
      let none-begins : test_at t K n (begins_kind stop) c.pos ≡ false = never _ both_hold.1 in
      let simple = simple-nothing {X = X} {t = t} {n = n} {K = K} stop sg {c = inner (seen n c)} {e = e + 1 + 6} {x = x} (omega arith) none-begins here kn in
      item-nothing stop sg {c = c} {e = e} {x = x} room (script-nothing stop sg {c = c} {e = e + 1} {x = x} (omega arith) refl (no_head_either t K n stop c.pos none-begins sg) (term_nothing stop sg {c = inner (seen n c)} {e = e + 1} {x = x} (omega arith) simple))
