-- An item that is one leaf, and where no item begins: the readers above a leaf find just that.
use Prim.Native.Nat.{ℕ, ◌≤◌, ◌<◌}
use mathlib.Core.Path.{◌≡◌, refl}
use mathlib.Core.List.{List}
use mathlib.Core.Bool.{Bool, true, false}
use native.Mathlib.Omega.{arith}
use borrow.Author.Tests.{ltb-true, ne_eqb}
use Rattle.records.specs.Record.{kind_of}
use Rattle.lookahead.specs.Tests.{test_at, begins_kind, plain_at, over_at, opening, takes_one}
use Rattle.reading_words.proofs.Plain.{both, never, plain-below, shallow, plain-kind, no_head, begins, follows, no_head_either}
use Rattle.reading_cursor.specs.declared.Cursor.{Cursor}
use Rattle.closers_pass.specs.Meet.{Intermediate, nothing_at, plain_part}
use Rattle.reading_cursor.specs.Moves.{onward, seen, inner}
use Rattle.closers_pass.proofs.Simple.{simple-begun, simple-nothing, scripts-none, term_scripted, term_nothing, script-term, item-plain, item-nothing}
use Rattle.closers_pass.proofs.Begins.{begun-leaf}

-- a leaf's kind opens nothing and takes no argument
opens-none : (k : ℕ) → 4 ≤ k → k < 16 → opening k ≡ false
opens-none k a b = rw (ne_eqb k 20 (λ z. omega arith), ne_eqb k 22 (λ z. omega arith))

takes_none : (k : ℕ) (sg : Bool) → 4 ≤ k → k < 16 → takes_one k sg ≡ false
takes_none k sg a b = rw (ne_eqb k 18 (λ z. omega arith), ne_eqb k 17 (λ z. omega arith), ne_eqb k 16 (λ z. omega arith))

module _ {X t : List ℕ} {n : ℕ} {K : List ℕ} (stop sg : Bool) {c : Cursor} where
  -- The leaf as a simple expression, then as a scripted part, then as an item.
  pub plain-found : plain_at t K n c.depth c.pos ≡ true → Intermediate X t n K K stop sg c (plain_part X t K n c)
  plain-found h =
      let below = plain-below t K n c.depth c.pos h in
      let deep = shallow t K n c.depth c.pos h in
      let kind = plain-kind t K n c.depth c.pos h in
      let after = follows t K n c.depth c.pos h in
      let leaf =
      begun-leaf {X = X} {t = t} {n = n} {K = K} c.pos stop sg {c = inner (onward (inner (seen n c)))} below {k = kind_of t K c.pos} refl
      (opens-none _ kind.0 kind.1) (λ z. omega (arith, kind.1)) (takes_none _ sg kind.0 kind.1) (begins t K n c.depth c.pos h stop) (omega arith) in
      let simple = simple-begun {X = X} {t = t} {n = n} {K = K} stop sg {c = inner (seen n c)} (omega arith) (begins t K n c.depth c.pos h stop) leaf in
      let term = term_scripted stop sg {c = inner (seen n c)} simple refl (scripts-none after.0 (omega arith)) in
      item-plain stop sg {c = c} (script-term stop sg {c = c} (omega arith) (no_head t K n c.depth c.pos h sg) term) refl after.1

  -- No item begins: the readers look twice.
  pub over_nothing : over_at t K n c.depth stop c.pos ≡ true → c.pos ≤ n → Intermediate X t n K K stop sg c (nothing_at (seen n (seen n c)))
  unfolding over_at
  over_nothing h here =
      let both_hold = both _ _ h in
      let deep : c.depth < 255 = ltb-true c.depth 255 both_hold.0 in
      let none-begins : test_at t K n (begins_kind stop) c.pos ≡ false = never _ both_hold.1 in
      let simple = simple-nothing {X = X} {t = t} {n = n} {K = K} stop sg {c = inner (seen n c)} (omega arith) none-begins here in
      item-nothing stop sg {c = c}
      (script-term stop sg {c = c} (omega arith) (no_head_either t K n stop c.pos none-begins sg) (term_nothing stop sg {c = inner (seen n c)} simple refl)) refl
