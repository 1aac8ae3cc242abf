-- What one computed test of the whole table says of each row: it has a byte, no blank first, and its token is none of Space,
-- Number and Operator.
use mathlib.Core.Path.{◌≡◌, refl, subst}
use mathlib.Core.Bool.{Bool, true, false, not, ◌&&◌}
use mathlib.Core.List.{List, [], ◌∷◌}
use mathlib.Core.Option.{Option, none, some}
use Prim.Native.Nat.{ℕ, ◌+◌, ◌≤◌, ◌<◌}
use native.Mathlib.Omega.{arith}
use native.Mathlib.Nat.{not-suc-le-zero}
use lib.Dec.{eqb, ltb}
use lib.ListN.{length, get_or, drop, length-drop}
use borrow.Author.Tests.{ltb-true, not-true}
use Rattle.tokens.specs.Kinds.{number_of}
use Rattle.lexing.specs.Spellings.{Row, rows}
use Rattle.lexing.specs.Longest.{Numbered, longest_at, longest_of}
use Rattle.lexing.specs.Rules.{blank}
use Rattle.tokens.proofs.Cases.{by_test, clash, Given}
use Rattle.lexing.proofs.Begins.{Answered, Found, answered, at_each, begins-length}

pub rows-length : length rows ≡ 429
unfolding rows
rows-length = refl

-- the test passes at each row
module _ (test : Row → Bool) where
  abbrev pub every : List Row → Bool
  every [] = true
  every (r ∷ rs) = elim (test r) [ true ↦ every rs | false ↦ false ]

  pub every-at : (rs : List Row) → every rs ≡ true → (d : Row) (k : ℕ) → k < length rs → test (get_or rs k d) ≡ true
  every-at [] t = λ d k h. absurd (not-suc-le-zero h)
  every-at (r ∷ rs) t =
      by_test (test r) (λ e. λ d. at_each (λ q. test q ≡ true) r rs d e (every-at rs (rw (e, every) at t) d))
      (λ e. clash false (rw (e, every) at t) refl)

abbrev is_well_formed : Row → Bool
is_well_formed r =
    ltb 0 (length r.spelling) &&
    (not (eqb (number_of r.token) 23) &&
    (not (eqb (number_of r.token) 4) && (not (eqb (number_of r.token) 7) && not (blank (get_or r.spelling 0 0)))))

rows-test : every is_well_formed rows ≡ true
unfolding rows blank
rows-test = refl

pub record WellFormed (r : Row) : Type 0 where
  pub filled : 0 < length r.spelling
  pub no_space : eqb (number_of r.token) 23 ≡ false
  pub no_number : eqb (number_of r.token) 4 ≡ false
  pub no_operator : eqb (number_of r.token) 7 ≡ false
  pub no_blank : blank (get_or r.spelling 0 0) ≡ false

both : (a b : Bool) → (a && b) ≡ true → (a ≡ true) × (b ≡ true)
both true b e = (refl, e)
both false b e = clash false e refl

passed : (r : Row) → is_well_formed r ≡ true → WellFormed r
passed r t =
    let n = number_of r.token in
    let f = not (blank (get_or r.spelling 0 0)) in
    let a = both (ltb 0 (length r.spelling)) (not (eqb n 23) && (not (eqb n 4) && (not (eqb n 7) && f))) t in
    let b = both (not (eqb n 23)) (not (eqb n 4) && (not (eqb n 7) && f)) a.1 in
    let c = both (not (eqb n 4)) (not (eqb n 7) && f) b.1 in
    let d = both (not (eqb n 7)) f c.1 in
    record {
      filled = ltb-true _ _ a.0;
      no_space = not-true _ b.0;
      no_number = not-true _ c.0;
      no_operator = not-true _ d.0;
      no_blank = not-true _ d.1;
    }

pub well_formed : (d : Row) (k : ℕ) → k < 429 → WellFormed (get_or rows k d)
well_formed d k h = passed (get_or rows k d) (every-at is_well_formed rows rows-test d k (omega (arith, rows-length)))

-- the row that is found at a place of a text
pub record FoundAt (text : List ℕ) (at : ℕ) (f : Numbered) : Type 0 where
  pub found : Found rows 0 (drop at text) f
  pub row : WellFormed f.row
  pub inside : at + length f.row.spelling ≤ length text

pub found_at : (text : List ℕ) (at : ℕ) → Given (FoundAt text at) (longest_at text at)
unfolding longest_at
found_at text at = of (longest_of rows 0 (drop at text)) (answered rows 0 (drop at text))
  where
    of : (o : Option Numbered) → Answered rows 0 (drop at text) o → Given (FoundAt text at) o
    of none a = tt
    of (some f) a =
        let h : a.place < 429 = omega (arith, a.inside, rows-length) in
        let w = subst WellFormed (a.row_is f.row) (well_formed f.row a.place h) in
        record {
          found = a;
          row = w;
          inside = omega (arith, w.filled, begins-length f.row.spelling (drop at text) a.fits, length-drop at text);
        }
