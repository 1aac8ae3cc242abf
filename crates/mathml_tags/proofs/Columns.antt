-- The lines of a table one after the other, from a place that goes on.
use Prim.Native.Nat.{ℕ, zero, suc, ◌+◌, ◌-◌, ◌≤◌, ◌<◌}
use mathlib.Core.Path.{◌≡◌, refl, ap, sym, ◌∙◌}
use mathlib.Core.List.{List, [], ◌∷◌, ◌++◌, append_assoc, append-nil}
use native.Mathlib.Omega.{arith}
use native.Mathlib.Numerals.{add-one}
use lib.ListN.{length, get_or, take, drop, length-drop, drop_of_length-le}
use lib.Seq.{drop-cons, take_all}
use borrow.Author.Tests.{lt-ltb, le-ltb}
use Rattle.tokens.specs.Bytes.{bytes}
use Rattle.mathml_rules.specs.Elements.{elements, element_of}
use Rattle.mathml_rules.specs.Pieces.{Piece, bytes_of}
use Rattle.mathml_rules.specs.Parts.{not_before, first_is, entry_for, entries_from, line_attribute}

module _ (lines : List ℕ) (j k : ℕ) where
  pub before-none : length lines ≤ k → [] ≡ not_before j (drop k lines)
  unfolding not_before
  before-none h = rw (drop_of_length-le lines h)

  pub before_here : k < length lines → j ≤ get_or lines k 0 → take (length lines - k) (drop k lines) ≡ not_before j (drop k lines)
  unfolding not_before
  before_here h l =
      take_all (length lines - k) (drop k lines) (omega (arith, length-drop k lines))
      ∙ rw (drop-cons lines k 0 h) (rw (le-ltb (get_or lines k 0) j l, not_before))

  pub before-next : k < length lines → get_or lines k 0 < j → not_before j (drop k lines) ≡ not_before j (drop (suc k) lines)
  unfolding not_before
  before-next h l = rw (drop-cons lines k 0 h) (rw (lt-ltb (get_or lines k 0) j l, not_before))

-- what is put and what is left to put, to boundary `cols`, are all entries
module _ (done all rest : List ℕ) (cols j : ℕ) where
  pub entries_next : (new : List ℕ) → j < cols → new ≡ not_before j rest → done ++ entries_from j (cols - j) rest ≡ all →
      (done ++ (32 ∷ entry_for (first_is j new))) ++ entries_from (j + 1) (cols - (j + 1)) new ≡ all
  unfolding entries_from
  entries_next new l e h =
      let n : cols - j ≡ suc (cols - (j + 1)) = omega arith in
      let h' : done ++ entries_from j (suc (cols - (j + 1))) rest ≡ all = rw n at h in
      append_assoc done (32 ∷ entry_for (first_is j new)) (entries_from (j + 1) (cols - (j + 1)) new) ∙
      (rw (e, add-one j) (rw (add-one j) at h'))

  pub entries-all : cols ≤ j → done ++ entries_from j (cols - j) rest ≡ all → done ≡ all
  unfolding entries_from
  entries-all l h =
      let n : cols - j ≡ 0 = omega arith in
      let h' : done ++ entries_from j 0 rest ≡ all = rw n at h in
      sym (append-nil done) ∙ h'

pub table-few : (lines : List ℕ) (cols : ℕ) → cols < 2 → bytes "<mtable>" ≡ bytes_of (Piece.start 31 (line_attribute cols lines))
unfolding bytes_of element_of elements line_attribute
table-few lines zero h = refl
table-few lines (suc zero) h = refl
table-few lines (suc (suc n)) h = absurd (omega arith)

quoted : (e x : List ℕ) → e ++ (x ++ (34 ∷ 62 ∷ [])) ≡ (e ++ (x ++ (34 ∷ []))) ++ (62 ∷ [])
quoted e x = sym (append_assoc e (x ++ (34 ∷ [])) (62 ∷ []) ∙ ap (λ (y : List ℕ). e ++ y) (append_assoc x (34 ∷ []) (62 ∷ [])))

table_of : (l : List ℕ) (n : ℕ) →
    bytes "<mtable columnlines=\"" ++ (entry_for (first_is 1 l) ++ (entries_from 2 n l ++ bytes "\">")) ≡
    bytes_of (Piece.start 31 (bytes " columnlines=\"" ++ (entry_for (first_is 1 l) ++ (entries_from 2 n l ++ bytes "\""))))
unfolding bytes_of element_of elements
table_of l n = ap (λ (y : List ℕ). bytes "<mtable columnlines=\"" ++ y) (quoted (entry_for (first_is 1 l)) (entries_from 2 n l))

pub table-many : (lines rest : List ℕ) (cols : ℕ) → 2 ≤ cols → rest ≡ not_before 1 lines →
    bytes "<mtable columnlines=\"" ++ (entry_for (first_is 1 rest) ++ (entries_from 2 (cols - 2) rest ++ bytes "\">")) ≡
    bytes_of (Piece.start 31 (line_attribute cols lines))
unfolding line_attribute
table-many lines rest zero h e = absurd (omega arith)
table-many lines rest (suc zero) h e = absurd (omega arith)
table-many lines rest (suc (suc n)) h e = let k : suc (suc n) - 2 ≡ n = omega arith in rw (k, e) (table_of (not_before 1 lines) n)
