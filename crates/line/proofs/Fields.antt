-- The parts of a line by a node's kind, one law for each answer of the code, and numbers with commas one by one.
use Prim.Native.String.{String}
use Prim.Native.Nat.{ℕ, zero, suc, ◌≤◌, ◌<◌}
use mathlib.Core.Path.{◌≡◌, refl, sym, ap, ◌∙◌}
use mathlib.Core.List.{List, map, [], ◌∷◌, ◌++◌, append_assoc, append-nil}
use native.Mathlib.Omega.{arith}
use lib.ListN.{length, get_or, take, drop, get_or-eq_default}
use lib.Seq.{take-suc, take_all, get_or-drop}
use borrow.Author.Tests.{ne_eqb}
use Rattle.tokens.specs.Bytes.{bytes}
use Rattle.tree.specs.declared.walk.Opened.{Opened}
use Rattle.tree.specs.Walk.{lines_of}
use Rattle.writer.specs.Decimal.{decimal}
use Rattle.line.specs.Print.{names, name_of, number, commas, more, newline}
use Rattle.line.specs.Lines.{start_of, left_of, word_of, added_by, added_of, line_of}

-- the names' bytes, in the order of their kinds
abbrev all_names : List (List ℕ)
all_names =
    bytes "missing" ∷ bytes "number" ∷ bytes "text" ∷ bytes "ident" ∷ bytes "operator" ∷ bytes "sign" ∷ bytes "space" ∷ bytes "symbol" ∷ bytes "signed" ∷ bytes "ssigned" ∷ bytes "unary" ∷ bytes "sfunc" ∷ bytes "binary" ∷ bytes "simple" ∷ bytes "func" ∷ bytes "group" ∷ bytes "matrix" ∷ bytes "cell" ∷ bytes "frac" ∷ []

names-at : (l : List String) (k : ℕ) → get_or (map bytes l) k [] ≡ bytes (get_or l k "")
names-at [] k = refl
names-at (s ∷ l) zero = refl
names-at (s ∷ l) (suc k) = names-at l k

pub named : {kind : ℕ} (k : ℕ) → kind ≡ k → get_or all_names k [] ≡ name_of kind
unfolding name_of names
named k e = rw e (names-at names k)

pub unnamed : (kind : ℕ) → 19 ≤ kind → [] ≡ name_of kind
unfolding name_of names
unnamed kind h = ap bytes (sym (get_or-eq_default names "" h))

-- one number more
more-snoc : (l : List ℕ) (n : ℕ) → more (l ++ (n ∷ [])) ≡ more l ++ (44 ∷ decimal n)
unfolding more
more-snoc [] n = rw append-nil
more-snoc (m ∷ l) n = ap (λ (x : List ℕ). 44 ∷ (decimal m ++ x)) (more-snoc l n) ∙ ap (λ (x : List ℕ). 44 ∷ x) (sym (append_assoc (decimal m) (more l) (44 ∷ decimal n)))

pub more-take : (l : List ℕ) (i : ℕ) → i < length l → more (take i l) ++ (44 ∷ decimal (get_or l i 0)) ≡ more (take (suc i) l)
more-take l i h = rw (take-suc l i 0 h, more-snoc (take i l) (get_or l i 0))

pub commas-none : (l : List ℕ) → length l ≡ 0 → bytes "none" ≡ commas l
unfolding commas
commas-none [] h = refl
commas-none (n ∷ l) h = absurd (omega arith)

pub commas-all : (l : List ℕ) (i : ℕ) → (length l ≡ 0 → ⊥) → length (drop 1 l) ≤ i → decimal (get_or l 0 0) ++ more (take i (drop 1 l)) ≡ commas l
unfolding commas
commas-all [] i h k = absurd (h refl)
commas-all (n ∷ l) i h k = rw (take_all i l k)

-- at and len
module _ (kind start len : ℕ) where
  pub left_both : (kind ≡ 0 → ⊥) → (kind ≡ 13 → ⊥) → (kind ≡ 17 → ⊥) → (kind ≡ 18 → ⊥) →
      number "at" start ++ number "len" len ≡ left_of kind start len
  unfolding left_of
  left_both a b c d = rw (ne_eqb kind 0 a, ne_eqb kind 13 b, ne_eqb kind 17 c, ne_eqb kind 18 d)

-- a line by the words from the node's own on
pub line-own : (words own : List ℕ) (o : Opened) (depth : ℕ) → own ≡ drop o.head words →
    start_of depth o.kind ++
    (left_of o.kind (get_or own 1 0) (get_or own 2 0) ++
    (added_by o.kind (get_or own 3 0) (get_or own 4 0) (get_or own 5 0) (get_or own 6 0) o.count (lines_of words o) ++ newline))
    ≡ line_of words o depth
unfolding line_of added_of
line-own words own o depth e =
    let word : (i : ℕ) → get_or own i 0 ≡ word_of words o i = λ i. ap (λ (x : List ℕ). get_or x i 0) e ∙ get_or-drop o.head words i 0 in
    cc (word 1, word 2, word 3, word 4, word 5, word 6)
