-- What holds of every element of a list, and of the parts of the list.
use mathlib.Core.Path.{◌≡◌, refl}
use mathlib.Core.Bool.{Bool, true, false, ◌&&◌, ◌||◌}
use mathlib.Core.List.{List, [], ◌∷◌, ◌++◌}
use Prim.Native.Nat.{ℕ, zero, suc}
use lib.ListN.{get_or, take, drop}
pub use Rattle.mathml_rules.specs.Run.{every}
use Rattle.tokens.proofs.Cases.{clash}

module _ {A : Type 0} (P : A → Type 0) where
  abbrev pub All : List A → Type 0
  All [] = Unit {0}
  All (a ∷ l) = P a × All l

  pub all : ((a : A) → P a) → (l : List A) → All l
  all f [] = tt
  all f (a ∷ l) = (f a, all f l)

  pub all-at : (l : List A) (d : A) → All l → P d → (k : ℕ) → P (get_or l k d)
  all-at [] d h p k = p
  all-at (a ∷ l) d h p zero = h.0
  all-at (a ∷ l) d h p (suc k) = all-at l d h.1 p k

  pub all_take : (n : ℕ) (l : List A) → All l → All (take n l)
  all_take zero l h = tt
  all_take (suc n) [] h = tt
  all_take (suc n) (a ∷ l) h = (h.0, all_take n l h.1)

  pub all_drop : (n : ℕ) (l : List A) → All l → All (drop n l)
  all_drop zero l h = h
  all_drop (suc n) [] h = tt
  all_drop (suc n) (a ∷ l) h = all_drop n l h.1

pub all_map : {A : Type 0} (P R : A → Type 0) → ((a : A) → P a → R a) → (l : List A) → All P l → All R l
all_map P R f [] h = tt
all_map P R f (a ∷ l) h = (f a h.0, all_map P R f l h.1)

pub both : (a b : Bool) → (a && b) ≡ true → (a ≡ true) × (b ≡ true)
both true b e = (refl, e)
both false b e = clash false e refl

-- a test of every element, computed
module _ {A : Type 0} (test : A → Bool) where
  pub passed : (l : List A) → every test l ≡ true → All (λ a. test a ≡ true) l
  passed [] e = tt
  passed (a ∷ l) e = let h = both (test a) (every test l) e in (h.0, passed l h.1)

  pub every_append : (s t : List A) → every test s ≡ true → every test t ≡ true → every test (s ++ t) ≡ true
  every_append [] t p q = q
  every_append (a ∷ s) t p q = let h = both (test a) (every test s) p in rw (h.0, every_append s t h.1 q)

-- a weaker test
pub every-weaker : {A : Type 0} (p q : A → Bool) → ((a : A) → p a ≡ true → q a ≡ true) → (l : List A) → every p l ≡ true → every q l ≡ true
every-weaker p q f [] e = refl
every-weaker p q f (a ∷ l) e = let h = both (p a) (every p l) e in rw (f a h.0) (every-weaker p q f l h.1)

-- neither of two tests passes
pub neither : (a b : Bool) → (a || b) ≡ false → (a ≡ false) × (b ≡ false)
neither true b e = clash true refl e
neither false b e = (refl, e)

-- a part of a list
pub every_of : {A : Type 0} (test : A → Bool) (l : List A) → All (λ a. test a ≡ true) l → every test l ≡ true
every_of test [] h = refl
every_of test (a ∷ l) h = rw h.0 (every_of test l h.1)
