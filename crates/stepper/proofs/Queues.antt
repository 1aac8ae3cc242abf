-- The tokens that wait: whether they lie in the text, and those behind the first one.
use mathlib.Core.Path.{◌≡◌}
use mathlib.Core.Bool.{false}
use mathlib.Core.List.{List, [], ◌∷◌}
use Prim.Native.Nat.{ℕ, zero, suc, ◌-◌, ◌≤◌, ◌<◌}
use native.Mathlib.Nat.{not-suc-le-zero}
use native.Mathlib.Numerals.{sub-one}
use lib.ListN.{take, drop}
use borrow.Author.Tests.{le-leb, lt-leb}
use Rattle.lex.specs.declared.Queue.{Queue}
use Rattle.tokens.specs.Lexeme.{Lexeme}
use Rattle.lex.specs.Lex.{spanned_of, no_lexeme, queue_of}
use Rattle.stepper.specs.declared.Tokenizer.{Tokenizer}
use Rattle.stepper.specs.Step.{waiting, inside, fits}

pub first_of : (n : ℕ) (t : Lexeme) (ts : List Lexeme) → 0 < n → take n (t ∷ ts) ≡ t ∷ take (n - 1) ts
first_of zero t ts h = absurd (not-suc-le-zero h)
first_of (suc n) t ts h = rw (sub-one (suc n))

-- a state that does not fit
module _ (size : ℕ) (s : Tokenizer) where
  pub place-passes : size < s.place → fits size s ≡ false
  unfolding fits
  place-passes h = rw (lt-leb s.place size h, fits)

  module _ (p : s.place ≤ size) where
    pub too_many : 3 < s.queued.count → fits size s ≡ false
    unfolding fits
    too_many h = rw (le-leb s.place size p, fits) (rw (lt-leb s.queued.count 3 h))

    pub few : s.queued.count ≤ 3 → fits size s ≡ inside size (waiting s.queued)
    unfolding fits
    few f = rw (le-leb s.place size p, fits) (rw (le-leb s.queued.count 3 f))

-- the tokens behind the first one, by how many wait
module _ (q : Queue) where
  pub behind-one : q.count ≡ 1 → queue_of [] ≡ queue_of (drop 1 (waiting q))
  unfolding waiting
  behind-one e = rw e

  pub behind-two : q.count ≡ 2 → record { count = 1; first = q.second; second = spanned_of no_lexeme; third = spanned_of no_lexeme } ≡ queue_of (drop 1 (waiting q))
  unfolding waiting
  behind-two e = rw e

  pub behind-three : q.count ≡ 3 → record { count = 2; first = q.second; second = q.third; third = spanned_of no_lexeme } ≡ queue_of (drop 1 (waiting q))
  unfolding waiting
  behind-three e = rw e
