-- Refusals 8 and 9, case by case, and what the check of the buffers says of them.
use Prim.Native.Nat.{ℕ, ◌+◌, ◌*◌, ◌≤◌, ◌<◌}
use mathlib.Core.Path.{◌≡◌, refl, sym, ap, ◌∙◌}
use mathlib.Core.Option.{Option, none, some}
use native.Mathlib.Omega.{arith}
use Rattle.std.specs.Prelude.{Result, Ok, Err}
use borrow.Author.Tests.{lt-ltb, le-ltb}
use Rattle.tokens.proofs.Accepted.{met}
use Rattle.tokens.proofs.Cases.{by_lt}
use Rattle.tokens.specs.Refusals.{entry_words, room_refusal, room_refusal_by}
use Rattle.room.specs.Room.{room_for, lacking_for, room_of, room_answer}

-- the refusal that an answer names
abbrev pub refusal_in : Result Unit ℕ → Option ℕ
refusal_in (Ok u) = none
refusal_in (Err k) = some k

pub lacking_work : (n work : ℕ) → work < entry_words * (n + 1) → lacking_for n work ≡ 8
unfolding lacking_for
lacking_work n work h = rw (lt-ltb work (entry_words * (n + 1)) h, lacking_for)

pub lacking_tree : (n work : ℕ) → entry_words * (n + 1) ≤ work → lacking_for n work ≡ 9
unfolding lacking_for
lacking_tree n work h = rw (le-ltb work (entry_words * (n + 1)) h, lacking_for)

-- by any number of work words an entry
module _ (words n work tree : ℕ) where
  work_short : work < words * (n + 1) → room_refusal_by words n work tree ≡ some 8
  unfolding room_refusal_by
  work_short h = rw (lt-ltb work (words * (n + 1)) h, room_refusal_by)

  module _ (w : words * (n + 1) ≤ work) where
    tree-short : tree < 32 * (n + 1) → room_refusal_by words n work tree ≡ some 9
    unfolding room_refusal_by
    tree-short h = rw (le-ltb work (words * (n + 1)) w, room_refusal_by) (rw (lt-ltb tree (32 * (n + 1)) h))

    pub room-enough : 32 * (n + 1) ≤ tree → room_refusal_by words n work tree ≡ none
    unfolding room_refusal_by
    room-enough h = rw (le-ltb work (words * (n + 1)) w, room_refusal_by) (rw (le-ltb tree (32 * (n + 1)) h))

  -- where neither is too short
  pub has_room_lem : room_refusal_by words n work tree ≡ none → (words * (n + 1) ≤ work) × (32 * (n + 1) ≤ tree)
  has_room_lem p =
      by_lt work (words * (n + 1))
      (λ l. met p (work_short l))
      (λ w. by_lt tree (32 * (n + 1)) (λ l. met p (tree-short w l)) (λ t. (w, t)))

module _ (n work tree : ℕ) where
  -- one of the two is too short
  pub one-short : room_for work tree ≤ n → room_refusal n work tree ≡ some (lacking_for n work)
  one-short h =
      by_lt work (entry_words * (n + 1)) (λ l. work_short entry_words n work tree l ∙ ap some (sym (lacking_work n work l)))
      (λ l. tree-short entry_words n work tree l (omega (arith, h)) ∙ ap some (sym (lacking_tree n work l)))

  pub answers : (o : Option ℕ) → room_refusal n work tree ≡ o → room_of o ≡ room_answer n work tree
  unfolding room_answer
  answers o e = ap room_of (sym e)

  pub refusal-in : (r : Result Unit ℕ) → r ≡ room_answer n work tree → room_refusal n work tree ≡ refusal_in r
  unfolding room_answer room_of
  refusal-in r e = go (room_refusal n work tree) ∙ ap refusal_in (sym e)
    where
      go : (o : Option ℕ) → o ≡ refusal_in (room_of o)
      go none = refl
      go (some k) = refl
