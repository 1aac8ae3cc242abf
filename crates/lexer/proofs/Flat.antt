-- Where a row's bytes stand in the flat table, what its word holds, and what the words of the bytes hold.
use mathlib.Core.Path.{◌≡◌, refl, sym, ap, ◌∙◌}
use mathlib.Core.Bool.{true}
use mathlib.Core.List.{List, [], ◌∷◌, ◌++◌}
use Prim.Native.Nat.{ℕ, zero, suc, ◌+◌, ◌*◌, ◌/◌, ◌%◌, ◌≤◌, ◌<◌}
use native.Mathlib.Omega.{arith}
use native.Mathlib.Nat.{add-zero, zero-add, add_assoc, add-suc, suc-add, not-suc-le-zero, le_of_suc-le-suc}
use lib.Dec.{ltb}
use lib.ListN.{length, get_or, get_or-append, length-append}
use lib.Seq.{get_or-append-add}
use borrow.Author.Tests.{lt-ltb, le-ltb}
use Rattle.tokens.specs.Kinds.{number_of}
use Rattle.lexing.specs.Spellings.{Row, rows}
use Rattle.lexing.specs.Rules.{blank, digit, letter}
use Rattle.lexing.specs.Order.{sorted_from}
use Rattle.lexer.specs.Constants.{flat, offset, words_of, count_below, token_of_byte, plain_kind, kind_word, firsts_of, flat_bytes, row_words, first_words, no_row, row_of, spelling_of, start_of, kind_of, rows_below, spelled_byte, longer_from, byte_kind, word_of_byte}
use Rattle.tokens.proofs.Cases.{by_test, by_lt, by_option}
use Rattle.tokens.proofs.Numbers.{number_small}
use Rattle.lexing.proofs.Rows.{rows-length}
use Rattle.lexing.proofs.Order.{sorted, sorted-cons, sorted-above}
use Rattle.lexer.proofs.Sorted.{before-first}

abbrev key_at : List Row → ℕ → List ℕ
key_at rs k = (get_or rs k no_row).spelling

-- the word of row k; behind the last row it has no token's number
words-at : (rs : List Row) (n k : ℕ) → k ≤ length rs
    → get_or (words_of n rs) k 0 ≡ 32 * (n + offset rs k) + number_of (get_or rs k no_row).token
unfolding words_of offset
words-at [] n zero h = omega arith
words-at [] n (suc k) h = absurd (not-suc-le-zero h)
words-at (r ∷ rs) n zero h = omega arith
words-at (r ∷ rs) n (suc k) h =
    words-at rs (n + length r.spelling) k (le_of_suc-le-suc h)
    ∙ ap (λ (m : ℕ). 32 * m + number_of (get_or rs k no_row).token) (add_assoc n (length r.spelling) (offset rs k))

word-is : (k : ℕ) → k < 430 → get_or row_words k 0 ≡ 32 * start_of k + kind_of k
unfolding row_words row_of start_of kind_of
word-is k h =
    words-at rows 0 k (omega (arith, rows-length))
    ∙ ap (λ (m : ℕ). 32 * m + number_of (get_or rows k no_row).token) (zero-add (offset rows k))

kind-small : (k : ℕ) → kind_of k < 24
unfolding kind_of
kind-small k = omega (arith, number_small (row_of k).token)

module _ (k : ℕ) (h : k < 430) where
  pub start_word : get_or row_words k 0 / 32 ≡ start_of k
  start_word = rw (word-is k h) (omega (arith, kind-small k))

  pub kind-word : get_or row_words k 0 % 32 ≡ kind_of k
  kind-word = rw (word-is k h) (omega (arith, kind-small k))

offset-suc : (rs : List Row) (k : ℕ) → k < length rs → offset rs (suc k) ≡ offset rs k + length (key_at rs k)
unfolding offset
offset-suc [] k h = absurd (not-suc-le-zero h)
offset-suc (r ∷ []) zero h = omega arith
offset-suc (r ∷ (q ∷ rs)) zero h = omega arith
offset-suc (r ∷ rs) (suc k) h = omega (arith, offset-suc rs k (le_of_suc-le-suc h))

-- a row ends where the next one starts
pub end_is : (k : ℕ) → k < 429 → start_of (k + 1) ≡ start_of k + length (spelling_of k)
unfolding row_of spelling_of start_of
end_is k h = ap (offset rows) (omega arith) ∙ offset-suc rows k (omega (arith, rows-length))

flat-at : (rs : List Row) (k j : ℕ) → k < length rs → j < length (key_at rs k)
    → get_or (flat rs) (offset rs k + j) 0 ≡ get_or (key_at rs k) j 0
unfolding offset flat
flat-at [] k j h l = absurd (not-suc-le-zero h)
flat-at (r ∷ rs) zero j h l =
    ap (λ (m : ℕ). get_or (r.spelling ++ flat rs) m 0) (zero-add j) ∙ get_or-append r.spelling (flat rs) 0 j l
flat-at (r ∷ rs) (suc k) j h l =
    ap (λ (m : ℕ). get_or (r.spelling ++ flat rs) m 0) (add_assoc (length r.spelling) (offset rs k) j) ∙
    get_or-append-add r.spelling (flat rs) (offset rs k + j) 0 ∙
    flat-at rs k j (le_of_suc-le-suc h) l

offset-bound : (rs : List Row) (k : ℕ) → k < length rs → offset rs k + length (key_at rs k) ≤ length (flat rs)
unfolding offset flat
offset-bound [] k h = absurd (not-suc-le-zero h)
offset-bound (r ∷ rs) zero h = omega (arith, length-append r.spelling (flat rs))
offset-bound (r ∷ rs) (suc k) h = omega (arith, offset-bound rs k (le_of_suc-le-suc h), length-append r.spelling (flat rs))

-- byte j of row k
pub byte-is : (k j : ℕ) → k < 429 → j < length (spelling_of k) → get_or flat_bytes (start_of k + j) 0 ≡ get_or (spelling_of k) j 0
unfolding row_of spelling_of start_of flat_bytes
byte-is k j h l = flat-at rows k j (omega (arith, rows-length)) l

bytes-length : length flat_bytes ≡ 1809
unfolding flat_bytes flat rows
bytes-length = refl

pub row-bound : (k : ℕ) → k < 429 → start_of k + length (spelling_of k) ≤ 1809
unfolding row_of spelling_of start_of flat_bytes
row-bound k h = omega (arith, offset-bound rows k (omega (arith, rows-length)), bytes-length)

-- in a sorted table the rows that begin with a smaller byte are the first ones
count_none : (c : ℕ) (rs : List Row) → ((k : ℕ) → k < length rs → c ≤ get_or (key_at rs k) 0 0) → count_below c rs ≡ 0
unfolding count_below
count_none c [] f = refl
count_none c (r ∷ rs) f = rw (le-ltb _ c (f 0 (omega arith)), count_below) (count_none c rs (λ k h. f (suc k) (omega arith)))

count-le : (c : ℕ) (rs : List Row) → count_below c rs ≤ length rs
unfolding count_below
count-le c [] = omega arith
count-le c (r ∷ rs) =
    by_test (ltb (get_or r.spelling 0 0) c) (λ e. rw (e, count_below) (omega (arith, count-le c rs)))
    (λ e. rw (e, count_below) (omega (arith, count-le c rs)))

later : (p : List ℕ) (r : Row) (rs : List Row) → sorted_from p (r ∷ rs) ≡ true → (k : ℕ) → k < length rs
    → get_or r.spelling 0 0 ≤ get_or (key_at rs k) 0 0
later p r rs s k l = before-first r.spelling (key_at rs k) (sorted-above no_row r.spelling rs (sorted-cons p r rs s).1 k l)

module _ (c : ℕ) where
  counted : (p : List ℕ) (rs : List Row) → sorted_from p rs ≡ true → (k : ℕ) → k < length rs
      → (k < count_below c rs → get_or (key_at rs k) 0 0 < c) × (count_below c rs ≤ k → c ≤ get_or (key_at rs k) 0 0)
  unfolding count_below
  counted p [] s k h = absurd (not-suc-le-zero h)
  counted p (r ∷ rs) s zero h =
      by_lt (get_or r.spelling 0 0) c
      (λ e. rw (lt-ltb _ c e, count_below) (λ l. e, λ l. absurd (omega arith)))
      (λ e. rw (le-ltb _ c e, count_below) (λ l. absurd (omega (arith, count_none c rs (λ k m. omega (arith, later p r rs s k m)))), λ l. e))
  counted p (r ∷ rs) s (suc k) h =
      let i = counted r.spelling rs (sorted-cons p r rs s).1 k (le_of_suc-le-suc h) in
      by_lt (get_or r.spelling 0 0) c
      (λ e. rw (lt-ltb _ c e, count_below) (λ l. i.0 (omega arith), λ l. i.1 (omega arith)))
      (λ e. rw (le-ltb _ c e, count_below) (λ l. i.0 (omega arith), λ l. omega (arith, later p r rs s k (le_of_suc-le-suc h))))

pub below-bound : (c : ℕ) → rows_below c ≤ 429
unfolding rows_below
below-bound c = omega (arith, count-le c rows, rows-length)

module _ (c k : ℕ) (l : k < 429) where
  pub below-first : k < rows_below c → get_or (spelling_of k) 0 0 < c
  unfolding row_of spelling_of rows_below
  below-first m = (counted c [] rows sorted k (omega (arith, rows-length))).0 m

  pub from_first : rows_below c ≤ k → c ≤ get_or (spelling_of k) 0 0
  unfolding row_of spelling_of rows_below
  from_first m = (counted c [] rows sorted k (omega (arith, rows-length))).1 m

-- the word of a byte
firsts_at : (n c : ℕ) (rs : List Row) (k : ℕ) → k < n
    → get_or (firsts_of n c rs) k 0 ≡ 64 * count_below (c + k) rs + kind_word (c + k) (token_of_byte (c + k) rs)
unfolding firsts_of
firsts_at zero c rs k h = absurd (not-suc-le-zero h)
firsts_at (suc n) c rs zero h =
    ap (λ (m : ℕ). 64 * count_below m rs + kind_word m (token_of_byte m rs)) (sym (add-zero c))
firsts_at (suc n) c rs (suc k) h =
    firsts_at n (suc c) rs k (le_of_suc-le-suc h)
    ∙ ap (λ (m : ℕ). 64 * count_below m rs + kind_word m (token_of_byte m rs)) (suc-add c k ∙ sym (add-suc c k))

pub word-as_is : (c : ℕ) → c < 129 → get_or first_words c 0 ≡ word_of_byte c
unfolding first_words rows_below spelled_byte word_of_byte
word-as_is c h =
    firsts_at 129 0 rows c h ∙ ap (λ (m : ℕ). 64 * count_below m rows + kind_word m (token_of_byte m rows)) (zero-add c)

pub plain-small : (c : ℕ) → plain_kind c < 24
unfolding plain_kind
plain-small c =
    by_test (blank c) (λ a. rw (a, plain_kind) (omega arith))
    (λ a.
    by_test (digit c) (λ b. rw (a, plain_kind) (rw b (omega arith)))
    (λ b.
    by_test (letter c) (λ d. rw (a, plain_kind) (rw b (rw d (omega arith))))
    (λ d. rw (a, plain_kind) (rw b (rw d (omega arith))))))

-- what the word of a byte holds
module _ (c : ℕ) where
  pub first_word : word_of_byte c / 64 ≡ rows_below c
  unfolding word_of_byte
  first_word =
      by_option (spelled_byte c) (λ o. rw (o, word_of_byte) (omega (arith, plain-small c)))
      (λ t o. rw (o, word_of_byte) (omega (arith, number_small t)))

  pub longer-word : (word_of_byte c + 32) / 64 ≡ longer_from c
  unfolding word_of_byte longer_from
  longer-word =
      by_option (spelled_byte c) (λ o. rw (o, word_of_byte) (rw (o, longer_from) (omega (arith, plain-small c))))
      (λ t o. rw (o, word_of_byte) (rw (o, longer_from) (omega (arith, number_small t))))

  pub kind-is : word_of_byte c % 32 ≡ byte_kind c
  unfolding word_of_byte byte_kind
  kind-is =
      by_option (spelled_byte c) (λ o. rw (o, word_of_byte) (rw (o, byte_kind) (omega (arith, plain-small c))))
      (λ t o. rw (o, word_of_byte) (rw (o, byte_kind) (omega (arith, number_small t))))

  pub word-small : word_of_byte c ≤ 27519
  unfolding word_of_byte
  word-small =
      by_option (spelled_byte c) (λ o. rw (o, word_of_byte) (omega (arith, plain-small c, below-bound c)))
      (λ t o. rw (o, word_of_byte) (omega (arith, number_small t, below-bound c)))
