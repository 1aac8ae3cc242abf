-- The work words: a record of two for each entry, and one to spare: "Two words a token, 2 × (n + 1) in all". t are the words of the
-- token table, K the work words. What a store leaves of each field is said by laws (crates/stores/proofs/Stores.antt): nothing above
-- `records`, `fields` and `stores` knows where in a record a field stands, but for computed examples.
use Rattle.std.specs.Prelude.{ℕ, ◌+◌, ◌*◌, ◌-◌, ◌/◌, ◌%◌, ◌<◌, ◌≡◌, List, ◌∷◌, Bool, false, cond, length, get_or, set, eqb, ltb}
use Rattle.tokens.specs.Refusals.{entry_words}
use Rattle.records.specs.declared.bits.Bits.{Bits}
use Rattle.records.specs.declared.bits.Bits.TheVariants.{Low, High, Marks, Closer}

-- the words of so many records
abbrev pub record_words : ℕ → ℕ
record_words n = entry_words * n

-- A field of 16 bits holds numbers below `half_size`; marks and a closer stand in 16 bits together and hold numbers below these.
abbrev pub half_size : ℕ
half_size = 65536

abbrev pub marks_size : ℕ
marks_size = 8

abbrev pub closer_size : ℕ
closer_size = 8192

-- the number fits in 16 bits, beside a closer, beside marks
abbrev pub InHalf : ℕ → Type 0
InHalf v = v < half_size

abbrev pub InMarks : ℕ → Type 0
InMarks v = v < marks_size

abbrev pub InCloser : ℕ → Type 0
InCloser v = v < closer_size

-- Bits of the word w: the low and the high 16, or, of the high ones, the lowest three and the 13 above those.
abbrev pub bits_of : Bits → ℕ → ℕ
bits_of Low w = w % half_size
bits_of High w = w / half_size
bits_of Marks w = w / half_size % marks_size
bits_of Closer w = w / (half_size * marks_size)

-- the word w with v in these bits, of a larger number as many of its low bits; the others are kept
abbrev pub with_bits : Bits → ℕ → ℕ → ℕ
with_bits Low w v = half_size * (w / half_size) + v % half_size
with_bits High w v = w % half_size + half_size * (v % half_size)
with_bits Marks w v = w % half_size + half_size * (v % marks_size) + half_size * marks_size * (w / (half_size * marks_size))
with_bits Closer w v = w % (half_size * marks_size) + half_size * marks_size * (v % closer_size)

-- A field of the record i is some bits of its word k.
abbrev pub field : ℕ → Bits → List ℕ → ℕ → ℕ
field k h K i = bits_of h (get_or K (2 * i + k) 0)

-- the token's place in the table
unfoldable pub place_of : List ℕ → ℕ → ℕ
place_of K i = field 0 Low K i

-- the entry behind the closing bracket of this one, or 0
unfoldable pub after_close : List ℕ → ℕ → ℕ
after_close K i = field 0 High K i

-- of an OpenBracket 1 if a Sep stands directly inside, or 0; of a CloseBracket that nothing opened the reading notes here what it wraps
unfoldable pub sep_of : List ℕ → ℕ → ℕ
sep_of K i = field 1 Low K i

-- the marks, see the crate `marks`
unfoldable pub marks_of : List ℕ → ℕ → ℕ
marks_of K i = field 1 Marks K i

-- how far before the end of the entries its closer stands, or 0 if it has none
unfoldable pub closer_of : List ℕ → ℕ → ℕ
closer_of K i = field 1 Closer K i

-- a record of these three, with no mark and no closer, and the words behind it
unfoldable pub record_of : ℕ → ℕ → ℕ → List ℕ → List ℕ
record_of place close sep K = (place + half_size * close) ∷ sep ∷ K

-- The record i has both its words; where it has not, a store changes nothing.
abbrev pub Whole : List ℕ → ℕ → Type 0
Whole K i = 2 * i + 1 < length K

abbrev pub is_whole : List ℕ → ℕ → Bool
is_whole K i = ltb (2 * i + 1) (length K)

-- a new record: this place, no bracket matched, no mark set and no closer
unfoldable pub with_record : List ℕ → ℕ → ℕ → List ℕ
with_record K i place = cond (is_whole K i) (set (set K (2 * i) (bits_of Low place)) (2 * i + 1) 0) K

-- v in one field
unfoldable pub with_field : ℕ → Bits → List ℕ → ℕ → ℕ → List ℕ
with_field k h K i v = cond (is_whole K i) (set K (2 * i + k) (with_bits h (get_or K (2 * i + k) 0) v)) K

-- another entry behind the closing bracket
abbrev pub with_close : List ℕ → ℕ → ℕ → List ℕ
with_close K i after = with_field 0 High K i after

-- another number for the Sep
abbrev pub with_sep : List ℕ → ℕ → ℕ → List ℕ
with_sep K i v = with_field 1 Low K i v

-- other marks
abbrev pub with_marks : List ℕ → ℕ → ℕ → List ℕ
with_marks K i marks = with_field 1 Marks K i marks

-- another closer
abbrev pub with_closer : List ℕ → ℕ → ℕ → List ℕ
with_closer K i before = with_field 1 Closer K i before

-- the entry has its words, and its token stands in the table
unfoldable pub is_placed : List ℕ → List ℕ → ℕ → Bool
is_placed t K i = cond (is_whole K i) (ltb (3 * place_of K i + 2) (length t)) false

-- the kind, start and length of its token; if it is not placed, the kind of a Space, which is no entry's, and 0
unfoldable pub kind_of : List ℕ → List ℕ → ℕ → ℕ
kind_of t K i = cond (is_placed t K i) (get_or t (3 * place_of K i + 2) 0) 23

unfoldable pub start_of : List ℕ → List ℕ → ℕ → ℕ
start_of t K i = cond (is_placed t K i) (get_or t (3 * place_of K i) 0) 0

unfoldable pub len_of : List ℕ → List ℕ → ℕ → ℕ
len_of t K i = cond (is_placed t K i) (get_or t (3 * place_of K i + 1) 0) 0

-- a word of the Space directly before the token j, or 0; as in a token list, a number above 23 is a Space's too
unfoldable pub space_word : List ℕ → ℕ → ℕ → ℕ
space_word t j k = cond (eqb j 0) 0 (cond (ltb (get_or t (3 * (j - 1) + 2) 0) 23) 0 (get_or t (3 * (j - 1) + k) 0))

unfoldable pub space_start : List ℕ → List ℕ → ℕ → ℕ
space_start t K i = cond (is_placed t K i) (space_word t (place_of K i) 0) 0

unfoldable pub space_len : List ℕ → List ℕ → ℕ → ℕ
space_len t K i = cond (is_placed t K i) (space_word t (place_of K i) 1) 0

-- the words of L are those of K but for marks and closers
pub record Kept (K L : List ℕ) : Type 0 where
  pub long : length L ≡ length K
  pub place : (i : ℕ) → place_of L i ≡ place_of K i
  pub close : (i : ℕ) → after_close L i ≡ after_close K i
  pub sep : (i : ℕ) → sep_of L i ≡ sep_of K i
