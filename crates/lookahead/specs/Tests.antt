-- What the readers ask of an entry by its kind. t are the words of the token table, K the work words, n the number of entries.
use Rattle.std.specs.Prelude.{ℕ, ◌+◌, Bool, true, false, cond, not, ◌&&◌, ◌||◌, List, ◌==◌, nat_lt}
use Rattle.lookahead.specs.declared.tests.Look.{Look}
use Rattle.lookahead.specs.declared.tests.Look.TheVariants.{Plain, Over, Other}
use Rattle.records.specs.Record.{kind_of}

-- the entry at i is there, and its kind passes the test
unfoldable pub test_at : List ℕ → List ℕ → ℕ → (ℕ → Bool) → ℕ → Bool
test_at t K n f i = cond (nat_lt i n) (f (kind_of t K i)) false

-- the kind of the entry at i, or that of a Space, which is no entry's
unfoldable pub next_kind : List ℕ → List ℕ → ℕ → ℕ → ℕ
next_kind t K n i = cond (nat_lt i n) (kind_of t K i) 23

-- it is of the kind k
abbrev pub is_kind : ℕ → ℕ → Bool
is_kind k w = w == k

-- a head with an operand behind it: a Function, or a Sign where one prefixes
abbrev pub heads_kind : Bool → ℕ → Bool
heads_kind sg w = w == 17 || (sg && w == 16)

-- the mark of a script: Super or Sub
abbrev pub marks_kind : ℕ → Bool
marks_kind w = w == 1 || w == 2

-- an item begins: no CloseBracket, no Space (no entry there), and no Sep where it stops
abbrev pub begins_kind : Bool → ℕ → Bool
begins_kind stop w = not (w == 21 || (w == 23 || (stop && w == 3)))

-- a leaf by its kind: a Number, Text, Ident, Operator or Symbol
abbrev pub leaf_only : ℕ → Bool
leaf_only w = cond (nat_lt w 4) false (nat_lt w 16)

-- what joins on to the item before it: Frac, Super or Sub
abbrev pub joins_kind : ℕ → Bool
joins_kind w = nat_lt w 3

-- an entry that is a leaf by its kind, with neither a script nor a fraction behind it, and no reader too deep for it: an item by
-- itself. An item at depth d is read by next_simple at d + 1, which must be below 256.
unfoldable pub plain_at : List ℕ → List ℕ → ℕ → ℕ → ℕ → Bool
plain_at t K n d i = cond (nat_lt d 255) (cond (test_at t K n leaf_only i) (not (test_at t K n joins_kind (i + 1))) false) false

-- no item begins at i, and no reader is too deep to see it
unfoldable pub over_at : List ℕ → List ℕ → ℕ → ℕ → Bool → ℕ → Bool
over_at t K n d stop i = cond (nat_lt d 255) (not (test_at t K n (begins_kind stop) i)) false

-- how an item begins at i: it is one leaf, none begins, or the readers have to see
unfoldable pub look_at : List ℕ → List ℕ → ℕ → ℕ → Bool → ℕ → Look
look_at t K n d stop i = cond (plain_at t K n d i) Plain (cond (over_at t K n d stop i) Over Other)

-- the kinds of token that open a group: a bracket or a bar
abbrev pub opening : ℕ → Bool
opening k = cond (k == 20) true (k == 22)

-- whether the one argument of a token of kind k ends at a separator: a sign's does where the sign's own reader does
abbrev pub prefix_stop : ℕ → Bool → Bool
prefix_stop k stop = cond (k == 16) stop false

-- the kinds of token that take one argument: a unary operation, a function, a sign that prefixes
abbrev pub takes_one : ℕ → Bool → Bool
takes_one k sign = cond (k == 18) true (cond (k == 17) true (cond (k == 16) sign false))
