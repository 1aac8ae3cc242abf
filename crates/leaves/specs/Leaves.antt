-- The words of nodes that stand for one entry. t are the words of the token table, K the work words.
use Rattle.std.specs.Prelude.{ℕ, ◌-◌, List, [], ◌∷◌, Bool, true, false, cond, eqb, ltb}
use Rattle.records.specs.Record.{start_of, len_of}
use Rattle.spans.specs.Spans.{byte_at}

-- a node of the entry i, of this kind and with this word
abbrev pub node_words : List ℕ → List ℕ → ℕ → ℕ → ℕ → List ℕ
node_words t K i kind extra = kind ∷ start_of t K i ∷ len_of t K i ∷ extra ∷ 0 ∷ 0 ∷ []

-- a leaf's node kind (Number 1, Text 2, Ident 3, Operator 4, Sign 5, any other token a symbol, 7), its class, and whether it ends an
-- operand, by the kind of its token
abbrev pub leaf_kind : ℕ → ℕ
leaf_kind k = cond (eqb k 4) 1 (cond (eqb k 5) 2 (cond (eqb k 6) 3 (cond (eqb k 7) 4 (cond (eqb k 16) 5 7))))

abbrev pub leaf_class : ℕ → ℕ
leaf_class k = cond (eqb k 3) 7 (cond (ltb k 8) 0 (cond (ltb k 16) (k - 8) 0))

abbrev pub leaf_ends : ℕ → Bool
leaf_ends k =
    cond (ltb k 3) true
    (cond (eqb k 3) false (cond (ltb k 7) true (cond (ltb k 8) false (cond (ltb k 10) true (cond (ltb k 22) false true)))))

abbrev pub leaf_words : List ℕ → List ℕ → ℕ → ℕ → List ℕ
leaf_words t K i k = node_words t K i (leaf_kind k) (leaf_class k)

-- the item that is this leaf alone, in a simple part without script
abbrev pub plain_words : List ℕ → List ℕ → ℕ → ℕ → List ℕ
plain_words t K i k = 0 ∷ 13 ∷ 0 ∷ 0 ∷ 0 ∷ 0 ∷ 0 ∷ leaf_words t K i k

-- the leaf of the entry i, of kind k, is a symbol with the text `|`
unfoldable pub leaf_bar : List ℕ → List ℕ → List ℕ → ℕ → ℕ → Bool
leaf_bar X t K i k = cond (eqb (leaf_kind k) 7) (byte_at X t K i 124) false
