-- Decoding a tree's words gives the tree back, whatever words follow them.
use Prim.Native.Nat.{ℕ, zero, suc, ◌≤◌}
use mathlib.Core.Path.{◌≡◌, refl, ap}
use mathlib.Core.List.{List, [], ◌++◌, append_assoc}
use mathlib.Core.Bool.{Bool, true, false, cond}
use native.Mathlib.Omega.{arith}
use lib.ListN.{length, get_or, drop, length-append}
use lib.Seq.{take-append_seam, drop-append_seam}
use lib.Dec.{eqb}
use Rattle.tokens.specs.declared.token.SymbolClass.TheVariants as class
use Rattle.tree.specs.Tree.{Script, Head, Atom, Prefix, Node, node, Nodes, end, ◌▸◌, count}
use Rattle.tree.specs.Words.{head_words, tail_words, of_items, with_head, encode, encodes, encode_item, encode_items}
use Rattle.tree.specs.WellFormed.{WellFormed}
use Rattle.tree.specs.Laid.{Laid, Laids}
use Rattle.tree.proofs.Laid.{expression_laid}
use Rattle.tree.specs.Decode.{kind_head, head_of, below, times, decode_item, decode_node, decode, Decoder}

-- What decoding reads in the words of a node whose own words come before `behind`.
record Own (h : Head) (k : ℕ) (words behind : List ℕ) : Type 0 where
  head : head_of words (tail_words h) ≡ h
  items : of_items (head_of words []) ≡ of_items h
  many : below (head_of words []) (get_or words 3 0) ≡ below h k
  skip : drop (cond (eqb (get_or words 0 0) 16) 8 6) words ≡ behind
  lines : cond (eqb (get_or words 0 0) 16) (get_or words 7 0) 0 ≡ length (tail_words h)

-- every node has words of its own
some_words : (h : Head) (k w : ℕ) → 1 ≤ length (head_words h k w)
some_words Head.missing k w = omega arith
some_words (Head.atom a sp) k w = omega arith
some_words (Head.prefix p sp) k w = omega arith
some_words (Head.simple sc) k w = omega arith
some_words (Head.func sp sc) k w = omega arith
some_words Head.frac k w = omega arith
some_words Head.cell k w = omega arith
some_words (Head.group a b) k w = omega arith
some_words (Head.matrix a b c ls) k w = omega arith

own : (h : Head) (k w : ℕ) (behind : List ℕ) → Own h k (head_words h k w ++ behind) behind
unfolding kind_head
own Head.missing k w r = search
own (Head.atom Atom.number sp) k w r = search
own (Head.atom Atom.text sp) k w r = search
own (Head.atom Atom.ident sp) k w r = search
own (Head.atom Atom.operator sp) k w r = search
own (Head.atom Atom.sign sp) k w r = search
own (Head.atom Atom.space sp) k w r = search
own (Head.atom (Atom.symbol class.Glyph) sp) k w r = search
own (Head.atom (Atom.symbol class.Name) sp) k w r = search
own (Head.atom (Atom.symbol class.Joining) sp) k w r = search
own (Head.atom (Atom.symbol class.JoiningName) sp) k w r = search
own (Head.atom (Atom.symbol class.Leading) sp) k w r = search
own (Head.atom (Atom.symbol class.LeadingName) sp) k w r = search
own (Head.atom (Atom.symbol class.Space) sp) k w r = search
own (Head.atom (Atom.symbol class.Separator) sp) k w r = search
own (Head.prefix Prefix.signed sp) k w r = search
own (Head.prefix Prefix.ssigned sp) k w r = search
own (Head.prefix Prefix.unary sp) k w r = search
own (Head.prefix Prefix.sfunc sp) k w r = search
own (Head.prefix Prefix.binary sp) k w r = search
own (Head.simple Script.none) k w r = search
own (Head.simple Script.sub) k w r = search
own (Head.simple Script.super) k w r = search
own (Head.simple Script.subsuper) k w r = search
own (Head.func sp Script.none) k w r = search
own (Head.func sp Script.sub) k w r = search
own (Head.func sp Script.super) k w r = search
own (Head.func sp Script.subsuper) k w r = search
own Head.frac k w r = search
own Head.cell k w r = search
own (Head.group a b) k w r = search
own (Head.matrix a b c ls) k w r = search

-- A node is read back if the nodes below it are.
node-step : {h : Head} {l : Nodes} {words behind rest : List ℕ} (depth : ℕ) → Own h (count l) words behind →
    count l ≡ below h (count l) →
    times (count l) (cond (of_items h) (decode_item (decode_node depth)) (decode_node depth)) behind
    ≡ (l, tail_words h ++ rest) →
    decode_node (suc depth) words ≡ (node h l, rest)
unfolding decode_node
node-step {h} {l} {words} {behind} {rest} depth o c t =
    rw (o.items, o.many, o.skip, o.lines, ← c, t, take-append_seam, drop-append_seam, o.head)

-- Read back by a decoder for which the words suffice, whatever follows them.
abbrev ReadBack : {A : Type 0} → (ℕ → Decoder A) → A → List ℕ → Type 0
ReadBack decoder a words = (depth : ℕ) (rest : List ℕ) → length words ≤ depth → decoder depth (words ++ rest) ≡ (a, rest)

record Back (x : Node) : Type 0 where
  one : ReadBack decode_node x (encode x)
  item : ReadBack (λ depth. decode_item (decode_node depth)) x (encode_item x)

record Backs (l : Nodes) : Type 0 where
  all : ReadBack (λ depth. times (count l) (decode_node depth)) l (encodes l)
  items : ReadBack (λ depth. times (count l) (decode_item (decode_node depth))) l (encode_items l)

-- the nodes below a node, which are items or not
either : {l : Nodes} → Backs l → (items : Bool) →
    ReadBack (λ depth. times (count l) (cond items (decode_item (decode_node depth)) (decode_node depth))) l
    (cond items (encode_items l) (encodes l))
either b true = b.items
either b false = b.all

module _ (h : Head) (l : Nodes) (c : count l ≡ below h (count l)) (b : Backs l) where
  node-back : ReadBack decode_node (node h l) (encode (node h l))
  unfolding encode
  node-back depth rest fit =
      go depth (omega (arith, simp length-append at fit, some_words h (count l) (length inner)))
    where
      inner : List ℕ
      inner = cond (of_items h) (encode_items l) (encodes l)

      go : (d : ℕ) → suc (length inner) ≤ d → decode_node d (with_head h (count l) inner ++ rest) ≡ (node h l, rest)
      go zero k = absurd (omega arith)
      go (suc d) k =
          rw (append_assoc, append_assoc)
          (node-step d (own h (count l) (length inner) (inner ++ (tail_words h ++ rest))) c
          (either b (of_items h) d (tail_words h ++ rest) (omega arith)))

item_back : (h : Head) (l : Nodes) → count l ≡ below h (count l) → Backs l →
    ReadBack (λ depth. decode_item (decode_node depth)) (node h l) (encode_item (node h l))
unfolding encode decode_item
item_back Head.frac l c b depth rest fit = rw (← c, b.all depth rest (omega arith))
item_back Head.missing l c b depth rest fit = node-back _ l c b depth rest (omega arith)
item_back (Head.atom a sp) l c b depth rest fit = node-back _ l c b depth rest (omega arith)
item_back (Head.prefix p sp) l c b depth rest fit = node-back _ l c b depth rest (omega arith)
item_back (Head.simple sc) l c b depth rest fit = node-back _ l c b depth rest (omega arith)
item_back (Head.func sp sc) l c b depth rest fit = node-back _ l c b depth rest (omega arith)
item_back Head.cell l c b depth rest fit = node-back _ l c b depth rest (omega arith)
item_back (Head.group x y) l c b depth rest fit = node-back _ l c b depth rest (omega arith)
item_back (Head.matrix x y k ls) l c b depth rest fit = node-back _ l c b depth rest (omega arith)

-- one node and the nodes behind it
times-step : (one : Decoder Node) (words : List ℕ) {x : Node} {l : Nodes} {middle rest : List ℕ} → one words ≡ (x, middle) →
    times (count l) one middle ≡ (l, rest) → times (suc (count l)) one words ≡ (x ▸ l, rest)
unfolding times
times-step one words p q = rw (p, q)

next : {x : Node} {l : Nodes} → Back x → Backs l → Backs (x ▸ l)
unfolding encode
next {x} {l} b d = record {
  all = λ depth rest fit.
      let k = simp length-append at fit in
      rw append_assoc (times-step _ _ (b.one depth (encodes l ++ rest) (omega arith)) (d.all depth rest (omega arith)));
  items = λ depth rest fit.
      let k = simp length-append at fit in
      rw append_assoc (times-step _ _ (b.item depth (encode_items l ++ rest) (omega arith)) (d.items depth rest (omega arith)));
}

none : Backs end
unfolding encode times
none = record { all = λ depth rest fit. refl; items = λ depth rest fit. refl }

mutual
  back : (x : Node) → Laid x → Back x
  back (node h l) c = let b = backs l c.1.1 in record { one = node-back h l c.0 b; item = item_back h l c.0 b }

  backs : (l : Nodes) → Laids l → Backs l
  backs end c = none
  backs (x ▸ l) c = next (back x c.0) (backs l c.1)

decode-laid : (l : Nodes) → Laids l → (rest : List ℕ) → decode (count l) (encode_items l ++ rest) ≡ l
unfolding decode
decode-laid l c rest =
    ap (λ p. p.0) ((backs l c).items (length (encode_items l ++ rest)) rest (simp length-append (omega arith)))

pub decode-encode : (l : Nodes) → WellFormed l → (rest : List ℕ) → decode (count l) (encode_items l ++ rest) ≡ l
decode-encode l w rest = decode-laid l (expression_laid w) rest
