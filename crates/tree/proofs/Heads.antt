-- The head of an opened node, and a matrix's column lines, are those whose words stand there.
use Prim.Native.Nat.{ℕ, ◌+◌, ◌≤◌}
use mathlib.Core.Path.{◌≡◌, refl, sym, ap, ◌∙◌}
use mathlib.Core.Bool.{Bool, false}
use mathlib.Core.List.{List, [], ◌++◌, append_assoc}
use lib.ListN.{length, drop, get_or-eq_default}
use lib.Seq.{drop-drop, drop-append_seam, take-append_seam}
use Rattle.tokens.specs.declared.token.SymbolClass.TheVariants as class
use Rattle.tree.specs.declared.walk.Opened.{Opened}
use Rattle.tree.specs.Tree.{Script, Head, Atom, Prefix, node, Nodes, count}
use Rattle.tree.specs.Words.{head_words, tail_words, of_items, is_frac, encode, encodes}
use Rattle.tree.specs.Decode.{kind_head}
use Rattle.tree.specs.Walk.{row_words, node_words, kind_of, headed_at, placed_at, cells_end, lines_of, head_at}
use Rattle.tree.specs.Laid.{HoldsCells, Laid}
use Rattle.tree.proofs.Steps.{placed-node}
use Rattle.tree.proofs.Opens.{Opens, opens, cells-end}

-- the column lines of a node's words are those of its head
pub lines-of : (words : List ℕ) (at : ℕ) (items : Bool) (h : Head) (l : Nodes) (rest : List ℕ) (o : Opened) → HoldsCells h l →
    Opens words at items h l rest o → lines_of words o ≡ tail_words h
unfolding lines_of
lines-of words at items Head.missing l rest o c p = rw p.tail
lines-of words at items (Head.atom a sp) l rest o c p = rw p.tail
lines-of words at items (Head.prefix q sp) l rest o c p = rw p.tail
lines-of words at items (Head.simple sc) l rest o c p = rw p.tail
lines-of words at items (Head.func sp sc) l rest o c p = rw p.tail
lines-of words at items Head.frac l rest o c p = rw p.tail
lines-of words at items Head.cell l rest o c p = rw p.tail
lines-of words at items (Head.group a b) l rest o c p = rw p.tail
lines-of words at items (Head.matrix a b k ls) l rest o c p =
    let e : cells_end words o.count o.from ≡ o.from + length (encodes l) = rw p.many (cells-end words l o.from (ls ++ rest) c p.row) in
    let d : drop (o.from + length (encodes l)) words ≡ ls ++ rest =
    sym (drop-drop (length (encodes l)) o.from words) ∙ ap (drop (length (encodes l))) p.row ∙ drop-append_seam (encodes l) (ls ++ rest) in
    rw (e, d, p.tail, take-append_seam)

-- the kind of a head and its own words, whatever stands behind them, tell it
own-head : (h : Head) (k w : ℕ) (behind : List ℕ) → kind_head (kind_of h) (head_words h k w ++ behind) (tail_words h) ≡ h
unfolding kind_head
own-head Head.missing k w r = refl
own-head (Head.atom Atom.number sp) k w r = refl
own-head (Head.atom Atom.text sp) k w r = refl
own-head (Head.atom Atom.ident sp) k w r = refl
own-head (Head.atom Atom.operator sp) k w r = refl
own-head (Head.atom Atom.sign sp) k w r = refl
own-head (Head.atom Atom.space sp) k w r = refl
own-head (Head.atom (Atom.symbol class.Glyph) sp) k w r = refl
own-head (Head.atom (Atom.symbol class.Name) sp) k w r = refl
own-head (Head.atom (Atom.symbol class.Joining) sp) k w r = refl
own-head (Head.atom (Atom.symbol class.JoiningName) sp) k w r = refl
own-head (Head.atom (Atom.symbol class.Leading) sp) k w r = refl
own-head (Head.atom (Atom.symbol class.LeadingName) sp) k w r = refl
own-head (Head.atom (Atom.symbol class.Space) sp) k w r = refl
own-head (Head.atom (Atom.symbol class.Separator) sp) k w r = refl
own-head (Head.prefix Prefix.signed sp) k w r = refl
own-head (Head.prefix Prefix.ssigned sp) k w r = refl
own-head (Head.prefix Prefix.unary sp) k w r = refl
own-head (Head.prefix Prefix.sfunc sp) k w r = refl
own-head (Head.prefix Prefix.binary sp) k w r = refl
own-head (Head.simple Script.none) k w r = refl
own-head (Head.simple Script.sub) k w r = refl
own-head (Head.simple Script.super) k w r = refl
own-head (Head.simple Script.subsuper) k w r = refl
own-head (Head.func sp Script.none) k w r = refl
own-head (Head.func sp Script.sub) k w r = refl
own-head (Head.func sp Script.super) k w r = refl
own-head (Head.func sp Script.subsuper) k w r = refl
own-head Head.frac k w r = refl
own-head Head.cell k w r = refl
own-head (Head.group a b) k w r = refl
own-head (Head.matrix a b c ls) k w r = refl

frac-head : (words lines : List ℕ) → kind_head 18 words lines ≡ Head.frac
unfolding kind_head
frac-head words lines = refl

-- past the last word there are no lines
pub lines-past : (words : List ℕ) (head : ℕ) → length words ≤ head → [] ≡ lines_of words (headed_at words head)
unfolding lines_of headed_at
lines-past words head h = rw (get_or-eq_default words 0 h)

module _ (words : List ℕ) (at : ℕ) (items : Bool) (l : Nodes) (rest : List ℕ) (o : Opened) where
  headed : (h : Head) → is_frac h ≡ false → Laid (node h l) → Opens words at items h l rest o → head_at words o.kind o.head ≡ h
  unfolding head_at encode
  headed h f c p =
      let behind : List ℕ = row_words (of_items h) l ++ (tail_words h ++ rest) in
      let own : List ℕ = head_words h (count l) (length (row_words (of_items h) l)) in
      let there : drop o.head words ≡ node_words false (node h l) ++ rest = p.head f ∙ simp append_assoc in
      let again : Opens words o.head false h l rest (placed_at words o.head false) = opens words o.head false h l rest c there in
      let lines : lines_of words (headed_at words o.head) ≡ tail_words h =
      ap (lines_of words) (placed-node words o.head false refl) ∙ lines-of words o.head false h l rest (placed_at words o.head false) c.1.0 again in
      ap (λ (k : ℕ). kind_head k (drop o.head words) (lines_of words (headed_at words o.head))) p.kind
      ∙ ap (λ (w : List ℕ). kind_head (kind_of h) w (lines_of words (headed_at words o.head))) (p.head f)
      ∙ ap (kind_head (kind_of h) (own ++ behind)) lines
      ∙ own-head h (count l) (length (row_words (of_items h) l)) behind

  -- what the walk has opened is the node whose words stand there
  pub head_at_lem : (h : Head) → Laid (node h l) → Opens words at items h l rest o → head_at words o.kind o.head ≡ h
  unfolding head_at
  head_at_lem Head.missing c p = headed Head.missing refl c p
  head_at_lem (Head.atom a sp) c p = headed (Head.atom a sp) refl c p
  head_at_lem (Head.prefix q sp) c p = headed (Head.prefix q sp) refl c p
  head_at_lem (Head.simple sc) c p = headed (Head.simple sc) refl c p
  head_at_lem (Head.func sp sc) c p = headed (Head.func sp sc) refl c p
  head_at_lem Head.frac c p =
      ap (λ (k : ℕ). kind_head k (drop o.head words) (lines_of words (headed_at words o.head))) p.kind
      ∙ frac-head (drop o.head words) (lines_of words (headed_at words o.head))
  head_at_lem Head.cell c p = headed Head.cell refl c p
  head_at_lem (Head.group a b) c p = headed (Head.group a b) refl c p
  head_at_lem (Head.matrix a b k ls) c p = headed (Head.matrix a b k ls) refl c p
