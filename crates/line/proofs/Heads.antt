-- The line of a node from its words is the line of its head.
use Prim.Native.Nat.{ℕ}
use mathlib.Core.Path.{◌≡◌, refl, sym, ap, ◌∙◌}
use mathlib.Core.Bool.{Bool, false}
use mathlib.Core.List.{List, ◌++◌, append_assoc, append-nil}
use lib.ListN.{length, get_or}
use lib.Seq.{get_or-drop}
use Rattle.tokens.specs.Bytes.{bytes}
use Rattle.tree.specs.declared.walk.Opened.{Opened}
use Rattle.tree.specs.Tree.{Script, Head, Atom, Prefix, Nodes, count}
use Rattle.tree.specs.Words.{head_words, tail_words, of_items, is_frac}
use Rattle.tree.specs.Walk.{row_words, kind_of, lines_of}
use Rattle.tree.specs.Laid.{HoldsCells}
use Rattle.tree.proofs.Opens.{Opens}
use Rattle.tree.proofs.Heads.{lines-of}
use Rattle.writer.specs.Decimal.{decimal}
use Rattle.line.specs.Print.{name_of, field, newline, left, right, script_name, script, class, fields, name, line}
use Rattle.line.specs.Lines.{start_of, left_of, script_of, right_of, group_of, matrix_of, word_of, added_by, added_of, line_of}

-- the fields and the line of these numbers: `word` gives a node's own words
abbrev fields_by : ℕ → (ℕ → ℕ) → ℕ → List ℕ → List ℕ
fields_by kind word count lines = left_of kind (word 1) (word 2) ++ added_by kind (word 3) (word 4) (word 5) (word 6) count lines

abbrev line_by : ℕ → ℕ → (ℕ → ℕ) → ℕ → List ℕ → List ℕ
line_by depth kind word count lines =
    start_of depth kind ++
    (left_of kind (word 1) (word 2) ++ (added_by kind (word 3) (word 4) (word 5) (word 6) count lines ++ newline))

-- what the numbers in a node's own words print
fields-of : (h : Head) (k w : ℕ) (behind : List ℕ) →
    fields_by (kind_of h) (λ i. get_or (head_words h k w ++ behind) i 0) k (tail_words h) ≡ fields h k
unfolding left_of script_of right_of group_of matrix_of added_by fields left right script script_name class
fields-of Head.missing k w r = refl
fields-of (Head.atom Atom.number sp) k w r = refl
fields-of (Head.atom Atom.text sp) k w r = refl
fields-of (Head.atom Atom.ident sp) k w r = refl
fields-of (Head.atom Atom.operator sp) k w r = refl
fields-of (Head.atom Atom.sign sp) k w r = refl
fields-of (Head.atom Atom.space sp) k w r = refl
fields-of (Head.atom (Atom.symbol c) sp) k w r = refl
fields-of (Head.prefix Prefix.signed sp) k w r = append-nil _
fields-of (Head.prefix Prefix.ssigned sp) k w r = append-nil _
fields-of (Head.prefix Prefix.unary sp) k w r = append-nil _
fields-of (Head.prefix Prefix.sfunc sp) k w r = append-nil _
fields-of (Head.prefix Prefix.binary sp) k w r = append-nil _
fields-of (Head.simple Script.none) k w r = refl
fields-of (Head.simple Script.sub) k w r = refl
fields-of (Head.simple Script.super) k w r = refl
fields-of (Head.simple Script.subsuper) k w r = refl
fields-of (Head.func sp Script.none) k w r = refl
fields-of (Head.func sp Script.sub) k w r = refl
fields-of (Head.func sp Script.super) k w r = refl
fields-of (Head.func sp Script.subsuper) k w r = refl
fields-of Head.frac k w r = refl
fields-of Head.cell k w r = refl
fields-of (Head.group a b) k w r = refl
fields-of (Head.matrix a b c ls) k w r = refl

no_fields : (word : ℕ → ℕ) (k : ℕ) (ls : List ℕ) → fields_by 18 word k ls ≡ fields Head.frac k
unfolding left_of added_by fields
no_fields word k ls = refl

-- a line from its parts
line-parts : (depth : ℕ) (h : Head) (word : ℕ → ℕ) (k : ℕ) (ls : List ℕ) → fields_by (kind_of h) word k ls ≡ fields h k →
    line_by depth (kind_of h) word k ls ≡ line (record { depth = depth; head = h; children = k })
unfolding start_of line name
line-parts depth h word k ls e =
    ap (λ (x : List ℕ). start_of depth (kind_of h) ++ x) (sym (append_assoc (left_of (kind_of h) (word 1) (word 2)) _ newline) ∙ ap (λ (x : List ℕ). x ++ newline) e)
    ∙ ap (λ (x : List ℕ). bytes "depth=" ++ x) (append_assoc (decimal depth) (field "node" (name_of (kind_of h))) (fields h k ++ newline))

module _ (words : List ℕ) (at : ℕ) (items : Bool) (l : Nodes) (rest : List ℕ) (o : Opened) (depth : ℕ) where
  line-headed : (h : Head) → is_frac h ≡ false → HoldsCells h l → Opens words at items h l rest o →
      line_of words o depth ≡ line (record { depth = depth; head = h; children = count l })
  unfolding line_of added_of
  line-headed h f c p =
      let all : List ℕ = head_words h (count l) (length (row_words (of_items h) l)) ++ (row_words (of_items h) l ++ (tail_words h ++ rest)) in
      let word : (i : ℕ) → word_of words o i ≡ get_or all i 0 = λ i. sym (get_or-drop o.head words i 0) ∙ ap (λ (x : List ℕ). get_or x i 0) (p.head f) in
      let same : line_of words o depth ≡ line_by depth (kind_of h) (λ i. get_or all i 0) (count l) (tail_words h) =
      cc (word 1, word 2, word 3, word 4, word 5, word 6, p.kind, p.many, lines-of words at items h l rest o c p) in
      same ∙ line-parts depth h (λ i. get_or all i 0) (count l) (tail_words h) (fields-of h (count l) (length (row_words (of_items h) l)) (row_words (of_items h) l ++ (tail_words h ++ rest)))

  line-frac : Opens words at items Head.frac l rest o → line_of words o depth ≡ line (record { depth = depth; head = Head.frac; children = count l })
  unfolding line_of added_of
  line-frac p =
      let same : line_of words o depth ≡ line_by depth 18 (word_of words o) (count l) (lines_of words o) = cc (p.kind, p.many) in
      same ∙ (line-parts depth Head.frac (word_of words o) (count l) (lines_of words o) (no_fields (word_of words o) (count l) (lines_of words o)))

  pub line-of : (h : Head) → HoldsCells h l → Opens words at items h l rest o →
      line_of words o depth ≡ line (record { depth = depth; head = h; children = count l })
  line-of Head.frac c p = line-frac p
  line-of Head.missing c p = line-headed _ refl c p
  line-of (Head.atom a sp) c p = line-headed _ refl c p
  line-of (Head.prefix q sp) c p = line-headed _ refl c p
  line-of (Head.simple sc) c p = line-headed _ refl c p
  line-of (Head.func sp sc) c p = line-headed _ refl c p
  line-of Head.cell c p = line-headed _ refl c p
  line-of (Head.group a b) c p = line-headed _ refl c p
  line-of (Head.matrix a b k ls) c p = line-headed _ refl c p
