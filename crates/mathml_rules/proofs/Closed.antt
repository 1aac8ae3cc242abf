-- One law for what is made piece by piece: a property of lists of pieces that the empty list has, and that goes through `++`, characters
-- and elements, holds of the output of every tree whose spans are good.
use Prim.Native.Nat.{ℕ, zero, suc}
use mathlib.Core.Path.{◌≡◌}
use mathlib.Core.Bool.{Bool, true, false, ◌&&◌}
use mathlib.Core.List.{List, [], ◌∷◌, ◌++◌}
use mathlib.Core.Option.{Option, none, some}
use lib.ListN.{length, take, drop}
use Rattle.tokens.specs.Bytes.{same}
use Rattle.tokens.specs.Lexeme.{Span}
use Rattle.tree.specs.Tree.{Script, Head, Atom, Prefix, Node, node, Nodes, end, ◌▸◌}
use Rattle.mathml_rules.specs.declared.Mode.{Mode}
use Rattle.mathml_rules.specs.declared.Mode.TheVariants as mode
use Rattle.mathml_rules.specs.Utf8.{utf8}
use Rattle.mathml_rules.specs.Forms.{Form, form_or, forms, shown_by, shown}
use Rattle.mathml_rules.specs.Pieces.{Piece, within, E, L}
use Rattle.mathml_rules.specs.Commands.{Command, unaries, exchanging, mark, unary_by, unary, binary_by, binary}
use Rattle.mathml_rules.specs.Mathml.{own, together, atom, symbol_element, S, arguments, A, B, dropped, group, columnlines, table_rows, table, handed, child, join, out, outs}
use Rattle.mathml_rules.proofs.Lists.{All, all-at, all_take, all_drop, every, both as two}

pub record Closed (Good : List ℕ → Type 0) (P : List Piece → Type 0) : Type 0 where
  pub nothing : P []
  pub both : (x y : List Piece) → P x → P y → P (x ++ y)
  pub chars : (s : List ℕ) → Good s → P (Piece.chars s ∷ [])
  pub element : (e cols : ℕ) (lines : List ℕ) (x : List Piece) → P x → P (within e (columnlines cols lines) x)
  -- the bytes that are not the text's
  pub forms : (s : List ℕ) → Good s → Good (shown s)
  pub marks : All (λ (r : Command). Good r.left × Good r.right) unaries
  pub apply : Good (utf8 "\u{2061}")

-- The display forms and the marks by a test: one computed test of each table.
module _ (Good : List ℕ → Type 0) (test : List ℕ → Bool) (means : (s : List ℕ) → test s ≡ true → Good s) where
  abbrev pub form_passes : Option (List ℕ) → Bool
  form_passes none = true
  form_passes (some s) = test s

  form-good : (o : Option (List ℕ)) (s : List ℕ) → form_passes o ≡ true → Good s → Good (form_or s o)
  form-good none s t g = g
  form-good (some f) s t g = means f t

  shown_by-good : (l : List Form) → every (λ (f : Form). form_passes f.form) l ≡ true → (s : List ℕ) → Good s → Good (shown_by l s)
  unfolding shown_by
  shown_by-good [] e s g = g
  shown_by-good (f ∷ l) e s g =
      let h = two (form_passes f.form) (every (λ (f : Form). form_passes f.form) l) e in
      elim (same f.spelling s) as (λ t. Good (elim t [ true ↦ form_or s f.form | false ↦ shown_by l s ])) [
        | true ↦ form-good f.form s h.0 g
        | false ↦ shown_by-good l h.1 s g
      ]

  pub forms-good : every (λ (f : Form). form_passes f.form) forms ≡ true → (s : List ℕ) → Good s → Good (shown s)
  unfolding shown
  forms-good e s g = shown_by-good forms e s g

  abbrev pub mark_passes : Command → Bool
  mark_passes r = test r.left && test r.right

  pub marks-good : (l : List Command) → every mark_passes l ≡ true → All (λ (r : Command). Good r.left × Good r.right) l
  marks-good [] e = tt
  marks-good (r ∷ l) e =
      let h = two (mark_passes r) (every mark_passes l) e in
      let d = two (test r.left) (test r.right) h.0 in
      ((means r.left d.0, means r.right d.1), marks-good l h.1)

-- the spans of a tree are good
module _ (Good : List ℕ → Type 0) (text : List ℕ) where
  abbrev pub FineHead : Head → Type 0
  FineHead Head.missing = Unit {0}
  FineHead (Head.atom a sp) = Good (own text sp)
  FineHead (Head.prefix p sp) = Good (own text sp)
  FineHead (Head.simple sc) = Unit {0}
  FineHead (Head.func sp sc) = Good (own text sp)
  FineHead Head.frac = Unit {0}
  FineHead Head.cell = Unit {0}
  FineHead (Head.group a b) = Good (own text a) × Good (own text b)
  FineHead (Head.matrix a b cols lines) = Good (own text a) × Good (own text b)

  abbrev mutual
    pub FineNode : Node → Type 0
    FineNode (node h l) = FineHead h × Fine l

    pub Fine : Nodes → Type 0
    Fine end = Unit {0}
    Fine (x ▸ l) = FineNode x × Fine l

-- where every span is good
module _ (Good : List ℕ → Type 0) (text : List ℕ) (good : (sp : Span) → Good (own text sp)) where
  fine_head : (h : Head) → FineHead Good text h
  fine_head Head.missing = tt
  fine_head (Head.atom a sp) = good sp
  fine_head (Head.prefix p sp) = good sp
  fine_head (Head.simple sc) = tt
  fine_head (Head.func sp sc) = good sp
  fine_head Head.frac = tt
  fine_head Head.cell = tt
  fine_head (Head.group a b) = (good a, good b)
  fine_head (Head.matrix a b cols lines) = (good a, good b)

  mutual
    fine_node : (x : Node) → FineNode Good text x
    fine_node (node h l) = (fine_head h, all-fine l)

    pub all-fine : (l : Nodes) → Fine Good text l
    all-fine end = tt
    all-fine (x ▸ l) = (fine_node x, all-fine l)

module _ {Good : List ℕ → Type 0} {P : List Piece → Type 0} (c : Closed Good P) where
  wrap : (e : ℕ) (x : List Piece) → P x → P (E e x)
  unfolding columnlines
  wrap e x p = c.element e 0 [] x p

  leaf : (e : ℕ) (s : List ℕ) → Good s → P (L e s)
  leaf e s g = wrap e _ (c.chars s g)

  beside : {x y : List Piece} → P x → P y → P (x ++ y)
  beside {x} {y} p q = c.both x y p q

  all-together : (cs : List (List Piece)) → All P cs → P (together cs)
  unfolding together
  all-together [] h = c.nothing
  all-together (x ∷ cs) h = beside h.0 (all-together cs h.1)

  some-child : (cs : List (List Piece)) → All P cs → (i : ℕ) → P (child cs i)
  some-child cs h i = all-at P cs [] h c.nothing i

  a_mark : (s : List ℕ) → Good s → P (mark s)
  unfolding mark
  a_mark [] g = c.nothing
  a_mark (b ∷ s) g = leaf 4 (b ∷ s) g

  a_bracket : (s : List ℕ) → Good s → P (B s)
  unfolding B
  a_bracket s g = a_mark (shown s) (c.forms s g)

  an_atom : (a : Atom) (s : List ℕ) → Good s → P (atom a s)
  unfolding atom
  an_atom Atom.number s g = leaf 1 s g
  an_atom Atom.text s g = leaf 2 s g
  an_atom Atom.ident s g = leaf 3 s g
  an_atom Atom.operator s g = leaf 4 s g
  an_atom Atom.sign s g = leaf 5 (shown s) (c.forms s g)
  an_atom Atom.space s g = wrap 6 [] c.nothing
  an_atom (Atom.symbol k) s g = leaf (symbol_element k) (shown s) (c.forms s g)

  a_script : (sc : Script) {x y : List Piece} → P x → P y → P (S sc x y)
  unfolding S
  a_script Script.none p q = p
  a_script Script.sub p q = wrap 13 _ (beside p q)
  a_script Script.super p q = wrap 20 _ (beside p q)
  a_script Script.subsuper p q = wrap 21 _ (beside p q)

  applied : (s : List ℕ) → P (A s)
  unfolding A
  applied s = leaf _ _ c.apply

  -- the rows of commands one by one
  a_unary : (rs : List Command) → All (λ r. Good r.left × Good r.right) rs → (s : List ℕ) {x : List Piece} → P x → P (unary_by rs s x)
  unfolding unary_by
  a_unary [] g s p = p
  a_unary (r ∷ rs) g s {x} p =
      elim (same r.name s) as (λ t. P (elim t [ true ↦ E r.element (mark r.left ++ (x ++ mark r.right)) | false ↦ unary_by rs s x ])) [
        | true ↦ wrap r.element _ (beside (a_mark r.left g.0.0) (beside p (a_mark r.right g.0.1)))
        | false ↦ a_unary rs g.1 s p
      ]

  a_binary : (rs : List Command) (s : List ℕ) {x y : List Piece} → P x → P y → P (binary_by rs s x y)
  unfolding binary_by
  a_binary [] s p q = wrap 12 _ (beside p q)
  a_binary (r ∷ rs) s {x} {y} p q =
      elim (same r.name s) as (λ t. P (elim t [ true ↦ E r.element (y ++ x) | false ↦ binary_by rs s x y ])) [
        | true ↦ wrap r.element _ (beside q p)
        | false ↦ a_binary rs s p q
      ]

  a_group : (m : Mode) (l r : List ℕ) {x : List Piece} → Good l → Good r → P x → P (group m l r x)
  unfolding group
  a_group m l r {x} g k p =
      elim (dropped m l r) as (λ t. P (elim t [ true ↦ E 15 x | false ↦ E 15 (B l ++ (x ++ B r)) ])) [
        | true ↦ wrap 15 _ p
        | false ↦ wrap 15 _ (beside (a_bracket l g) (beside p (a_bracket r k)))
      ]

  some-rows : (f cols : ℕ) (cs : List (List Piece)) → All P cs → P (table_rows f cols cs)
  unfolding table_rows
  some-rows zero cols cs h = c.nothing
  some-rows (suc f) cols [] h = c.nothing
  some-rows (suc f) cols (x ∷ cs) h =
      beside
      (wrap 32 _ (all-together (take cols (x ∷ cs)) (all_take P cols (x ∷ cs) h)))
      (some-rows f cols (drop cols (x ∷ cs)) (all_drop P cols (x ∷ cs) h))

  a_table : (cols : ℕ) (lines : List ℕ) (cs : List (List Piece)) → All P cs → P (table cols lines cs)
  unfolding table
  a_table cols lines cs h = c.element 31 cols lines _ (some-rows (length cs) cols cs h)

  module _ (text : List ℕ) where
    joined : (m : Mode) (h : Head) (cs : List (List Piece)) → FineHead Good text h → All P cs → P (join text m h cs)
    unfolding join unary binary
    joined m Head.missing cs g a = wrap 0 _ c.nothing
    joined m (Head.atom k sp) cs g a = an_atom k (own text sp) g
    joined m (Head.prefix Prefix.signed sp) cs g a = wrap 8 _ (beside (leaf 5 _ (c.forms _ g)) (some-child cs a 0))
    joined m (Head.prefix Prefix.ssigned sp) cs g a = wrap 9 _ (beside (leaf 5 _ (c.forms _ g)) (some-child cs a 0))
    joined m (Head.prefix Prefix.unary sp) cs g a = a_unary unaries c.marks (own text sp) (some-child cs a 0)
    joined m (Head.prefix Prefix.sfunc sp) cs g a =
        wrap 11 _ (beside (leaf 3 _ g) (beside (applied (own text sp)) (some-child cs a 0)))
    joined m (Head.prefix Prefix.binary sp) cs g a = a_binary exchanging (own text sp) (some-child cs a 0) (some-child cs a 1)
    joined m (Head.simple sc) cs g a =
        a_script sc (some-child cs a 0)
        (all-together (take (arguments sc) (drop 1 cs)) (all_take P (arguments sc) (drop 1 cs) (all_drop P 1 cs a)))
    joined m (Head.func sp sc) cs g a =
        wrap 14 _
        (beside
        (a_script sc (leaf 3 _ g) (all-together (take (arguments sc) cs) (all_take P (arguments sc) cs a)))
        (beside (applied (own text sp)) (some-child cs a (arguments sc))))
    joined m Head.frac cs g a = wrap 18 _ (beside (some-child cs a 0) (some-child cs a 1))
    joined m Head.cell cs g a = wrap 17 _ (all-together cs a)
    joined m (Head.group l r) cs g a = a_group m (own text l) (own text r) g.0 g.1 (all-together cs a)
    joined m (Head.matrix l r cols lines) cs g a =
        wrap 16 _ (beside (a_bracket (own text l) g.0) (beside (a_table cols lines cs a) (a_bracket (own text r) g.1)))

    mutual
      unfolding out outs

      closed-out : (m : Mode) (x : Node) → FineNode Good text x → P (out text m x)
      closed-out m (node h l) g = joined m h (outs text m h 0 l) g.0 (closed-outs m h 0 l g.1)

      closed-outs : (m : Mode) (h : Head) (i : ℕ) (l : Nodes) → Fine Good text l → All P (outs text m h i l)
      closed-outs m h i end g = tt
      closed-outs m h i (x ▸ l) g = (closed-out (handed text m h i) x g.0, closed-outs m h (suc i) l g.1)

    -- the items of the root
    pub closed-items : (tree : Nodes) → Fine Good text tree → P (together (outs text mode.Keep Head.cell 0 tree))
    closed-items tree g = all-together _ (closed-outs mode.Keep Head.cell 0 tree g)
