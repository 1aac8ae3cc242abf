-- What a node costs: in no mode is it written with more bytes.
use Prim.Native.Nat.{ℕ, suc, ◌+◌, ◌*◌, ◌≤◌}
use mathlib.Core.Path.{◌≡◌}
use mathlib.Core.List.{List, []}
use native.Mathlib.Omega.{arith}
use lib.ListN.{length, take, drop}
use Rattle.tokens.specs.declared.token.SymbolClass.{SymbolClass}
use Rattle.tokens.specs.declared.token.SymbolClass.TheVariants as class
use Rattle.tokens.specs.Lexeme.{Span}
use Rattle.tokens.proofs.Cases.{by_test}
use Rattle.tree.specs.Tree.{Script, Head, Atom, Prefix, Node, node, Nodes, end, ◌▸◌, ◌⧺◌, count}
use Rattle.mathml_rules.specs.declared.Mode.{Mode}
use Rattle.mathml_rules.specs.declared.Mode.TheVariants as mode
use Rattle.mathml_rules.specs.Elements.{elements, element_of}
use Rattle.mathml_rules.specs.Pieces.{Piece, L}
use Rattle.mathml_rules.specs.Mathml.{own, together, child, symbol_element, atom, S, arguments, dropped, group, handed, join, out, outs, root, mathml_of}
use Rattle.mathml_rules.proofs.Children.{outs-length}
use Rattle.mathml_length.proofs.Widths.{width, tags, widths, width-within, total, total-cons, total-none, total-split, child-first, esc-length, shown-length, own-length, bracket-width, around, named, unary-width, binary-width, table-width}

-- a script's two tags
abbrev pub script_cost : Script → ℕ
script_cost Script.none = 0
script_cost Script.sub = 13
script_cost Script.super = 13
script_cost Script.subsuper = 19

script-width : (sc : Script) (x y : List Piece) → width (S sc x y) ≤ script_cost sc + width x + width y
unfolding S tags element_of elements
script-width Script.none x y = omega arith
script-width Script.sub x y = simp widths (omega arith)
script-width Script.super x y = simp widths (omega arith)
script-width Script.subsuper x y = simp widths (omega arith)

-- a leaf of n bytes
abbrev atom_cost : Atom → ℕ → ℕ
atom_cost Atom.number n = 9 + 5 * n
atom_cost Atom.text n = 15 + 5 * n
atom_cost Atom.ident n = 9 + 5 * n
atom_cost Atom.operator n = 9 + 5 * n
atom_cost Atom.sign n = 9 + 5 * n
atom_cost Atom.space n = 32
atom_cost (Atom.symbol c) n = 31 + 5 * n

symbol-tags : (c : SymbolClass) → tags (symbol_element c) ≤ 31
unfolding symbol_element tags element_of elements
symbol-tags class.Glyph = omega arith
symbol-tags class.Name = omega arith
symbol-tags class.Joining = omega arith
symbol-tags class.JoiningName = omega arith
symbol-tags class.Leading = omega arith
symbol-tags class.LeadingName = omega arith
symbol-tags class.Space = omega arith
symbol-tags class.Separator = omega arith

module _ (text : List ℕ) where
  -- the bytes that a node with n children puts around them
  abbrev head_cost : Head → ℕ → ℕ
  head_cost Head.missing n = 13
  head_cost (Head.atom a sp) n = atom_cost a sp.len
  head_cost (Head.prefix Prefix.signed sp) n = 22 + 5 * sp.len
  head_cost (Head.prefix Prefix.ssigned sp) n = 22 + 5 * sp.len
  head_cost (Head.prefix Prefix.unary sp) n = around (own text sp)
  head_cost (Head.prefix Prefix.sfunc sp) n = 13 + named (own text sp)
  head_cost (Head.prefix Prefix.binary sp) n = 17
  head_cost (Head.simple sc) n = script_cost sc
  head_cost (Head.func sp sc) n = 13 + named (own text sp) + script_cost sc
  head_cost Head.frac n = 15
  head_cost Head.cell n = 11
  head_cost (Head.group a b) n = 13 + 14 * a.len + 14 * b.len
  -- 11 for a row, and there are no more rows than children
  head_cost (Head.matrix a b cols lines) n = 38 + 14 * a.len + 14 * b.len + 6 * cols + 11 * n

  unfoldable mutual
    pub cost : Node → ℕ
    cost (node h l) = head_cost h (count l) + costs l

    pub costs : Nodes → ℕ
    costs end = 0
    costs (x ▸ l) = cost x + costs l

  atom-width : (a : Atom) (sp : Span) → width (atom a (own text sp)) ≤ atom_cost a sp.len
  unfolding atom tags element_of elements
  atom-width Atom.number sp = simp widths (omega (arith, own-length text sp, esc-length (own text sp)))
  atom-width Atom.text sp = simp widths (omega (arith, own-length text sp, esc-length (own text sp)))
  atom-width Atom.ident sp = simp widths (omega (arith, own-length text sp, esc-length (own text sp)))
  atom-width Atom.operator sp = simp widths (omega (arith, own-length text sp, esc-length (own text sp)))
  atom-width Atom.sign sp = simp widths (omega (arith, own-length text sp, shown-length (own text sp)))
  atom-width Atom.space sp = simp widths (omega arith)
  atom-width (Atom.symbol c) sp =
      simp widths (omega (arith, own-length text sp, shown-length (own text sp), symbol-tags c))

  group-width : (m : Mode) (a b : Span) (x : List Piece) →
      width (group m (own text a) (own text b) x) ≤ 13 + 14 * a.len + 14 * b.len + width x
  unfolding group tags element_of elements
  group-width m a b x =
      by_test (dropped m (own text a) (own text b)) (λ e. rw (e, group) (simp widths (omega arith)))
      (λ e. rw (e, group) (simp widths (omega (
        arith,
        own-length text a,
        own-length text b,
        bracket-width (own text a),
        bracket-width (own text b),
      ))))

  joined : (m : Mode) (h : Head) (cs : List (List Piece)) → width (join text m h cs) ≤ head_cost h (length cs) + total cs
  unfolding join named total tags element_of elements
  joined m Head.missing cs = simp widths (omega arith)
  joined m (Head.atom a sp) cs = omega (arith, atom-width a sp)
  joined m (Head.prefix Prefix.signed sp) cs =
      simp widths (omega (arith, own-length text sp, shown-length (own text sp), child-first 0 cs))
  joined m (Head.prefix Prefix.ssigned sp) cs =
      simp widths (omega (arith, own-length text sp, shown-length (own text sp), child-first 0 cs))
  joined m (Head.prefix Prefix.unary sp) cs = omega (arith, unary-width (own text sp) (child cs 0), child-first 0 cs)
  joined m (Head.prefix Prefix.sfunc sp) cs = simp widths (omega (arith, child-first 0 cs))
  joined m (Head.prefix Prefix.binary sp) cs =
      omega (arith, binary-width (own text sp) (child cs 0) (child cs 1), child-first 0 cs, child-first 1 cs)
  joined m (Head.simple sc) cs =
      omega (
        arith,
        script-width sc (child cs 0) (together (take (arguments sc) (drop 1 cs))),
        total-split (arguments sc) (drop 1 cs),
        child-first 0 cs,
      )
  joined m (Head.func sp sc) cs =
      simp widths (omega (
        arith,
        simp widths at (script-width sc (L 3 (own text sp)) (together (take (arguments sc) cs))),
        total-split (arguments sc) cs,
        child-first (arguments sc) cs,
      ))
  joined m Head.frac cs = simp widths (omega (arith, child-first 0 cs, child-first 1 cs))
  joined m Head.cell cs = simp widths (omega arith)
  joined m (Head.group a b) cs = group-width m a b (together cs)
  joined m (Head.matrix a b cols lines) cs =
      simp widths (omega (
        arith,
        own-length text a,
        own-length text b,
        bracket-width (own text a),
        bracket-width (own text b),
        table-width cols lines cs,
      ))

  mutual
    unfolding outs costs

    out-width : (m : Mode) (x : Node) → width (out text m x) ≤ cost x
    out-width m (node h l) =
        rw (← outs-length text m h 0 l) (omega (arith, joined m h (outs text m h 0 l), outs-width m h 0 l))

    outs-width : (m : Mode) (h : Head) (i : ℕ) (l : Nodes) → total (outs text m h i l) ≤ costs l
    outs-width m h i end = omega (arith, total-none)
    outs-width m h i (x ▸ l) =
        omega (
          arith,
          total-cons (out text (handed text m h i) x) (outs text m h (suc i) l),
          out-width (handed text m h i) x,
          outs-width m h (suc i) l,
        )

  -- the root has 72 bytes around its items
  pub mathml_length : (tree : Nodes) → length (mathml_of text tree) ≤ 72 + costs tree
  unfolding mathml_of root
  mathml_length tree =
      unfold width total tags element_of elements in
      omega (
        arith,
        width-within 19 [] (together (outs text mode.Keep Head.cell 0 tree)),
        outs-width mode.Keep Head.cell 0 tree,
      )

  pub costs-join : (l m : Nodes) → costs (l ⧺ m) ≡ costs l + costs m
  unfolding costs
  costs-join end m = omega arith
  costs-join (x ▸ l) m = omega (arith, costs-join l m)
