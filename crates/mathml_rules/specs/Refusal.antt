-- MATHML.md, section 1: refusal 11.
use Rattle.std.specs.Prelude.{Bool, false, not, ◌&&◌, ◌||◌, List, [], ◌∷◌, ℕ, eqb, ltb}
use Prim.Native.String.{String}
use Rattle.tokens.specs.Bytes.{bytes, same}
use Rattle.tree.specs.Tree.{Head, Prefix, Node, node, Nodes, end, ◌▸◌}
use Rattle.mathml_rules.specs.Mathml.{own, has}

unfoldable pub one_of : List String → List ℕ → Bool
one_of [] s = false
one_of (n ∷ l) s = same s (bytes n) || one_of l s

-- "a binary node whose span is `id`, `class` or `color`"
unfoldable pub refused_binaries : List String
refused_binaries = "id" ∷ "class" ∷ "color" ∷ []

-- "a unary node whose span is one of the 20 from `bb` to `bbfr` in tokenizer.rs's order"
unfoldable pub fonts : List String
fonts =
    "bb" ∷ "mathbf" ∷ "sf" ∷ "mathsf" ∷ "bbb" ∷ "mathbb" ∷ "cc" ∷ "mathcal" ∷ "tt" ∷ "mathtt" ∷
    "fr" ∷ "mathfrak" ∷ "it" ∷ "mathit" ∷ "bbit" ∷ "bbsf" ∷ "sfit" ∷ "bbsfit" ∷ "bbcc" ∷ "bbfr" ∷ []

-- "a matrix with a line at boundary 0 or at boundary `cols`, or with one boundary twice"
unfoldable pub twice : List ℕ → Bool
twice [] = false
twice (b ∷ l) = has b l || twice l

unfoldable pub refused_lines : ℕ → List ℕ → Bool
refused_lines cols lines = has 0 lines || (has cols lines || twice lines)

-- "a byte below 32 that is not 9, 10 or 13"
unfoldable pub control : ℕ → Bool
control c = ltb c 32 && not (eqb c 9 || (eqb c 10 || eqb c 13))

unfoldable pub controls : List ℕ → Bool
controls [] = false
controls (c ∷ s) = control c || controls s

unfoldable pub refused_prefix : Prefix → List ℕ → Bool
refused_prefix Prefix.signed s = false
refused_prefix Prefix.ssigned s = false
refused_prefix Prefix.unary s = one_of fonts s
refused_prefix Prefix.sfunc s = false
refused_prefix Prefix.binary s = one_of refused_binaries s

-- a node by itself; "a node one of whose spans (at len, rat rlen) has a byte below 32 .."
unfoldable pub refused_head : List ℕ → Head → Bool
refused_head text Head.missing = false
refused_head text (Head.atom a sp) = controls (own text sp)
refused_head text (Head.prefix p sp) = controls (own text sp) || refused_prefix p (own text sp)
refused_head text (Head.simple sc) = false
refused_head text (Head.func sp sc) = controls (own text sp)
refused_head text Head.frac = false
refused_head text Head.cell = false
refused_head text (Head.group a b) = controls (own text a) || controls (own text b)
refused_head text (Head.matrix a b cols lines) =
    controls (own text a) || (controls (own text b) || refused_lines cols lines)

-- "11 exactly if the tree holds one of .."
unfoldable mutual
  pub refused_node : List ℕ → Node → Bool
  refused_node text (node h l) = refused_head text h || refusal11 text l

  pub refusal11 : List ℕ → Nodes → Bool
  refusal11 text end = false
  refusal11 text (x ▸ l) = refused_node text x || refusal11 text l
