-- Every well-formed tree is laid out as a walk over its words needs it.
use Prim.Native.Nat.{ℕ, suc}
use mathlib.Core.Path.{◌≡◌, refl, ap, ◌∙◌}
use Rattle.tree.specs.Tree.{Script, Node, Nodes, end, ◌▸◌, ◌⧺◌, count}
use Rattle.tree.specs.WellFormed.{Simple, Cells, Arguments, ScriptFunc, Intermediate, Expression, Behind}
use Rattle.tree.specs.Decode.{arguments}
use Rattle.tree.specs.Laid.{AllCells, Laid, Laids}

before : (x : Node) (l : Nodes) {m : Nodes} {k : ℕ} → (count l ≡ k) × Laids l → Laid x → m ≡ l ⧺ (x ▸ end) → (count m ≡ suc k) × Laids m
before x l c d e = rw e (counts l ∙ ap suc c.0, all l c.1)
  where
    counts : (l : Nodes) → count (l ⧺ (x ▸ end)) ≡ suc (count l)
    counts end = refl
    counts (y ▸ l) = ap suc (counts l)

    all : (l : Nodes) → Laids l → Laids (l ⧺ (x ▸ end))
    all end c = (d, tt)
    all (y ▸ l) c = (c.0, all l c.1)

mutual
  simple-laid : {x : Node} → Simple x → Laid x
  simple-laid Simple.missing = (refl, (tt, tt))
  simple-laid (Simple.atom n) = (refl, (tt, tt))
  simple-laid (Simple.ssigned a) = (refl, (tt, (simple-laid a, tt)))
  simple-laid (Simple.unary a) = (refl, (tt, (simple-laid a, tt)))
  simple-laid (Simple.sfunc a) = (refl, (tt, (simple-laid a, tt)))
  simple-laid (Simple.binary a b) = (refl, (tt, (simple-laid a, (simple-laid b, tt))))
  simple-laid (Simple.group e) = (refl, (tt, expression_laid e))
  simple-laid (Simple.matrix c rows m k ls) = (refl, cells-laid c)

  cells-laid : {l : Nodes} → Cells l → AllCells l × Laids l
  cells-laid Cells.no_more_cells = (tt, tt)
  cells-laid (Cells.cell e m) = let c = cells-laid m in ((refl, c.0), ((refl, (tt, expression_laid e)), c.1))

  arguments-laid : {sc : Script} {l : Nodes} → Arguments sc l → (count l ≡ arguments sc) × Laids l
  arguments-laid Arguments.no_script = (refl, tt)
  arguments-laid (Arguments.sub a) = (refl, (simple-laid a, tt))
  arguments-laid (Arguments.super a) = (refl, (simple-laid a, tt))
  arguments-laid (Arguments.subsuper a b) = (refl, (simple-laid a, (simple-laid b, tt)))

  script_func-laid : {x : Node} → ScriptFunc x → Laid x
  script_func-laid (ScriptFunc.simple a q) = let c = arguments-laid q in (ap suc c.0, (tt, (simple-laid a, c.1)))
  script_func-laid (ScriptFunc.func {x} {l} q a e) = let c = before x l (arguments-laid q) (script_func-laid a) e in (c.0, (tt, c.1))
  script_func-laid (ScriptFunc.signed a) = (refl, (tt, (script_func-laid a, tt)))

  intermediate_laid : {x : Node} → Intermediate x → Laid x
  intermediate_laid (Intermediate.script_func a) = script_func-laid a
  intermediate_laid (Intermediate.frac a b) = (refl, (tt, (script_func-laid a, (script_func-laid b, tt))))

  pub expression_laid : {l : Nodes} → Expression l → Laids l
  expression_laid Expression.empty = tt
  expression_laid (Expression.items a m) = (intermediate_laid a, behind-laid m)

  behind-laid : {l : Nodes} → Behind l → Laids l
  behind-laid Behind.no_more = tt
  behind-laid (Behind.item a m) = (intermediate_laid a, behind-laid m)
  behind-laid (Behind.space k a m) = ((refl, (tt, tt)), (intermediate_laid a, behind-laid m))
