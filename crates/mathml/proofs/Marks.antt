-- The MathML of a tree and its buffer: 11, then 12, then the bytes.
use Prim.Native.Nat.{ℕ, ◌≤◌, ◌<◌}
use mathlib.Core.Path.{◌≡◌, sym, ◌∙◌}
use mathlib.Core.Bool.{true, false}
use mathlib.Core.List.{List, [], ◌∷◌}
use native.Mathlib.Omega.{arith}
use lib.ListN.{length}
use Rattle.tokens.specs.Refusals.{accepted, refused}
use Rattle.writer.specs.Put.{most}
use Rattle.writer.specs.Fitted.{fitted_by}
use Rattle.writer.proofs.Fits.{put_whole, put-short}
use Rattle.tree.specs.Tree.{Nodes}
use Rattle.mathml_rules.specs.Mathml.{mathml_of}
use Rattle.mathml_rules.specs.Refusal.{refusal11}
use Rattle.mathml_length.specs.Length.{longest}
use Rattle.mathml.specs.declared.pass.Passed.{Passed}
use Rattle.mathml.specs.Walks.{RowPassed, Begins, RootPut}
use Rattle.mathml.specs.Call.{marks, TreeMarked}

module _ (text : List ℕ) (l : Nodes) (out : List ℕ) where
  pub marks-refused : refusal11 text l ≡ true → marks text l out ≡ (refused 11, out)
  unfolding marks
  marks-refused e = rw (e, marks)

  pub marks-fitted : refusal11 text l ≡ false → marks text l out ≡ fitted_by 12 (mathml_of text l) out
  unfolding marks
  marks-fitted e = rw (e, marks)

module _ {words text : List ℕ} (out : List ℕ) {items : ℕ} {r : Passed} (q : RowPassed words text 0 items true r) where
  said : (l : Nodes) → Begins words l items → r.refused ≡ refusal11 text l
  said l b = (q.read l b.1.1.0 b.0 b.1.1.1.0 b.1.1.1.1).1

  pub tree-refused : r.refused ≡ true → TreeMarked words text out items out (refused 11)
  tree-refused e = record { read = λ l b w. sym (marks-refused text l out (sym (said l b) ∙ e)) }

  -- where the MathML of any such text fits
  pub tree-fits : r.refused ≡ false → {after : List ℕ} {end : ℕ} → length out < most → longest (length text) ≤ length out →
      RootPut words text out items after end → TreeMarked words text out items after (accepted (end ∷ []))
  tree-fits e h k z = record {
    read = λ l b w.
        let p = z.read l b in
        put_whole 12 p h (omega (arith, p.count)) p ∙ sym (marks-fitted text l out (sym (said l b) ∙ e));
  }

  module _ (e : r.refused ≡ false) {probe probed : List ℕ} {need : ℕ} (p : RootPut words text probe items probed need) where
    pub tree-whole : {after : List ℕ} {end : ℕ} → length out < most → need ≤ length out → RootPut words text out items after end →
        TreeMarked words text out items after (accepted (need ∷ []))
    tree-whole h k z = record {
      read = λ l b w. put_whole 12 (p.read l b) h k (z.read l b) ∙ sym (marks-fitted text l out (sym (said l b) ∙ e));
    }

    pub tree-short : length out < need → TreeMarked words text out items out (refused 12)
    tree-short h = record { read = λ l b w. put-short 12 (p.read l b) h ∙ sym (marks-fitted text l out (sym (said l b) ∙ e)) }
