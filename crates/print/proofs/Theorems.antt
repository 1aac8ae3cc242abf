-- The theorem about the call's own answer: whenever it prints, what it answers and leaves is the whole reading's, with what document 01
-- promises of that, and its print.
use Prim.Native.Nat.{ℕ}
use mathlib.Core.Path.{◌≡◌, sym, ap, ◌∙◌}
use mathlib.Core.List.{List, [], ◌∷◌, ◌++◌}
use lib.ListN.{length, drop}
use Rattle.lexing.specs.Rules.{tokens}
use Rattle.tokens.specs.Refusals.{accepted, refused, entry_words, bit}
use Rattle.tokens.proofs.Cases.{by_lt, by_option, apart}
use Rattle.tree.specs.Tree.{count}
use Rattle.reading.specs.Reading.{read_text, blank}
use Rattle.parse.specs.Call as read
use Rattle.parse.specs.Call.{parse_refusal, tree_after}
use Rattle.parse.specs.Answers.{Answered}
use Rattle.parse.proofs.Calls.{text-read}
use Rattle.parse.proofs.Theorems.{text-answered}
use Rattle.print.specs.Call.{print_of, values, printed_text}
use Rattle.print.proofs.Calls.{LeftAll, refused-so, short-so, whole-so}

pub print_answered : (text table work tree out : List ℕ) (len takes blankness : ℕ) (tableLeft workLeft treeLeft outLeft : List ℕ)
    → printed_text text table work tree out ≡ (accepted (len ∷ takes ∷ blankness ∷ []), tableLeft, workLeft, treeLeft, outLeft)
    → Answered text (tokens text) takes (count (read_text text).tree) blankness treeLeft
    × (len ≡ length (print_of text))
    × (outLeft ≡ print_of text ++ drop len out)
unfolding values read.values
print_answered text table work tree out len takes blankness tableLeft workLeft treeLeft outLeft e =
    by_option (parse_refusal text (length table) (length work) (length tree))
    (λ h.
    by_lt (length out) (length (print_of text))
    (λ l.
    let d : accepted (len ∷ takes ∷ blankness ∷ []) ≡ refused 10 = ap (λ (x : LeftAll). x.0) (sym e) ∙ short-so text table work tree out h l in
    apart cc)
    (λ l.
    let q = sym e ∙ whole-so text table work tree out h l in
    let a : accepted (len ∷ takes ∷ blankness ∷ []) ≡ accepted (values text) = ap (λ (x : LeftAll). x.0) q in
    let n : len ≡ length (print_of text) = cc in
    let t : takes ≡ (read_text text).takes = cc in
    let b : blankness ≡ bit (blank text (read_text text).tree) = cc in
    let y : treeLeft ≡ tree_after text (tokens text) (length tree) = ap (λ (x : LeftAll). x.3) q in
    let z : outLeft ≡ print_of text ++ drop (length (print_of text)) out = ap (λ (x : LeftAll). x.4) q in
    (rw (t, b, y) (text-answered text table work tree _ _ _ _ _ _ _ (text-read entry_words text table work tree h)).1, n, z ∙ rw n)))
    (λ k h.
    let d : accepted (len ∷ takes ∷ blankness ∷ []) ≡ refused k = ap (λ (x : LeftAll). x.0) (sym e ∙ refused-so text table work tree out k h) in
    apart cc)
