-- The theorems about the calls' own answers, in the words of the definitions alone: whenever a call is answered by an accepted
-- reading, that is the whole reading of the list, with what document 01 promises of it.
use Prim.Native.Nat.{ℕ}
use mathlib.Core.Path.{◌≡◌, sym, ap, ◌∙◌}
use mathlib.Core.List.{List, [], ◌∷◌}
use lib.ListN.{length}
use Rattle.tokens.specs.Lexeme.{Lexeme}
use Rattle.lexing.specs.Rules.{tokens}
use Rattle.tokens.specs.Table.{token_list}
use Rattle.tokens.specs.Refusals.{Answer, accepted, refused, entry_words, bit}
use Rattle.tokens.proofs.Cases.{by_option, apart}
use Rattle.tree.specs.Tree.{count}
use Rattle.tree.specs.Decode.{decode}
use Rattle.reading.specs.Reading.{read_tokens, blank}
use Rattle.grammar.specs.Grammar.{Settled, tree_e}
use Rattle.grammar.specs.Strip.{strip}
use Rattle.bounds.proofs.Theorems.{bounds}
use Rattle.grammar.proofs.Settled as grammar
use Rattle.parse.specs.Call.{parse_refusal, parse_tokens_refusal, values, tree_after, parsed_text, parsed_tokens}
use Rattle.parse.specs.Answers.{Answered}
use Rattle.parse.proofs.Calls.{text-when_refused, text-read, list-when_refused, list-taken}

module _ (text : List ℕ) (ts : List Lexeme) (takes items blankness len : ℕ) (words : List ℕ)
    (v : takes ∷ items ∷ blankness ∷ [] ≡ values text ts) (w : words ≡ tree_after text ts len) where
  takes-are : takes ≡ (read_tokens text ts).takes
  unfolding values
  takes-are = cc

  items-are : items ≡ count (read_tokens text ts).tree
  unfolding values
  items-are = cc

  blank-is : blankness ≡ bit (blank text (read_tokens text ts).tree)
  unfolding values
  blank-is = cc

  tree_is : decode items words ≡ (read_tokens text ts).tree
  unfolding tree_after
  tree_is = rw (items-are, w) ((bounds text ts).decoded _)

  answered : Answered text ts takes items blankness words
  answered =
      let b = bounds text ts in
      record {
        whole_takes = takes-are;
        whole-tree = tree_is;
        whole-blank = rw tree_is blank-is;
        few-takes = rw takes-are b.takes;
        memory = λ few. tree_is ∙ b.memory few;
        derived = λ d short. ap strip tree_is ∙ grammar.settled-tree text ts d short;
      }

-- Document 01's own case, in which no OpenBracket directly precedes another.
pub settled-answered : {text : List ℕ} {ts : List Lexeme} {takes items blankness : ℕ} {words : List ℕ}
    → Answered text ts takes items blankness words → (s : Settled ts) → strip (decode items words) ≡ tree_e s.derivation
settled-answered a s = a.derived s.derivation s.short

-- The call on a token list.
pub list-answered : (text table : List ℕ) (count : ℕ) (work tree : List ℕ) (takes items blankness : ℕ) (workLeft treeLeft : List ℕ)
    → parsed_tokens text table count work tree ≡ (accepted (takes ∷ items ∷ blankness ∷ []), workLeft, treeLeft)
    → Answered text (token_list count table) takes items blankness treeLeft
list-answered text table count work tree takes items blankness workLeft treeLeft e =
    by_option (parse_tokens_refusal text table count (length work) (length tree))
    (λ p.
    let q = sym e ∙ list-taken entry_words text table count work tree p in
    let a : accepted (takes ∷ items ∷ blankness ∷ []) ≡ accepted (values text (token_list count table)) = ap (λ (x : Answer × List ℕ × List ℕ). x.0) q in
    let v : takes ∷ items ∷ blankness ∷ [] ≡ values text (token_list count table) = cc in
    answered text (token_list count table) takes items blankness (length tree) treeLeft v (ap (λ (x : Answer × List ℕ × List ℕ). x.2) q))
    (λ k p.
    let q = list-when_refused entry_words text table count work tree k p ∙ e in
    let a : refused k ≡ accepted (takes ∷ items ∷ blankness ∷ []) = ap (λ (x : Answer × List ℕ × List ℕ). x.0) q in
    apart cc)

-- The call on a text, which answers the number of its tokens too.
pub text-answered : (text table work tree : List ℕ) (number takes items blankness : ℕ) (tableLeft workLeft treeLeft : List ℕ)
    → parsed_text text table work tree ≡ (accepted (number ∷ takes ∷ items ∷ blankness ∷ []), tableLeft, workLeft, treeLeft)
    → (number ≡ length (tokens text)) × Answered text (tokens text) takes items blankness treeLeft
text-answered text table work tree number takes items blankness tableLeft workLeft treeLeft e =
    by_option (parse_refusal text (length table) (length work) (length tree))
    (λ p.
    let q = sym e ∙ text-read entry_words text table work tree p in
    let a : accepted (number ∷ takes ∷ items ∷ blankness ∷ []) ≡ accepted (length (tokens text) ∷ values text (tokens text)) = ap (λ (x : Answer × List ℕ × List ℕ × List ℕ). x.0) q in
    let n : number ≡ length (tokens text) = cc in
    let v : takes ∷ items ∷ blankness ∷ [] ≡ values text (tokens text) = cc in
    (n, answered text (tokens text) takes items blankness (length tree) treeLeft v (ap (λ (x : Answer × List ℕ × List ℕ × List ℕ). x.3) q)))
    (λ k p.
    let q = text-when_refused entry_words text table work tree k p ∙ e in
    let a : refused k ≡ accepted (number ∷ takes ∷ items ∷ blankness ∷ []) = ap (λ (x : Answer × List ℕ × List ℕ × List ℕ). x.0) q in
    apart cc)
