-- MATHML.md, section 7, 2: the output of every text and tree is nested.
use Prim.Native.Nat.{ℕ, zero, suc}
use mathlib.Core.Path.{◌≡◌, refl, sym, ap}
use mathlib.Core.Bool.{Bool, true, false, not, ◌&&◌}
use mathlib.Core.List.{List, [], ◌∷◌, ◌++◌, append_assoc, append-nil}
use native.Mathlib.Omega.{arith}
use lib.Dec.{eqb}
use borrow.Author.Tests.{eq-eqb, eqb-true, not-true}
use Rattle.tokens.specs.Bytes.{same}
use Rattle.tokens.proofs.Cases.{clash}
use Rattle.lexing.specs.Rules.{letter}
use Rattle.tree.specs.Tree.{Head, Nodes}
use Rattle.mathml_rules.specs.declared.Mode.TheVariants as mode
use Rattle.mathml_rules.specs.Run.{run}
use Rattle.mathml_rules.specs.Utf8.{encoded, utf8}
use Rattle.mathml_rules.specs.Elements.{Element, element, elements, element_of}
use Rattle.mathml_rules.specs.Pieces.{Piece, Escape, escapes, escaped, esc, bytes_of, written, within}
use Rattle.mathml_rules.specs.Commands.{unaries}
use Rattle.mathml_rules.specs.Mathml.{together, columnlines, outs, root, mathml_of}
use Rattle.mathml_rules.specs.Nested.{Stack, State, popped, closed, step, reads, is_whole, nested}
use Rattle.mathml_rules.proofs.Run.{run-append, run-cons}
use Rattle.mathml_rules.proofs.Lists.{All, all, all-at, every, passed, both}
use Rattle.mathml_rules.proofs.Closed.{Closed, all-fine, closed-items}
use Rattle.mathml_rules.proofs.Escapes.{Plain, plain, by_escape, columnlines-pass, written-append}

same_self : (s : List ℕ) → same s s ≡ true
unfolding same
same_self [] = refl
same_self (c ∷ s) = rw (eq-eqb c c refl) (same_self s)

-- Names: in a start tag and in an end tag a letter joins those so far.
module _ (in-name : List ℕ → State) (joins : (n : List ℕ) (c : ℕ) → letter c ≡ true → step (in-name n) c ≡ in-name (n ++ (c ∷ []))) where
  spelled : (s n : List ℕ) → every letter s ≡ true → reads (in-name n) s ≡ in-name (n ++ s)
  unfolding run
  spelled [] n e = ap in-name (sym (append-nil n))
  spelled (c ∷ s) n e =
      let h = both (letter c) (every letter s) e in
      rw (joins n c h.0, spelled s (n ++ (c ∷ [])) h.1, append_assoc)

opened-joins : (st : Stack) (c : ℕ) → letter c ≡ true → step (State.opened st) c ≡ State.starting (c ∷ []) st
unfolding step
opened-joins st c e = rw (e, step)

starting-joins : (st : Stack) (n : List ℕ) (c : ℕ) → letter c ≡ true → step (State.starting n st) c ≡ State.starting (n ++ (c ∷ [])) st
unfolding step
starting-joins st n c e = rw (e, step)

ending-joins : (st : Stack) (n : List ℕ) (c : ℕ) → letter c ≡ true → step (State.ending n st) c ≡ State.ending (n ++ (c ∷ [])) st
unfolding step
ending-joins st n c e = rw (e, step)

-- Attributes: none, or a blank and then neither `<` nor `>`.
abbrev calm : ℕ → Bool
calm c = not (eqb c 62) && not (eqb c 60)

abbrev tailed : List ℕ → Bool
tailed [] = true
tailed (c ∷ s) = eqb c 32 && every calm s

-- The computed test of the table: each name is letters, one at least, and each entry's attributes are as said.
abbrev lettered : List ℕ → Bool
lettered [] = false
lettered (c ∷ s) = every letter (c ∷ s)

abbrev sound : Element → Bool
sound e = lettered e.name && tailed e.attributes

elements-sound : every sound elements ≡ true
unfolding elements letter
elements-sound = refl

sound-at : (e : ℕ) → sound (element_of e) ≡ true
unfolding element_of letter
sound-at e = all-at (λ x. sound x ≡ true) elements (element "mrow" "") (passed sound elements elements-sound) refl e

-- Behind the name n of a start tag, and perhaps in its attributes.
data Open (n : List ℕ) (st : Stack) : State → Type 0 where
  named : Open n st (State.starting n st)
  skipping : Open n st (State.attributes (n ∷ st))

module _ (n : List ℕ) (st : Stack) where
  skips : (c : ℕ) → calm c ≡ true → step (State.attributes (n ∷ st)) c ≡ State.attributes (n ∷ st)
  unfolding step
  skips c e =
      let h = both (not (eqb c 62)) (not (eqb c 60)) e in
      rw (not-true (eqb c 62) h.0, not-true (eqb c 60) h.1, step)

  skipped : (s : List ℕ) → every calm s ≡ true → reads (State.attributes (n ∷ st)) s ≡ State.attributes (n ∷ st)
  unfolding run
  skipped [] e = refl
  skipped (c ∷ s) e = let h = both (calm c) (every calm s) e in rw (skips c h.0) (skipped s h.1)

  blank-skips : {q : State} → Open n st q → step q 32 ≡ State.attributes (n ∷ st)
  unfolding step letter
  blank-skips Open.named = refl
  blank-skips Open.skipping = refl

  behind : {q : State} → Open n st q → (s : List ℕ) → tailed s ≡ true → Open n st (reads q s)
  unfolding run
  behind o [] e = o
  behind {q} o (c ∷ s) e =
      let h = both (eqb c 32) (every calm s) e in
      rw (eqb-true c 32 h.0, blank-skips o, skipped s h.1) Open.skipping

  shut : {q : State} → Open n st q → reads q (62 ∷ []) ≡ State.content (n ∷ st)
  unfolding run step letter
  shut Open.named = refl
  shut Open.skipping = refl

opens : (st : Stack) → step (State.content st) 60 ≡ State.opened st
unfolding step
opens [] = refl
opens (t ∷ st) = refl

-- "`<`name .. pushes it, then all up to `>` is skipped"
named-open : (st : Stack) (s : List ℕ) → lettered s ≡ true → reads (State.opened st) s ≡ State.starting s st
unfolding run
named-open st [] e = clash false e refl
named-open st (c ∷ s) e =
    let h = both (letter c) (every letter s) e in
    rw (opened-joins st c h.0) (spelled (λ n. State.starting n st) (starting-joins st) s (c ∷ []) h.1)

start-pushes : (e : ℕ) (more : List ℕ) → tailed more ≡ true → (st : Stack) →
    reads (State.content st) (bytes_of (Piece.start e more)) ≡ State.content ((element_of e).name ∷ st)
unfolding bytes_of
start-pushes e more t st =
    let n = (element_of e).name in
    let a = (element_of e).attributes in
    let h = both (lettered n) (tailed a) (sound-at e) in
    let o = behind n st (behind n st Open.named a h.1) more t in
    rw (
      run-cons step (State.content st) 60,
      opens st,
      run-append step (State.opened st) n (a ++ (more ++ (62 ∷ []))),
      named-open st n h.0,
      run-append step (State.starting n st) a (more ++ (62 ∷ [])),
      run-append step (reads (State.starting n st) a) more (62 ∷ []),
    )
    (shut n st o)

-- "`</`name`>` must equal the top and pops it"
letters : (s : List ℕ) → lettered s ≡ true → every letter s ≡ true
letters [] e = refl
letters (c ∷ s) e = e

closes : (n : List ℕ) (st : Stack) → closed n (n ∷ st) ≡ popped st
unfolding closed
closes n st = rw (same_self n, closed)

end-pops : (e : ℕ) (st : Stack) → reads (State.content ((element_of e).name ∷ st)) (bytes_of (Piece.end e)) ≡ popped st
unfolding run bytes_of step letter
end-pops e st =
    let n = (element_of e).name in
    let h = both (lettered n) (tailed (element_of e).attributes) (sound-at e) in
    rw (
      run-append step (State.ending [] (n ∷ st)) n (62 ∷ []),
      spelled (λ m. State.ending m (n ∷ st)) (ending-joins (n ∷ st)) n [] (letters n h.0),
    ) (closes n st)

-- What leaves the reader where it was, inside an element.
abbrev Kept : List ℕ → Type 0
Kept s = (t : List ℕ) (st : Stack) → reads (State.content (t ∷ st)) s ≡ State.content (t ∷ st)

kept-both : (s u : List ℕ) → Kept s → Kept u → Kept (s ++ u)
kept-both s u p q t st = rw (run-append step (State.content (t ∷ st)) s u, p t st) (q t st)

-- "esc gives no byte 60 or 62"
plain-kept : (c : ℕ) → Plain c → Kept (c ∷ [])
unfolding run step
plain-kept c p t st = rw (p.no_less, p.no_greater, step)

instead-kept : All (λ (r : Escape). Kept r.instead) escapes
unfolding escapes utf8 encoded run step
instead-kept = search arith

escaped-kept : (c : ℕ) → Kept (escaped c)
escaped-kept c = by_escape Kept c escapes instead-kept (λ p. plain-kept c (plain c p))

esc-kept : (s : List ℕ) → Kept (esc s)
unfolding esc run
esc-kept [] t st = refl
esc-kept (c ∷ s) t st = kept-both (escaped c) (esc s) (escaped-kept c) (esc-kept s) t st

-- an element around what is kept: pushed and popped
element-pops : (e : ℕ) (more : List ℕ) (x : List Piece) → tailed more ≡ true → Kept (written x) → (st : Stack) →
    reads (State.content st) (written (within e more x)) ≡ popped st
unfolding written within
element-pops e more x t k st =
    let n = (element_of e).name in
    let a = bytes_of (Piece.start e more) in
    let z = bytes_of (Piece.end e) in
    rw (
      run-append step (State.content st) a (written (x ++ (Piece.end e ∷ []))),
      start-pushes e more t st,
      written-append x (Piece.end e ∷ []),
      append-nil,
      run-append step (State.content (n ∷ st)) (written x) z,
      k n st,
    ) (end-pops e st)

columnlines-tailed : (cols : ℕ) (lines : List ℕ) → tailed (columnlines cols lines) ≡ true
unfolding columnlines
columnlines-tailed zero lines = refl
columnlines-tailed (suc zero) lines = refl
columnlines-tailed (suc (suc n)) lines = columnlines-pass calm (record { front = refl; solid = refl; none = refl; back = refl; blank = refl }) (suc (suc n)) lines

nests : Closed (λ s. Unit {0}) (λ x. Kept (written x))
unfolding written run bytes_of popped
nests = record {
  nothing = λ t st. refl;
  both = λ x y p q. rw (written-append x y) (kept-both (written x) (written y) p q);
  chars = λ s g. kept-both (esc s) [] (esc-kept s) (λ t st. refl);
  element = λ e cols lines x k t st. element-pops e (columnlines cols lines) x (columnlines-tailed cols lines) k (t ∷ st);
  forms = λ s g. tt;
  marks = all (λ r. Unit {0} × Unit {0}) (λ r. (tt, tt)) unaries;
  apply = tt;
}

-- "for every text and tree: `nested bytes ≡ true`"
pub nested-output : (text : List ℕ) (tree : Nodes) → nested (mathml_of text tree) ≡ true
unfolding nested mathml_of root popped is_whole
nested-output text tree =
    rw (element-pops 19 [] (together (outs text mode.Keep Head.cell 0 tree)) refl
    (closed-items nests text tree (all-fine (λ s. Unit {0}) text (λ sp. tt) tree)) [])
