-- The second part: read from the marks that the bracket pass leaves, the words are those of the whole reading's tree, and nothing is
-- given back.
use Prim.Native.Nat.{ℕ, ◌+◌, ◌-◌, ◌*◌, ◌%◌, ◌^◌, ◌<◌}
use mathlib.Core.Path.{◌≡◌, refl, sym, ap, ◌∙◌}
use mathlib.Core.List.{List, ◌++◌}
use mathlib.Core.Bool.{Bool, true, false}
use lib.ListN.{length, replicate, get_or}
use Rattle.tree.specs.Tree.{Nodes, count}
use Rattle.tree.specs.Words.{encode_items}
use Rattle.reading.specs.Reading.{State, parse_entries}
use Rattle.closers_laws.proofs.Replay.{replay}
use Rattle.records.specs.Record.{marks_of}
use Rattle.reading_words.specs.Entry.{marks_word}
use Rattle.reading_words.specs.Meet.{Input, Given, Marks}
use Rattle.parse.specs.declared.top.Reading.{Reading}
use Rattle.parse.specs.declared.top.Wrapped.{Wrapped}
use Rattle.parse.specs.Top.{read_from, Reads, Topped}

module _ (I : Input) (len : ℕ) (y : List ℕ) (r : Reading) (d : Reads I (parse_entries I.text I.es true).1.marks len y r) where
  pub second-end : r.end ≡ length (encode_items (parse_entries I.text I.es true).0)
  second-end = d.end ∙ ap (λ (l : Nodes). length (encode_items l)) (replay I.text I.es _ refl refl).0

  pub second-tree : y ≡ encode_items (parse_entries I.text I.es true).0 ++ replicate (len - r.end) 0
  second-tree = d.tree ∙ ap (λ (l : Nodes). encode_items l ++ replicate (len - r.end) 0) (replay I.text I.es _ refl refl).0

  pub second-items : r.items ≡ count (parse_entries I.text I.es true).0
  second-items = d.items ∙ ap count (replay I.text I.es _ refl refl).0

-- The items read from the marks that the bracket pass leaves: every mark is as it was, so no attempt has failed.
pub nothing-given_back : (X t : List ℕ) (n : ℕ) (K L y : List ℕ) (g : Wrapped) (I : Input)
    → Topped X t n K L y g → Given X t n K I → Marks n K (parse_entries I.text I.es true).1.marks
    → (i : ℕ) → i < n → marks_of L i ≡ marks_of K i
nothing-given_back X t n K L y g I p gv mk i h =
    let w = p.means I gv (parse_entries I.text I.es true).1.marks mk in
    let same = (replay I.text I.es _ refl refl).1 in
    w.marks.words i h ∙ ap (λ (m : List Bool). marks_word (get_or m (3 * i) false) (get_or m (3 * i + 1) false) (get_or m (3 * i + 2) false)) same
    ∙ sym (mk.words i h)

-- the reading from no mark is the whole reading
blank-start : (I : Input) (n : ℕ) → length I.es ≡ n → read_from I (replicate (3 * n) false) ≡ parse_entries I.text I.es true
unfolding parse_entries
blank-start I n e = ap (λ (m : ℕ). read_from I (replicate (3 * m) false)) (sym e)

-- The two passes together are the whole reading: the takes that the bracket pass counts, and the tree that the second part builds from
-- its marks.
pub both_read : (I : Input) (n takes len : ℕ) (y : List ℕ) (r : Reading) → length I.es ≡ n → takes ≡ (parse_entries I.text I.es true).1.takes % 2 ^ 32
    → Reads I (parse_entries I.text I.es true).1.marks len y r
    → Reads I (replicate (3 * n) false) len y (record { takes = takes; end = r.end; items = r.items })
both_read I n takes len y r e k d =
    let z = sym (blank-start I n e) in
    record {
      end = second-end I len y r d ∙ ap (λ (w : Nodes × State). length (encode_items w.0)) z;
      tree = second-tree I len y r d ∙ ap (λ (w : Nodes × State). encode_items w.0 ++ replicate (len - r.end) 0) z;
      items = second-items I len y r d ∙ ap (λ (w : Nodes × State). count w.0) z;
      takes = k ∙ ap (λ (w : Nodes × State). w.1.takes % 2 ^ 32) z;
    }
