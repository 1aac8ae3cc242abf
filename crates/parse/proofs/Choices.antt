-- What the readers' choices show: which token prefixes, how a group ends, why rows fail.
use Prim.Native.Nat.{ℕ, ◌+◌, ◌*◌, ◌-◌, ◌≤◌, ◌<◌}
use mathlib.Core.Path.{◌≡◌, refl, sym, ap, ◌∙◌, subst}
use mathlib.Core.List.{List, [], ◌∷◌}
use mathlib.Core.Bool.{Bool, true, false, cond}
use mathlib.Core.Logic.{⊎_elim}
use native.Mathlib.Omega.{arith}
use lib.ListN.{length}
use lib.Dec.{eqb}
use lib.Seq.{sets}
use types.Run.{OneOf}
use denote.Enum.Declared.{tag_of}
use borrow.Author.Tests.{eqb-true}
use Rattle.tree.specs.Words.{prefix_kind}
use Rattle.reading_cursor.specs.declared.Cursor.{Cursor}
use Rattle.parse.specs.declared.cursor.Part.{Part}
use Rattle.parse.specs.declared.cursor.Items.{Items}
use Rattle.parse.specs.declared.cursor.Why.{Why}
use Rattle.parse.specs.declared.cursor.Why.TheVariants as why
use Rattle.parse.specs.contracts.cursor.Why.{the_type}
use Rattle.records.specs.Record.{kind_of}
use Rattle.lookahead.specs.Tests.{test_at, is_kind, prefix_stop}
use Rattle.nodes.specs.Nodes.{group_words}
use Rattle.parse.specs.Meet.{Each, Intermediates, OpenGroup, Begun, Unary, prefix_of}
use Rattle.reading_cursor.specs.Moves.{onward, seen}
use Rattle.parse.specs.Matrix.{Broke, Fails, MatrixRows'}
use Rattle.reading_words.specs.Meet.{rows_at}
use Rattle.std.specs.Prelude.{Option, Some, None}
use Rattle.parse.specs.Choices.{prefix_number, prefix_node}
use Rattle.parse.proofs.Begins.{begun-unary, begun-function, begun-sign}
use Rattle.parse.proofs.Scripting.{group-shut, group-open}

-- the kind of node, by the token's being 18, 17 and 16
abbrev number : Bool → Bool → Bool → Bool → ℕ
number a b d s = cond a 10 (cond b 11 (cond d (cond s 9 0) 0))

known_of : (a b d s : Bool) → (number a b d s ≡ 0 → ⊥) → prefix_kind (prefix_of (number a b d s)) ≡ number a b d s
known_of true b d s h = refl
known_of false true d s h = refl
known_of false false true true h = refl
known_of false false true false h = absurd (h refl)
known_of false false false s h = absurd (h refl)

pub prefix-known : (k : ℕ) (sg : Bool) → (prefix_number k sg ≡ 0 → ⊥) → prefix_kind (prefix_of (prefix_number k sg)) ≡ prefix_number k sg
prefix-known k sg h = known_of (eqb k 18) (eqb k 17) (eqb k 16) sg h

signless : (s : Bool) → number false false true s ≡ 0 → s ≡ false
signless true h = let w : ◌≡◌ {A = ℕ} 9 0 = h in let f : ⊥ = omega arith in absurd f
signless false h = refl

-- A token that takes no argument is none of those that do.
pub leaf-kinds : (k : ℕ) (sg : Bool) → prefix_number k sg ≡ 0 → (k ≡ 18 → ⊥) × (k ≡ 17 → ⊥) × (k ≡ 16 → sg ≡ false)
leaf-kinds k sg h = (
  λ z. let w : ◌≡◌ {A = ℕ} 10 0 = ap (λ (m : ℕ). prefix_number m sg) (sym z) ∙ h in omega arith,
  λ z. let w : ◌≡◌ {A = ℕ} 11 0 = ap (λ (m : ℕ). prefix_number m sg) (sym z) ∙ h in omega arith,
  λ z. signless sg (ap (λ (m : ℕ). prefix_number m sg) (sym z) ∙ h),
)

-- the node kind where there is one, and none where it is 0
abbrev node_of : Bool → Bool → Bool → Bool → Option ℕ
node_of a b d s = cond a (Some 10) (cond b (Some 11) (cond d (cond s (Some 9) None) None))

some_of : (a b d s : Bool) {kind : ℕ} → Some kind ≡ node_of a b d s → (kind ≡ number a b d s) × (number a b d s ≡ 0 → ⊥)
some_of true b d s h = (cc, λ z. omega arith)
some_of false true d s h = (cc, λ z. omega arith)
some_of false false true true h = (cc, λ z. omega arith)
some_of false false true false h = absurd cc
some_of false false false s h = absurd cc

none_of : (a b d s : Bool) → None ≡ node_of a b d s → number a b d s ≡ 0
none_of true b d s h = absurd cc
none_of false true d s h = absurd cc
none_of false false true true h = absurd cc
none_of false false true false h = refl
none_of false false false s h = refl

pub prefix-some : (k : ℕ) (sg : Bool) {kind : ℕ} → Some kind ≡ prefix_node k sg → (kind ≡ prefix_number k sg) × (prefix_number k sg ≡ 0 → ⊥)
prefix-some k sg h = some_of (eqb k 18) (eqb k 17) (eqb k 16) sg h

pub prefix-none : (k : ℕ) (sg : Bool) → None ≡ prefix_node k sg → prefix_number k sg ≡ 0
prefix-none k sg h = none_of (eqb k 18) (eqb k 17) (eqb k 16) sg h

module _ {X t : List ℕ} {n : ℕ} {K L : List ℕ} (i : ℕ) (stop sg : Bool) {c : Cursor} {e : ℕ} {x y : List ℕ} {g : Part} (inside : i < n) where
  pub begun-prefix : {k kind : ℕ} {st : Bool} → k ≡ kind_of t K i → kind ≡ prefix_number k sg → st ≡ prefix_stop k stop → (kind ≡ 0 → ⊥)
      → Unary X t n K L i kind st c e x y g → Begun X t n K L i stop sg c e x y g
  begun-prefix {k} {kind} {st} hk h1 h2 hz p =
      go (eqb k 18) refl (eqb k 17) refl (eqb k 16) refl
      (subst (λ (m : ℕ). Unary X t n K L i m (prefix_stop k stop) c e x y g) h1 (subst (λ (b : Bool). Unary X t n K L i kind b c e x y g) h2 p))
    where
      at_kind : {m : ℕ} → k ≡ m → Unary X t n K L i (prefix_number k sg) (prefix_stop k stop) c e x y g → Unary X t n K L i (prefix_number m sg) (prefix_stop m stop) c e x y g
      at_kind z q = subst (λ (m : ℕ). Unary X t n K L i (prefix_number m sg) (prefix_stop m stop) c e x y g) z q

      by_sign : (s : Bool) → sg ≡ s → k ≡ 16 → Unary X t n K L i (prefix_number 16 sg) (prefix_stop 16 stop) c e x y g → Begun X t n K L i stop sg c e x y g
      by_sign true hs z q = begun-sign i stop inside (sym hk ∙ z) hs (subst (λ (s : Bool). Unary X t n K L i (prefix_number 16 s) (prefix_stop 16 stop) c e x y g) hs q)
      by_sign false hs z q = absurd (hz (h1 ∙ ap (λ (m : ℕ). prefix_number m sg) z ∙ ap (prefix_number 16) hs))

      go : (a : Bool) → eqb k 18 ≡ a → (b : Bool) → eqb k 17 ≡ b → (d : Bool) → eqb k 16 ≡ d → Unary X t n K L i (prefix_number k sg) (prefix_stop k stop) c e x y g → Begun X t n K L i stop sg c e x y g
      go true ha b hb d hd q = let z : k ≡ 18 = eqb-true k 18 ha in begun-unary i stop sg inside (sym hk ∙ z) (at_kind z q)
      go false ha true hb d hd q = let z : k ≡ 17 = eqb-true k 17 hb in begun-function i stop sg inside (sym hk ∙ z) (at_kind z q)
      go false ha false hb true hd q = let z : k ≡ 16 = eqb-true k 16 hd in by_sign sg refl z (at_kind z q)
      go false ha false hb false hd q =
          absurd (hz (h1 ∙ ap (λ (a : Bool). number a (eqb k 17) (eqb k 16) sg) ha ∙ ap (λ (b : Bool). number false b (eqb k 16) sg) hb ∙ ap (λ (d : Bool). number false false d sg) hd))

-- A group ends at its closing bracket, or is left open.
module _ {X t : List ℕ} {n : ℕ} {K L : List ℕ} (i : ℕ) {c : Cursor} {e : ℕ} {x y : List ℕ} {g : Items} (inside : i < n) (p : Intermediates X t n K L n false true true c (e + 6) x y g) (room : e + 20 + 32 * (n - c.pos) ≤ length x) where
  pub group-end : {z : List ℕ} (b : Bool) → b ≡ test_at t L n (is_kind 21) g.cur.pos → z ≡ sets y e (group_words t L n i (cond b g.cur.pos n) g.count)
      → OpenGroup X t n K L i c e x z (record { cur = cond b (onward g.cur) (seen n g.cur); end = g.end; ends = true })
  group-end true h hz = group-shut i inside p room (sym h) hz
  group-end false h hz = group-open i inside p room (sym h) hz

-- Rows that are not all read.
pub rows-failed : (X t : List ℕ) (n : ℕ) (K L : List ℕ) (c : Cursor) (e : ℕ) (x y : List ℕ) (cols l k : ℕ) (d : Cursor) (E : ℕ) (w : Why) → OneOf (1 ∷ 2 ∷ []) (tag_of the_type w)
    → MatrixRows' X t n K L c e x y cols l k d E w → Broke X t n K L c e x y d × Each X t n K c (λ I s. Fails X t n L (rows_at c.depth I) I s e x y d)
rows-failed X t n K L c e x y cols l k d E why.Done h p = let f : ⊥ = ⊎_elim (λ z. omega arith) (λ z. omega arith) h in absurd f
rows-failed X t n K L c e x y cols l k d E why.Differs h p = p
rows-failed X t n K L c e x y cols l k d E why.Broken h p = p
