-- Readers step by step: from a position to a position, with what is answered; and nodes without their Space items.
use Prim.Native.Nat.{ℕ, zero, suc, ◌-◌}
use lib.ListN.{set}
use mathlib.Core.Path.{◌≡◌, refl, sym, ap, ◌∙◌, subst}
use mathlib.Core.Bool.{Bool, true, false}
use mathlib.Core.Option.{Option, none, some}
use Rattle.tree.specs.Tree.{Script, Head, Atom, Node, node, Nodes, end, ◌▸◌, leaf}
use Rattle.reading.specs.Entries.{Entry}
use Rattle.grammar.specs.Strip.{is_space_item, strip}
use Rattle.reading.specs.Reading.{State, M, return, ◌>>=◌, here, closed, when◌then◌else◌, Scripted, spaced}

-- The node n without its Space items is a, which is none itself.
pub record Comes (a n : Node) : Type 0 where
  pub before : (l : Nodes) → strip (n ▸ l) ≡ a ▸ strip l

abbrev pub Is : Node → Option Node → Type 0
Is a x = (n : Node) × (x ≡ some n) × Comes a n

-- a script and its arguments
abbrev pub Marks : Script → Nodes → Scripted → Type 0
Marks sc l q = (q.0 ≡ sc) × (strip q.1 ≡ l)

pub comes : {h g : Head} {l m : Nodes} → h ≡ g → is_space_item g ≡ false → strip l ≡ m → Comes (node g m) (node h l)
unfolding strip
comes {g} {l} {m} e i q = record { before = λ k. rw e (subst (kept k) (sym i) (ap (λ n. node g n ▸ strip k) q)) }
  where
    kept : Nodes → Bool → Type 0
    kept k x = (elim x as (λ y. Nodes) [ true ↦ strip k | false ↦ node g (strip l) ▸ strip k ]) ≡ node g m ▸ strip k

pub strip-one : {a n : Node} → Comes a n → strip (n ▸ end) ≡ a ▸ end
unfolding strip
strip-one c = c.before end

pub strip-two : {a b n m : Node} → Comes a n → Comes b m → strip (n ▸ m ▸ end) ≡ a ▸ b ▸ end
strip-two {a} {m} c d = c.before (m ▸ end) ∙ ap (λ l. a ▸ l) (strip-one d)

pub strip-spaced : {a n : Node} (before : Option Node) (e : Option Entry) (l : Nodes) → Comes a n →
    strip (spaced before e n l) ≡ a ▸ strip l
unfolding spaced strip is_space_item
strip-spaced none e l c = c.before l
strip-spaced (some p) none l c = c.before l
strip-spaced {a} {n} (some p) (some e) l c = go e.space.len
  where
    go : (k : ℕ) →
        strip (elim k as (λ y. Nodes) [ zero ↦ n ▸ l | suc m ↦ leaf (Head.atom Atom.space e.space) ▸ n ▸ l ])
        ≡ a ▸ strip l
    go zero = c.before l
    go (suc m) = c.before l

-- From any state at i, m goes to j with an answer that satisfies P.
pub record From {A : Type 0} (i : ℕ) (m : M A) (j : ℕ) (P : A → Type 0) : Type 0 where
  pub run : (s : State) → s.pos ≡ i → (x : A) × (t : State) × (m s ≡ (x, t)) × (t.pos ≡ j) × P x

module _ {A : Type 0} {P : A → Type 0} where
  pub answer : {i j : ℕ} {m : M A} → From i m j P → (s : State) → s.pos ≡ i → P (m s).0
  answer g s p = let r = g.run s p in rw r.2 r.4

  pub to : {m : M A} {i j k : ℕ} → j ≡ k → From i m j P → From i m k P
  to e g = rw (← e) g

  pub give : {j : ℕ} (x : A) → P x → From j (return x) j P
  unfolding return
  give x h = record { run = λ s p. (x, s, refl, p, h) }

  pub note : {j : ℕ} (k : ℕ) (x : A) → P x → From j (closed k x) j P
  unfolding closed
  note k x h = record { run = λ s p. (x, record { pos = s.pos; takes = s.takes; marks = s.marks; closers = set s.closers k (s.pos - 1) }, refl, p, h) }

  pub on_true : {i j : ℕ} {x : Bool} {m : M A} (n : M A) → x ≡ true → From i m j P → From i (when x then m else n) j P
  unfolding when◌then◌else◌
  on_true n h g = rw h g

  pub on_false : {i j : ℕ} {x : Bool} (m : M A) {n : M A} → x ≡ false → From i n j P → From i (when x then m else n) j P
  unfolding when◌then◌else◌
  on_false m h g = rw h g

module _ {A B : Type 0} {Q : B → Type 0} {i j k : ℕ} {m : M A} where
  pub call : {f : A → M B} {P : A → Type 0} → From i m j P → ((x : A) → P x → From j (f x) k Q) → From i (m >>= f) k Q
  unfolding ◌>>=◌
  call {f} g h = record {
    run = λ s p.
        let a = g.run s p in
        let b = (h a.0 a.4).run a.1 a.3 in
        (b.0, b.1, ap (λ r. f r.0 r.1) a.2 ∙ b.2, b.3, b.4);
  }

  pub given : {a : A} (f : A → M B) → From i m j (λ x. x ≡ a) → From j (f a) k Q → From i (m >>= f) k Q
  given f g h = call g λ x e. rw e h

pub call-node : {B : Type 0} {Q : B → Type 0} {i j k : ℕ} {m : M (Option Node)} {a : Node} (f : Option Node → M B) →
    From i m j (Is a) → ((n : Node) → Comes a n → From j (f (some n)) k Q) → From i (m >>= f) k Q
call-node f g h = call g λ x e. rw e.1 (h e.0 e.2)

pub at_here : {i : ℕ} → From i here i (λ x. x ≡ i)
unfolding here
at_here = record { run = λ s p. (s.pos, s, refl, p, p) }
