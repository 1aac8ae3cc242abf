-- The loop over items: what it keeps, and what each way out of it shows.
use Prim.Native.Nat.{ℕ, zero, suc, ◌+◌, ◌*◌, ◌-◌, ◌≤◌}
use mathlib.Core.Path.{◌≡◌, refl, sym, ap, ◌∙◌}
use mathlib.Core.List.{List, ◌++◌, append-nil, append_assoc}
use mathlib.Core.Option.{Option, none, some}
use mathlib.Core.Bool.{Bool, true, false, not, cond}
use native.Mathlib.Omega.{arith}
use lib.ListN.{length, get_elem?}
use lib.Dec.{eqb, ltb}
use borrow.Author.Tests.{ltb-true, ltb-false, ne_eqb}
use Rattle.tree.specs.Tree.{Head, Atom, Node, Nodes, end, ◌▸◌, ◌⧺◌, count, leaf}
use Rattle.tree.specs.Words.{encode_item, encode_items}
use Rattle.reading.specs.Entries.{Entry}
use Rattle.reading.specs.Reading.{State, at_open_close, next_intermediate, prefixes, spaced}
use Rattle.reading_cursor.specs.declared.Cursor.{Cursor}
use Rattle.std.specs.Prelude.{Ok, Err}
use Rattle.parse.specs.declared.cursor.Gap.{Gap}
use Rattle.parse.specs.Buffer.{Wrote}
use Rattle.records.specs.Record.{space_len}
use Rattle.brackets.specs.Brackets.{bar_at}
use Rattle.nodes.specs.Nodes.{gap_len, gap_words, gap_items}
use Rattle.parse.specs.Meet.{Moves, Each, Intermediate, Intermediates, Gapped, missed_at}
use Rattle.parse.proofs.Buffer.{seq, back, wrote_none}
use Rattle.parse.proofs.Scripting.{count-append}
use Rattle.reading_words.specs.Meet.{Input, Stands, Given, At, Known, readers, Until, last_after, is_none, stop_of, items_at, items_from}
use Rattle.stores.proofs.Stores.{kept_refl, kept_trans}
use Rattle.reading_words.proofs.Kit.{past}
use Rattle.reading_words.proofs.Steps.{ended, ended_is, joined, last_more, nodes-nil, rejoin, turn-found, turn-met, turn-nothing}

pub encode_items-append : (l m : Nodes) → encode_items (l ⧺ m) ≡ encode_items l ++ encode_items m
unfolding encode_items
encode_items-append end m = refl
encode_items-append (x ▸ l) m = ap (λ (w : List ℕ). encode_item x ++ w) (encode_items-append l m) ∙ sym (append_assoc (encode_item x) (encode_items l) (encode_items m))

-- The Space kept before an item, as nodes, whatever follows.
pub record Spaced (t K : List ℕ) (n : ℕ) (first : Bool) (i : ℕ) (es : List Entry) (before : Option Node) : Type 0 where
  pub nodes : Nodes
  pub put : (x : Node) (l : Nodes) → spaced before (get_elem? es i) x l ≡ nodes ⧺ (x ▸ l)
  pub words : encode_items nodes ≡ gap_words t K n first i
  pub number : count nodes ≡ gap_items t K n first i

spaced-gap : (b : Node) (e : Entry) (x : Node) (l : Nodes) (k : ℕ) → e.space.len ≡ suc k → spaced (some b) (some e) x l ≡ leaf (Head.atom Atom.space e.space) ▸ x ▸ l
unfolding spaced
spaced-gap b e x l k h = ap (λ (m : ℕ). elim m as (λ _. Nodes) [ zero ↦ x ▸ l | suc n ↦ leaf (Head.atom Atom.space e.space) ▸ x ▸ l ]) h

pub spaces : {X t : List ℕ} {n : ℕ} {K : List ℕ} {I : Input} (i : ℕ) (before : Option Node) → Given X t n K I → Spaced t K n (is_none before) i I.es before
unfolding gap_words gap_items gap_len encode_items encode_item spaced
spaces i none g = record { nodes = end; put = λ x l. refl; words = refl; number = refl }
spaces {X} {t} {n} {K} {I} i (some b) g = go (ltb i n) refl
  where
    by_len : (q : Stands t K I.es i) → ltb i n ≡ true → (k : ℕ) → q.entry.space.len ≡ k → Spaced t K n false i I.es (some b)
    by_len q h zero hk =
        let z : space_len t K i ≡ 0 = q.row.space_size ∙ hk in
        record { nodes = end; put = λ x l. rw (spaced, q.there, hk); words = rw (h, z); number = rw (h, z) }
    by_len q h (suc k) hk =
        let z : space_len t K i ≡ suc k = q.row.space_size ∙ hk in
        let hz : eqb (space_len t K i) 0 ≡ false = ne_eqb (space_len t K i) 0 (λ w. omega arith) in
        record {
          nodes = leaf (Head.atom Atom.space q.entry.space) ▸ end;
          put = λ x l. ap (λ (o : Option Entry). spaced (some b) o x l) q.there ∙ spaced-gap b q.entry x l k hk;
          words = rw (h, hz, ← q.row.space, ← q.row.space_size);
          number = rw (h, hz);
        }

    go : (r : Bool) → ltb i n ≡ r → Spaced t K n false i I.es (some b)
    go true h = let q = g.stands i (ltb-true i n h) in by_len q h q.entry.space.len refl
    go false h = record { nodes = end; put = λ x l. rw (spaced, past I.es i (omega (arith, ltb-false i n h, g.size))); words = rw h; number = rw h }

words_more : (acc nodes : Nodes) (x : Node) {g : List ℕ} → encode_items nodes ≡ g → encode_items (acc ⧺ (nodes ⧺ (x ▸ end))) ≡ encode_items acc ++ (g ++ encode_item x)
unfolding encode_items
words_more acc nodes x h = encode_items-append acc (nodes ⧺ (x ▸ end)) ∙ ap (λ (w : List ℕ). encode_items acc ++ w) (encode_items-append nodes (x ▸ end) ∙ rw (h, append-nil))

-- At the loop's head: the items read so far, and turns enough for the rest.
pub record Along (X t : List ℕ) (n : ℕ) (L : List ℕ) (d turns : ℕ) (stop : Bool) (I : Input) (until : Option Entry) (start : Option Node) (s : State) (e : ℕ) (x y : List ℕ) (cur : Cursor) (stp num : ℕ) (first sign : Bool) : Type 0 where
  pub left : ℕ
  pub acc : Nodes
  pub before : Option Node
  pub state : State
  pub whole : items_from d turns until stop start I s ≡ joined acc (items_from d left until stop before I state)
  pub enough : n - cur.pos ≤ left
  pub at : At X t n L cur.pos cur.takes I state
  pub tree : Wrote x e y stp (encode_items acc)
  pub number : num ≡ count acc
  pub is_first : first ≡ is_none before
  pub is_sign : sign ≡ prefixes before
  pub last : before ≡ last_after start acc

pub record Inv (X t : List ℕ) (n : ℕ) (K L : List ℕ) (u : ℕ) (stop first₀ sign₀ : Bool) (c : Cursor) (e : ℕ) (x y : List ℕ) (cur : Cursor) (stp num : ℕ) (first sign : Bool) : Type 0 where
  pub moves : Moves X t 0 0 0 n K L c e x y cur stp
  pub few : num + 2 * c.pos ≤ 2 * cur.pos
  pub along : Each X t n K c (λ I s. (f : ℕ) → n - c.pos ≤ f → (until : Option Entry) → Until n I u until → (start : Option Node) → first₀ ≡ is_none start → sign₀ ≡ prefixes start → Along X t n L c.depth f stop I until start s e x y cur stp num first sign)

module _ {X t : List ℕ} {n : ℕ} {K : List ℕ} (u : ℕ) (stop first₀ sign₀ : Bool) (c : Cursor) (e : ℕ) (x : List ℕ) where
  pub along-none : c.pos ≤ n → Known X t n K → Inv X t n K K u stop first₀ sign₀ c e x x c e 0 first₀ sign₀
  unfolding encode_items prefixes
  along-none k kn = record {
    moves = record { within = k; on = omega arith; depth = refl; room = omega arith; long = refl; kept = kept_refl K; known = kn };
    few = omega arith;
    along = λ I s at f hn until hu start hf hs. record { left = f; acc = end; before = start; state = s; whole = refl; enough = hn; at = at; tree = wrote_none x e; number = refl; is_first = hf; is_sign = hs; last = refl };
  }

  module _ {L y y2 y3 : List ℕ} {cur : Cursor} {stp num : ℕ} {first sign : Bool} {g : Gap} (i : Inv X t n K L u stop first₀ sign₀ c e x y cur stp num first sign) (gp : Gapped t L n first cur.pos stp y y2 g)
      (room : stp + 14 + 32 * (n - cur.pos) ≤ length y) (unmet : bar_at X t L n (cond first n u) cur.pos ≡ false) where
    pub along-more : {J : List ℕ} {b : Cursor} {E : ℕ} {f : Bool} → Intermediate X t n L J stop sign cur g.end y2 y3 (Ok (record { cur = b; end = E; ends = f })) → Inv X t n K J u stop first₀ sign₀ c e x y3 b E (num + (1 + g.items)) false (not f)
    unfolding encode_items prefixes
    along-more {J} {b} {E} {f} p = record {
      moves = record { within = p.0.within; on = omega (arith, p.0.on, i.moves.on); depth = p.0.depth ∙ i.moves.depth; room = omega (arith, p.0.room, gp.short, i.moves.room); long = p.0.long ∙ gp.tree.long ∙ i.moves.long; kept = kept_trans i.moves.kept p.0.kept; known = p.0.known };
      few = omega (arith, i.few, gp.few, p.0.on);
      along = λ I s at f hn until hu start hf hs.
          let a = i.along I s at f hn until hu start hf hs in
          let q = rw i.moves.depth at (p.1 I a.state a.at) in
          let k = spaces cur.pos a.before a.at.given in
          let run : next_intermediate I.text I.es true (readers c.depth I) (stop_of stop) (prefixes a.before) a.state ≡ (some q.node, q.state) = rw a.is_sign at q.runs in
          let l1 : a.left ≡ suc (a.left - 1) = omega (arith, a.enough, p.0.on, p.0.within) in
          let rest = items_at c.depth a.left until stop (some q.node) I q.state in
          let go : ended a.before (at_open_close I.text I.es until a.state.pos) ≡ false = ap (λ (p : ℕ). ended a.before (at_open_close I.text I.es until p)) (sym a.at.pos) ∙ ended_is u I until a.before cur.pos a.at.given hu ∙ ap (λ (b : Bool). bar_at X t L n (cond b n u) cur.pos) (sym a.is_first) ∙ unmet in
          record {
            left = a.left - 1;
            acc = a.acc ⧺ (k.nodes ⧺ (q.node ▸ end));
            before = some q.node;
            state = q.state;
            whole = a.whole ∙ ap (joined a.acc) (turn-found I c.depth until stop a.state q.state a.before a.left q.node go run)
                ∙ ap (λ (w : Nodes). (a.acc ⧺ w, rest.1)) (ap (λ (p : ℕ). spaced a.before (get_elem? I.es p) q.node rest.0) (sym a.at.pos) ∙ k.put q.node rest.0)
                ∙ ap (λ (w : Nodes). (w, rest.1)) (rejoin a.acc k.nodes q.node rest.0)
                ∙ ap (λ (m : ℕ). joined (a.acc ⧺ (k.nodes ⧺ (q.node ▸ end))) (items_at c.depth m until stop (some q.node) I q.state)) l1;
            enough = omega (arith, l1, a.enough, p.0.on, p.0.within);
            at = q.at;
            tree = rw (words_more a.acc k.nodes q.node (k.words ∙ ap (λ (b : Bool). gap_words t L n b cur.pos) (sym a.is_first))) (seq a.tree (seq gp.tree q.tree));
            number = omega (arith, a.number, gp.items, k.number ∙ ap (λ (b : Bool). gap_items t L n b cur.pos) (sym a.is_first), count-append a.acc (k.nodes ⧺ (q.node ▸ end)), count-append k.nodes (q.node ▸ end));
            is_first = refl;
            is_sign = ap not q.besides;
            last = sym (last_more start a.acc k.nodes q.node);
          };
    }

    pub along-nothing : {J : List ℕ} {b : Cursor} → Intermediate X t n L J stop sign cur g.end y2 y3 (Err (missed_at b)) → Intermediates X t n K J u stop first₀ sign₀ c e x y3 (record { cur = b; end = stp; count = num; sign = sign })
    along-nothing {J} {b} p = record {
      moves = record { within = p.0.within; on = omega (arith, p.0.on, i.moves.on); depth = p.0.depth ∙ i.moves.depth; room = omega (arith, p.0.on, i.moves.room); long = p.0.long ∙ gp.tree.long ∙ i.moves.long; kept = kept_trans i.moves.kept p.0.kept; known = p.0.known };
      few = omega (arith, i.few, p.0.on);
      means = λ I s at f hn until hu start hf hs.
          let a = i.along I s at f hn until hu start hf hs in
          let q = rw i.moves.depth at (p.1 I a.state a.at) in
          let run : next_intermediate I.text I.es true (readers c.depth I) (stop_of stop) (prefixes a.before) a.state ≡ (none, q.state) = rw a.is_sign at q.runs in
          record {
            answer = a.acc;
            state = q.state;
            runs = a.whole ∙ ap (joined a.acc) (turn-nothing I c.depth until stop a.state q.state a.before a.left (ap (λ (p : ℕ). ended a.before (at_open_close I.text I.es until p)) (sym a.at.pos) ∙ ended_is u I until a.before cur.pos a.at.given hu ∙ ap (λ (b : Bool). bar_at X t L n (cond b n u) cur.pos) (sym a.is_first) ∙ unmet) run) ∙ ap (λ (w : Nodes). (w, q.state)) (nodes-nil a.acc);
            at = q.at;
            tree = rw append-nil at (seq a.tree (back stp (seq gp.tree q.tree) (omega arith) (omega (arith, gp.short))));
            besides = (a.number, a.is_sign ∙ ap prefixes a.last);
          };
    }

  pub along-met : {L y : List ℕ} {cur : Cursor} {stp num : ℕ} {first sign : Bool} → Inv X t n K L u stop first₀ sign₀ c e x y cur stp num first sign → bar_at X t L n (cond first n u) cur.pos ≡ true
      → Intermediates X t n K L u stop first₀ sign₀ c e x y (record { cur = cur; end = stp; count = num; sign = sign })
  along-met {L} {y} {cur} {stp} {num} {first} i h = record {
    moves = i.moves;
    few = i.few;
    means = λ I s at f hn until hu start hf hs.
        let a = i.along I s at f hn until hu start hf hs in
        record {
          answer = a.acc;
          state = a.state;
          runs = a.whole ∙ ap (joined a.acc) (turn-met I c.depth until stop a.state a.before a.left (ap (λ (p : ℕ). ended a.before (at_open_close I.text I.es until p)) (sym a.at.pos) ∙ ended_is u I until a.before cur.pos a.at.given hu ∙ ap (λ (b : Bool). bar_at X t L n (cond b n u) cur.pos) (sym a.is_first) ∙ h)) ∙ ap (λ (w : Nodes). (w, a.state)) (nodes-nil a.acc);
          at = a.at;
          tree = a.tree;
          besides = (a.number, a.is_sign ∙ ap prefixes a.last);
        };
  }
