-- The loop over items: what it keeps, and what each way out of it shows.
use Prim.Native.Nat.{ℕ, zero, suc, ◌-◌, ◌≤◌}
use mathlib.Core.Path.{◌≡◌, refl, sym, ap, subst, ◌∙◌}
use mathlib.Core.List.{List}
use mathlib.Core.Option.{Option, none, some}
use mathlib.Core.Bool.{Bool, true, false, not, cond}
use native.Mathlib.Omega.{arith}
use lib.ListN.{length, get_elem?}
use Rattle.tree.specs.Tree.{Head, Atom, Node, node, Nodes, end, ◌▸◌, ◌⧺◌, leaf}
use Rattle.reading.specs.Entries.{Entry}
use Rattle.reading.specs.Reading.{State, at_open_close, next_intermediate, prefixes, spaced, is_column_line}
use Rattle.closers_pass.specs.declared.cursor.Part.{Part}
use Rattle.closers_pass.specs.declared.cursor.Node as part
use Rattle.closers_pass.specs.declared.cursor.Items.{Items}
use Rattle.tokens.specs.Refusals.{bit}
use Rattle.stores.proofs.Stores.{kept_refl, kept_trans}
use Rattle.closers_pass.proofs.Simple.{got, lack, runs_as}
use Rattle.reading_cursor.specs.declared.Cursor.{Cursor}
use Rattle.brackets.specs.Brackets.{bar_at}
use Rattle.reading_words.specs.Meet.{Input, readers, Until, last_after, is_none, stop_of, items_at, items_from}
use Rattle.std.proofs.Common.{Some, None}
use Rattle.closers_pass.specs.Meet.{has, ends_in, bar_in, At, Moves, Each, Gives, Listed, Intermediate, Intermediates, is_more, line_of, line_part, ends_of}
use Rattle.reading_words.proofs.Steps.{bar-kept, ended, ended_is, from_start, joined, last_more, nodes-nil, rejoin, turn-found, turn-met, turn-nothing}

-- The Space kept before an item, as nodes, whatever follows.
record Spaced (i : ℕ) (es : List Entry) (before : Option Node) : Type 0 where
  pub nodes : Nodes
  pub put : (x : Node) (l : Nodes) → spaced before (get_elem? es i) x l ≡ nodes ⧺ (x ▸ l)
  pub first : is_none before ≡ true → nodes ≡ end

no_first : {A : Type 0} → false ≡ true → A
no_first h = let z : ◌≡◌ {A = ℕ} 0 1 = cc in absurd (omega arith)

spaces : (i : ℕ) (es : List Entry) (before : Option Node) → Spaced i es before
unfolding spaced
spaces i es none = record { nodes = end; put = λ x l. refl; first = λ h. refl }
spaces i es (some b) = go (get_elem? es i) refl
  where
    by_len : (e : Entry) → get_elem? es i ≡ some e → (k : ℕ) → e.space.len ≡ k → Spaced i es (some b)
    by_len e h zero hk = record { nodes = end; put = λ x l. rw (spaced, h, hk); first = λ z. no_first z }
    by_len e h (suc k) hk = record {
      nodes = leaf (Head.atom Atom.space e.space) ▸ end;
      put = λ x l. ap (λ (o : Option Entry). spaced (some b) o x l) h ∙ ap (λ (m : ℕ). elim m as (λ _. Nodes) [ zero ↦ x ▸ l | suc n ↦ leaf (Head.atom Atom.space e.space) ▸ x ▸ l ]) hk;
      first = λ z. no_first z;
    }

    go : (o : Option Entry) → get_elem? es i ≡ o → Spaced i es (some b)
    go none h = record { nodes = end; put = λ x l. rw (spaced, h); first = λ z. no_first z }
    go (some e) h = by_len e h e.space.len refl

-- One item more: whether the items are a bar alone.
more-snoc : (acc nodes : Nodes) (x : Node) → true ≡ is_more (acc ⧺ (nodes ⧺ (x ▸ end)))
more-snoc end end x = refl
more-snoc end (y ▸ nodes) x = refl
more-snoc (y ▸ acc) nodes x = refl

two-nodes : (text : List ℕ) (es : List Entry) (y : Node) (l nodes : Nodes) (x : Node) → false ≡ is_column_line text es (node Head.cell (y ▸ (l ⧺ (nodes ⧺ (x ▸ end)))))
unfolding is_column_line
two-nodes text es (node h end) l nodes x = refl
two-nodes text es (node h (z ▸ k)) end end x = refl
two-nodes text es (node h (z ▸ k)) end (w ▸ nodes) x = refl
two-nodes text es (node h (z ▸ k)) (w ▸ l) nodes x = refl

one-node : (I : Input) (x : Node) → line_part I x ≡ is_column_line I.text I.es (node Head.cell (x ▸ end))
unfolding is_column_line
one-node I (node h end) = refl
one-node I (node h (z ▸ k)) = refl

no_line : (I : Input) → false ≡ is_column_line I.text I.es (node Head.cell end)
unfolding is_column_line
no_line I = refl

line-more : (I : Input) (acc nodes : Nodes) (x : Node) (sm bar : Bool) → sm ≡ is_more acc → bar ≡ line_part I x → (is_more acc ≡ false → nodes ≡ end) → cond sm false bar ≡ is_column_line I.text I.es (node Head.cell (acc ⧺ (nodes ⧺ (x ▸ end))))
line-more I end nodes x sm bar hs hb hn = rw (hs, hn refl) (hb ∙ one-node I x)
line-more I (y ▸ acc) nodes x sm bar hs hb hn = rw hs (two-nodes I.text I.es y acc nodes x)

-- At the loop's head: the items read so far, and turns enough for the rest.
pub record Along (X t : List ℕ) (n : ℕ) (L : List ℕ) (d turns : ℕ) (stop : Bool) (I : Input) (until : Option Entry) (start : Option Node) (s : State) (cur : Cursor) (first sm line sign : Bool) : Type 0 where
  pub left : ℕ
  pub acc : Nodes
  pub before : Option Node
  pub state : State
  pub whole : items_from d turns until stop start I s ≡ joined acc (items_from d left until stop before I state)
  pub enough : n - cur.pos ≤ left
  pub at : At X t n L cur.pos cur.takes I state
  pub is_more' : sm ≡ is_more acc
  pub is_line : is_none start ≡ true → line ≡ is_column_line I.text I.es (node Head.cell acc)
  pub is_first : first ≡ is_none before
  pub is_sign : sign ≡ prefixes before
  pub last : before ≡ last_after start acc

pub record Inv (X t : List ℕ) (n : ℕ) (K L : List ℕ) (u : ℕ) (stop first₀ sign₀ : Bool) (c cur : Cursor) (first sm line sign : Bool) : Type 0 where
  pub moves : Moves 0 n K L c cur
  pub later : sm ≡ true → first ≡ false
  pub along : Each X t n K c (λ I s. (f : ℕ) → n - c.pos ≤ f → (until : Option Entry) → Until n I u until → (start : Option Node) → first₀ ≡ is_none start → sign₀ ≡ prefixes start → Along X t n L c.depth f stop I until start s cur first sm line sign)

before-start : (start before : Option Node) (acc : Nodes) → before ≡ last_after start acc → is_more acc ≡ false → before ≡ start
before-start start before end h k = h
before-start start before (x ▸ acc) h k = let z : ◌≡◌ {A = ℕ} 0 1 = cc in absurd (omega arith)

module _ {X t : List ℕ} {n : ℕ} {K : List ℕ} (u : ℕ) (stop first₀ sign₀ : Bool) (c : Cursor) where
  pub along-none : c.pos ≤ n → Inv X t n K K u stop first₀ sign₀ c c first₀ false false sign₀
  along-none k = record {
    moves = record { within = k; on = omega arith; depth = refl; kept = kept_refl K };
    later = λ h. no_first h;
    along = λ I s at f hn until hu start hf hs. record { left = f; acc = end; before = start; state = s; whole = refl; enough = hn; at = at; is_more' = refl; is_line = λ h. no_line I; is_first = hf; is_sign = hs; last = refl };
  }

  module _ {L J : List ℕ} {cur : Cursor} {first sm line sign : Bool} {g : Part} (i : Inv X t n K L u stop first₀ sign₀ c cur first sm line sign) (unmet : bar_at X t L n (cond first n u) cur.pos ≡ false)
      (p : Intermediate X t n L J stop sign cur g) where
    pub along-more : {x : part.Node} → g.node ≡ Some x → Inv X t n K J u stop first₀ sign₀ c g.cur false true (cond sm false x.bar) (not x.ends)
    unfolding prefixes
    along-more {x} e =
        let h : has g.node ≡ true = ap has e in
        let w : bit (has g.node) ≡ 1 = ap bit h in
        record {
          moves = record { within = p.moves.within; on = omega (arith, p.moves.on, i.moves.on); depth = p.moves.depth ∙ i.moves.depth; kept = kept_trans i.moves.kept p.moves.kept };
          later = λ h. refl;
          along = λ I s at f hn until hu start hf hs.
              let a = i.along I s at f hn until hu start hf hs in
              let q = rw i.moves.depth at (p.means I a.state a.at) in
              let z = got q.answer (sym h ∙ q.besides.some) in
              let k = spaces cur.pos I.es a.before in
              let run : next_intermediate I.text I.es true (readers c.depth I) (stop_of stop) (prefixes a.before) a.state ≡ (some z.node, q.state) = rw a.is_sign at (runs_as q.runs z.is) in
              let l1 : a.left ≡ suc (a.left - 1) = omega (arith, a.enough, p.moves.on, p.moves.within) in
              let rest = items_at c.depth a.left until stop (some z.node) I q.state in
              let go : ended a.before (at_open_close I.text I.es until a.state.pos) ≡ false = ap (λ (p : ℕ). ended a.before (at_open_close I.text I.es until p)) (sym a.at.pos) ∙ ended_is u I until a.before cur.pos a.at.given hu ∙ ap (λ (b : Bool). bar_at X t L n (cond b n u) cur.pos) (sym a.is_first) ∙ unmet in
              record {
                left = a.left - 1;
                acc = a.acc ⧺ (k.nodes ⧺ (z.node ▸ end));
                before = some z.node;
                state = q.state;
                whole = a.whole ∙ ap (joined a.acc) (turn-found I c.depth until stop a.state q.state a.before a.left z.node go run)
                    ∙ ap (λ (w : Nodes). (a.acc ⧺ w, rest.1)) (ap (λ (p : ℕ). spaced a.before (get_elem? I.es p) z.node rest.0) (sym a.at.pos) ∙ k.put z.node rest.0)
                    ∙ ap (λ (w : Nodes). (w, rest.1)) (rejoin a.acc k.nodes z.node rest.0)
                    ∙ ap (λ (m : ℕ). joined (a.acc ⧺ (k.nodes ⧺ (z.node ▸ end))) (items_at c.depth m until stop (some z.node) I q.state)) l1;
                enough = omega (arith, l1, a.enough, p.moves.on, p.moves.within);
                at = q.at;
                is_more' = more-snoc a.acc k.nodes z.node;
                is_line = λ hn0. line-more I a.acc k.nodes z.node sm x.bar a.is_more' (sym (ap bar_in e) ∙ q.besides.bar ∙ ap (line_of I) z.is) (λ e. k.first (ap is_none (before-start start a.before a.acc a.last e) ∙ hn0));
                is_first = refl;
                is_sign = ap not (sym (ap ends_in e) ∙ q.besides.ends ∙ ap ends_of z.is);
                last = sym (last_more start a.acc k.nodes z.node);
              };
        }

    pub along-nothing : g.node ≡ None → Intermediates X t n K J u stop first₀ sign₀ c (record { cur = g.cur; some = sm; line = line; sign = sign; met = false })
    along-nothing e = let h : has g.node ≡ false = ap has e in record {
      moves = record { within = p.moves.within; on = omega (arith, p.moves.on, i.moves.on); depth = p.moves.depth ∙ i.moves.depth; kept = kept_trans i.moves.kept p.moves.kept };
      met = λ hs. sym (ap (bar_at X t J n u) (p.stays h) ∙ bar-kept X t n u cur.pos p.moves.kept ∙ subst (λ (b : Bool). bar_at X t L n (cond b n u) cur.pos ≡ false) (i.later hs) unmet);
      means = λ I s at f hn until hu start hf hs.
          let a = i.along I s at f hn until hu start hf hs in
          let q = rw i.moves.depth at (p.means I a.state a.at) in
          let z = lack q.answer (sym h ∙ q.besides.some) in
          let run : next_intermediate I.text I.es true (readers c.depth I) (stop_of stop) (prefixes a.before) a.state ≡ (none, q.state) = rw a.is_sign at (runs_as q.runs z) in
          record {
            answer = a.acc;
            state = q.state;
            runs = a.whole ∙ ap (joined a.acc) (turn-nothing I c.depth until stop a.state q.state a.before a.left (ap (λ (p : ℕ). ended a.before (at_open_close I.text I.es until p)) (sym a.at.pos) ∙ ended_is u I until a.before cur.pos a.at.given hu ∙ ap (λ (b : Bool). bar_at X t L n (cond b n u) cur.pos) (sym a.is_first) ∙ unmet) run) ∙ ap (λ (w : Nodes). (w, q.state)) (nodes-nil a.acc);
            at = q.at;
            besides = record { some = a.is_more'; line = a.is_line; sign = a.is_sign ∙ ap prefixes a.last };
          };
    }

  pub along-met : {L : List ℕ} {cur : Cursor} {first sm line sign : Bool} → Inv X t n K L u stop first₀ sign₀ c cur first sm line sign → bar_at X t L n (cond first n u) cur.pos ≡ true
      → Intermediates X t n K L u stop first₀ sign₀ c (record { cur = cur; some = sm; line = line; sign = sign; met = true })
  along-met {L} {cur} {first} i h = record {
    moves = i.moves;
    met = λ hs. sym (subst (λ (b : Bool). bar_at X t L n (cond b n u) cur.pos ≡ true) (i.later hs) h);
    means = λ I s at f hn until hu start hf hs.
        let a = i.along I s at f hn until hu start hf hs in
        record {
          answer = a.acc;
          state = a.state;
          runs = a.whole ∙ ap (joined a.acc) (turn-met I c.depth until stop a.state a.before a.left (ap (λ (p : ℕ). ended a.before (at_open_close I.text I.es until p)) (sym a.at.pos) ∙ ended_is u I until a.before cur.pos a.at.given hu ∙ ap (λ (b : Bool). bar_at X t L n (cond b n u) cur.pos) (sym a.is_first) ∙ h)) ∙ ap (λ (w : Nodes). (w, a.state)) (nodes-nil a.acc);
          at = a.at;
          besides = record { some = a.is_more'; line = a.is_line; sign = a.is_sign ∙ ap prefixes a.last };
        };
  }

pub whole-items : {X t : List ℕ} {n : ℕ} {K L : List ℕ} {u : ℕ} {stop first sign : Bool} {c : Cursor} {g : Items} → Intermediates X t n K L u stop first sign c g → n ≤ u → (I : Input) (s : State) → At X t n K c.pos c.takes I s → (before : Option Node) → first ≡ is_none before → sign ≡ prefixes before
    → Gives X t n L (items_at c.depth (suc (length I.es)) none stop before I) (Listed X t n I before g) I s g.cur
whole-items {stop = stop} {c = c} p h I s at before hf hs =
    let q = p.means I s at (length I.es) (omega (arith, at.given.size)) none h before hf hs in
    record { answer = q.answer; state = q.state; runs = from_start I c.depth (length I.es) stop before s ∙ q.runs; at = q.at; besides = q.besides }
