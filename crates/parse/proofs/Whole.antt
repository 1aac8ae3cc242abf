-- The code looks for a bar behind an item only; where no bar ends the items, that is the definition's order.
use Prim.Native.Nat.{ℕ, suc, ◌≤◌}
use mathlib.Core.Path.{◌≡◌, ◌∙◌}
use mathlib.Core.List.{List}
use mathlib.Core.Option.{Option, none}
use mathlib.Core.Bool.{Bool}
use native.Mathlib.Omega.{arith}
use lib.ListN.{length}
use Rattle.tree.specs.Tree.{Node, count}
use Rattle.tree.specs.Words.{encode_items}
use Rattle.reading.specs.Reading.{State, prefixes}
use Rattle.reading_cursor.specs.declared.Cursor.{Cursor}
use Rattle.parse.specs.declared.cursor.Items.{Items}
use Rattle.parse.specs.Meet.{Gives, Intermediates}
use Rattle.reading_words.specs.Meet.{Input, At, last_after, is_none, items_at}
use Rattle.reading_words.proofs.Steps.{from_start}

-- The items are the definition's, where no bar ends them.
pub whole-items : {X t : List ℕ} {n : ℕ} {K L : List ℕ} {u : ℕ} {stop first sign : Bool} {c : Cursor} {e : ℕ} {x y : List ℕ} {g : Items} → Intermediates X t n K L u stop first sign c e x y g → n ≤ u → (I : Input) (s : State) → At X t n K c.pos c.takes I s → (before : Option Node) → first ≡ is_none before → sign ≡ prefixes before
    → Gives X t n L (items_at c.depth (suc (length I.es)) none stop before I) encode_items (λ l. (g.count ≡ count l) × (g.sign ≡ prefixes (last_after before l))) I s e x y g.cur g.end
whole-items {stop = stop} {c = c} p h I s at before hf hs =
    let q = p.means I s at (length I.es) (omega (arith, at.given.size)) none h before hf hs in
    record { answer = q.answer; state = q.state; runs = from_start I c.depth (length I.es) stop before s ∙ q.runs; at = q.at; tree = q.tree; besides = q.besides }
