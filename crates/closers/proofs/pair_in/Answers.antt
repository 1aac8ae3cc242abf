-- `pair_in`: the pass goes over the list, and its closers are written.
use Prim.Native.Nat.{ℕ, ◌+◌, ◌≤◌}
use mathlib.Core.Path.{◌≡◌, ap, ◌∙◌}
use mathlib.Core.List.{List}
use native.Mathlib.Omega.{arith}
use lib.ListN.{length, replicate}
use Rattle.std.proofs.lemmas.List.{length-replicate}
use Rattle.std.specs.Prelude.{Ok}
use Rattle.tokens.specs.Table.{token_list, count_others}
use Rattle.records.specs.Record.{record_words}
use Rattle.closers.proofs.Calls.{not_refused, not_plain, few-entries, list-closed_words}
use Rattle.closers.proofs.pair_in.Goals as goal

-- the words that it clears
room : (words n : ℕ) → record_words (n + 1) ≤ words → record_words (n + 1) ≤ length {A = ℕ} (replicate words 0)
room words n h = omega (arith, length-replicate {A = ℕ} words 0)

pub overflow_cast-entries : goal.overflow_cast-entries
overflow_cast-entries g c =
    let a = c.args in
    omega (arith, few-entries a.text.now a.table.now a.count c.requires.table_value _ (room _ _ c.requires.table_bound) _ _ c.pair_list.ensures _ _ (c.in-Ok-Read.is ∙ ap Ok c.in-Ok-Read.field-0-is))

pub returns-in-Ok-Read : goal.returns-in-Ok-Read
returns-in-Ok-Read g c =
    let a = c.args in
    c.put_closers.ensures
    ∙ list-closed_words a.text.now a.table.now a.count c.requires.table_value _ (room _ _ c.requires.table_bound) _ _ c.pair_list.ensures _ _ (c.in-Ok-Read.is ∙ ap Ok c.in-Ok-Read.field-0-is) _ c.requires.table_in_bounds

pub returns-in-Ok-Plain : goal.returns-in-Ok-Plain
returns-in-Ok-Plain g c =
    let a = c.args in
    not_plain a.text.now a.table.now a.count c.requires.table_value _ (room _ _ c.requires.table_bound) _ _ c.pair_list.ensures _ (c.in-Ok-Plain.is ∙ ap Ok c.in-Ok-Plain.field-0-is)

pub returns-in-Err : goal.returns-in-Err
returns-in-Err g c =
    let a = c.args in
    not_refused a.text.now a.table.now a.count c.requires.table_value _ (room _ _ c.requires.table_bound) _ _ c.pair_list.ensures _ c.in-Err.is
