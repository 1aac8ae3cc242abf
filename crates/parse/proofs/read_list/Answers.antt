-- `read_list`: the bracket pass, and the second part from what it leaves.
use mathlib.Core.Path.{ap, ◌∙◌}
use Prim.Native.Nat.{ℕ}
use lib.ListN.{replicate}
use Rattle.std.specs.Prelude.{Ok}
use Rattle.parse.proofs.Calls.{not_refused, few-here, plain-number, plain_ready, plain-reads, read_number, read-ready, read-reads, reads-list}
use Rattle.parse.proofs.read_list.Goals as goal

pub build_tree-r-requires : goal.build_tree-r-requires
build_tree-r-requires c = read-ready c.args.text.now c.args.table.now c.args.count c.args.work.now c.args.tree.now c.requires.table_value c.requires.tree_value _ _ c.pair_list.ensures _ _ (c.in_ok-entries.was ∙ ap Ok c.in-Read.is)

pub build_tree-r-requires-in-Plain : goal.build_tree-r-requires-in-Plain
build_tree-r-requires-in-Plain c = plain_ready c.args.text.now c.args.table.now c.args.count c.args.work.now c.args.tree.now c.requires.table_value c.requires.tree_value _ _ c.pair_list.ensures _ (c.in_ok-entries.was ∙ ap Ok c.in-Plain.is)

pub returns-in-Read : goal.returns-in-Read
returns-in-Read c = let p = c.pair_list.ensures in
    rw c.answer.ensures
    (reads-list c.args.text.now c.args.table.now c.args.count c.args.work.now c.args.tree.now c.requires.table_value c.requires.tree_value _ _ _
    (few-here c.args.text.now c.args.table.now c.args.count c.args.work.now c.args.tree.now c.requires.table_value c.requires.tree_value _ _ p)
    _
    (read_number c.args.text.now c.args.table.now c.args.count c.args.work.now c.args.tree.now c.requires.table_value c.requires.tree_value _ _ p _ _ (c.in_ok-entries.was ∙ ap Ok c.in-Read.is))
    (read-reads c.args.text.now c.args.table.now c.args.count c.args.work.now c.args.tree.now c.requires.table_value c.requires.tree_value _ _ p _ _ (c.in_ok-entries.was ∙ ap Ok c.in-Read.is) c.build_tree-r.ensures.reads)
    (c.build_tree-r.ensures.work_after ∙ ap (λ (n : ℕ). replicate n 0) c.pair_list.auto.work))

pub returns-in-Plain : goal.returns-in-Plain
returns-in-Plain c = let p = c.pair_list.ensures in
    rw c.answer-in-Plain.ensures
    (reads-list c.args.text.now c.args.table.now c.args.count c.args.work.now c.args.tree.now c.requires.table_value c.requires.tree_value _ _ _
    (few-here c.args.text.now c.args.table.now c.args.count c.args.work.now c.args.tree.now c.requires.table_value c.requires.tree_value _ _ p)
    _
    (plain-number c.args.text.now c.args.table.now c.args.count c.args.work.now c.args.tree.now c.requires.table_value c.requires.tree_value _ _ p _ (c.in_ok-entries.was ∙ ap Ok c.in-Plain.is))
    (plain-reads c.args.text.now c.args.table.now c.args.count c.args.work.now c.args.tree.now c.requires.table_value c.requires.tree_value _ _ p _ (c.in_ok-entries.was ∙ ap Ok c.in-Plain.is) c.build_tree-r-in-Plain.ensures.reads)
    (c.build_tree-r-in-Plain.ensures.work_after ∙ ap (λ (n : ℕ). replicate n 0) c.pair_list.auto.work))

pub returns-in_err-entries : goal.returns-in_err-entries
returns-in_err-entries c = not_refused c.args.text.now c.args.table.now c.args.count c.args.work.now c.args.tree.now c.requires.table_value c.requires.tree_value _ _ c.pair_list.ensures _ c.in_err-entries.was
