use Rattle.std.proofs.Common.{ℕ, List, ◌++◌, ◌∙◌, ap, subst, sym}
use Rattle.ktm_memory.specs.Memory.{present_of}
use Rattle.ktm_snapshot.specs.StateGrammar.{IsStateOf}
use Rattle.ktm_saving.proofs.Spelled.{state-spelled}
use Rattle.ktm_saving.proofs.state.write_state.Goals as goal

pub write_nodes-requires-clause-spelled : goal.write_nodes-requires-clause-spelled
write_nodes-requires-clause-spelled c =
    rw (c.tree.ensures, c.files.ensures) (state-spelled c.args.memory.now c.requires.kept c.requires.texts c.requires.small (c.law_of_snapshots.ensures _ c.requires.kept.good)).nodes

pub write_entries-requires-clause-spelled : goal.write_entries-requires-clause-spelled
write_entries-requires-clause-spelled c =
    rw (c.store.ensures, c.keys.ensures) (state-spelled c.args.memory.now c.requires.kept c.requires.texts c.requires.small (c.law_of_snapshots.ensures _ c.requires.kept.good)).entries

pub write_managers-requires-clause-spelled : goal.write_managers-requires-clause-spelled
write_managers-requires-clause-spelled c =
    rw c.tm-2.ensures (state-spelled c.args.memory.now c.requires.kept c.requires.texts c.requires.small (c.law_of_snapshots.ensures _ c.requires.kept.good)).managers

pub write_transactions-requires-clause-spelled : goal.write_transactions-requires-clause-spelled
write_transactions-requires-clause-spelled c =
    (state-spelled c.args.memory.now c.requires.kept c.requires.texts c.requires.small (c.law_of_snapshots.ensures _ c.requires.kept.good)).transactions

pub returns-clause-state : goal.returns-clause-state
returns-clause-state c =
    let s = (present_of c.args.memory.now).recorded in
    let head = rw (c.events.ensures, c.journal.ensures, c.boot.ensures, c.tm.ensures, c.next_node.ensures) at c.put_head.ensures.adds in
    let nodes = rw (c.tree.ensures, c.files.ensures) at c.write_nodes.ensures.adds in
    let entries = rw (c.store.ensures, c.keys.ensures) at c.write_entries.ensures.adds in
    let managers = rw c.tm-2.ensures at c.write_managers.ensures.adds in
    let all = c.law_of_writing.ensures.state s _ _ _ _ _ _ head nodes entries managers c.write_transactions.ensures.adds in
    subst (IsStateOf s) (sym (all.is ∙ ap (λ (bytes : List ℕ). bytes ++ all.more) c.clear.ensures.items)) all.form
