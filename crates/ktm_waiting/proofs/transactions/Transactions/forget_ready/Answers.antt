use Rattle.std.proofs.Common.{List, filter, not, sym, subst}
use Rattle.ktm_world.specs.Durable.{Recorded, is_ready}
use Rattle.txf_tree.specs.TreeState.{tree_of}
use Rattle.ktm_waiting.specs.Totals.{AreKeptOver, TakeTogether, TransactionsState}
use Rattle.ktm_waiting.proofs.transactions.Transactions.forget_ready.Goals as goal

pub without_ready-taken-requires-clause-kept : goal.without_ready-taken-requires-clause-kept
without_ready-taken-requires-clause-kept c = subst (AreKeptOver (tree_of c.args.files.now.tree)) (sym c.as_slice.ensures) (subst (λ (s : TransactionsState). AreKeptOver (tree_of c.args.files.now.tree) s.transactions) (sym c.self.view_is) c.requires)

pub without_ready-taken-requires-clause-taken : goal.without_ready-taken-requires-clause-taken
without_ready-taken-requires-clause-taken c = subst (TakeTogether c.self.inside.taken) (sym c.as_slice.ensures) c.self.invariant

pub invariant_of-self : goal.invariant_of-self
invariant_of-self c =
    subst (TakeTogether c.without_ready-taken.result) (sym c.forget_ready.ensures) (subst (λ (ts : List Recorded). TakeTogether c.without_ready-taken.result (filter (λ t. not (is_ready t.stage)) ts)) c.as_slice.ensures c.without_ready-taken.ensures)
