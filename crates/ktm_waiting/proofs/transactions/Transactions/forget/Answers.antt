use Rattle.std.proofs.Common.{sym, subst}
use Rattle.ktm_world.specs.Durable.{without_recorded}
use Rattle.txf_tree.specs.TreeState.{tree_of}
use Rattle.ktm_waiting.specs.declared.amounts.Amounts.{Amounts}
use Rattle.ktm_waiting.specs.Totals.{AreKeptOver, TakeTogether, TransactionsState}
use Rattle.ktm_waiting.proofs.Together.{at-fits, at-forgotten}
use Rattle.ktm_waiting.proofs.transactions.Transactions.forget.Goals as goal

pub amounts_at-requires : goal.amounts_at-requires
amounts_at-requires c = subst (λ (s : TransactionsState). AreKeptOver (tree_of c.args.files.now.tree) s.transactions) (sym c.self.view_is) c.requires

pub minus-taken-requires : goal.minus-taken-requires
minus-taken-requires c =
    let kept = subst (λ (s : TransactionsState). AreKeptOver (tree_of c.args.files.now.tree) s.transactions) (sym c.self.view_is) c.requires in
    at-fits c.self.inside.taken c.amounts_at.result c.self.inside.table.transactions c.args.id c.amounts_at.ensures.rise c.self.invariant (tree_of c.args.files.now.tree) kept c.amounts_at.ensures.is

pub invariant_of-self : goal.invariant_of-self
invariant_of-self c =
    let ts = c.self.inside.table.transactions in
    let kept = subst (λ (s : TransactionsState). AreKeptOver (tree_of c.args.files.now.tree) s.transactions) (sym c.self.view_is) c.requires in
    subst (TakeTogether c.minus-taken.result) (sym c.forget.ensures)
    (subst (λ (a : Amounts). TakeTogether a (without_recorded ts c.args.id)) (sym c.minus-taken.ensures) (at-forgotten c.self.inside.taken c.amounts_at.result ts c.args.id c.amounts_at.ensures.rise c.self.invariant (tree_of c.args.files.now.tree) kept c.amounts_at.ensures.is))
