use Rattle.std.proofs.Common.{◌∙◌, ◌≤◌, List, sym, ap, subst}
use Rattle.ktm_world.specs.Durable.{Recorded, recorded_at}
use Rattle.txf_laws.proofs.offered.Tables.{recorded_at-found}
use Rattle.txf_tree.specs.TreeState.{tree_of}
use Rattle.ktm_waiting.specs.declared.amounts.Amounts.{Amounts}
use Rattle.ktm_waiting.specs.Table.{decided_in}
use Rattle.ktm_waiting.specs.Totals.{AreKeptOver, TakeTogether, TransactionsState, enlisted_at, enlistments_alone}
use Rattle.ktm_waiting.specs.Waiting.{minus, plus}
use Rattle.ktm_waiting.proofs.Together.{at-decided, at-decided-few, at-fits}
use Rattle.ktm_waiting.proofs.transactions.Transactions.decide.Goals as goal

pub amounts_at-before-requires : goal.amounts_at-before-requires
amounts_at-before-requires c = subst (λ (s : TransactionsState). AreKeptOver (tree_of c.args.files.now.tree) s.transactions) (sym c.self.view_is) c.requires

pub decide-changes-requires : goal.decide-changes-requires
decide-changes-requires c t found =
    let kept = subst (λ (s : TransactionsState). AreKeptOver (tree_of c.args.files.now.tree) s.transactions) (sym c.self.view_is) c.requires in
    (kept t (recorded_at-found c.self.inside.table.transactions c.args.id t found).0).parts

pub but_for-taken-requires-clause-within : goal.but_for-taken-requires-clause-within
but_for-taken-requires-clause-within c =
    let kept = subst (λ (s : TransactionsState). AreKeptOver (tree_of c.args.files.now.tree) s.transactions) (sym c.self.view_is) c.requires in
    at-fits c.self.inside.taken c.amounts_at-before.result c.self.inside.table.transactions c.args.id c.amounts_at-before.ensures.rise c.self.invariant (tree_of c.args.files.now.tree) kept c.amounts_at-before.ensures.is

pub but_for-taken-requires-clause-few : goal.but_for-taken-requires-clause-few
but_for-taken-requires-clause-few c =
    let ts = c.self.inside.table.transactions in
    let kept = subst (λ (s : TransactionsState). AreKeptOver (tree_of c.args.files.now.tree) s.transactions) (sym c.self.view_is) c.requires in
    let before = c.amounts_at-before.result in
    subst (λ n. n ≤ before.enlistments) (sym (c.enlistments_at.ensures ∙ ap (λ (us : List Recorded). enlisted_at (recorded_at us c.args.id)) c.decide-changes.ensures.rest))
    (at-decided-few c.self.inside.taken before ts c.args.id c.amounts_at-before.ensures.rise c.self.invariant (tree_of c.args.files.now.tree) kept c.amounts_at-before.ensures.is)

pub invariant_of-self : goal.invariant_of-self
invariant_of-self c =
    let ts = c.self.inside.table.transactions in
    let kept = subst (λ (s : TransactionsState). AreKeptOver (tree_of c.args.files.now.tree) s.transactions) (sym c.self.view_is) c.requires in
    let before = c.amounts_at-before.result in
    let left = c.enlistments_at.ensures ∙ ap (λ (us : List Recorded). enlisted_at (recorded_at us c.args.id)) c.decide-changes.ensures.rest in
    subst (TakeTogether c.but_for-taken.result) (sym c.decide-changes.ensures.rest)
    (subst (λ (a : Amounts). TakeTogether a (decided_in ts (recorded_at ts c.args.id))) (sym (c.but_for-taken.ensures ∙ ap (λ n. plus (enlistments_alone n) (minus c.self.inside.taken before)) left))
    (at-decided c.self.inside.taken before ts c.args.id c.amounts_at-before.ensures.rise c.self.invariant (tree_of c.args.files.now.tree) kept c.amounts_at-before.ensures.is))
