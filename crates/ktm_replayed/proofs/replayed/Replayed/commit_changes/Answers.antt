use Rattle.std.proofs.Common.{◌∙◌, Some, ap, sym}
use Rattle.ktm_world.specs.Durable.{Durable, recorded_at}
use Rattle.ktm_waiting.proofs.offered.Beside.{tested-apply}
use Rattle.ktm_waiting.proofs.offered.Keeping.{spared-new}
use Rattle.ktm_replayed.proofs.Made.{recorded-can}
use Rattle.ktm_replayed.proofs.replayed.Replayed.commit_changes.Goals as goal

pub make_all-requires-clause-units : goal.make_all-requires-clause-units
make_all-requires-clause-units c =
    let is = rw c.deref.ensures.value at c.in_ok-are_recorded.ensures.recorded in
    recorded-can c.are_recorded.new.self.state.tree c.args.changes.items (sym is ∙ c.if-not-branch.false)

pub make_all-requires-clause-spared : goal.make_all-requires-clause-spared
make_all-requires-clause-spared c all new =
    let s : Durable = c.are_recorded.new.self.state in
    let id = c.args.transaction in
    let none = ap (λ (d : Durable). recorded_at d.transactions id) c.in_ok-are_recorded.ensures.state ∙ c.requires in
    spared-new s id c.args.changes.items c.law_of_kept.ensures.kept none
    (tested-apply s (Some id) c.args.changes.items c.in_ok-are_free.field-0 c.if-not-branch-2.false (rw c.deref-2.ensures.value at c.in_ok-are_free.ensures) all new)
