use Rattle.std.proofs.Common.{◌∙◌, sym, ap, subst}
use Rattle.ktm_world.specs.Durable.{is_decided, recorded_or_new, with_recorded}
use Rattle.ktm_waiting.specs.declared.amounts.Amounts.{Amounts}
use Rattle.ktm_waiting.specs.Table.{held_for}
use Rattle.ktm_waiting.specs.Totals.{PassImages, TakeTogether, TransactionsState, enlistments_alone}
use Rattle.ktm_waiting.specs.Waiting.{plus}
use Rattle.ktm_waiting.proofs.Together.{superior-together, too-many}
use Rattle.ktm_waiting.proofs.transactions.Transactions.hold.Goals as goal

pub returns-in_default-clause-refused : goal.returns-in_default-clause-refused
returns-in_default-clause-refused c _ =
    let ts = c.self.inside.table.transactions in
    let a = c.self.inside.taken in
    let known = recorded_or_new ts c.args.id in
    let waits = ap (λ (s : TransactionsState). is_decided (recorded_or_new s.transactions c.args.id).stage) c.self.view_is ∙ c.requires in
    let added = c.enlistments_alone.ensures ∙ ap enlistments_alone c.added_at.ensures.added in
    let all = subst (λ (p : Amounts). TakeTogether (plus a p) (with_recorded ts (held_for known c.args.superior))) (sym added) (superior-together a ts c.args.id c.args.superior c.added_at.ensures.rise c.self.invariant waits) in
    subst (λ (s : TransactionsState). PassImages (with_recorded s.transactions (held_for (recorded_or_new s.transactions c.args.id) c.args.superior))) c.self.view_is
    (too-many (plus a c.enlistments_alone.result) (with_recorded ts (held_for known c.args.superior)) all c.in_default.ensures.none)

pub invariant_of-self : goal.invariant_of-self
invariant_of-self c =
    let ts = c.self.inside.table.transactions in
    let a = c.self.inside.taken in
    let known = recorded_or_new ts c.args.id in
    let waits = ap (λ (s : TransactionsState). is_decided (recorded_or_new s.transactions c.args.id).stage) c.self.view_is ∙ c.requires in
    let added = c.enlistments_alone.ensures ∙ ap enlistments_alone c.added_at.ensures.added in
    let all = subst (λ (p : Amounts). TakeTogether (plus a p) (with_recorded ts (held_for known c.args.superior))) (sym added) (superior-together a ts c.args.id c.args.superior c.added_at.ensures.rise c.self.invariant waits) in
    subst (TakeTogether c.in-Some.taken) (sym c.in-Ok.ensures.ok) (subst (λ (x : Amounts). TakeTogether x (with_recorded ts (held_for known c.args.superior))) (sym c.in-Some.ensures.some) all)

pub invariant_of-self-in-Err : goal.invariant_of-self-in-Err
invariant_of-self-in-Err c = subst (TakeTogether c.enlistments_alone-self-inside.result) (sym c.clear.ensures) c.enlistments_alone-self-inside.ensures
