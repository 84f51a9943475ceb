use Rattle.std.proofs.Common.{◌≡◌, ◌∙◌, [], true, sym, ap, subst}
use Rattle.ktm_world.specs.Changes.{has_changes}
use Rattle.ktm_world.specs.Durable.{changes_in, changes_of, is_decided, recorded_or_new, with_recorded}
use Rattle.ktm_waiting.specs.declared.amounts.Amounts.{Amounts}
use Rattle.ktm_waiting.specs.Table.{with_one_part}
use Rattle.ktm_waiting.specs.Totals.{PassImages, TakeTogether, TransactionsState}
use Rattle.ktm_waiting.specs.Waiting.{plus}
use Rattle.ktm_waiting.proofs.Together.{part-together, too-many}
use Rattle.ktm_waiting.proofs.transactions.Transactions.add_part.Goals as goal

pub returns-in_default-clause-refused : goal.returns-in_default-clause-refused
returns-in_default-clause-refused c _ =
    let ts = c.self.inside.table.transactions in
    let a = c.self.inside.taken in
    let p = c.amounts_in.result in
    let known = recorded_or_new ts c.args.id in
    let waits = ap (λ (s : TransactionsState). is_decided (recorded_or_new s.transactions c.args.id).stage) c.self.view_is ∙ c.requires.waits in
    let first = subst (λ (s : TransactionsState). has_changes (changes_in c.args.part) ≡ true → changes_of (recorded_or_new s.transactions c.args.id) ≡ []) (sym c.self.view_is) c.requires.first in
    subst (λ (s : TransactionsState). PassImages (with_recorded s.transactions (with_one_part (recorded_or_new s.transactions c.args.id) c.args.part))) c.self.view_is
    (too-many (plus a p) (with_recorded ts (with_one_part known c.args.part)) (part-together a p ts c.args.id c.args.part c.law_of_order.ensures c.self.invariant waits first c.amounts_in.ensures) c.in_default.ensures.none)

pub invariant_of-self : goal.invariant_of-self
invariant_of-self c =
    let ts = c.self.inside.table.transactions in
    let a = c.self.inside.taken in
    let p = c.amounts_in.result in
    let known = recorded_or_new ts c.args.id in
    let waits = ap (λ (s : TransactionsState). is_decided (recorded_or_new s.transactions c.args.id).stage) c.self.view_is ∙ c.requires.waits in
    let first = subst (λ (s : TransactionsState). has_changes (changes_in c.args.part) ≡ true → changes_of (recorded_or_new s.transactions c.args.id) ≡ []) (sym c.self.view_is) c.requires.first in
    subst (TakeTogether c.in-Some.taken) (sym c.in-Ok.ensures.ok)
    (subst (λ (x : Amounts). TakeTogether x (with_recorded ts (with_one_part known c.args.part))) (sym c.in-Some.ensures.some)
    (part-together a p ts c.args.id c.args.part c.law_of_order.ensures c.self.invariant waits first c.amounts_in.ensures))

pub invariant_of-self-in-Err : goal.invariant_of-self-in-Err
invariant_of-self-in-Err c = subst (TakeTogether c.enlistments_alone-self-inside.result) (sym c.clear.ensures) c.enlistments_alone-self-inside.ensures
