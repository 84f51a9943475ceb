use Rattle.std.proofs.Common.{Some, is_some, ap, sym, ◌∙◌}
use Rattle.ktm_world.specs.Enlistments.{Enlistment, Manager}
use Rattle.ktm_world.specs.Labels.{manager_named}
use Rattle.ktm_world.specs.TransactionCalls.{enlistment_with}
use Rattle.ktm_memory.specs.Memory.{present_of}
use Rattle.ktm_route.proofs.EnlistmentRoutes.{open_enlistment_bound, open_enlistment_unknown, open_enlistment_unnamed, opens_enlistment}
use Rattle.ktm_route.proofs.ManagerRoutes.{manager_by, none_mapped, some_mapped}
use Rattle.ktm_route.proofs.enlistment_routes.to_open_enlistment.Goals as goal

pub returns-in_default : goal.returns-in_default
returns-in_default c =
    let x = present_of c.args.memory.now in
    open_enlistment_unnamed x c.args.process c.requires.up c.args.label c.args.manager c.args.guid.now
    (none_mapped (λ (m : Manager). m.id) (manager_named x c.args.process c.args.manager) (sym c.manager_named.ensures ∙ c.in_default.is))

pub returns-then-is_some : goal.returns-then-is_some
returns-then-is_some c =
    let x = present_of c.args.memory.now in
    let named = manager_by x c.args.process c.args.manager c.in-Some.manager (sym c.manager_named.ensures ∙ c.in-Some.is) in
    open_enlistment_bound x c.args.process c.requires.up c.args.label c.args.manager c.args.guid.now named.0 named.1 (ap is_some (sym c.object_at.ensures) ∙ sym c.is_some.ensures ∙ c.if-is_some.true)

pub returns-in-Some-enlistment_with_guid : goal.returns-in-Some-enlistment_with_guid
returns-in-Some-enlistment_with_guid c =
    let x = present_of c.args.memory.now in
    let named = manager_by x c.args.process c.args.manager c.in-Some.manager (sym c.manager_named.ensures ∙ c.in-Some.is) in
    let found = some_mapped (λ (e : Enlistment). e.id) (enlistment_with x (Some named.0) c.args.guid.now) c.in-Some-enlistment_with_guid.id
    (sym (c.enlistment_with_guid.ensures named.0 named.2) ∙ c.in-Some-enlistment_with_guid.is) in
    opens_enlistment x c.args.process c.requires.up c.args.label c.args.manager c.args.guid.now named.0 named.1 (ap is_some (sym c.object_at.ensures) ∙ sym c.is_some.ensures ∙ c.if-is_some.false)
    found.0 c.in-Some-enlistment_with_guid.id found.1 found.2

pub returns-in-None : goal.returns-in-None
returns-in-None c =
    let x = present_of c.args.memory.now in
    let named = manager_by x c.args.process c.args.manager c.in-Some.manager (sym c.manager_named.ensures ∙ c.in-Some.is) in
    open_enlistment_unknown x c.args.process c.requires.up c.args.label c.args.manager c.args.guid.now named.0 named.1 (ap is_some (sym c.object_at.ensures) ∙ sym c.is_some.ensures ∙ c.if-is_some.false)
    (none_mapped (λ (e : Enlistment). e.id) (enlistment_with x (Some named.0) c.args.guid.now) (sym (c.enlistment_with_guid.ensures named.0 named.2) ∙ c.in-None.is))
