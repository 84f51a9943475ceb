use Rattle.std.proofs.Common.{is_some, ap, sym, ◌∙◌}
use Rattle.ktm_memory.specs.Memory.{present_of}
use Rattle.ktm_world.specs.Enlistments.{Manager}
use Rattle.ktm_world.specs.TransactionCalls.{manager_with}
use Rattle.ktm_route.proofs.ManagerRoutes.{none_mapped, open_manager_bound, open_manager_unknown, opens_manager, some_mapped}
use Rattle.ktm_route.proofs.manager_routes.to_open_manager.Goals as goal

pub returns-then-is_some : goal.returns-then-is_some
returns-then-is_some c = open_manager_bound (present_of c.args.memory.now) c.args.process c.requires.up c.args.label c.args.guid.now (ap is_some (sym c.object_at.ensures) ∙ sym c.is_some.ensures ∙ c.if-is_some.true)

pub returns-in-Some : goal.returns-in-Some
returns-in-Some c =
    let x = present_of c.args.memory.now in
    let free = (ap is_some (sym c.object_at.ensures) ∙ sym c.is_some.ensures ∙ c.if-is_some.false) in
    let found = some_mapped (λ (m : Manager). m.id) (manager_with x c.args.guid.now) c.in-Some.id (sym c.manager_with_guid.ensures ∙ c.in-Some.is) in
    opens_manager x c.args.process c.requires.up c.args.label c.args.guid.now found.0 c.in-Some.id free found.1 found.2

pub returns-in-None : goal.returns-in-None
returns-in-None c =
    let x = present_of c.args.memory.now in
    open_manager_unknown x c.args.process c.requires.up c.args.label c.args.guid.now (ap is_some (sym c.object_at.ensures) ∙ sym c.is_some.ensures ∙ c.if-is_some.false)
    (none_mapped (λ (m : Manager). m.id) (manager_with x c.args.guid.now) (sym c.manager_with_guid.ensures ∙ c.in-None.is))
