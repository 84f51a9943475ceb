use Rattle.std.proofs.Common.{sym, ◌∙◌}
use Rattle.ktm_memory.specs.Memory.{present_of}
use Rattle.ktm_route.proofs.ManagerRoutes.{manager_by, takes}
use Rattle.ktm_route.proofs.manager_routes.to_take.Goals as goal

pub returns-in-Some : goal.returns-in-Some
returns-in-Some c =
    let x = present_of c.args.memory.now in
    let named = manager_by x c.args.process c.args.label c.in-Some.id (sym c.manager_named.ensures ∙ c.in-Some.is) in
    takes x c.args.process c.requires c.args.label named.0 c.in-Some.id named.1 named.3
