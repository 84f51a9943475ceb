use Rattle.std.proofs.Common.{is_some, ap, refl, sym, ◌∙◌}
use Rattle.ktm_memory.specs.Memory.{present_of}
use Rattle.ktm_route.proofs.Routes.{create_bound, create_routed, unbound_names}
use Rattle.ktm_route.proofs.Takes.{create_takes}
use Rattle.ktm_route.proofs.transaction_routes.to_create.Goals as goal

pub returns-then-is_some : goal.returns-then-is_some
returns-then-is_some c = create_bound (present_of c.args.memory.now) c.args.process c.requires c.args.label c.args.timeout (ap is_some (sym c.object_at.ensures) ∙ sym c.is_some.ensures ∙ c.if-is_some.true)

pub returns : goal.returns
returns c =
    let free = (ap is_some (sym c.object_at.ensures) ∙ sym c.is_some.ensures ∙ c.if-is_some.false) in
    (create_routed (present_of c.args.memory.now) c.args.process c.requires c.args.label c.args.timeout free, unbound_names _ free, create_takes (present_of c.args.memory.now) c.args.process c.requires c.args.label c.args.timeout free, refl)
