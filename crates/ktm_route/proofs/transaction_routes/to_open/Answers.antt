use Rattle.std.proofs.Common.{is_some, ap, refl, sym, ◌∙◌}
use Rattle.ktm_memory.specs.Memory.{present_of}
use Rattle.ktm_route.proofs.Routes.{open_bound, open_routed, open_unknown, unbound_names}
use Rattle.ktm_route.proofs.Takes.{open_takes}
use Rattle.ktm_route.proofs.transaction_routes.to_open.Goals as goal

pub returns-then-is_some : goal.returns-then-is_some
returns-then-is_some c = open_bound (present_of c.args.memory.now) c.args.process c.requires.up c.args.label c.args.guid.now (ap is_some (sym c.object_at.ensures) ∙ sym c.is_some.ensures ∙ c.if-is_some.true)

pub returns-in-Some : goal.returns-in-Some
returns-in-Some c =
    let free = (ap is_some (sym c.object_at.ensures) ∙ sym c.is_some.ensures ∙ c.if-is_some.false) in
    let x = present_of c.args.memory.now in
    let found = sym c.with_guid.ensures ∙ c.in-Some.is in (
      open_routed x c.args.process c.requires.up c.args.label c.args.guid.now c.in-Some.t free found,
      unbound_names _ free,
      open_takes x c.args.process c.requires.up c.args.label c.args.guid.now c.in-Some.t free found,
      refl,
    )

pub returns-in-None : goal.returns-in-None
returns-in-None c = open_unknown (present_of c.args.memory.now) c.args.process c.requires.up c.args.label c.args.guid.now (ap is_some (sym c.object_at.ensures) ∙ sym c.is_some.ensures ∙ c.if-is_some.false) (sym c.with_guid.ensures ∙ c.in-None.is)
